-- What an answer comes to fits the reply buffer; every name that is answered is full. Assumes nothing.
use mathlib.Core.Path.{◌≡◌, refl, sym, subst}
use mathlib.Core.Bool.{Bool, true, false, cond}
use mathlib.Core.List.{List, [], ◌∷◌, ◌++◌, append-nil}
use Prim.Native.Nat.{ℕ, ◌+◌, ◌≤◌, ◌<◌}
use native.Mathlib.Omega.{arith}
use lib.Dec.{eqb, ltb}
use lib.ListN.{length, drop, length-append}
use borrow.Author.Tests.{ltb-false}
use Rattle.dname.specs.Name.{shape_of}
use Rattle.dname.specs.declared.Shape.{Shape}
use Rattle.dname.specs.declared.Shape.TheVariants.{Empty, Full, Partial, Malformed}
use Rattle.dname.proofs.GrammarLaws.{name_full}
use Rattle.dname.proofs.CompletionLaws.{completed_full}
use Rattle.fqdn.specs.Flags.{flag_answer}
use Rattle.fqdn.specs.Answer.{Answer, by_name, by_suffix, by_flags, by_value, answer_of, octets_of, Room}
use Rattle.std.specs.Prelude.{Ok, Err}
use Rattle.fqdn.specs.declared.refusal.Refusal.TheVariants.{BadFlags, LongName, NoRoom}
use Rattle.fqdn.specs.declared.answer.NameAnswer.TheVariants.{Whole, Completed}

-- a fact of both ways of a test holds of the test's outcome
on_cond : {A : Type 0} (P : A → Type 0) (b : Bool) (x y : A) → (b ≡ true → P x) → (b ≡ false → P y) → P (cond b x y)
on_cond P true x y f g = f refl
on_cond P false x y f g = g refl

-- The octets of an answer to a value and a suffix make a flags octet and a full name, and have their room.
pub record Good (value tail : List ℕ) : Type 0 where
  pub some : 0 < length value
  pub most : length value + length tail ≤ 256
  pub full : shape_of (drop 1 value ++ tail) ≡ Full

unfoldable pub Fits : List ℕ → List ℕ → Answer → Type 0
Fits value suffix (Err why) = Unit
Fits value suffix (Ok (Whole flags)) = Good value []
Fits value suffix (Ok (Completed flags)) = Good value suffix

module _ (f : ℕ) (name suffix : List ℕ) (flags : ℕ) where
  name_fits : (t : Shape) → shape_of name ≡ t → shape_of suffix ≡ Full → Fits (f ∷ name) suffix (by_name t flags name suffix)
  unfolding Fits by_name
  name_fits Empty e u = tt
  name_fits Malformed e u = tt
  name_fits Full e u = record { some = omega arith; most = omega (arith, (name_full name e).short); full = rw append-nil e }
  name_fits Partial e u =
      on_cond (Fits (f ∷ name) suffix) (ltb 255 (length name + length suffix)) (Err LongName) (Ok (Completed flags)) (λ _. tt)
      (λ no. let h : length name + length suffix ≤ 255 = ltb-false 255 (length name + length suffix) no in record { some = omega arith; most = omega arith; full = completed_full name suffix e u h })

  suffix_fits : (t : Shape) → shape_of suffix ≡ t → Fits (f ∷ name) suffix (by_suffix t flags name suffix)
  unfolding Fits by_suffix
  suffix_fits Empty e = tt
  suffix_fits Malformed e = tt
  suffix_fits Partial e = tt
  suffix_fits Full e = name_fits (shape_of name) refl e

value_fits : (value suffix : List ℕ) (s n : ℕ) → Fits value suffix (by_value value suffix s n)
unfolding Fits by_value by_flags
value_fits [] suffix s n = tt
value_fits (f ∷ name) suffix s n =
    let decision = flag_answer f s n in
    on_cond (Fits (f ∷ name) suffix) (eqb decision.refusal 0) (by_suffix (shape_of suffix) decision.flags name suffix) (Err BadFlags)
    (λ _. suffix_fits f name suffix decision.flags (shape_of suffix) refl) (λ _. tt)

answer_fits : (value suffix : List ℕ) (s n room : ℕ) → Fits value suffix (answer_of value suffix s n room)
unfolding Fits answer_of
answer_fits value suffix s n room = on_cond (Fits value suffix) (ltb room 256) (Err NoRoom) (by_value value suffix s n) (λ _. tt) (λ _. value_fits value suffix s n)

-- an answer is given only where the buffer has 256 octets
answer_room : (value suffix : List ℕ) (s n room : ℕ) (a : Answer) → answer_of value suffix s n room ≡ a → (a ≡ Err NoRoom → ⊥) → 256 ≤ room
unfolding answer_of
answer_room value suffix s n room a e m = go (ltb room 256) refl e
  where
    go : (b : Bool) → ltb room 256 ≡ b → cond b (Err NoRoom) (by_value value suffix s n) ≡ a → 256 ≤ room
    go true q f = absurd (m (sym f))
    go false q f = ltb-false room 256 q

module _ (value suffix : List ℕ) (s n room flags : ℕ) where
  pub whole_room : answer_of value suffix s n room ≡ Ok (Whole flags) → Room value [] room
  unfolding Fits
  whole_room e =
      let g : Good value [] = subst (Fits value suffix) e (answer_fits value suffix s n room) in
      record { some = g.some; most = g.most; fit = answer_room value suffix s n room (Ok (Whole flags)) e (λ q. let z : ◌≡◌ {A = ℕ} 0 1 = cc in omega arith) }

  pub completed_room : answer_of value suffix s n room ≡ Ok (Completed flags) → Room value suffix room
  unfolding Fits
  completed_room e =
      let g : Good value suffix = subst (Fits value suffix) e (answer_fits value suffix s n room) in
      record { some = g.some; most = g.most; fit = answer_room value suffix s n room (Ok (Completed flags)) e (λ q. let z : ◌≡◌ {A = ℕ} 0 1 = cc in omega arith) }

-- what is written has as many octets as the value and the tail
pub octets_length : (flags : ℕ) (value tail : List ℕ) → 0 < length value → length (flags ∷ (drop 1 value ++ tail)) ≡ length value + length tail
octets_length flags [] tail h = absurd (omega arith)
octets_length flags (x ∷ name) tail h = omega (arith, length-append name tail)

-- Every name that is answered is a full name.
pub answered_full : (value suffix : List ℕ) (s n room : ℕ) → let octets = octets_of (answer_of value suffix s n room) value suffix in 0 < length octets → shape_of (drop 1 octets) ≡ Full
unfolding octets_of Fits
answered_full value suffix s n room = go (answer_of value suffix s n room) (answer_fits value suffix s n room)
  where
    go : (a : Answer) → Fits value suffix a → 0 < length (octets_of a value suffix) → shape_of (drop 1 (octets_of a value suffix)) ≡ Full
    go (Err why) f h = absurd (omega arith)
    go (Ok (Whole flags)) f h = rw append-nil at f.full
    go (Ok (Completed flags)) f h = f.full
