-- Each way through the answer's definition. Assumes nothing.
use mathlib.Core.Path.{◌≡◌, refl, sym, ap, ◌∙◌}
use mathlib.Core.Bool.{Bool, true, false, cond}
use mathlib.Core.List.{List, [], ◌∷◌}
use Prim.Native.Nat.{ℕ, ◌+◌, ◌≤◌, ◌<◌}
use native.Mathlib.Omega.{arith}
use lib.Dec.{eqb}
use lib.ListN.{length}
use borrow.Author.Tests.{lt-ltb, le-ltb, eq-eqb, ne_eqb}
use Rattle.octets.specs.Write.{laid}
use Rattle.dname.specs.Name.{shape_of}
use Rattle.dname.specs.declared.Shape.{Shape}
use Rattle.dname.specs.declared.Shape.TheVariants.{Empty, Full, Partial, Malformed}
use Rattle.fqdn.specs.Flags.{flag_answer}
use Rattle.fqdn.specs.Answer.{Answer, by_name, by_suffix, sent_flags, by_flags, by_value, answer_of, octets_of, result_of, Answered}
use Rattle.std.specs.Prelude.{Ok, Err}
use Rattle.fqdn.specs.declared.refusal.Refusal.{Refusal}
use Rattle.fqdn.specs.declared.refusal.Refusal.TheVariants.{BadFlags, BadName, LongName, NoRoom}
use Rattle.fqdn.specs.declared.answer.NameAnswer.TheVariants.{Completed}
use Rattle.fqdn.specs.declared.answer.NameOptionAnswer.{NameOptionAnswer}
use Rattle.fqdn.specs.declared.flags.FlagAnswer.{FlagAnswer}

module _ (value suffix : List ℕ) (s n : ℕ) where
  pub room_short : (room : ℕ) → room < 256 → answer_of value suffix s n room ≡ Err NoRoom
  unfolding answer_of
  room_short room h = rw (answer_of, lt-ltb room 256 h)

  pub room_enough : (room : ℕ) → 256 ≤ room → answer_of value suffix s n room ≡ by_value value suffix s n
  unfolding answer_of
  room_enough room h = rw (answer_of, le-ltb room 256 h)

pub value_none : (value suffix : List ℕ) (s n : ℕ) → length value ≡ 0 → by_value value suffix s n ≡ Err BadFlags
unfolding by_value
value_none [] suffix s n h = refl
value_none (f ∷ name) suffix s n h = absurd (omega arith)

-- past the tests of the buffer and of the value
pub decided : (value suffix : List ℕ) (s n room flags : ℕ) (name : List ℕ) → 256 ≤ room → value ≡ flags ∷ name → answer_of value suffix s n room ≡ by_flags (flag_answer flags s n) name suffix
unfolding by_value
decided value suffix s n room flags name r e = room_enough value suffix s n room r ∙ ap (λ (v : List ℕ). by_value v suffix s n) e

-- ---- the flags to send

pub sends_flags : (decision : FlagAnswer) → decision.refusal ≡ 0 → sent_flags decision ≡ Ok decision.flags
unfolding sent_flags
sends_flags decision h = rw (sent_flags, eq-eqb _ _ h)

pub sends_none : (decision : FlagAnswer) → ¬ (decision.refusal ≡ 0) → sent_flags decision ≡ Err BadFlags
unfolding sent_flags
sends_none decision h = rw (sent_flags, ne_eqb _ _ h)

-- the two ways through the flag decision: it is refused, or its flags go on to the suffix
module _ (decision : FlagAnswer) (name suffix : List ℕ) where
  pub flags_refused : ¬ (decision.refusal ≡ 0) → by_flags decision name suffix ≡ Err BadFlags
  unfolding by_flags
  flags_refused h = rw (by_flags, ne_eqb _ _ h)

  pub flags_sent : decision.refusal ≡ 0 → by_flags decision name suffix ≡ by_suffix (shape_of suffix) decision.flags name suffix
  unfolding by_flags
  flags_sent h = rw (by_flags, eq-eqb _ _ h)

-- by what the flags come to
pub by_sent : (decision : FlagAnswer) (name suffix : List ℕ) (flags : ℕ) → Ok flags ≡ sent_flags decision → by_flags decision name suffix ≡ by_suffix (shape_of suffix) flags name suffix
unfolding sent_flags by_flags
by_sent decision name suffix flags e = go (eqb decision.refusal 0) e
  where
    go : (b : Bool) → Ok flags ≡ cond b (Ok decision.flags) (Err BadFlags) → cond b (by_suffix (shape_of suffix) decision.flags name suffix) (Err BadFlags) ≡ by_suffix (shape_of suffix) flags name suffix
    go true q = let z : flags ≡ decision.flags = cc in ap (λ (f : ℕ). by_suffix (shape_of suffix) f name suffix) (sym z)
    go false q = let z : ◌≡◌ {A = ℕ} 0 1 = cc in absurd (omega arith)

pub by_none : (decision : FlagAnswer) (name suffix : List ℕ) (why : Refusal) → Err why ≡ sent_flags decision → by_flags decision name suffix ≡ Err why
unfolding sent_flags by_flags
by_none decision name suffix why e = go (eqb decision.refusal 0) e
  where
    go : (b : Bool) → Err why ≡ cond b (Ok decision.flags) (Err BadFlags) → cond b (by_suffix (shape_of suffix) decision.flags name suffix) (Err BadFlags) ≡ Err why
    go true q = let z : ◌≡◌ {A = ℕ} 0 1 = cc in absurd (omega arith)
    go false q = let z : why ≡ BadFlags = cc in ap Err (sym z)

module _ (flags : ℕ) (name suffix : List ℕ) where
  -- a suffix of any shape but full
  pub suffix_refused : (t : Shape) → ¬ (t ≡ Full) → by_suffix t flags name suffix ≡ Err BadName
  unfolding by_suffix
  suffix_refused Empty k = refl
  suffix_refused Full k = absurd (k refl)
  suffix_refused Partial k = refl
  suffix_refused Malformed k = refl

  pub name_over : 255 < length name + length suffix → by_name Partial flags name suffix ≡ Err LongName
  unfolding by_name
  name_over h = rw (by_name, lt-ltb 255 (length name + length suffix) h)

  pub name_completed : length name + length suffix ≤ 255 → by_name Partial flags name suffix ≡ Ok (Completed flags)
  unfolding by_name
  name_completed h = rw (by_name, le-ltb 255 (length name + length suffix) h)

-- the promise, for an answer that is known
module _ (value suffix : List ℕ) (s n : ℕ) (before : List ℕ) (r : NameOptionAnswer) (after : List ℕ) where
  pub answered_by : (a : Answer) → answer_of value suffix s n (length before) ≡ a → r ≡ result_of a (octets_of a value suffix) → after ≡ laid (octets_of a value suffix) before → Answered value suffix s n before r after
  answered_by a e p q = record { result = rw e p; buffer = rw e q }
