-- The laws of one option and of the whole call. Assumes nothing.
use mathlib.Core.Path.{◌≡◌, refl, ap, ◌∙◌}
use mathlib.Core.Bool.{Bool, true, false}
use mathlib.Core.List.{List, [], foldl}
use Prim.Native.Nat.{ℕ, ◌≤◌, ◌<◌}
use lib.Dec.{leb}
use Rattle.octets.proofs.BoolLaws.{and_right}
use lib.ListN.{length}
use native.Mathlib.Omega.{arith}
use borrow.Author.Tests.{le-leb, lt-leb, eq-eqb, ne_eqb}
use Rattle.clock.specs.declared.Moment.{Moment}
use Rattle.clock.specs.declared.Span.{Span}
use Rattle.entries.specs.Entries.{Kind, places, removed, named_all}
use Rattle.entries.specs.declared.Moments.{Moments}
use Rattle.entries.proofs.MarkLaws.{withdrawn_all, all_fits}
use Rattle.serverlist.specs.Servers.{held, packed}
use Rattle.serverlist.specs.declared.ServerList.{ServerList}
use Rattle.rdnss.specs.Area.{is_whole, is_area, is_acting, addresses, named_by}
use Rattle.rdnss.specs.Options.{is_withdrawing, moments_of, option_applied}
use Rattle.rdnss.specs.declared.Refusal.{Refusal}
use Rattle.rdnss.specs.declared.Refusal.TheVariants.{NotSound, NotTimely, NoLifetime, NotWhole}
use Rattle.rdnss.specs.Refusals.{number}
use Rattle.rdnss.specs.ServerList.{servers_after, answer, first_refusal, refusal_of, server_list}
use Rattle.rdnss.proofs.NamingLaws.{unmarked_items}

-- an option names the addresses that count where it acts, and none where it does not
pub named_none : (v : List ℕ) → is_acting v ≡ false → named_by v ≡ []
unfolding named_by
named_none v h = rw h

pub named_if : (v : List ℕ) → is_acting v ≡ true → named_by v ≡ addresses v
unfolding named_by
named_if v h = rw h

-- an option that names nothing changes nothing
pub names_nothing : {K E : Type 0} (kind : Kind K E) (gone : Bool) (x : Moments) (l : List E) → named_all kind gone x [] l ≡ l
unfolding named_all
names_nothing kind gone x l = unmarked_items l

module _ (clock : Moment) (router : Span) where
  pub option_fits : {K E : Type 0} (kind : Kind K E) (names : List ℕ → List K) (l : List E) (v : List ℕ) → length l ≤ places → length (option_applied clock router kind names l v) ≤ places
  unfolding option_applied
  option_fits kind names l v h = all_fits kind (is_withdrawing router v) (moments_of clock router v) (names v) l h

  -- an option, by whether it withdraws
  module _ {K E : Type 0} (kind : Kind K E) (names : List ℕ → List K) (l : List E) (v : List ℕ) where
    pub withdraws : is_withdrawing router v ≡ true → option_applied clock router kind names l v ≡ foldl (λ t k. removed kind k t) l (names v)
    unfolding option_applied
    withdraws z = ap (λ (b : Bool). named_all kind b (moments_of clock router v) (names v) l) z ∙ withdrawn_all kind (moments_of clock router v) (names v) l

    pub renames : is_withdrawing router v ≡ false → option_applied clock router kind names l v ≡ named_all kind false (moments_of clock router v) (names v) l
    unfolding option_applied
    renames z = ap (λ (b : Bool). named_all kind b (moments_of clock router v) (names v) l) z

pub area_long : (area : List ℕ) → 1500 < length area → is_area area ≡ false
unfolding is_area
area_long area h = rw (lt-leb (length area) 1500 h)

pub area_short : (area : List ℕ) → length area ≤ 1500 → is_area area ≡ is_whole 0 area
unfolding is_area
area_short area h = rw (le-leb (length area) 1500 h)

pub area_whole : (area : List ℕ) → is_area area ≡ true → is_whole 0 area ≡ true
unfolding is_area
area_whole area h = and_right (leb (length area) 1500) (is_whole 0 area) h

-- the refusals, in their order
module _ (s t l w : Bool) where
  pub first_31 : s ≡ false → first_refusal s t l w ≡ 31
  unfolding first_refusal
  first_31 h = rw h

  module _ (a : s ≡ true) where
    pub first_15 : t ≡ false → first_refusal s t l w ≡ 15
    unfolding first_refusal
    first_15 h = rw (a, h)

    pub first_router : t ≡ true → l ≡ false → first_refusal s t l w ≡ 15
    unfolding first_refusal
    first_router b h = rw (a, b, h)

    pub first_16 : t ≡ true → l ≡ true → w ≡ false → first_refusal s t l w ≡ 16
    unfolding first_refusal
    first_16 b d h = rw (a, b, d, h)

    pub first_none : t ≡ true → l ≡ true → w ≡ true → first_refusal s t l w ≡ 0
    unfolding first_refusal
    first_none b d h = rw (a, b, d, h)

-- what is known where none applies
pub record Unrefused (s t l w : Bool) : Type 0 where
  pub sound : s ≡ true
  pub timely : t ≡ true
  pub lasting : l ≡ true
  pub whole : w ≡ true

pub none_applies : (s t l w : Bool) → first_refusal s t l w ≡ 0 → Unrefused s t l w
none_applies true true true true h = record { sound = refl; timely = refl; lasting = refl; whole = refl }
none_applies true true true false h = absurd (omega (arith, h, first_16 true true true false refl refl refl refl))
none_applies true true false w h = absurd (omega (arith, h, first_router true true false w refl refl refl))
none_applies true false l w h = absurd (omega (arith, h, first_15 true false l w refl refl))
none_applies false t l w h = absurd (omega (arith, h, first_31 false t l w refl))

pub first_same : {s t l w s' t' l' w' : Bool} → s ≡ s' → t ≡ t' → l ≡ l' → w ≡ w' → first_refusal s t l w ≡ first_refusal s' t' l' w'
first_same a b c d = rw (a, b, c, d)

-- a refusal has a number
pub numbered : (r : Refusal) → number r ≡ 0 → ⊥
numbered NotSound e = omega arith
numbered NotTimely e = omega arith
numbered NoLifetime e = omega arith
numbered NotWhole e = omega arith

-- the two ways of the call
module _ (list : ServerList) (clock : Moment) (router : Span) (area : List ℕ) where
  pub refusing : (refusal_of list clock router area ≡ 0 → ⊥) → answer (refusal_of list clock router area) list ≡ server_list list clock router area
  unfolding server_list
  refusing n = rw (ne_eqb (refusal_of list clock router area) 0 n)

  pub accepting : refusal_of list clock router area ≡ 0 → answer 0 (packed clock (servers_after clock router area (held list))) ≡ server_list list clock router area
  unfolding server_list
  accepting z = rw (eq-eqb (refusal_of list clock router area) 0 z)
