-- Why demand 3 can't ask that removes get the same answers: the list of specs/Limits.antt, in calls made of the rules. Assumes nothing.
use mathlib.Core.Path.{◌≡◌, refl, sym, ◌∙◌, ap, subst}
use mathlib.Core.Bool.{true, true≢false}
use mathlib.Core.List.{List, [], ◌∷◌}
use mathlib.Core.Logic.{◌⊎◌, inl, inr}
use Prim.Native.Nat.{ℕ}
use Rattle.octets.specs.Compare.{same_octets}
use Rattle.dname.specs.Name.{key}
use Rattle.octets.specs.Count.{member}
use Rattle.addresses.specs.Addresses.{including, excluding}
use Rattle.update.specs.Rules.{Zone, with, held_by, empty, request_a, left, fits, write_b, request_b, remove_address, remove_name, with_name, without_name, with_address, without_address, delete_name}
use Rattle.job.specs.Jobs.{Arguments, End, done, gone, kept, ended, fresh, after, after_first, after_second, step, Sends}
use Rattle.job.specs.Meaning.{stage_number}
use Rattle.serial.specs.Order.{same_answer, StandsOnce, InTurn, next}
use Rattle.serial.specs.Demand.{Story}
use Rattle.serial.specs.P12.{pipe, x_dhcid, x_removes, alone, one_address, x_host, held_by_x, x_adds}
use Rattle.serial.specs.Limits.{RemovesAgree, RemovesDiffer}
use Rattle.serial.proofs.RequestLaws.{whole, whole_only}
use Rattle.serial.proofs.TwoJobs.{two_orders}
use Rattle.serial.proofs.Cases.{by_rule, form_pipe, r₃, r₄, between}

abbrev z₀ : Zone
z₀ = held_by_x one_address

abbrev adds : Arguments
adds = x_adds pipe 1

abbrev both : List Arguments
both = x_removes ∷ adds ∷ []

abbrev said : List End
said = kept ∷ done 2 ∷ []

-- X removes its only address, adds it again in between, and the name is kept.
the_ends : ((r₄ z₀ x_removes adds).job.stage ≡ ended kept) × ((r₃ z₀ x_removes adds).job.stage ≡ ended (done 2))
unfolding held_by_x x_host x_dhcid alone x_removes x_adds pipe step fresh request_a request_b remove_address delete_name remove_name write_b fits left after after_first after_second held_by same_octets key with_address without_address with including excluding with_name without_name empty member
the_ends = (refl, refl)

unfoldable the_list : Story by_rule
the_list = between z₀ x_removes adds form_pipe kept (done 2) the_ends.0 the_ends.1

-- ---- the two orders

-- The whole remove, from the first zone; the zone after the whole add; and the whole remove from there.
remove_first : (whole x_removes z₀).stage ≡ ended gone
unfolding whole held_by_x x_host x_dhcid alone x_removes pipe step fresh remove_address delete_name remove_name after_first after_second held_by same_octets key without_address with excluding with_name without_name empty member
remove_first = refl

add_first : (whole adds z₀).stage ≡ ended (done 2)
unfolding whole held_by_x x_host x_dhcid alone x_adds pipe step fresh request_a request_b write_b fits left after held_by same_octets key with_address without_address with including excluding with_name without_name member
add_first = refl

remove_second : (whole x_removes (whole adds z₀).zone).stage ≡ ended gone
unfolding whole held_by_x x_host x_dhcid alone x_removes x_adds pipe step fresh request_a request_b remove_address delete_name remove_name write_b fits left after after_first after_second held_by same_octets key with_address without_address with including excluding with_name without_name empty member
remove_second = refl

gone≢kept : (d e : End) → gone ≡ d → kept ≡ e → same_answer d e ≡ true → ⊥
unfolding same_answer stage_number
gone≢kept d e p q r = true≢false (sym r ∙ ap (λ (u : End). same_answer u e) (sym p) ∙ ap (same_answer gone) (sym q))

remove_then_add : {z : Zone} (t : InTurn both said z₀ (0 ∷ 1 ∷ []) z) → RemovesAgree t → ⊥
unfolding RemovesAgree
remove_then_add (next {y = y} i j e d p q m v t) a =
    let s : x_removes ≡ j = cc in
    let n : Sends x_removes z₀ (fresh x_removes) y d = subst (λ (u : Arguments). Sends u z₀ (fresh u) y d) (sym s) m in
    gone≢kept d e (whole_only x_removes z₀ y d gone remove_first n).1 (let k : kept ≡ e = cc in k) a.0

add_then_remove : {z : Zone} (t : InTurn both said z₀ (1 ∷ 0 ∷ []) z) → RemovesAgree t → ⊥
unfolding RemovesAgree
add_then_remove (next {y = y} i j e d p q m v (next {y = x} i' j' e' d' p' q' m' v' t)) a =
    let s : adds ≡ j = cc in
    let n : Sends adds z₀ (fresh adds) y d = subst (λ (u : Arguments). Sends u z₀ (fresh u) y d) (sym s) m in
    let w : (whole adds z₀).zone ≡ y = (whole_only adds z₀ y d (done 2) add_first n).0 in
    let s' : x_removes ≡ j' = cc in
    let n' : Sends x_removes y (fresh x_removes) x d' = subst (λ (u : Arguments). Sends u y (fresh u) x d') (sym s') m' in
    gone≢kept d' e' (whole_only x_removes y x d' gone (ap (λ (u : Zone). (whole x_removes u).stage) (sym w) ∙ remove_second) n').1 (let k : kept ≡ e' = cc in k) a.1.0

no_order : (o : List ℕ) (z : Zone) (t : InTurn both said z₀ o z) → StandsOnce 0 o → StandsOnce 1 o → RemovesAgree t → ⊥
no_order o z t h g = go (two_orders x_removes adds kept (done 2) t h g) t
  where
    go : (o ≡ 0 ∷ 1 ∷ []) ⊎ (o ≡ 1 ∷ 0 ∷ []) → (t : InTurn both said z₀ o z) → RemovesAgree t → ⊥
    go (inl e) = subst (λ (u : List ℕ). (t : InTurn both said z₀ u z) → RemovesAgree t → ⊥) (sym e) remove_then_add
    go (inr e) = subst (λ (u : List ℕ). (t : InTurn both said z₀ u z) → RemovesAgree t → ⊥) (sym e) add_then_remove

pub removes_differ : RemovesDiffer by_rule
unfolding the_list between by_rule
removes_differ = record { story = the_list; jobs = refl; ends = refl; none = no_order }
