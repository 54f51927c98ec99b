-- Why demand 3 can't ask that names are spelled alike: a list of steps that keeps the octets of a name which every order that explains the list
-- writes anew. Assumes nothing.
use mathlib.Core.Path.{◌≡◌, refl, sym, ◌∙◌, ap, subst}
use mathlib.Core.Bool.{true, cond, true≢false}
use mathlib.Core.List.{List, [], ◌∷◌}
use mathlib.Core.Logic.{◌⊎◌, inl, inr}
use mathlib.Core.Option.{Option, none, some}
use Prim.Native.Nat.{ℕ}
use Rattle.octets.specs.Compare.{same_octets}
use Rattle.octets.specs.Count.{Octets, member}
use Rattle.dname.specs.Name.{key}
use Rattle.addresses.specs.Addresses.{including, excluding}
use Rattle.update.specs.Rules.{Zone, there, with, held_by, empty, new_host, request_a, left, fits, write_b, request_b, remove_address, remove_name, with_name, without_name, with_address, without_address, delete_name}
use Rattle.update.specs.Spelling.{Spelling, kept, respelled}
use Rattle.job.specs.Jobs as jobs
use Rattle.job.specs.Jobs.{Arguments, End, done, gone, Stage, ended, fresh, after, after_first, after_second, step, Sends, has_ended, sends}
use Rattle.serial.specs.Steps.{going}
use Rattle.serial.specs.Order.{InTurn, nobody, next, Explains}
use Rattle.serial.specs.Demand.{Story, Serializable}
use Rattle.serial.specs.P12.{x_dhcid, alone, one_address, x_host, held_at, x_adds}
use Rattle.serial.specs.Spelling.{spelled_by_steps, spelled_by_job, spelled_in_turn, OBOE, oboe, x_removes_capitals, SpellsOtherwise}
use Rattle.serial.proofs.KeepsOctets.{respelled_there, respelled_idle}
use Rattle.serial.proofs.Cases.{by_rule, by_rule_lem, form_one, r₃, r₄, between}
use Rattle.serial.proofs.Demand.{stronger}
use Rattle.serial.proofs.RequestLaws.{whole, whole_only}
use Rattle.serial.proofs.TwoJobs.{of_two}

-- ---- what a job that has ended leaves spelled

idle_spelled : (j : Arguments) {z : Zone} (s : Stage) {y : Zone} {d : End} (e : End) (m : Sends j z s y d) → s ≡ ended e → (sp : Spelling) (k : Octets)
    → there (sp k) ≡ there (z.at k) → spelled_by_job m sp k ≡ sp k
unfolding spelled_by_job
idle_spelled j s e has_ended p sp k t = refl
idle_spelled j s e (sends {z = z} h) p sp k t =
    let q : (step j z s).stage ≡ ended e = ap (λ (u : Stage). (step j z u).stage) p ∙ (unfold step in refl) in
    let w : (step j z s).zone ≡ z = ap (λ (u : Stage). (step j z u).zone) p ∙ (unfold step in refl) in
    idle_spelled j (step j z s).stage e h q (respelled j.update.name (step j z s).zone sp) k (respelled_there j.update.name (step j z s).zone sp k)
    ∙ ap (λ (y : Zone). respelled j.update.name y sp k) w ∙ respelled_idle j.update.name z sp k t

-- ---- a job that ends with its first request, or with its second

-- after its first request
unfoldable more : (j : Arguments) {z : Zone} (s : Stage) {y : Zone} {d : End} → Sends j z s y d → going s ≡ true → Sends j (step j z s).zone (step j z s).stage y d
more j s has_ended g = absurd (true≢false (sym g))
more j s (sends h) g = h

first_spelled : (j : Arguments) {z : Zone} (s : Stage) {y : Zone} {d : End} (m : Sends j z s y d) (g : going s ≡ true) (sp : Spelling)
    → spelled_by_job m sp ≡ spelled_by_job (more j s m g) (respelled j.update.name (step j z s).zone sp)
unfolding spelled_by_job more
first_spelled j s has_ended g sp = absurd (true≢false (sym g))
first_spelled j s (sends h) g sp = refl

module _ (j : Arguments) (k : Octets) where
  abbrev spells : Zone → Spelling → Spelling
  spells = respelled j.update.name

  one_spelled : (z : Zone) (s : Stage) (g : going s ≡ true) (sp : Spelling) (y : Zone) (d e : End) (m : Sends j z s y d) → (step j z s).stage ≡ ended e
      → spelled_by_job m sp k ≡ spells (step j z s).zone sp k
  one_spelled z s g sp y d e m p =
      ap (λ (x : Spelling). x k) (first_spelled j s m g sp)
      ∙ idle_spelled j (step j z s).stage e (more j s m g) p (spells (step j z s).zone sp) k (respelled_there j.update.name (step j z s).zone sp k)

  two_spelled : (z : Zone) (s : Stage) (g : going s ≡ true) (sp : Spelling) (y : Zone) (d e : End) (m : Sends j z s y d)
      → going (step j z s).stage ≡ true → (step j (step j z s).zone (step j z s).stage).stage ≡ ended e
      → spelled_by_job m sp k ≡ spells (step j (step j z s).zone (step j z s).stage).zone (spells (step j z s).zone sp) k
  two_spelled z s g sp y d e m h p =
      ap (λ (x : Spelling). x k) (first_spelled j s m g sp)
      ∙ one_spelled (step j z s).zone (step j z s).stage h (spells (step j z s).zone sp) y d e (more j s m g) p

-- ---- the list

abbrev z₀ : Zone
z₀ = held_at oboe one_address

abbrev removes : Arguments
removes = x_removes_capitals

abbrev adds : Arguments
adds = x_adds oboe 1

abbrev both : List Arguments
both = removes ∷ adds ∷ []

abbrev said : List End
said = jobs.kept ∷ done 2 ∷ []

abbrev last : Zone
last = (r₄ z₀ removes adds).zone

the_ends : ((r₄ z₀ removes adds).job.stage ≡ ended jobs.kept) × ((r₃ z₀ removes adds).job.stage ≡ ended (done 2))
unfolding x_removes_capitals x_adds OBOE oboe x_host x_dhcid alone step fresh request_a request_b remove_address delete_name remove_name write_b fits left after after_first after_second held_by same_octets key new_host with_address without_address with including excluding with_name without_name empty member
the_ends = (refl, refl)

unfoldable the_list : Story by_rule
the_list = between z₀ removes adds (form_one oboe) jobs.kept (done 2) the_ends.0 the_ends.1

stands_last : there (last.at (key oboe)) ≡ true
unfolding x_removes_capitals x_adds OBOE oboe x_host x_dhcid alone step fresh request_a request_b remove_address delete_name remove_name write_b fits left after after_first after_second held_by same_octets key new_host with_address without_address with including excluding with_name without_name empty member
stands_last = refl

unfoldable spelled_first : Spelling
spelled_first k = cond (same_octets oboe k) (some OBOE) none

-- ---- the remove first: it deletes the name, and the add writes its own

removed : Zone
removed = (whole removes z₀).zone

remove_spelled : (y : Zone) (d : End) (m : Sends removes z₀ (fresh removes) y d) (sp : Spelling) → (spelled_by_job m sp (key oboe) ≡ none) × (removed ≡ y)
unfolding respelled removed whole x_removes_capitals x_adds OBOE oboe x_host x_dhcid alone step fresh request_a request_b remove_address delete_name remove_name write_b fits left after after_first after_second held_by same_octets key new_host with_address without_address with including excluding with_name without_name empty member
remove_spelled y d m sp =
    (two_spelled removes (key oboe) z₀ Stage.before_first refl sp y d gone m refl refl, (whole_only removes z₀ y d gone refl m).0)

add_spelled : (w : Zone) (d : End) (m : Sends adds removed (fresh adds) w d) (sp : Spelling) → sp (key oboe) ≡ none → spelled_by_job m sp (key oboe) ≡ some oboe
unfolding respelled removed whole x_removes_capitals x_adds OBOE oboe x_host x_dhcid alone step fresh request_a request_b remove_address delete_name remove_name write_b fits left after after_first after_second held_by same_octets key new_host with_address without_address with including excluding with_name without_name empty member
add_spelled w d m sp e = one_spelled adds (key oboe) removed (Stage.before_a 0) refl sp w d (done 1) m refl ∙ ap (λ (o : Option Octets). some (kept oboe o)) e

-- ---- the add first: then the remove deletes the name

added : Zone
added = (whole adds z₀).zone

add_first : (y : Zone) (d : End) → Sends adds z₀ (fresh adds) y d → added ≡ y
unfolding added whole x_removes_capitals x_adds OBOE oboe x_host x_dhcid alone step fresh request_a request_b remove_address delete_name remove_name write_b fits left after after_first after_second held_by same_octets key new_host with_address without_address with including excluding with_name without_name empty member
add_first y d m = (whole_only adds z₀ y d (done 2) refl m).0

remove_second : (w : Zone) (d : End) → Sends removes added (fresh removes) w d → w.at (key oboe) ≡ none
unfolding added whole x_removes_capitals x_adds OBOE oboe x_host x_dhcid alone step fresh request_a request_b remove_address delete_name remove_name write_b fits left after after_first after_second held_by same_octets key new_host with_address without_address with including excluding with_name without_name empty member
remove_second w d m = ap (λ (x : Zone). x.at (key oboe)) (sym (whole_only removes added w d gone refl m).0)

-- ---- every order that explains the list

remove_then_add : {z : Zone} (t : InTurn both said z₀ (0 ∷ 1 ∷ []) z) (sp : Spelling) → spelled_in_turn t sp (key oboe) ≡ some oboe
unfolding spelled_in_turn
remove_then_add (next {y = y} i j e d p q m v (next {y = x} i' j' e' d' p' q' m' v' nobody)) sp =
    let r = first (let s : removes ≡ j = cc in s) m in
    second (let s : adds ≡ j' = cc in s) r.1 m' (spelled_by_job m sp) r.0
  where
    first : removes ≡ j → (m : Sends j z₀ (fresh j) y d) → (spelled_by_job m sp (key oboe) ≡ none) × (removed ≡ y)
    first s = subst (λ (u : Arguments). (m : Sends u z₀ (fresh u) y d) → (spelled_by_job m sp (key oboe) ≡ none) × (removed ≡ y)) s (λ m. remove_spelled y d m sp)

    second : adds ≡ j' → removed ≡ y → (m : Sends j' y (fresh j') x d') (sp : Spelling) → sp (key oboe) ≡ none → spelled_by_job m sp (key oboe) ≡ some oboe
    second s w =
        subst (λ (u : Arguments). (m : Sends u y (fresh u) x d') (sp : Spelling) → sp (key oboe) ≡ none → spelled_by_job m sp (key oboe) ≡ some oboe) s
        (subst (λ (u : Zone). (m : Sends adds u (fresh adds) x d') (sp : Spelling) → sp (key oboe) ≡ none → spelled_by_job m sp (key oboe) ≡ some oboe) w (λ m sp n. add_spelled x d' m sp n))

add_then_remove : {z : Zone} → InTurn both said z₀ (1 ∷ 0 ∷ []) z → there (z.at (key oboe)) ≡ true → ⊥
add_then_remove (next {y = y} i j e d p q m v (next {y = x} i' j' e' d' p' q' m' v' nobody)) w =
    let s : adds ≡ j = cc in
    let s' : removes ≡ j' = cc in
    let n : Sends adds z₀ (fresh adds) y d = subst (λ (u : Arguments). Sends u z₀ (fresh u) y d) (sym s) m in
    let n' : Sends removes added (fresh removes) x d' = subst (λ (u : Zone). Sends removes u (fresh removes) x d') (sym (add_first y d n)) (subst (λ (u : Arguments). Sends u y (fresh u) x d') (sym s') m') in
    true≢false (sym w ∙ ap there (remove_second x d' n'))

by_order_lem : (o : List ℕ) (e : Explains both said z₀ last o) (sp : Spelling) → (o ≡ 0 ∷ 1 ∷ []) × (spelled_in_turn e.in_turn sp (key oboe) ≡ some oboe)
by_order_lem o e sp = go (of_two removes adds jobs.kept (done 2) refl refl e) e.in_turn
  where
    go : (o ≡ 0 ∷ 1 ∷ []) ⊎ (o ≡ 1 ∷ 0 ∷ []) → (t : InTurn both said z₀ o last) → (o ≡ 0 ∷ 1 ∷ []) × (spelled_in_turn t sp (key oboe) ≡ some oboe)
    go (inl p) t = (p, subst (λ (u : List ℕ). (t : InTurn both said z₀ u last) → spelled_in_turn t sp (key oboe) ≡ some oboe) (sym p) (λ t. remove_then_add t sp) t)
    go (inr p) t = absurd (add_then_remove (subst (λ (u : List ℕ). InTurn both said z₀ u last) p t) stands_last)

-- ---- the claim

by_list_lem : spelled_by_steps by_rule the_list.steps spelled_first (key oboe) ≡ some OBOE
unfolding the_list between by_rule spelled_by_steps spelled_first respelled x_removes_capitals x_adds OBOE oboe x_host x_dhcid alone step fresh request_a request_b remove_address delete_name remove_name write_b fits left after after_first after_second held_by same_octets key new_host with_address without_address with including excluding with_name without_name empty member
by_list_lem = refl

held_first : spelled_first (key oboe) ≡ some OBOE
unfolding spelled_first oboe key same_octets
held_first = refl

serial : Serializable by_rule the_list
serial = (stronger by_rule by_rule_lem the_list).0

-- Theorem: the list ends with OBOE, every order that explains it with oboe, and one does.
pub spells_otherwise : SpellsOtherwise by_rule
unfolding the_list between by_rule
spells_otherwise = record {
  story = the_list;
  jobs = refl;
  ends = refl;
  first = spelled_first;
  held = held_first;
  by_list = by_list_lem;
  fits = subst (λ (o : List ℕ). Explains both said z₀ last o) (by_order_lem serial.order serial.explains spelled_first).0 serial.explains;
  no_other = λ o e. (by_order_lem o e spelled_first).0;
  by_order = λ o e. (by_order_lem o e spelled_first).1;
}
