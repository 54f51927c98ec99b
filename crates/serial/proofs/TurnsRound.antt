-- What n) asks beyond demand 3: the list of specs/Limits.antt in which X leaves and comes back, of the calls that run, with every struct written
-- out. Assumes nothing.
use mathlib.Core.Path.{◌≡◌, refl, sym, ◌∙◌, ap, subst, fun_ext}
use mathlib.Core.Bool.{true, false, not, ◌&&◌, ◌||◌}
use mathlib.Core.List.{List, [], ◌∷◌}
use mathlib.Core.Logic.{◌⊎◌, inl, inr}
use Prim.Native.Nat.{ℕ}
use native.Mathlib.Omega.{arith}
use Rattle.octets.specs.Compare.{same_octets}
use Rattle.octets.specs.Count.{Octets, member}
use Rattle.octets.proofs.CompareLaws.{same_true}
use borrow.Table.Steps.{cases}
use Rattle.addresses.specs.Addresses.{Addresses, nothing, including, excluding}
use Rattle.dname.specs.Name.{labels_of, limited, shape_of, is_full, key, same_name}
use Rattle.update.specs.Rules as rules
use Rattle.update.specs.Rules.{Host, held_by, empty, left, fits, write_b, request_a, request_b, remove_address, remove_name, delete_name, with_name, with_address, without_address}
use Rattle.update.specs.Meaning.{zone_of}
use Rattle.job.specs.declared.job.Job.{Job}
use Rattle.job.specs.Jobs as jobs
use Rattle.job.specs.Jobs.{add, Arguments, End, done, gone, kept, State, before_a, before_b, before_first, before_second, ended, fresh, after, after_first, after_second, step, Sends}
use Rattle.job.specs.Meaning.{job_of, at_stage, stage_number}
use Rattle.step.specs.declared.Stepped.{Stepped}
use Rattle.serial.specs.Steps.{going, no_job, one_more, Steps, start, stepped, own_steps, AtFirst, EndedFirst}
use Rattle.serial.specs.Order.{same_answer, times, Before, nobody, next, Explains}
use Rattle.serial.specs.Demand.{HeldHaveAddress, OnOneName, Serializable, Story}
use Rattle.serial.specs.Running.{running}
use Rattle.serial.specs.Values.{are_octets, Values, Held}
use Rattle.serial.specs.P12.{pipe, x_dhcid, net10, address1, x_update, x_removes, alone, one_address, x_host, held_by_x, no_names, x_adds}
use Rattle.serial.specs.Limits.{PIPE, TurnsRound}
use Rattle.serial.proofs.RequestLaws.{state, whole, whole_one, whole_two, whole_sends}
use Rattle.serial.proofs.OrderLaws.{remove_answers}
use Rattle.serial.proofs.TwoJobs.{two_explain, of_two}
use Rattle.serial.proofs.Cases.{p12_held}
use Rattle.serial.proofs.P12Zones.{name_in, Pipe, full, full_of, bare, clear, full_value, full_of_value, bare_value, clear_value, full_formed, full_zone, full_of_zone}
use Rattle.serial.proofs.P12Steps.{host_less, host_more, held_over, pipe_key, x_takes, x_deletes}
use Rattle.serial.proofs.P12Runs.{meets, next_is, kx, kx₂, new_x_lem, x_first, x_second, x_values}
use Rattle.serial.proofs.XAdds.{kx⁺, new_x⁺, x_adds_lem, x_adds_anew, x⁺-values}

abbrev adds : Arguments
adds = x_adds PIPE 9

abbrev both : List Arguments
both = x_removes ∷ adds ∷ []

abbrev said : List End
said = gone ∷ done 1 ∷ []

-- PIPE is that name in other letters
capital : Pipe PIPE
unfolding name_in PIPE
capital = record { is = refl; key = unfold key pipe in refl; full = unfold is_full shape_of limited labels_of in refl; size = refl; octets = unfold are_octets in refl }

-- the zone with X's first address, and with its new one
abbrev before : rules.Zone
before = held_by_x one_address

abbrev behind : rules.Zone
behind = held_by_x (alone (net10 9))

-- ---- the remove first

remove_first : whole x_removes before ≡ state no_names (ended gone)
remove_first = whole_two x_removes before before_first (held_by_x nothing) no_names before_second gone (unfold fresh x_removes in refl) x_takes x_deletes

add_second : whole adds no_names ≡ state behind (ended (done 1))
add_second = whole_one adds no_names (before_a 0) behind (done 1) (unfold fresh x_adds in refl) (x_adds_lem PIPE capital 9)

-- ---- the add first: then the remove leaves the new address

abbrev two : Addresses
two = including (net10 9) one_address

add_first : whole adds before ≡ state (held_by_x two) (ended (done 2))
add_first = whole_two adds before (before_a 0) before (held_by_x two) (before_b 1) (done 2) (unfold fresh x_adds in refl) asks (found ∙ adds_one)
  where
    asks : step adds before (before_a 0) ≡ state before (before_b 1)
    asks = unfold held_by_x x_adds pipe PIPE step request_a after same_octets key in refl

    found : step adds before (before_b 1) ≡ state (with_name PIPE (with_address (x_update PIPE (net10 9)) (x_host one_address)) before) (ended (done 2))
    found = unfold held_by_x x_host alone x_adds pipe PIPE x_dhcid step request_b write_b fits left after held_by same_octets key member in refl

    adds_one : state (with_name PIPE (with_address (x_update PIPE (net10 9)) (x_host one_address)) before) (ended (done 2)) ≡ state (held_by_x two) (ended (done 2))
    adds_one = ap (λ (h : Host). state (with_name PIPE h before) (ended (done 2))) (host_more PIPE (net10 9) one_address) ∙ ap (λ (z : rules.Zone). state z (ended (done 2))) (held_over PIPE capital.key one_address two)

one_left : excluding address1 two ≡ alone (net10 9)
unfolding including excluding alone member
one_left = λ i. record { count = count i; has = fun_ext has i }
  where
    count : (excluding address1 two).count ≡ 1
    count = unfold same_octets in refl

    other : (a : Octets) → same_octets address1 a ≡ true → same_octets (net10 9) a ≡ false
    other a p = ap (same_octets (net10 9)) (sym (same_true address1 a p)) ∙ (unfold same_octets in refl)

    has : (a : Octets) → (not (same_octets address1 a) && (same_octets (net10 9) a || (same_octets address1 a || false))) ≡ (same_octets (net10 9) a || false)
    has a = cases (same_octets address1 a) (λ p. rw (p, other a p) refl) (λ p. rw p refl)

remove_second : whole x_removes (held_by_x two) ≡ state behind (ended kept)
remove_second = whole_two x_removes (held_by_x two) before_first behind behind before_second kept (unfold fresh x_removes in refl) (found ∙ takes_one) keeps
  where
    found : step x_removes (held_by_x two) before_first ≡ state (with_name pipe (without_address (x_update pipe address1) (x_host two)) (held_by_x two)) before_second
    found = unfold held_by_x x_host x_removes pipe x_dhcid step remove_address after_first held_by same_octets key in refl

    takes_one : state (with_name pipe (without_address (x_update pipe address1) (x_host two)) (held_by_x two)) before_second ≡ state behind before_second
    takes_one =
        ap (λ (h : Host). state (with_name pipe h (held_by_x two)) before_second) (host_less pipe address1 two ∙ ap x_host one_left)
        ∙ ap (λ (z : rules.Zone). state z before_second) (held_over pipe pipe_key two (alone (net10 9)))

    keeps : step x_removes behind before_second ≡ state behind (ended kept)
    keeps = unfold held_by_x x_host alone x_removes pipe x_dhcid step remove_name delete_name after_second held_by empty same_octets key in refl

-- ---- both orders explain the list

sends_whole : (j : Arguments) (x y : rules.Zone) (e : End) → whole j x ≡ state y (ended e) → Sends j x (fresh j) y e
sends_whole j x y e w =
    subst (λ (z : rules.Zone). Sends j x (fresh j) z e) (ap (λ (s : State). s.zone) w) (whole_sends j x e (ap (λ (s : State). s.stage) w))

no_add : (d e : End) → x_removes.kind ≡ add → same_answer d e ≡ true
no_add d e k = remove_answers x_removes d (ended e) (unfold x_removes in refl) k e refl

seen : Explains both said before behind (0 ∷ 1 ∷ [])
unfolding times
seen =
    two_explain x_removes adds gone (done 1) refl refl
    (next 0 x_removes gone gone refl refl (sends_whole x_removes before no_names gone remove_first) (no_add gone gone)
    (next 1 adds (done 1) (done 1) refl refl (sends_whole adds no_names behind (done 1) add_second) (λ k. unfold same_answer stage_number in refl) nobody))
    refl refl

turned_add : Sends adds before (fresh adds) (held_by_x two) (done 2)
turned_add = sends_whole adds before (held_by_x two) (done 2) add_first

turned_remove : Sends x_removes (held_by_x two) (fresh x_removes) behind kept
turned_remove = sends_whole x_removes (held_by_x two) behind kept remove_second

turned : Explains both said before behind (1 ∷ 0 ∷ [])
unfolding times
turned =
    two_explain x_removes adds gone (done 1) refl refl
    (next 1 adds (done 1) (done 2) refl refl turned_add (λ k. unfold same_answer stage_number in refl)
    (next 0 x_removes gone kept refl refl turned_remove (no_add kept gone) nobody))
    refl refl

-- ---- the list

abbrev k : Job
k = kx⁺ PIPE capital 9

abbrev removed : Job
removed = at_stage kx₂ (ended gone)

abbrev added : Job
added = at_stage k (ended (done 1))

abbrev s₁ : Stepped
s₁ = record { refusal = 0; zone = bare; job = kx₂ }

abbrev s₂ : Stepped
s₂ = record { refusal = 0; zone = clear; job = removed }

abbrev s₃ : Stepped
s₃ = record { refusal = 0; zone = full_of PIPE 9; job = added }

unfoldable the_steps : Steps running full (kx ∷ k ∷ []) (full_of PIPE 9) (removed ∷ added ∷ [])
the_steps = stepped (stepped (stepped start 0 kx s₁ refl (meets x_first) refl) 0 kx₂ s₂ refl (meets x_second) refl) 1 k s₃ refl (meets (x_adds_anew PIPE capital 9)) refl

removed_is : (job_of removed).stage ≡ ended gone
removed_is = ap (λ (m : jobs.Job). m.stage) (next_is x_second)

added_is_lem : (job_of added).stage ≡ ended (done 1)
added_is_lem = ap (λ (m : jobs.Job). m.stage) (next_is (x_adds_anew PIPE capital 9))

unfoldable the_list : Story running
the_list = record {
  arguments = both;
  first_zone = full;
  last_zone = full_of PIPE 9;
  first_jobs = kx ∷ k ∷ [];
  last_jobs = removed ∷ added ∷ [];
  ends = said;
  formed = full_formed;
  fresh_jobs = one_more new_x_lem (one_more (new_x⁺ PIPE capital 9) no_job);
  steps = the_steps;
  all_ended = rw (removed_is, added_is_lem) refl;
}

ended_first_lem : EndedFirst running the_steps 0 1
unfolding the_steps AtFirst own_steps
ended_first_lem = inr (refl, refl, record { job = removed; its = refl; so = ap going removed_is })

one_name_lem : OnOneName running the_list 0 1
unfolding the_list
one_name_lem = record { first = x_removes; second = adds; is_a = refl; is_b = refl; same = unfold x_removes x_adds same_name pipe PIPE key same_octets in refl }

-- an order explains the list where it explains what the zones mean
in_calls : (o : List ℕ) → Explains both said before behind o → Explains both said (zone_of full) (zone_of (full_of PIPE 9)) o
in_calls o x = subst (λ (z : rules.Zone). Explains both said z (zone_of (full_of PIPE 9)) o) (sym full_zone) (subst (λ (z : rules.Zone). Explains both said before z o) (sym (full_of_zone PIPE capital 9)) x)

-- ---- the claim

not_turned : Before 0 1 (1 ∷ 0 ∷ []) → ⊥
not_turned (inl h) = let q : ◌≡◌ {A = ℕ} 1 0 = h.0 in omega arith
not_turned (inr (inl h)) = h.1
not_turned (inr (inr h)) = h

only_seen_lem : (r : Serializable running the_list) → r.order ≡ 0 ∷ 1 ∷ []
unfolding the_list times
only_seen_lem r = go (of_two x_removes adds gone (done 1) refl refl r.explains)
  where
    go : (r.order ≡ 0 ∷ 1 ∷ []) ⊎ (r.order ≡ 1 ∷ 0 ∷ []) → r.order ≡ 0 ∷ 1 ∷ []
    go (inl p) = p
    go (inr p) =
        let b : Before 0 1 r.order = r.as_seen 0 1 one_name_lem ended_first_lem (ap (times 0) p) (ap (times 1) p) in
        absurd (not_turned (subst (Before 0 1) p b))

the_values : Held the_steps
unfolding the_steps Held Values
the_values = ((((full_value, (x_values.0, ((x⁺-values PIPE capital 9 refl).0, tt))), bare_value, x_values.1), clear_value, x_values.2), full_of_value PIPE capital 9 refl, (x⁺-values PIPE capital 9 refl).1)

pub turns_round : TurnsRound
unfolding the_list
turns_round = record {
  story = the_list;
  values = the_values;
  held = subst HeldHaveAddress (sym full_zone) p12_held;
  jobs = refl;
  ends = refl;
  one_name = one_name_lem;
  ended_first = ended_first_lem;
  seen = in_calls (0 ∷ 1 ∷ []) seen;
  turned = in_calls (1 ∷ 0 ∷ []) turned;
  turned_ends = (
    held_by_x two,
    subst (λ (z : rules.Zone). Sends adds z (fresh adds) (held_by_x two) (done 2)) (sym full_zone) turned_add,
    subst (λ (z : rules.Zone). Sends x_removes (held_by_x two) (fresh x_removes) z kept) (sym (full_of_zone PIPE capital 9)) turned_remove,
  );
  only_seen = only_seen_lem;
}
