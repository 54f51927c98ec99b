-- The refusals in their order, and what a call's promise is made of. Assumes nothing.
use mathlib.Core.Path.{◌≡◌, refl, sym, ◌∙◌, ap, subst}
use mathlib.Core.Bool.{Bool, true, false, cond, ◌&&◌}
use mathlib.Core.List.{List}
use Rattle.std.specs.Prelude.{Option as Maybe, Some, None as Nothing}
use Prim.Native.Nat.{ℕ, ◌≤◌, ◌<◌}
use native.Mathlib.Omega.{arith}
use lib.Dec.{ltb}
use lib.ListN.{length, get_or}
use lib.Seq.{set_out}
use borrow.Author.Tests.{eq-eqb, ne_eqb, ltb-true, ltb-false}
use borrow.Table.Steps.{cases}
use Rattle.octets.specs.Count.{Octets, distinct}
use Rattle.dname.specs.declared.name.Name.{Name}
use Rattle.zone.specs.declared.entry.Entry.{Entry}
use Rattle.zone.specs.declared.entry.Records.{Records}
use Rattle.zone.specs.declared.Zone.{Zone}
use Rattle.zone.specs.declared.survey.Visit.{Visit}
use Rattle.request.specs.declared.decide.Standing.{Standing}
use Rattle.request.specs.declared.decide.Change.{Change}
use Rattle.request.specs.declared.decide.Change.TheVariants.{Stays, Writes}
use Rattle.update.specs.Rules as rules
use Rattle.update.specs.Rules.{Outcome}
use Rattle.dname.specs.Name.{name_of, is_full}
use Rattle.zone.specs.Meaning.{keys, all_in_order, formed}
use Rattle.update.specs.Meaning.{zone_of, listed}
use Rattle.update.specs.Spelling.{spelling_of}
use Rattle.request.specs.Promise.{number_of, refusal_of, Promised}
use Rattle.zone.specs.declared.survey.Survey.{Survey}
use Rattle.zone.specs.Survey.{Surveyed, Visited, place_of, records_of}
use Rattle.zone.proofs.SurveyLaws.{blank}
use Rattle.request.specs.Answers.{means}
use Rattle.request.specs.Inner.{written, settled, place_at, standing, Settles, Spells, Decided, Changes, Adds, Seen, Decides}
use Rattle.request.proofs.PlaceLaws.{formed_places}
use Rattle.request.proofs.SpellingLaws.{spells_same, spelled_by}

-- ---- the refusals, in their order

module _ (z : Zone) (n : Octets) (family policy : ℕ) where
  pub refusal_form : formed z ≡ false → refusal_of z n family policy ≡ 17
  unfolding refusal_of
  refusal_form f = rw f

  pub refusal_number : formed z ≡ true → listed family policy ≡ false → refusal_of z n family policy ≡ 18
  unfolding refusal_of
  refusal_number f l = rw (f, l)

  pub refusal_name : formed z ≡ true → listed family policy ≡ true → is_full n ≡ false → refusal_of z n family policy ≡ 11
  unfolding refusal_of
  refusal_name f l m = rw (f, l, m)

  pub refusal_none : formed z ≡ true → listed family policy ≡ true → is_full n ≡ true → refusal_of z n family policy ≡ 0
  unfolding refusal_of
  refusal_none f l m = rw (f, l, m)

  -- the numbers being listed, the form and the name are left
  pub refusal_listed : listed family policy ≡ true → refusal_of z n family policy ≡ cond (formed z) (cond (is_full n) 0 11) 17
  unfolding refusal_of
  refusal_listed l = rw l

  pub not_17 : (refusal_of z n family policy ≡ 17 → ⊥) → formed z ≡ true
  not_17 e = cases (formed z) (λ f. f) (λ f. absurd (e (refusal_form f)))

  -- each number exactly when
  pub record Passed : Type 0 where
    pub form : formed z ≡ true
    pub numbers : listed family policy ≡ true
    pub name : is_full n ≡ true

  pub not_refused : refusal_of z n family policy ≡ 0 → Passed
  not_refused e =
      cases (formed z)
      (λ f. cases (listed family policy)
      (λ l. cases (is_full n) (λ m. record { form = f; numbers = l; name = m }) (λ m. absurd (wrong 11 (refusal_name f l m) (λ q. omega arith))))
      (λ l. absurd (wrong 18 (refusal_number f l) (λ q. omega arith))))
      (λ f. absurd (wrong 17 (refusal_form f) (λ q. omega arith)))
    where
      wrong : (m : ℕ) → refusal_of z n family policy ≡ m → ¬ (m ≡ 0) → ⊥
      wrong m q d = d (sym q ∙ e)

  -- the check says 17 exactly when the form fails
  pub says_17 : refusal_of z n family policy ≡ 17 → formed z ≡ false
  says_17 e =
      cases (formed z)
      (λ f. cases (listed family policy)
      (λ l. cases (is_full n) (λ m. absurd (wrong 0 (refusal_none f l m) (λ q. omega arith))) (λ m. absurd (wrong 11 (refusal_name f l m) (λ q. omega arith))))
      (λ l. absurd (wrong 18 (refusal_number f l) (λ q. omega arith))))
      (λ f. f)
    where
      wrong : (m : ℕ) → refusal_of z n family policy ≡ m → ¬ (m ≡ 17) → ⊥
      wrong m q d = d (sym q ∙ e)

-- ---- from a survey

formed_is : (z : Zone) (inorder names : Bool) → length z.entries ≡ 64 → inorder ≡ all_in_order z.entries → names ≡ distinct (keys z.entries)
    → formed z ≡ (inorder && names)
unfolding formed
formed_is z inorder names l p q = rw (eq-eqb (length z.entries) 64 l, p, q)

module _ (z : Zone) (n : Octets) (family policy : ℕ) (s : Survey) (v : Surveyed z n s) where
  by_survey : formed z ≡ (s.inorder && s.distinct)
  by_survey = formed_is z s.inorder s.distinct v.places.places_are v.places.order_is v.distinct_is

  pub refused_form : (s.inorder && s.distinct) ≡ false → 17 ≡ refusal_of z n family policy
  refused_form f = sym (refusal_form z n family policy (by_survey ∙ f))

  module _ (f : (s.inorder && s.distinct) ≡ true) where
    pub refused_number : listed family policy ≡ false → 18 ≡ refusal_of z n family policy
    refused_number l = sym (refusal_number z n family policy (by_survey ∙ f) l)

    pub refused_name : listed family policy ≡ true → is_full n ≡ false → 11 ≡ refusal_of z n family policy
    refused_name l m = sym (refusal_name z n family policy (by_survey ∙ f) l m)

    pub refused_nothing : listed family policy ≡ true → is_full n ≡ true → 0 ≡ refusal_of z n family policy
    refused_nothing l m = sym (refusal_none z n family policy (by_survey ∙ f) l m)

-- ---- promises

-- nothing is written where there is no such place
pub no_place : (z : Zone) (place : ℕ) (e : Entry) → length z.entries ≡ 64 → 64 ≤ place → written z place e ≡ z
no_place z place e l h = ap (λ (es : List Entry). record { entries = es }) (set_out z.entries place e (omega arith))

module _ (z : Zone) (n : Octets) (family policy : ℕ) (request : rules.Zone → Outcome) where
  abbrev refusal : ℕ
  refusal = refusal_of z n family policy

  pub promise_refused : (k : ℕ) → k ≡ refusal → ¬ (k ≡ 0) → Promised z n refusal (request (zone_of z)) (record { refusal = k; answer = 0; zone = z })
  promise_refused k p d =
      let m : ¬ (refusal ≡ 0) = λ q. d (p ∙ q) in
      record { refusal_is = p; answer_is = rw (ne_eqb refusal 0 m); kept = λ q. refl; unchanged = λ q. refl; done = λ q. absurd (m q); formed_again = λ q. absurd (m q); spelled = λ q. absurd (m q) }

  pub promise_done : (answer place : ℕ) (e : Entry) → refusal ≡ 0 → Decided n z (request (zone_of z)) answer place e
      → Promised z n refusal (request (zone_of z)) (record { refusal = 0; answer = answer; zone = written z place e })
  promise_done answer place e r c =
      let g : formed z ≡ true = (not_refused z n family policy r).form in
      record {
        refusal_is = sym r;
        answer_is = c.answer_is ∙ sym (rw (eq-eqb refusal 0 r));
        kept = λ q. absurd (q r);
        unchanged = λ q. same g (λ h. c.needed h q);
        done = λ q. (zone g (ltb place 64) refl).0;
        formed_again = λ q. (zone g (ltb place 64) refl).1;
        spelled = λ q. spelled_by n z (written z place e) (zone g (ltb place 64) refl).2 (request (zone_of z)).zone (zone g (ltb place 64) refl).0;
      }
    where
      same : formed z ≡ true → ¬ (place < 64) → written z place e ≡ z
      same g h = no_place z place e (formed_places z g) (omega arith)

      zone : formed z ≡ true → (b : Bool) → ltb place 64 ≡ b → (zone_of (written z place e) ≡ (request (zone_of z)).zone) × (formed (written z place e) ≡ true) × Spells n z (written z place e)
      zone g true t =
          let h = ltb-true place 64 t in
          ((c.writes h).1, (c.writes h).0, (c.writes h).2)
      zone g false t =
          let k = ltb-false place 64 t in
          let h : ¬ (place < 64) = λ q. omega arith in
          (ap zone_of (same g h) ∙ c.stays h, ap formed (same g h) ∙ g, spells_same n z (written z place e) (ap spelling_of (same g h)))

  -- a change under the name that is to stand at its place
  pub promise_changed : (at : Maybe ℕ) (name : Name) (w : Change) → refusal ≡ 0 → Changes n z (request (zone_of z)) at (λ p. name) w → Settles request z n family policy (settled z name w)
  promise_changed at name (Stays a) r c =
      let g : formed z ≡ true = (not_refused z n family policy r).form in
      subst (λ (x : Zone). Promised z n refusal (request (zone_of z)) (record { refusal = 0; answer = number_of (means a); zone = x })) (no_place z 64 blank (formed_places z g) (omega arith))
      (promise_done (number_of (means a)) 64 blank r (c blank))
  promise_changed at name (Writes place f) r c = promise_done 0 place (place_of name f) r c.1

-- ---- decisions on what was visited

placed : (p : Maybe ℕ) (e : Records) → place_at (standing p e) ≡ p
placed Nothing e = refl
placed (Some p) e = refl

-- an entry that is written nowhere may be any
pub decided_as : {n : Octets} {z : Zone} {right : Outcome} {answer place : ℕ} (e f : Entry) → (place < 64 → e ≡ f) → Decided n z right answer place e → Decided n z right answer place f
decided_as {n} {z} {right} {answer} {place} e f q c = record {
  answer_is = c.answer_is;
  stays = c.stays;
  writes = λ h. subst (λ (x : Entry). (formed (written z place x) ≡ true) × (zone_of (written z place x) ≡ right.zone) × Spells n z (written z place x)) (q h) (c.writes h);
  needed = c.needed;
}

-- a change at the place found, under the name that stands there, is one under the name visited
module _ (z : Zone) (n : Name) (v : Visit) (g : formed z ≡ true) (t : Visited z (name_of n) v) (request : Name → rules.Zone → Outcome) (w : Change) (e : Records) (f : e ≡ records_of v.entry) where
  abbrev o : Maybe Standing
  o = standing v.survey.found e

  -- what stands at the place found is what was visited
  seen : Seen z n v.entry o
  seen = record { form = g; found_is = placed v.survey.found e ∙ t.surveyed.places.found_is; records_is = λ s h. go v.survey.found refl s h }
    where
      go : (p : Maybe ℕ) → v.survey.found ≡ p → (s : Standing) → standing p e ≡ Some s → s.records ≡ records_of (get_or z.entries s.place v.entry)
      go Nothing k s h = absurd (cc)
      go (Some p) k s h =
          let m : ◌≡◌ {A = Standing} (record { place = p; records = e }) s = cc in
          subst (λ (x : Standing). x.records ≡ records_of (get_or z.entries x.place v.entry)) m (f ∙ ap records_of (t.entry_is v.entry p k))

  pub changes_visited : (s : Maybe Standing) → s ≡ o → Decides request s w → Changes (name_of n) z (request n (zone_of z)) (place_at o) (λ p. v.entry.name) w
  changes_visited s i d = stays_named w ((subst (λ (x : Maybe Standing). Decides request x w) i d).decides z n v.entry seen)
    where
      -- the name that stands at the place found is the one visited
      stays_named : (x : Change) → Changes (name_of n) z (request n (zone_of z)) (place_at o) (λ p. (get_or z.entries p v.entry).name) x
          → Changes (name_of n) z (request n (zone_of z)) (place_at o) (λ p. v.entry.name) x
      stays_named (Stays a) c = c
      stays_named (Writes p r) c =
          let k : v.survey.found ≡ Some p = sym (placed v.survey.found e) ∙ c.0 in
          (c.0, decided_as _ _ (λ h. ap (λ (y : Entry). place_of y.name r) (sym (t.entry_is v.entry p k))) c.1)

module _ (z : Zone) (n : Name) (family policy : ℕ) (v : Visit) (q : refusal_of z (name_of n) family policy ≡ 0) (t : Visited z (name_of n) v) (request : Name → rules.Zone → Outcome) (w : Change) where
  passes : Passed z (name_of n) family policy
  passes = not_refused z (name_of n) family policy q

  pub comes_adds : Adds request v.survey w → Settles (request n) z (name_of n) family policy (settled z n w)
  comes_adds d = promise_changed z (name_of n) family policy (request n) v.survey.free n w q (d.adds z n passes.form passes.name t.surveyed.places)

  module _ (e : Records) (f : e ≡ records_of v.entry) where
    pub comes_decides : (s : Maybe Standing) → s ≡ standing v.survey.found e → Decides request s w → Settles (request n) z (name_of n) family policy (settled z v.entry.name w)
    comes_decides s i d =
        promise_changed z (name_of n) family policy (request n) (place_at (standing v.survey.found e)) v.entry.name w q (changes_visited z n v passes.form t request w e f s i d)
