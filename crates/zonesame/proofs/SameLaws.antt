-- Two zones with as many names, of which one has all that stands in the other, are the same, and only those; and what the call's answers
-- are made of. Assumes nothing.
use mathlib.Core.Path.{◌≡◌, refl, sym, ◌∙◌, ap, subst}
use mathlib.Core.Bool.{Bool, true, false, cond, ◌&&◌, true≢false}
use mathlib.Core.List.{List}
use mathlib.Core.Option.{Option, none, some}
use Prim.Native.Nat.{ℕ, ◌+◌, ◌-◌, ◌≤◌}
use native.Mathlib.Decide.{ℕ_discrete}
use native.Mathlib.Omega.{arith}
use lib.ListN.{length}
use Rattle.octets.proofs.BoolLaws.{and_left, and_right}
use Rattle.octets.proofs.CompareLaws.{same_true}
use Rattle.octets.proofs.CountLaws.{one, counts_le, counts_mark}
use Rattle.octets.specs.Compare.{same_octets}
use Rattle.octets.specs.Count.{Octets, Counts}
use Rattle.zone.specs.declared.survey.Survey.{Survey}
use Rattle.zone.specs.Meaning.{keys}
use Rattle.update.specs.Rules as rules
use Rattle.update.specs.Rules.{Host, there}
use Rattle.update.specs.Meaning.{zone_of}
use Rattle.update.proofs.ZoneLaws.{same_zone}
use Rattle.lentzone.specs.Decode.{zone_in, is_zone}
use Rattle.lentzone.specs.Inner.{SurveyedIn}
use Rattle.lentzone.proofs.FormLaws.{zone_octets, zone_form, survey_zone}
use Rattle.request.proofs.PlaceLaws.{formed_order, formed_names, form_of}
use Rattle.zonesame.specs.declared.SameAnswer.{SameAnswer}
use Rattle.zonesame.specs.Same.{same_refusal, SamePromise}
use Rattle.zonesame.specs.Inner.{all_stand, Tells}
use Rattle.zonesame.proofs.StandLaws.{all_told, all_tell}

module _ (z n : List ℕ) (s : Survey) (v : SurveyedIn z n s) where
  pub survey_broken : s.inorder ≡ false → false ≡ is_zone z
  survey_broken h = sym (ap (λ (b : Bool). b && s.distinct) h) ∙ survey_zone z n s v

  pub survey_rest : s.inorder ≡ true → s.distinct ≡ is_zone z
  survey_rest h = sym (ap (λ (b : Bool). b && s.distinct) h) ∙ survey_zone z n s v

-- ---- where all of one kind are of another and there are as many of each, there are no others

counts_all : {n : ℕ} {p q : Octets → Bool} → Counts n p → Counts n q → ((a : Octets) → p a ≡ true → q a ≡ true) → (a : Octets) → q a ≡ true → p a ≡ true
counts_all {n = n} {p = p} {q = q} c d s a h = go (p a) refl
  where
    within : (b : Octets) → cond (same_octets a b) true (p b) ≡ true → q b ≡ true
    within b = on (same_octets a b) refl
      where
        on : (v : Bool) → same_octets a b ≡ v → cond v true (p b) ≡ true → q b ≡ true
        on true e t = ap q (sym (same_true a b e)) ∙ h
        on false e t = s b t

    go : (v : Bool) → p a ≡ v → v ≡ true
    go true e = refl
    go false e =
        let m : Counts (n + 1 - one false) (λ b. cond (same_octets a b) true (p b)) =
        subst (λ (v : Bool). Counts (n + 1 - one v) (λ b. cond (same_octets a b) true (p b))) e (counts_mark a true c) in
        let l : n + 1 - 0 ≤ n = counts_le m d within in
        absurd (omega arith)

-- ---- one zone has all of the other

module _ (left right : List ℕ) (p : is_zone left ≡ true) (q : is_zone right ≡ true) where
  has_all : all_stand right (zone_in left).entries ≡ true → (k : Octets) (h : Host) → (zone_of (zone_in left)).at k ≡ some h → (zone_of (zone_in right)).at k ≡ some h
  has_all t k h e =
      all_told right (zone_octets right q) (zone_form right q) (zone_in left).entries (formed_order (zone_in left) (zone_form left p)) t k h (unfold zone_of in e)

  all_of : zone_of (zone_in left) ≡ zone_of (zone_in right) → all_stand right (zone_in left).entries ≡ true
  all_of e =
      all_tell right (zone_octets right q) (zone_form right q) (zone_in left).entries (formed_order (zone_in left) (zone_form left p)) (formed_names (zone_in left) (zone_form left p))
      (λ k h s. ap (λ (x : rules.Zone). x.at k) (sym e) ∙ (unfold zone_of in s))

-- where each has what the other has, they agree everywhere
agree : (x y : Option Host) → ((h : Host) → x ≡ some h → y ≡ some h) → ((h : Host) → y ≡ some h → x ≡ some h) → x ≡ y
agree none none f g = refl
agree none (some h) f g = g h refl
agree (some h) y f g = sym (f h refl)

abbrev Same : List ℕ → List ℕ → Type 0
Same left right = zone_of (zone_in left) ≡ zone_of (zone_in right)

module _ (left right : List ℕ) (both : (is_zone left && is_zone right) ≡ true) where
  p : is_zone left ≡ true
  p = and_left (is_zone left) (is_zone right) both

  pub right_zone : is_zone right ≡ true
  right_zone = and_right (is_zone left) (is_zone right) both

  pub left_length : length left ≡ 23936
  left_length = zone_octets left p

  pub right_length : length right ≡ 23936
  right_length = zone_octets right right_zone

  -- each name of the first stands in the second
  among : all_stand right (zone_in left).entries ≡ true → (k : Octets) → there ((zone_of (zone_in left)).at k) ≡ true → there ((zone_of (zone_in right)).at k) ≡ true
  among t k = go ((zone_of (zone_in left)).at k) refl
    where
      go : (x : Option Host) → (zone_of (zone_in left)).at k ≡ x → there x ≡ true → there ((zone_of (zone_in right)).at k) ≡ true
      go none e h = absurd (true≢false (sym h))
      go (some x) e h = ap there (has_all left right p right_zone t k x e)

  module _ (m n : ℕ) (lefts : m ≡ length (keys (zone_in left).entries)) (rights : n ≡ length (keys (zone_in right).entries)) where
    pub other_number : ¬ (m ≡ n) → Tells (Same left right) false
    unfolding zone_of
    other_number d = record {
      told = λ e. absurd (true≢false (sym e));
      tells = λ e. absurd (d (lefts ∙ ap (λ (x : rules.Zone). x.size) e ∙ sym rights));
    }

    pub as_many : m ≡ n → (b : Bool) → b ≡ all_stand right (zone_in left).entries → Tells (Same left right) b
    as_many e b k = record {
      told = λ t.
          same_zone (zone_of (zone_in left)) (zone_of (zone_in right)) (form_of (zone_in left) (zone_form left p)) (form_of (zone_in right) (zone_form right right_zone))
          (λ a. agree _ _ (has_all left right p right_zone (sym k ∙ t) a) (back (sym k ∙ t) a));
      tells = λ s. k ∙ all_of left right p right_zone s;
    }
      where
        size : (zone_of (zone_in right)).size ≡ (zone_of (zone_in left)).size
        size = unfold zone_of in sym rights ∙ sym e ∙ lefts

        -- each name of the second stands in the first: there are no more of them
        all : all_stand right (zone_in left).entries ≡ true → (a : Octets) → there ((zone_of (zone_in right)).at a) ≡ true → there ((zone_of (zone_in left)).at a) ≡ true
        all t =
            counts_all (form_of (zone_in left) (zone_form left p)).names
            (subst (λ (s : ℕ). Counts s (λ a. there ((zone_of (zone_in right)).at a))) size (form_of (zone_in right) (zone_form right right_zone)).names)
            (among t)

        back : all_stand right (zone_in left).entries ≡ true → (a : Octets) (h : Host) → (zone_of (zone_in right)).at a ≡ some h → (zone_of (zone_in left)).at a ≡ some h
        back t a h r = go ((zone_of (zone_in left)).at a) refl (all t a (ap there r))
          where
            go : (x : Option Host) → (zone_of (zone_in left)).at a ≡ x → there x ≡ true → (zone_of (zone_in left)).at a ≡ some h
            go none s u = absurd (true≢false (sym u))
            go (some x) s u = s ∙ sym (has_all left right p right_zone t a x s) ∙ r

-- ---- the promise

abbrev answer : ℕ → ℕ → SameAnswer
answer refusal same = record { refusal = refusal; same = same }

module _ (left right : List ℕ) where
  promise_17 : same_refusal left right ≡ 17 → SamePromise left right (answer 17 0)
  promise_17 e = record {
    refusal_is = sym e;
    one_or_zero = omega arith;
    refused = λ n. refl;
    means_same = λ (h : ◌≡◌ {A = ℕ} 0 1). absurd (omega arith);
    says_same = λ (h : same_refusal left right ≡ 0) s. absurd (omega arith);
  }

  pub promise_refused : (is_zone left && is_zone right) ≡ false → SamePromise left right (answer 17 0)
  promise_refused h = promise_17 (unfold same_refusal in rw h)

  pub promise_told : (is_zone left && is_zone right) ≡ true → (b : Bool) (n : ℕ) → n ≡ cond b 1 0 → Tells (Same left right) b → SamePromise left right (answer 0 n)
  promise_told h b n e t = subst (λ (k : ℕ). SamePromise left right (answer 0 k)) (sym e) (go b t)
    where
      none : same_refusal left right ≡ 0
      none = unfold same_refusal in rw h

      go : (c : Bool) → Tells (Same left right) c → SamePromise left right (answer 0 (cond c 1 0))
      go true u = record { refusal_is = sym none; one_or_zero = omega arith; refused = λ m. absurd (m none); means_same = λ k. u.told refl; says_same = λ k s. refl }
      go false u = record {
        refusal_is = sym none;
        one_or_zero = omega arith;
        refused = λ m. refl;
        means_same = λ (k : ◌≡◌ {A = ℕ} 0 1). absurd (omega arith);
        says_same = λ k s. absurd (true≢false (sym (u.tells s)));
      }

  -- it determines the answer
  pub determined : (r s : SameAnswer) → SamePromise left right r → SamePromise left right s → r ≡ s
  determined r s a b =
      let e : r.refusal ≡ s.refusal = a.refusal_is ∙ sym b.refusal_is in
      let f : r.same ≡ s.same = go (ℕ_discrete (same_refusal left right) 0) in
      λ i. record { refusal = e i; same = f i }
    where
      go : Dec (same_refusal left right ≡ 0) → r.same ≡ s.same
      go (no n) = a.refused n ∙ sym (b.refused n)
      go (yes z) = on (ℕ_discrete r.same 1) (ℕ_discrete s.same 1)
        where
          on : Dec (r.same ≡ 1) → Dec (s.same ≡ 1) → r.same ≡ s.same
          on (yes h) k = h ∙ sym (b.says_same z (a.means_same h))
          on (no h) (yes k) = absurd (h (a.says_same z (b.means_same k)))
          on (no h) (no k) = let m = a.one_or_zero in let n = b.one_or_zero in omega arith
