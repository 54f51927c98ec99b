-- The laws of the search for a name's place in a zone of good form, where it is the only one. Assumes nothing.
use mathlib.Core.Path.{◌≡◌, refl, sym, ◌∙◌, ap}
use mathlib.Core.Bool.{Bool, true, false, ◌&&◌, true≢false}
use mathlib.Core.List.{List, [], ◌∷◌}
use Rattle.std.specs.Prelude.{Option, Some, None}
use Prim.Native.Nat.{ℕ, zero, suc, ◌+◌, ◌*◌, ◌-◌, ◌<◌}
use native.Mathlib.Decide.{ℕ_discrete}
use native.Mathlib.Omega.{arith}
use lib.ListN.{length, get_or, set, drop, length-drop, length-set}
use lib.Seq.{length-take-le, get_or-set_same, get_or-set_other}
use borrow.Author.Tests.{eq-eqb}
use Rattle.octets.specs.Compare.{same_octets}
use Rattle.octets.specs.Count.{Octets}
use Rattle.octets.proofs.BoolLaws.{and_both, and_left, and_right}
use Rattle.dname.specs.Name.{key, same_name, name_of}
use Rattle.dname.proofs.KeyLaws.{same_octets_name}
use Rattle.zone.specs.declared.entry.Entry.{Entry}
use Rattle.zone.specs.Meaning.{used, key_of}
use Rattle.zone.specs.Survey.{fingerprint_words, named, place_from}
use Rattle.zone.proofs.FingerprintLaws.{fingerprint_differ, fingerprint_key}
use Rattle.zone.proofs.SurveyLaws.{blank}
use Rattle.lentzone.specs.Decode.{entry_in, zone_in, is_zone}
use Rattle.lentzone.specs.Inner.{place_in, row_at, name_at}
use Rattle.lentzone.proofs.DecodeLaws as decode
use Rattle.lentzone.proofs.FormLaws.{zone_octets, zone_form}
use Rattle.lentzone.proofs.PlaceLaws.{row_there, place_at}
use Rattle.request.proofs.PlaceLaws.{Alone, None as Nowhere, alone_found, here_at, here_none, found_below, formed_names}
use Rattle.zonesame.specs.Inner.{Fingerprints, spelled_so}

-- ---- the octets of a place

pub row_length : (z : List ℕ) (place : ℕ) → length z ≡ 23936 → place < 64 → length (row_at z place) ≡ 374
row_length z place l h =
    let d : length (drop (place * 374) z) ≡ length z - place * 374 = length-drop (place * 374) z in
    ap length (sym (row_there z place l h)) ∙ length-take-le 374 (drop (place * 374) z) (omega arith)

-- a name of these very octets is that name
pub spelled_named : (n : Octets) (e : Entry) → spelled_so n e ≡ true → named n e ≡ true
unfolding spelled_so named
spelled_named n e h =
    let s = same_octets (name_of e.name) n in
    and_both (used e) (same_name (name_of e.name) n) (and_left (used e) s h) (same_octets_name (name_of e.name) n (and_right (used e) s h))

-- ---- one place only

abbrev Hit : List Entry → Octets → ℕ → Type 0
Hit es k i = (used (get_or es i blank) && same_octets (key_of (get_or es i blank)) k) ≡ true

once : (es : List Entry) (k : Octets) (i j : ℕ) → i < length es → j < length es → Hit es k i → Hit es k j → Alone i k es → Alone j k es → i ≡ j
once [] k i j p q s t a b = absurd (omega arith)
once (x ∷ es) k zero zero p q s t a b = refl
once (x ∷ es) k zero (suc j) p q s t a b = absurd (true≢false (sym s ∙ b.0))
once (x ∷ es) k (suc i) zero p q s t a b = absurd (true≢false (sym t ∙ a.0))
once (x ∷ es) k (suc i) (suc j) p q s t a b = ap suc (once es k i j (omega arith) (omega arith) s t a.1 b.1)

none_at : {A : Type 0} (f : A → Bool) (l : List A) (d : A) (i : ℕ) → i < length l → Nowhere f l → f (get_or l i d) ≡ false
none_at f [] d i h n = absurd (omega arith)
none_at f (x ∷ l) d zero h n = n.0
none_at f (x ∷ l) d (suc i) h n = none_at f l d i (omega arith) n.1

module _ (z n : List ℕ) (g : is_zone z ≡ true) where
  abbrev es : List Entry
  es = (zone_in z).entries

  abbrev r : Option ℕ
  r = place_in z n

  found : r ≡ place_from (named n) 0 None es
  unfolding place_in
  found = rw (eq-eqb (length z) 23936 (zone_octets z g))

  -- the place of a name is one of the 64
  pub place_below : (place : ℕ) → Some place ≡ place_in z n → place < 64
  place_below place q = found_below (zone_in z) (zone_form z g) n blank place (sym (q ∙ found))

  -- a place where the name stands is its place
  pub only_place : (place : ℕ) → place < 64 → named n (entry_in (row_at z place)) ≡ true → place_in z n ≡ Some place
  unfolding named same_name
  only_place place h t = go r refl
    where
      low : place < length es
      low = omega (arith, decode.zone_length z)

      here : named n (get_or es place blank) ≡ true
      here = ap (named n) (sym (place_at z place (zone_octets z g) h blank)) ∙ t

      hit : Hit es (key n) place
      hit = here

      go : (o : Option ℕ) → r ≡ o → r ≡ Some place
      go None q = absurd (true≢false (sym here ∙ none_at (named n) es blank place low (here_none (named n) blank es (sym found ∙ q))))
      go (Some p) q =
          let a = here_at (named n) blank es p (sym found ∙ q) in
          let o : Hit es (key n) p = a.1 in
          let d = formed_names (zone_in z) (zone_form z g) in
          q ∙ ap Some (once es (key n) p place a.0 low o hit (alone_found es p blank (key n) a.0 o d) (alone_found es place blank (key n) low hit d))

-- ---- fingerprints

module _ (z : List ℕ) where
  pub prints_none : (f : List ℕ) → length f ≡ 64 → Fingerprints z f 0
  prints_none f l = record { size = l; each = λ place h. absurd (omega arith) }

  module _ (f : List ℕ) (i : ℕ) (p : Fingerprints z f i) where
    pub prints_free : used (entry_in (row_at z i)) ≡ false → Fingerprints z f (i + 1)
    prints_free u = record { size = p.size; each = λ place h t. go place h t (ℕ_discrete place i) }
      where
        go : (place : ℕ) → place < i + 1 → used (entry_in (row_at z place)) ≡ true → Dec (place ≡ i) → get_or f place 0 ≡ fingerprint_words (name_of (name_at z place))
        go place h t (yes e) = absurd (true≢false (sym t ∙ ap (λ (k : ℕ). used (entry_in (row_at z k))) e ∙ u))
        go place h t (no n) = p.each place (omega arith) t

    pub prints_used : i < 64 → (x : ℕ) → x ≡ fingerprint_words (name_of (name_at z i)) → Fingerprints z (set f i x) (i + 1)
    prints_used b x q = record { size = length-set f i x ∙ p.size; each = λ place h t. go place h t (ℕ_discrete place i) }
      where
        low : i < length f
        low = let l = p.size in omega arith

        go : (place : ℕ) → place < i + 1 → used (entry_in (row_at z place)) ≡ true → Dec (place ≡ i) → get_or (set f i x) place 0 ≡ fingerprint_words (name_of (name_at z place))
        go place h t (yes e) =
            ap (λ (k : ℕ). get_or (set f i x) k 0) e ∙ get_or-set_same f i x 0 low ∙ q ∙ ap (λ (k : ℕ). fingerprint_words (name_of (name_at z k))) (sym e)
        go place h t (no n) = get_or-set_other f i place x 0 n ∙ p.each place (omega arith) t

-- where the fingerprints differ, the name does not stand
pub print_miss : (z f n : List ℕ) → Fingerprints z f 64 → (place : ℕ) → place < 64 → (own : ℕ) → own ≡ fingerprint_words n → ¬ (get_or f place 0 ≡ own)
    → named n (entry_in (row_at z place)) ≡ false
unfolding named
print_miss z f n p place h own q d = go (used (entry_in (row_at z place))) refl
  where
    go : (u : Bool) → used (entry_in (row_at z place)) ≡ u → (u && same_name (name_of (name_at z place)) n) ≡ false
    go false e = refl
    go true e =
        fingerprint_differ (name_of (name_at z place)) n
        (λ k. d (p.each place h e ∙ fingerprint_key (name_of (name_at z place)) ∙ k ∙ sym (fingerprint_key n) ∙ sym q))
