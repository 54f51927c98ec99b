-- The laws of what stands at two places, compared where it lies. Assumes nothing.
use mathlib.Core.Path.{◌≡◌, refl, sym, ◌∙◌, ap}
use mathlib.Core.Bool.{Bool, true, false, not, cond}
use mathlib.Core.List.{List, [], ◌∷◌, map}
use Prim.Native.Nat.{ℕ, zero, suc, ◌+◌, ◌/◌, ◌<◌}
use Rattle.std.specs.Prelude.{count_by}
use Rattle.std.proofs.lemmas.List.Recursion.{is_count_by}
use Rattle.octets.specs.Count.{Octets}
use Rattle.std.specs.Simd.{first_chunks}
use Rattle.zone.specs.Meaning.{used, keys, key_of}
use Rattle.lentzone.proofs.DecodeLaws.{rows_at}
use Rattle.lentzone.proofs.PlaceLaws.{row_there}
use native.Mathlib.Omega.{arith}
use lib.Dec.{eqb}
use lib.ListN.{length, get_or, take, drop, length-drop}
use lib.Seq.{take_all, drop-drop}
use borrow.Author.Tests.{eqb-true, eq-eqb, ne_eqb}
use Rattle.octets.proofs.BoolLaws.{and_left, and_right}
use Rattle.octets.proofs.CompareLaws.{same_true}
use Rattle.octets.specs.Compare.{same_octets}
use Rattle.zone.specs.Survey.{records_of}
use Rattle.lentzone.specs.Decode.{part, rows, entry_in, set4_in, set6_in}
use Rattle.lentzone.specs.Inner.{row_at, records_at}
use Rattle.zonesame.specs.Inner.{same_host, same_place}
use Rattle.zonesame.proofs.HostLaws.{host_tells}
use Rattle.zonesame.proofs.SearchLaws.{row_length}

-- ---- the places of a zone

pub chunk_rows : (n : ℕ) (z : List ℕ) → first_chunks 374 n z ≡ rows 374 n z
unfolding rows
chunk_rows zero z = refl
chunk_rows (suc n) z = ap (λ (l : List (List ℕ)). take 374 z ∷ l) (chunk_rows n (drop 374 z))

pub zone_rows : (z : List ℕ) → length z ≡ 23936 → first_chunks 374 (length z / 374) z ≡ rows 374 64 z
zone_rows z l = ap (λ (n : ℕ). first_chunks 374 (n / 374) z) l ∙ chunk_rows 64 z

pub row_of : (z : List ℕ) (place : ℕ) → length z ≡ 23936 → place < 64 → get_or (rows 374 64 z) place [] ≡ row_at z place
row_of z place l h = rows_at 374 64 z place h ∙ row_there z place l h

module _ (z : List ℕ) (places : List (List ℕ)) (l : length z ≡ 23936) (are : places ≡ rows 374 64 z) (i : ℕ) (h : i < 64) where
  pub row_is : get_or places i [] ≡ row_at z i
  row_is = ap (λ (p : List (List ℕ)). get_or p i []) are ∙ row_of z i l h

  pub row_used : ¬ (get_or (get_or places i []) 0 0 ≡ 0) → used (entry_in (row_at z i)) ≡ true
  unfolding used
  row_used n = ap not (ne_eqb _ _ (λ e. n (ap (λ (r : List ℕ). get_or r 0 0) row_is ∙ e)))

  pub row_free : get_or (get_or places i []) 0 0 ≡ 0 → used (entry_in (row_at z i)) ≡ false
  unfolding used
  row_free e = ap not (eq-eqb _ _ (sym (ap (λ (r : List ℕ). get_or r 0 0) row_is) ∙ e))

-- the names at places counted
pub names_counted : (l : List (List ℕ)) → count_by (λ e. not (eqb (get_or e 0 0) 0)) l ≡ length (keys (map entry_in l))
unfolding keys used
names_counted l = sym (is_count_by (λ l. length (keys (map entry_in l))) (λ e. not (eqb (get_or e 0 0) 0)) refl step l)
  where
    go : (n : ℕ) (k : Octets) (b : Bool) (ks : List Octets) → n ≡ length ks → length (cond (not b) (k ∷ ks) ks) ≡ cond (not b) (1 + n) n
    go n k true ks h = sym h
    go n k false ks h = omega arith

    step : (e : List ℕ) (l : List (List ℕ)) → length (keys (map entry_in (e ∷ l))) ≡ cond (not (eqb (get_or e 0 0) 0)) (1 + length (keys (map entry_in l))) (length (keys (map entry_in l)))
    step e l = go _ (key_of (entry_in e)) (eqb (get_or e 0 0) 0) (keys (map entry_in l)) refl

-- ---- two places compared

module _ (a b : List ℕ) where
  pub other_kind : ¬ (get_or a 0 0 ≡ get_or b 0 0) → false ≡ same_place a b
  unfolding same_place
  other_kind n = sym (rw (ne_eqb (get_or a 0 0) (get_or b 0 0) n))

  pub same_kind : get_or a 0 0 ≡ get_or b 0 0 → same_octets (take 117 (drop 257 a)) (take 117 (drop 257 b)) ≡ same_place a b
  unfolding same_place part
  same_kind e = sym (rw (eq-eqb (get_or a 0 0) (get_or b 0 0) e))

  module _ (l : length a ≡ 374) (m : length b ≡ 374) (s : same_place a b ≡ true) where
    kinds : get_or a 0 0 ≡ get_or b 0 0
    unfolding same_place
    kinds = eqb-true (get_or a 0 0) (get_or b 0 0) (and_left (eqb (get_or a 0 0) (get_or b 0 0)) (same_octets (part 257 117 a) (part 257 117 b)) s)

    parts : part 257 117 a ≡ part 257 117 b
    unfolding same_place
    parts = same_true (part 257 117 a) (part 257 117 b) (and_right (eqb (get_or a 0 0) (get_or b 0 0)) (same_octets (part 257 117 a) (part 257 117 b)) s)

    whole : (x : List ℕ) → length x ≡ 374 → part 257 117 x ≡ drop 257 x
    unfolding part
    whole x k = take_all 117 (drop 257 x) (let d = length-drop 257 x in omega arith)

    behind : drop 257 a ≡ drop 257 b
    behind = sym (whole a l) ∙ parts ∙ whole b m

    -- a part from there on
    from : (k n : ℕ) → part (257 + k) n a ≡ part (257 + k) n b
    unfolding part
    from k n = ap (take n) (sym (drop-drop k 257 a) ∙ ap (drop k) behind ∙ drop-drop k 257 b)

    records : records_of (entry_in a) ≡ records_of (entry_in b)
    records =
        let d : part 257 35 a ≡ part 257 35 b = from 0 35 in
        let v : part 292 17 a ≡ part 292 17 b = from 35 17 in
        let w : part 309 65 a ≡ part 309 65 b = from 52 65 in
        λ i. record { kind = kinds i; dhcid = record { octets = d i }; v4 = set4_in (v i); v6 = set6_in (w i) }

    pub same_place_lem : true ≡ same_host (records_of (entry_in a)) (records_of (entry_in b))
    same_place_lem = sym (ap (same_host (records_of (entry_in a))) (sym records) ∙ host_tells (entry_in a) (entry_in a) refl)

-- the places of two zones
pub same_rows : (left right : List ℕ) (place there : ℕ) → length left ≡ 23936 → length right ≡ 23936 → place < 64 → there < 64
    → same_place (row_at left place) (row_at right there) ≡ true → true ≡ same_host (records_at left place) (records_at right there)
same_rows left right place there l m h k s = same_place_lem (row_at left place) (row_at right there) (row_length left place l h) (row_length right there m k) s
