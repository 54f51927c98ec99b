-- The laws of one place read and written. Assumes nothing.
use mathlib.Core.Path.{◌≡◌, refl, sym, ◌∙◌, ap, subst}
use mathlib.Core.Bool.{and-false}
use mathlib.Core.List.{List, ◌∷◌, []}
use Prim.Native.Nat.{ℕ, ◌+◌, ◌*◌, ◌≤◌, ◌<◌}
use native.Mathlib.Omega.{arith}
use lib.Dec.{eqb}
use lib.ListN.{length, get_or, set, take, drop, replicate, length-drop}
use lib.Seq.{set_out, length-take-le}
use borrow.Author.Tests.{eq-eqb, ne_eqb, lt-ltb, le-ltb}
use Rattle.octets.specs.Write.{put, Laid, Wrote}
use Rattle.octets.proofs.WriteLaws.{length_put, wrote_length, written}
use Rattle.zone.specs.declared.entry.Entry.{Entry}
use Rattle.zone.specs.declared.entry.Records.{Records}
use Rattle.zone.specs.Survey.{place_of}
use Rattle.zone.proofs.SurveyLaws.{blank, get_d_any}
use Rattle.lentzone.specs.Decode.{entry_in, rows, zone_in, OnePlace}
use Rattle.lentzone.specs.Encode.{entry_octets, SizedEntry}
use Rattle.lentzone.specs.Inner.{records_octets, row_at, name_at, PutRecords, PutEntry, Written}
use Rattle.lentzone.proofs.DecodeLaws.{rows_length, rows_at, zone_length, zone_at, zone_put, one_place_same, one_place_put}
use Rattle.lentzone.proofs.EncodeLaws.{length_part, entry_again, entry_length, records_length, records_put}

module _ (z : List ℕ) (place : ℕ) where
  -- ---- read

  pub row_there : length z ≡ 23936 → place < 64 → take 374 (drop (place * 374) z) ≡ row_at z place
  unfolding row_at
  row_there l h = sym (rw (eq-eqb (length z) 23936 l, lt-ltb place 64 h))

  pub row_no_zone : ¬ (length z ≡ 23936) → replicate 374 0 ≡ row_at z place
  unfolding row_at
  row_no_zone l = sym (rw (ne_eqb (length z) 23936 l))

  pub row_no_place : 64 ≤ place → replicate 374 0 ≡ row_at z place
  unfolding row_at
  row_no_place h = sym (rw (le-ltb place 64 h, and-false (eqb (length z) 23936)))

  -- the same, read among all rows
  pub row_read : (rs : List (List ℕ)) (d : List ℕ) → length z ≡ 23936 → rs ≡ rows 374 64 z → place < 64 → get_or rs place d ≡ row_at z place
  row_read rs d l e h =
      let n : length rs ≡ 64 = ap length e ∙ rows_length 374 64 z in
      get_d_any rs place d [] (omega arith) ∙ ap (λ (s : List (List ℕ)). get_or s place []) e ∙ rows_at 374 64 z place h ∙ row_there l h

  -- what stands there, and its name, are those of the zone that the octets hold
  pub place_at : length z ≡ 23936 → place < 64 → (d : Entry) → entry_in (row_at z place) ≡ get_or (zone_in z).entries place d
  place_at l h d =
      let n = zone_length z in
      sym (get_d_any (zone_in z).entries place d blank (omega arith) ∙ zone_at z place h ∙ ap entry_in (row_there l h))

  -- ---- written

  module _ (e : Entry) where
    pub written_no_zone : ¬ (length z ≡ 23936) → Written z place e z
    written_no_zone l = record { size = refl; no_zone = λ n. refl; stays = λ h. refl; elsewhere = one_place_same z; writes = λ k. absurd (l k) }

    pub written_no_place : 64 ≤ place → Written z place e z
    written_no_place h = record {
      size = refl;
      no_zone = λ n. refl;
      stays = λ k. refl;
      elsewhere = one_place_same z;
      writes = λ l. sym (ap (λ (es : List Entry). record { entries = es }) (set_out (zone_in z).entries place e (let n = zone_length z in omega arith)));
    }

    pub written_put : (after : List ℕ) → length z ≡ 23936 → place < 64 → SizedEntry e → after ≡ put z (place * 374) (entry_octets e) → Written z place e after
    written_put after l h s q =
        let k : length (entry_octets e) ≡ 374 = entry_length e s in
        record {
          size = ap length q ∙ length_put z (place * 374) (entry_octets e) (omega arith);
          no_zone = λ n. absurd (n l);
          stays = λ n. absurd (omega arith);
          elsewhere = subst (OnePlace z) (sym q) (one_place_put z (entry_octets e) place l h k);
          writes = λ n.
              ap zone_in q ∙ zone_put z (entry_octets e) place l h k
              ∙ ap (λ (x : Entry). record { entries = set (zone_in z).entries place x }) (entry_again e s);
        }

  -- a place written whole, and all of it but the name
  module _ (l : length z ≡ 23936) (h : place < 64) (after : List ℕ) (end : ℕ) where
    pub written_entry : (e : Entry) → PutEntry e z (place * 374) after end → Written z place e after
    written_entry e p =
        let k : length (entry_octets e) ≡ 374 = entry_length e p.sized in
        written_put e after l h p.sized (p.wrote.fit (omega arith)).list

    pub written_records : (r : Records) (one : List ℕ) (next : ℕ) → Laid z (place * 374) (r.kind ∷ []) one next → PutRecords r one (place * 374 + 257) after end
        → Written z place (place_of (name_at z place) r) after
    written_records r one next f p =
        let w : Wrote z (place * 374) (r.kind ∷ []) one next = (written f).fit (omega arith) in
        let n : length one ≡ length z = wrote_length w in
        let k : length (records_octets r) ≡ 117 = records_length r p.sized in
        let room : place * 374 + 374 ≤ length z = omega arith in
        let row : take 374 (drop (place * 374) z) ≡ row_at z place = row_there l h in
        written_put (place_of (name_at z place) r) after l h
        (record { name = ap (λ (x : List ℕ). length (entry_in x).name.octets) (sym row) ∙ name_length room; dhcid = p.sized.dhcid; v4 = p.sized.v4; v6 = p.sized.v6 })
        ((p.wrote.fit (omega arith)).list
        ∙ ap (λ (x : List ℕ). put x (place * 374 + 257) (records_octets r)) w.list
        ∙ records_put z (place * 374) r p.sized room
        ∙ ap (λ (x : List ℕ). put z (place * 374) (entry_octets (place_of (entry_in x).name r))) row)
      where
        name_length : place * 374 + 374 ≤ length z → length (entry_in (take 374 (drop (place * 374) z))).name.octets ≡ 255
        name_length room =
            let d : 374 ≤ length (drop (place * 374) z) = rw (length-drop (place * 374) z) (omega arith) in
            let t : length (take 374 (drop (place * 374) z)) ≡ 374 = length-take-le 374 (drop (place * 374) z) d in
            length_part 1 255 (take 374 (drop (place * 374) z)) (omega arith)
