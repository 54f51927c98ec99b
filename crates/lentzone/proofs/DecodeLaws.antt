-- The laws of a zone in lent octets. Assumes nothing.
use mathlib.Core.Path.{◌≡◌, refl, sym, ◌∙◌, ap}
use mathlib.Core.Bool.{Bool, true, false, cond, not, ◌&&◌, ◌||◌}
use mathlib.Core.List.{List, [], ◌∷◌, ◌++◌, map, append_assoc}
use Prim.Native.Nat.{ℕ, zero, suc, ◌+◌, ◌*◌, ◌-◌, ◌≤◌, ◌<◌}
use native.Mathlib.Nat.{zero-add, add-zero, zero-mul, suc-mul, add_comm, add_assoc, mul-le-mul_right}
use native.Mathlib.Omega.{arith}
use lib.Dec.{leb}
use borrow.Author.Tests.{le-leb, eq-eqb, ne_eqb}
use lib.ListN.{length, get_or, set, take, drop, length-map, length-take, length-drop, get_or-map}
use lib.Seq.{take_at, drop_at, drop-append-add, drop-drop, take-add, take-take, length-take-le, get_or-take, get_or-drop}
use Rattle.std.specs.List.{list_any}
use Rattle.std.specs.Simd.{first_chunks}
use Rattle.octets.specs.Write.{put}
use Rattle.octets.specs.Count.{Octets, distinct, member}
use Rattle.addresses.specs.Addresses.{list4, list6, sound, Counted, listed}
use Rattle.dname.specs.Name.{same_name, name_of, is_full}
use Rattle.zone.specs.Meaning.{used, in_order}
use Rattle.zone.specs.Survey.{named}
use Rattle.zone.specs.declared.entry.Entry.{Entry}
use Rattle.zone.proofs.SurveyLaws.{blank, get_d_any}
use Rattle.lentzone.specs.Decode.{part, entry_in, rows, zone_in, OnePlace}

put_first : (s r : List ℕ) (w : ℕ) → length r ≡ w → put s 0 r ≡ r ++ drop w s
unfolding put
put_first s r w e = rw (zero-add, e)

-- ---- rows

pub rows_length : (w n : ℕ) (s : List ℕ) → length (rows w n s) ≡ n
unfolding rows
rows_length w zero s = refl
rows_length w (suc n) s = ap suc (rows_length w n (drop w s))

pub rows_at : (w n : ℕ) (s : List ℕ) (i : ℕ) → i < n → get_or (rows w n s) i [] ≡ take w (drop (i * w) s)
unfolding rows
rows_at w zero s i h = absurd (omega arith)
rows_at w (suc n) s zero h = rw zero-mul
rows_at w (suc n) s (suc i) h =
    let m : w + i * w ≡ suc i * w = add_comm w (i * w) ∙ sym (suc-mul i w) in
    rows_at w n (drop w s) i (omega arith) ∙ ap (take w) (drop-drop (i * w) w s ∙ ap (λ (k : ℕ). drop k s) m)

module _ (s r : List ℕ) (w k : ℕ) (h : w + k ≤ length s) where
  abbrev far : List ℕ
  far = r ++ drop ((w + k) + length r) s

  cut : put s (w + k) r ≡ take w s ++ (take k (drop w s) ++ far)
  unfolding put
  cut = ap (λ (l : List ℕ). l ++ far) (take-add w k s) ∙ append_assoc (take w s) (take k (drop w s)) far

  take_put : take w (put s (w + k) r) ≡ take w s
  take_put = ap (take w) cut ∙ take_at (take w s) (take k (drop w s) ++ far) w (length-take-le w s (omega arith))

  drop_put : drop w (put s (w + k) r) ≡ put (drop w s) k r
  unfolding put
  drop_put =
      ap (drop w) cut
      ∙ drop_at (take w s) (take k (drop w s) ++ far) w (length-take-le w s (omega arith))
      ∙ ap (λ (l : List ℕ). take k (drop w s) ++ (r ++ l)) (ap (λ (m : ℕ). drop m s) (add_assoc w k (length r)) ∙ sym (drop-drop (k + length r) w s))

map_set : {A B : Type 0} (f : A → B) (l : List A) (i : ℕ) (x : A) → map f (set l i x) ≡ set (map f l) i (f x)
map_set f [] i x = refl
map_set f (y ∷ l) zero x = refl
map_set f (y ∷ l) (suc i) x = ap (λ m. f y ∷ m) (map_set f l i x)

rows_put : (w n : ℕ) (s r : List ℕ) (i : ℕ) → i < n → n * w ≤ length s → length r ≡ w → rows w n (put s (i * w) r) ≡ set (rows w n s) i r
unfolding rows
rows_put w zero s r i h f e = absurd (omega arith)
rows_put w (suc n) s r zero h f e =
    ap (rows w (suc n)) (ap (λ (k : ℕ). put s k r) (zero-mul w) ∙ put_first s r w e)
    ∙ ap (λ (l : List ℕ). l ∷ rows w n (drop w (r ++ drop w s))) (take_at r (drop w s) w e)
    ∙ ap (λ (l : List ℕ). r ∷ rows w n l) (drop_at r (drop w s) w e)
rows_put w (suc n) s r (suc i) h f e =
    let m : suc i * w ≡ w + i * w = suc-mul i w ∙ add_comm (i * w) w in
    let t : n * w + w ≤ length s = rw (suc-mul n w) at f in
    let u : i * w ≤ n * w = mul-le-mul_right w (omega arith) in
    let g : w + i * w ≤ length s = omega arith in
    let d : n * w ≤ length (drop w s) = rw (length-drop w s) (omega arith) in
    ap (λ (k : ℕ). rows w (suc n) (put s k r)) m
    ∙ ap (λ (l : List ℕ). l ∷ rows w n (drop w (put s (w + i * w) r))) (take_put s r w (i * w) g)
    ∙ ap (λ (l : List ℕ). take w s ∷ rows w n l) (drop_put s r w (i * w) g)
    ∙ ap (λ (l : List (List ℕ)). take w s ∷ l) (rows_put w n (drop w s) r i (omega arith) d e)

-- ---- the zone that octets hold

pub zone_length : (s : List ℕ) → length (zone_in s).entries ≡ 64
unfolding zone_in
zone_length s = length-map (rows 374 64 s) entry_in ∙ rows_length 374 64 s

pub zone_at : (s : List ℕ) (i : ℕ) → i < 64 → get_or (zone_in s).entries i blank ≡ entry_in (take 374 (drop (i * 374) s))
unfolding zone_in
zone_at s i h =
    let l : length (map entry_in (rows 374 64 s)) ≡ 64 = length-map (rows 374 64 s) entry_in ∙ rows_length 374 64 s in
    get_d_any (map entry_in (rows 374 64 s)) i blank (entry_in []) (omega arith)
    ∙ get_or-map entry_in (rows 374 64 s) i []
    ∙ ap entry_in (rows_at 374 64 s i h)

-- the same, of a part from a place to another
pub zone_part : (s : List ℕ) (i : ℕ) → i < 64 → get_or (zone_in s).entries i blank ≡ entry_in (take (i * 374 + 374 - i * 374) (drop (i * 374) s))
zone_part s i h =
    let k : i * 374 + 374 - i * 374 ≡ 374 = omega arith in
    zone_at s i h ∙ ap (λ (n : ℕ). entry_in (take n (drop (i * 374) s))) (sym k)

pub zone_kind : (s : List ℕ) (i : ℕ) → i < 64 → (get_or (zone_in s).entries i blank).kind ≡ get_or s (i * 374) 0
zone_kind s i h = ap (λ (e : Entry). e.kind) (zone_at s i h) ∙ get_or-take 374 (drop (i * 374) s) 0 0 (omega arith) ∙ get_or-drop (i * 374) s 0 0 ∙ ap (λ (n : ℕ). get_or s n 0) (add-zero (i * 374))

-- whether a place is used
pub zone_free : (s : List ℕ) (i : ℕ) → i < 64 → get_or s (i * 374) 0 ≡ 0 → used (get_or (zone_in s).entries i blank) ≡ false
unfolding used
zone_free s i h e = ap not (eq-eqb _ _ (zone_kind s i h ∙ e))

pub zone_used : (s : List ℕ) (i : ℕ) → i < 64 → (get_or s (i * 374) 0 ≡ 0 → ⊥) → used (get_or (zone_in s).entries i blank) ≡ true
unfolding used
zone_used s i h n = ap not (ne_eqb _ _ (λ e. n (sym (zone_kind s i h) ∙ e)))

pub part_head : (s : List ℕ) (i : ℕ) → i < 64 → get_or (take (i * 374 + 374 - i * 374) (drop (i * 374) s)) 0 0 ≡ get_or s (i * 374) 0
part_head s i h = ap (λ (e : Entry). e.kind) (sym (zone_part s i h)) ∙ zone_kind s i h

pub order_seen : (e : Entry) (fine : Bool) → used e ≡ true → fine ≡ in_order e → fine ≡ cond (used e) (in_order e) true
order_seen e fine u q = q ∙ sym (rw u)

pub zone_put : (s r : List ℕ) (i : ℕ) → length s ≡ 23936 → i < 64 → length r ≡ 374 → zone_in (put s (i * 374) r) ≡ record { entries = set (zone_in s).entries i (entry_in r) }
unfolding zone_in
zone_put s r i l h e =
    ap (λ (es : List Entry). record { entries = es })
    (ap (map entry_in) (rows_put 374 64 s r i h (omega arith) e) ∙ map_set entry_in (rows 374 64 s) i r)

-- the library's chunks are the rows
pub chunks_rows : (w n : ℕ) (s : List ℕ) → first_chunks w n s ≡ rows w n s
unfolding rows
chunks_rows w zero s = refl
chunks_rows w (suc n) s = ap (λ (l : List (List ℕ)). take w s ∷ l) (chunks_rows w n (drop w s))

pub any_map : {A B : Type 0} (f : A → B) (p : B → Bool) (l : List A) → list_any (λ x. p (f x)) l ≡ list_any p (map f l)
any_map f p [] = refl
any_map f p (x ∷ l) = ap (λ (b : Bool). p (f x) || b) (any_map f p l)

-- one of several places
module _ (rs : List (List ℕ)) (i : ℕ) (h : i < length rs) (d : List ℕ) where
  pub row_entry : get_or (map entry_in rs) i blank ≡ entry_in (get_or rs i d)
  row_entry =
      get_d_any (map entry_in rs) i blank (entry_in d) (rw (length-map rs entry_in) h)
      ∙ get_or-map entry_in rs i d

  pub row_free : get_or (get_or rs i d) 0 0 ≡ 0 → used (get_or (map entry_in rs) i blank) ≡ false
  unfolding used
  row_free e = ap not (eq-eqb _ _ (ap (λ (x : Entry). x.kind) row_entry ∙ e))

  pub row_used : (get_or (get_or rs i d) 0 0 ≡ 0 → ⊥) → used (get_or (map entry_in rs) i blank) ≡ true
  unfolding used
  row_used n = ap not (ne_eqb _ _ (λ e. n (sym (ap (λ (x : Entry). x.kind) row_entry) ∙ e)))

-- ---- nothing changes but one place

pub one_place_same : (s : List ℕ) → OnePlace s s
one_place_same s = record { place = 0; before = refl; behind = refl }

pub one_place_put : (s r : List ℕ) (i : ℕ) → length s ≡ 23936 → i < 64 → length r ≡ 374 → OnePlace s (put s (i * 374) r)
unfolding put
one_place_put s r i l h e =
    let t : length (take (i * 374) s) ≡ i * 374 = length-take-le (i * 374) s (omega arith) in
    record {
      place = i;
      before = take_at (take (i * 374) s) (r ++ drop (i * 374 + length r) s) (i * 374) t;
      behind =
          ap (λ (k : ℕ). drop (k + 374) (take (i * 374) s ++ (r ++ drop (i * 374 + length r) s))) (sym t)
          ∙ drop-append-add (take (i * 374) s) (r ++ drop (i * 374 + length r) s) 374
          ∙ drop_at r (drop (i * 374 + length r) s) 374 e
          ∙ ap (λ (k : ℕ). drop (i * 374 + k) s) e;
    }

-- ---- one place

pub name_part : (e : List ℕ) (len : ℕ) → len ≤ 255 → take (1 + len - 1) (drop 1 e) ≡ take len (part 1 255 e)
unfolding part
name_part e len h =
    let k : 1 + len - 1 ≡ len = omega arith in
    rw k (sym (take-take len 255 (drop 1 e) h))

pub order_of : (e : Entry) (fine full sets : Bool) → fine ≡ (leb e.kind 2 && (full && sets)) → full ≡ is_full (name_of e.name)
    → sets ≡ (sound e.v4.count (list4 e.v4) && sound e.v6.count (list6 e.v6)) → fine ≡ in_order e
unfolding in_order
order_of e fine full sets p q r = p ∙ ap (λ (b : Bool). leb e.kind 2 && (b && sets)) q ∙ ap (λ (b : Bool). leb e.kind 2 && (is_full (name_of e.name) && b)) r

pub named_of : (e : Entry) → used e ≡ true → (n : Octets) (hit : Bool) → hit ≡ same_name (name_of e.name) n → hit ≡ named n e
unfolding named
named_of e u n hit q = q ∙ sym (rw u)

sound_few : (c : ℕ) (l : List Octets) → c < 2 → length l ≤ c → true ≡ sound c l
unfolding sound distinct member
sound_few c [] h k = rw (le-leb c 4 (omega arith))
sound_few c (x ∷ []) h k = rw (le-leb c 4 (omega arith))
sound_few c (x ∷ y ∷ l) h k = absurd (omega arith)

pub few_sound : {A : Type 0} (f : A → Octets) (s : Counted A) → s.count < 2 → true ≡ sound s.count (listed f s)
few_sound f s h = sound_few s.count (listed f s) h (simp (length-map, length-take) (omega arith))

-- ---- four things

pub four : {A : Type 0} (l : List A) (d : A) → length l ≡ 4 → l ≡ get_or l 0 d ∷ get_or l 1 d ∷ get_or l 2 d ∷ get_or l 3 d ∷ []
four [] d e = absurd (omega arith)
four (a ∷ []) d e = absurd (omega arith)
four (a ∷ b ∷ []) d e = absurd (omega arith)
four (a ∷ b ∷ c ∷ []) d e = absurd (omega arith)
four (a ∷ b ∷ c ∷ f ∷ []) d e = refl
four (a ∷ b ∷ c ∷ f ∷ g ∷ l) d e = absurd (omega arith)
