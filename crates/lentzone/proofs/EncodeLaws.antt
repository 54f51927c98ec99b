-- Zones and the octets that hold them: octets read and put together again are the same octets, and a zone put into octets and read again is
-- the same zone. Assumes nothing.
use mathlib.Core.Path.{◌≡◌, refl, sym, ◌∙◌, ap, subst}
use mathlib.Core.List.{List, [], ◌∷◌, ◌++◌, map, append_assoc, append-nil}
use Prim.Native.Nat.{ℕ, zero, suc, ◌+◌, ◌*◌, ◌≤◌, ◌<◌}
use native.Mathlib.Nat.{add-zero, zero-mul, suc-mul}
use native.Mathlib.Omega.{arith}
use lib.ListN.{length, get_or, take, drop, length-append, take-append-drop, length-drop, drop_of_length-le}
use lib.Seq.{drop-cons, drop-drop, length-take-le, take_all, take-suc, take-take, take-append-add, drop-append-add, get_or-take, get_or-drop, take_at, drop_at}
use Rattle.zone.specs.declared.entry.Entry.{Entry}
use Rattle.zone.specs.declared.entry.Records.{Records}
use Rattle.dname.specs.declared.name.Name.{Name}
use Rattle.zone.specs.Survey.{place_of}
use Rattle.octets.specs.Write.{put, Laid, WroteIf}
use Rattle.octets.proofs.WriteLaws.{written, more}
use Rattle.lentzone.specs.Decode.{part, addr4, addr6, set4_in, set6_in, entry_in, rows, zone_in}
use Rattle.addresses.specs.Addresses.{octets4, octets6, Counted}
use Rattle.addresses.proofs.CountedLaws.{Four}
use Rattle.lentzone.specs.Encode.{joined, set4_octets, set6_octets, entry_octets, entries_octets, octets_of, Wide, SizedEntry, SizedEntries, EveryZoneIsHeld, HeldOnce}
use Rattle.lentzone.proofs.DecodeLaws.{four}
use Rattle.lentzone.specs.Inner.{records_octets, SizedRecords, PutAddress, PutSet}

-- ---- octets read and put together again

one_on : (s : List ℕ) (a : ℕ) {l : List ℕ} → a < length s → l ≡ drop (suc a) s → get_or s a 0 ∷ l ≡ drop a s
one_on s a h e = ap (λ (u : List ℕ). get_or s a 0 ∷ u) e ∙ sym (drop-cons s a 0 h)

part_on : (s : List ℕ) (a n : ℕ) {l : List ℕ} → l ≡ drop (a + n) s → part a n s ++ l ≡ drop a s
unfolding part
part_on s a n e = ap (λ (u : List ℕ). take n (drop a s) ++ u) (e ∙ sym (drop-drop n a s)) ∙ take-append-drop n (drop a s)

pub length_part : (a n : ℕ) (s : List ℕ) → a + n ≤ length s → length (part a n s) ≡ n
unfolding part
length_part a n s h = length-take-le n (drop a s) (rw (length-drop a s) (omega arith))

none_left : (s : List ℕ) (n : ℕ) → length s ≡ n → [] ≡ drop n s
none_left s n e = let h : length s ≤ n = omega arith in sym (drop_of_length-le s h)

-- a part that reaches to the end
part_last : (s : List ℕ) (a n : ℕ) → length s ≡ a + n → part a n s ≡ drop a s
unfolding part
part_last s a n e = take_all n (drop a s) (rw (length-drop a s) (omega arith))

set4_back : (s : List ℕ) → length s ≡ 17 → set4_octets (set4_in s) ≡ s
set4_back s e = part_on s 0 4 (part_on s 4 4 (part_on s 8 4 (part_on s 12 4 (one_on s 16 (omega arith) (none_left s 17 e)))))

set6_back : (s : List ℕ) → length s ≡ 65 → set6_octets (set6_in s) ≡ s
set6_back s e = part_on s 0 16 (part_on s 16 16 (part_on s 32 16 (part_on s 48 16 (one_on s 64 (omega arith) (none_left s 65 e)))))

entry_back : (s : List ℕ) → length s ≡ 374 → entry_octets (entry_in s) ≡ s
entry_back s e = one_on s 0 (omega arith) (part_on s 1 255 (one_on s 256 (omega arith) (part_on s 257 35 sets)))
  where
    sets : set4_octets (set4_in (part 292 17 s)) ++ set6_octets (set6_in (part 309 65 s)) ≡ drop 292 s
    sets =
        ap (λ (u : List ℕ). u ++ set6_octets (set6_in (part 309 65 s))) (set4_back (part 292 17 s) (length_part 292 17 s (omega arith)))
        ∙ part_on s 292 17 (set6_back (part 309 65 s) (length_part 309 65 s (omega arith)) ∙ part_last s 309 65 e)

rows_back : (n : ℕ) (s : List ℕ) → length s ≡ n * 374 → entries_octets (map entry_in (rows 374 n s)) ≡ s
unfolding rows entries_octets
rows_back zero s e = none_left s 0 (e ∙ zero-mul 374)
rows_back (suc n) s e =
    let m : length s ≡ n * 374 + 374 = e ∙ suc-mul n 374 in
    let d : length (drop 374 s) ≡ n * 374 = rw (length-drop 374 s) (omega arith) in
    ap (λ (u : List ℕ). u ++ entries_octets (map entry_in (rows 374 n (drop 374 s)))) (entry_back (take 374 s) (length-take-le 374 s (omega arith)))
    ∙ ap (λ (u : List ℕ). take 374 s ++ u) (rows_back n (drop 374 s) d)
    ∙ take-append-drop 374 s

-- No two strings of octets hold one zone.
pub same_octets_lem : (s t : List ℕ) → length s ≡ 23936 → length t ≡ 23936 → zone_in s ≡ zone_in t → s ≡ t
unfolding zone_in
same_octets_lem s t h k e = sym (rows_back 64 s h) ∙ ap octets_of e ∙ rows_back 64 t k

pub held_once : HeldOnce
held_once s t z h k = same_octets_lem s t h.size k.size (h.zone_is ∙ sym k.zone_is)

-- ---- a zone put into octets and read again

-- where the octets from a place on begin with this, it is read there, and what follows it stands behind it
module _ (s : List ℕ) (a : ℕ) (x : ℕ) (l : List ℕ) (e : drop a s ≡ x ∷ l) where
  read_one : get_or s a 0 ≡ x
  read_one = ap (λ (k : ℕ). get_or s k 0) (sym (add-zero a)) ∙ sym (get_or-drop a s 0 0) ∙ ap (λ (u : List ℕ). get_or u 0 0) e

  past_one : drop (a + 1) s ≡ l
  past_one = sym (drop-drop 1 a s) ∙ ap (drop 1) e

module _ (s : List ℕ) (a n : ℕ) (o l : List ℕ) (h : length o ≡ n) (e : drop a s ≡ o ++ l) where
  read_part : part a n s ≡ o
  unfolding part
  read_part = ap (take n) e ∙ take_at o l n h

  past_part : drop (a + n) s ≡ l
  past_part = sym (drop-drop n a s) ∙ ap (drop n) e ∙ drop_at o l n h

length_joined : (w n : ℕ) (os : List (List ℕ)) (l : List ℕ) → Wide w n os → length (joined os l) ≡ n * w + length l
length_joined w zero [] l h = rw (zero-mul w) (omega arith)
length_joined w (suc n) (o ∷ os) l h =
    let q : length (joined os l) ≡ n * w + length l = length_joined w n os l h.1 in
    let k : length o ≡ w = h.0 in
    rw (length-append o (joined os l), suc-mul n w) (omega arith)
length_joined w zero (o ∷ os) l h = elim h [ ]
length_joined w (suc n) [] l h = elim h [ ]

-- four of them and a number, read again
module _ (w : ℕ) (o₁ o₂ o₃ o₄ : List ℕ) (n : ℕ) (h : Wide w 4 (o₁ ∷ o₂ ∷ o₃ ∷ o₄ ∷ [])) where
  abbrev whole : List ℕ
  whole = joined (o₁ ∷ o₂ ∷ o₃ ∷ o₄ ∷ []) (n ∷ [])

  past₁ : drop (0 + w) whole ≡ joined (o₂ ∷ o₃ ∷ o₄ ∷ []) (n ∷ [])
  past₁ = past_part whole 0 w o₁ _ h.0 refl

  past₂ : drop (0 + w + w) whole ≡ joined (o₃ ∷ o₄ ∷ []) (n ∷ [])
  past₂ = past_part whole (0 + w) w o₂ _ h.1.0 past₁

  past₃ : drop (0 + w + w + w) whole ≡ joined (o₄ ∷ []) (n ∷ [])
  past₃ = past_part whole (0 + w + w) w o₃ _ h.1.1.0 past₂

  count_read : get_or whole (0 + w + w + w + w) 0 ≡ n
  count_read = read_one whole (0 + w + w + w + w) n [] (past_part whole (0 + w + w + w) w o₄ _ h.1.1.1.0 past₃)

  strings_read : part 0 w whole ∷ part (0 + w) w whole ∷ part (0 + w + w) w whole ∷ part (0 + w + w + w) w whole ∷ [] ≡ o₁ ∷ o₂ ∷ o₃ ∷ o₄ ∷ []
  strings_read i =
      read_part whole 0 w o₁ _ h.0 refl i
      ∷ read_part whole (0 + w) w o₂ _ h.1.0 past₁ i
      ∷ read_part whole (0 + w + w) w o₃ _ h.1.1.0 past₂ i
      ∷ read_part whole (0 + w + w + w) w o₄ _ h.1.1.1.0 past₃ i
      ∷ []

-- four things that are strings of w octets, and their count
module _ {A : Type 0} (octets : A → List ℕ) (thing : List ℕ → A) (same : (a : A) → thing (octets a) ≡ a) (w : ℕ) where
  abbrev Again : List A → ℕ → List ℕ → Type 0
  Again l n s = (map thing (part 0 w s ∷ part (0 + w) w s ∷ part (0 + w + w) w s ∷ part (0 + w + w + w) w s ∷ []) ≡ l) × (get_or s (0 + w + w + w + w) 0 ≡ n)

  again : (l : List A) (n : ℕ) → Wide w 4 (map octets l) → Again l n (joined (map octets l) (n ∷ []))
  again (a ∷ []) n h = absurd h.1
  again (a ∷ b ∷ []) n h = absurd h.1.1
  again (a ∷ b ∷ c ∷ []) n h = absurd h.1.1.1
  again (a ∷ b ∷ c ∷ d ∷ []) n h =
      (ap (map thing) (strings_read w (octets a) (octets b) (octets c) (octets d) n h) ∙ (λ i. same a i ∷ same b i ∷ same c i ∷ same d i ∷ []), count_read w (octets a) (octets b) (octets c) (octets d) n h)
  again (a ∷ b ∷ c ∷ d ∷ e ∷ l) n h = absurd h.1.1.1.1
  again [] n h = elim h [ ]

module _ (e : Entry) (h : SizedEntry e) where
  abbrev s : List ℕ
  s = entry_octets e

  size4 : length (set4_octets e.v4) ≡ 17
  size4 = length_joined 4 4 (map octets4 e.v4.items) (e.v4.count ∷ []) h.v4

  size6 : length (set6_octets e.v6) ≡ 65
  size6 = length_joined 16 4 (map octets6 e.v6.items) (e.v6.count ∷ []) h.v6

  at256 : drop 256 s ≡ e.name.len ∷ (e.dhcid.octets ++ (set4_octets e.v4 ++ set6_octets e.v6))
  at256 = past_part s 1 255 e.name.octets _ h.name refl

  at257 : drop 257 s ≡ e.dhcid.octets ++ (set4_octets e.v4 ++ set6_octets e.v6)
  at257 = past_one s 256 e.name.len _ at256

  at292 : drop 292 s ≡ set4_octets e.v4 ++ set6_octets e.v6
  at292 = past_part s 257 35 e.dhcid.octets _ h.dhcid at257

  at309 : drop 309 s ≡ set6_octets e.v6
  at309 = past_part s 292 17 (set4_octets e.v4) _ size4 at292

  set4_again : set4_in (part 292 17 s) ≡ e.v4
  set4_again =
      let r = again octets4 addr4 (λ a. refl) 4 e.v4.items e.v4.count h.v4 in
      ap set4_in (read_part s 292 17 (set4_octets e.v4) _ size4 at292) ∙ (λ i. record { items = r.0 i; count = r.1 i })

  set6_again : set6_in (part 309 65 s) ≡ e.v6
  set6_again =
      let r = again octets6 addr6 (λ a. refl) 16 e.v6.items e.v6.count h.v6 in
      ap set6_in (read_part s 309 65 (set6_octets e.v6) [] size6 (at309 ∙ sym (append-nil (set6_octets e.v6)))) ∙ (λ i. record { items = r.0 i; count = r.1 i })

  pub entry_again : entry_in s ≡ e
  entry_again i = record {
    kind = e.kind;
    name = record { octets = read_part s 1 255 e.name.octets _ h.name refl i; len = read_one s 256 e.name.len _ at256 i };
    dhcid = record { octets = read_part s 257 35 e.dhcid.octets _ h.dhcid at257 i };
    v4 = set4_again i;
    v6 = set6_again i;
  }

  pub entry_length : length s ≡ 374
  entry_length =
      let n : length e.name.octets ≡ 255 = h.name in
      let d : length e.dhcid.octets ≡ 35 = h.dhcid in
      let a : length (set4_octets e.v4) ≡ 17 = size4 in
      let b : length (set6_octets e.v6) ≡ 65 = size6 in
      ap suc (length-append e.name.octets _ ∙ ap (λ (k : ℕ). length e.name.octets + suc k) (length-append e.dhcid.octets _ ∙ ap (λ (k : ℕ). length e.dhcid.octets + k) (length-append (set4_octets e.v4) _))) ∙ omega arith

entries_length : (n : ℕ) (es : List Entry) → SizedEntries n es → length (entries_octets es) ≡ n * 374
unfolding entries_octets
entries_length zero [] h = sym (zero-mul 374)
entries_length (suc n) (e ∷ es) h =
    let l : length (entry_octets e) ≡ 374 = entry_length e h.0 in
    let k : length (entries_octets es) ≡ n * 374 = entries_length n es h.1 in
    length-append (entry_octets e) (entries_octets es) ∙ rw (suc-mul n 374) (omega arith)
entries_length zero (e ∷ es) h = elim h [ ]
entries_length (suc n) [] h = elim h [ ]

entries_again : (n : ℕ) (es : List Entry) → SizedEntries n es → map entry_in (rows 374 n (entries_octets es)) ≡ es
unfolding rows entries_octets
entries_again zero [] h = refl
entries_again (suc n) (e ∷ es) h =
    let l : length (entry_octets e) ≡ 374 = entry_length e h.0 in
    ap (λ (u : List ℕ). entry_in u ∷ map entry_in (rows 374 n (drop 374 (entry_octets e ++ entries_octets es)))) (take_at (entry_octets e) (entries_octets es) 374 l)
    ∙ ap (λ (u : List ℕ). entry_in (entry_octets e) ∷ map entry_in (rows 374 n u)) (drop_at (entry_octets e) (entries_octets es) 374 l)
    ∙ (λ i. entry_again e h.0 i ∷ entries_again n es h.1 i)
entries_again zero (e ∷ es) h = elim h [ ]
entries_again (suc n) [] h = elim h [ ]

-- Every zone whose arrays have the lengths of the struct has octets that hold it.
pub every_zone_is_held : EveryZoneIsHeld
unfolding zone_in
every_zone_is_held z h = record { size = entries_length 64 z.entries h; zone_is = ap (λ (es : List Entry). record { entries = es }) (entries_again 64 z.entries h) }

-- ---- what the writers put

-- the same octets, put together otherwise
pub wrote_as : {b : List ℕ} {at : ℕ} {ys zs l : List ℕ} {n : ℕ} → ys ≡ zs → WroteIf b at ys l n → WroteIf b at zs l n
wrote_as {b} {at} {ys} {zs} {l} {n} e w = subst (λ (x : List ℕ). WroteIf b at x l n) e w

-- four strings and an octet, written one behind the other
joined_four : (a b c d : List ℕ) (k : ℕ) → a ++ b ++ c ++ d ++ (k ∷ []) ≡ joined (a ∷ b ∷ c ∷ d ∷ []) (k ∷ [])
joined_four a b c d k = simp append_assoc

-- four addresses of one family and their count, written one behind the other
module _ {A : Type 0} (octets : A → List ℕ) (w : ℕ) (s : Counted A) (d : A) (size : Four s) where
  abbrev item : ℕ → List ℕ
  item i = octets (get_or s.items i d)

  pub put_four : {b₀ b₁ b₂ b₃ b₄ b₅ : List ℕ} {a₀ a₁ a₂ a₃ a₄ a₅ : ℕ} → PutAddress w (item 0) b₀ a₀ b₁ a₁ → PutAddress w (item 1) b₁ a₁ b₂ a₂ → PutAddress w (item 2) b₂ a₂ b₃ a₃
      → PutAddress w (item 3) b₃ a₃ b₄ a₄ → Laid b₄ a₄ (s.count ∷ []) b₅ a₅ → PutSet w octets s b₀ a₀ b₅ a₅
  put_four one two three last count =
      let items = sym (four s.items d size) in
      record {
        sized = subst (λ (x : List A). Wide w 4 (map octets x)) items (one.size, (two.size, (three.size, (last.size, tt))));
        wrote =
            wrote_as (joined_four (item 0) (item 1) (item 2) (item 3) s.count ∙ ap (λ (x : List A). joined (map octets x) (s.count ∷ [])) items)
            (more (more (more (more (written one.wrote) two.wrote) three.wrote) last.wrote) count);
      }

pub records_joined : (r : Records) → r.dhcid.octets ++ set4_octets r.v4 ++ set6_octets r.v6 ≡ records_octets r
records_joined r = append_assoc r.dhcid.octets (set4_octets r.v4) (set6_octets r.v6)

pub entry_joined : (n : Name) (r : Records) → (r.kind ∷ []) ++ n.octets ++ (n.len ∷ []) ++ records_octets r ≡ entry_octets (place_of n r)
entry_joined n r = simp append_assoc

-- the octets behind a name are all but 257 of a place
pub records_length : (r : Records) → SizedRecords r → length (records_octets r) ≡ 117
records_length r h =
    let d : length r.dhcid.octets ≡ 35 = h.dhcid in
    let a : length (set4_octets r.v4) ≡ 17 = length_joined 4 4 (map octets4 r.v4.items) (r.v4.count ∷ []) h.v4 in
    let b : length (set6_octets r.v6) ≡ 65 = length_joined 16 4 (map octets6 r.v6.items) (r.v6.count ∷ []) h.v6 in
    length-append r.dhcid.octets _ ∙ ap (λ (k : ℕ). length r.dhcid.octets + k) (length-append (set4_octets r.v4) _) ∙ omega arith

-- an octet and what stands some way behind it, written apart, are all that lies between them written again
module _ (s : List ℕ) (at j k : ℕ) (ys : List ℕ) (room : at + (1 + j + length ys) ≤ length s) where
  abbrev before : List ℕ
  before = take at s

  abbrev behind : List ℕ
  behind = drop (at + 1) s

  at_length : length before ≡ at
  at_length = length-take-le at s (omega arith)

  skipped : length (take j behind) ≡ j
  skipped = length-take-le j behind (rw (length-drop (at + 1) s) (omega arith))

  -- the list with the octet written
  abbrev one : List ℕ
  one = before ++ (k ∷ behind)

  front : take (at + suc j) one ≡ before ++ (k ∷ take j behind)
  front = ap (λ (n : ℕ). take (n + suc j) one) (sym at_length) ∙ take-append-add before (k ∷ behind) (suc j)

  rest : drop (at + suc j + length ys) one ≡ drop (at + suc (j + length ys)) s
  rest =
      let e : at + suc j + length ys ≡ at + suc (j + length ys) = omega arith in
      let f : at + 1 + (j + length ys) ≡ at + suc (j + length ys) = omega arith in
      ap (λ (n : ℕ). drop n one) e
      ∙ ap (λ (n : ℕ). drop (n + suc (j + length ys)) one) (sym at_length)
      ∙ drop-append-add before (k ∷ behind) (suc (j + length ys))
      ∙ drop-drop (j + length ys) (at + 1) s
      ∙ ap (λ (n : ℕ). drop n s) f

  pub put_apart : put (put s at (k ∷ [])) (at + suc j) ys ≡ put s at (k ∷ (take j behind ++ ys))
  unfolding put
  put_apart =
      let l : length (take j behind ++ ys) ≡ j + length ys = length-append (take j behind) ys ∙ ap (λ (n : ℕ). n + length ys) skipped in
      (λ i. front i ++ (ys ++ rest i))
      ∙ append_assoc before (k ∷ take j behind) (ys ++ drop (at + suc (j + length ys)) s)
      ∙ ap (λ (u : List ℕ). before ++ (k ∷ u)) (sym (append_assoc (take j behind) ys (drop (at + suc (j + length ys)) s)))
      ∙ ap (λ (n : ℕ). before ++ ((k ∷ (take j behind ++ ys)) ++ drop (at + suc n) s)) (sym l)

-- the kind and what stands behind the name, written apart, are the place written with the name that stood there
module _ (s : List ℕ) (at : ℕ) (r : Records) (h : SizedRecords r) (room : at + 374 ≤ length s) where
  abbrev row : List ℕ
  row = take 374 (drop at s)

  name_octets : part 1 255 row ≡ take 255 (drop (at + 1) s)
  unfolding part
  name_octets =
      let e : suc at ≡ at + 1 = omega arith in
      ap (λ (u : List ℕ). take 255 (drop 1 (take 374 u))) (drop-cons s at 0 (omega arith))
      ∙ take-take 255 373 (drop (suc at) s) (omega arith)
      ∙ ap (λ (n : ℕ). take 255 (drop n s)) e

  name_length : get_or row 256 0 ≡ get_or (drop (at + 1) s) 255 0
  name_length =
      let e : at + 256 ≡ at + 1 + 255 = omega arith in
      get_or-take 374 (drop at s) 256 0 (omega arith) ∙ get_or-drop at s 256 0 ∙ ap (λ (n : ℕ). get_or s n 0) e ∙ sym (get_or-drop (at + 1) s 255 0)

  name_kept : take 256 (drop (at + 1) s) ++ records_octets r ≡ part 1 255 row ++ (get_or row 256 0 ∷ records_octets r)
  name_kept =
      ap (λ (u : List ℕ). u ++ records_octets r) (take-suc (drop (at + 1) s) 255 0 (rw (length-drop (at + 1) s) (omega arith)))
      ∙ append_assoc (take 255 (drop (at + 1) s)) (get_or (drop (at + 1) s) 255 0 ∷ []) (records_octets r)
      ∙ (λ i. sym name_octets i ++ (sym name_length i ∷ records_octets r))

  pub records_put : put (put s at (r.kind ∷ [])) (at + 257) (records_octets r) ≡ put s at (entry_octets (place_of (entry_in row).name r))
  records_put =
      let l : length (records_octets r) ≡ 117 = records_length r h in
      put_apart s at 256 r.kind (records_octets r) (omega arith) ∙ ap (λ (u : List ℕ). put s at (r.kind ∷ u)) name_kept
