-- What a field is, by its length and its first octet; when two names are equal. Assumes nothing.
use mathlib.Core.Path.{◌≡◌, refl, ◌∙◌}
use mathlib.Core.Bool.{true}
use mathlib.Core.List.{List, [], ◌∷◌}
use Prim.Native.Nat.{ℕ, zero, suc, ◌+◌, ◌-◌, ◌≤◌, ◌<◌}
use native.Mathlib.Omega.{arith}
use native.Mathlib.Numerals.{add-one}
use lib.ListN.{length, get_or, take, drop, length-drop}
use lib.Seq.{take_all}
use borrow.Author.Tests.{lt-ltb, le-ltb, le-leb, lt-leb}
use Rattle.octets.proofs.CompareLaws.{same_self, same_true}
use Rattle.dname.specs.Name.{labels_of, limited, shape_of, key, same_name}
use Rattle.dname.specs.declared.Shape.{Shape}
use Rattle.dname.specs.declared.Shape.TheVariants.{Empty, Full, Partial, Malformed}

-- a label that has begun is passed over
pub skip : (left : ℕ) (s : List ℕ) → left ≤ length s → labels_of left s ≡ labels_of 0 (drop left s)
unfolding labels_of
skip zero s h = refl
skip (suc left) [] h = absurd (omega arith)
skip (suc left) (x ∷ s) h = skip left s (omega arith)

-- a label that runs past the end
pub cut : (left : ℕ) (s : List ℕ) → length s < left → labels_of left s ≡ Malformed
unfolding labels_of
cut zero s h = absurd (omega arith)
cut (suc left) [] h = refl
cut (suc left) (x ∷ s) h = cut left s (omega arith)

-- a label of 1 to 63 octets begins
pub begun : (n : ℕ) (s : List ℕ) → n < 63 → labels_of 0 (suc n ∷ s) ≡ labels_of (suc n) s
unfolding labels_of
begun n s h = rw (labels_of, lt-ltb n 63 h)

-- no octets where a label or the end is due: the name is partial
pub at_end : (s : List ℕ) → length s ≡ 0 → labels_of 0 s ≡ Partial
unfolding labels_of
at_end [] h = refl
at_end (x ∷ s) h = absurd (omega arith)

-- the octet 0 there, and nothing behind it: the name is full
pub at_root : (s : List ℕ) → length s ≡ 1 → get_or s 0 0 ≡ 0 → labels_of 0 s ≡ Full
unfolding labels_of
at_root [] h z = absurd (omega arith)
at_root (zero ∷ []) h z = refl
at_root (zero ∷ x ∷ s) h z = absurd (omega arith)
at_root (suc n ∷ s) h z = absurd (omega arith)

-- octets behind it
pub past_root : (s : List ℕ) → 1 < length s → get_or s 0 0 ≡ 0 → labels_of 0 s ≡ Malformed
unfolding labels_of
past_root [] h z = absurd (omega arith)
past_root (zero ∷ []) h z = absurd (omega arith)
past_root (zero ∷ x ∷ s) h z = refl
past_root (suc n ∷ s) h z = absurd (omega arith)

-- a length that no label has
pub too_long : (s : List ℕ) → 0 < length s → 63 < get_or s 0 0 → labels_of 0 s ≡ Malformed
unfolding labels_of
too_long [] h z = absurd (omega arith)
too_long (zero ∷ s) h z = absurd (omega arith)
too_long (suc n ∷ s) h z = rw (labels_of, le-ltb n 63 (omega arith))

-- a label of which octets are missing
pub too_short : (s : List ℕ) → 0 < get_or s 0 0 → get_or s 0 0 ≤ 63 → length s ≤ get_or s 0 0 → labels_of 0 s ≡ Malformed
too_short [] p h z = absurd (omega arith)
too_short (zero ∷ s) p h z = absurd (omega arith)
too_short (suc n ∷ s) p h z = begun n s (omega arith) ∙ cut (suc n) s (omega arith)

-- a whole label
pub one_label : (s : List ℕ) → 0 < get_or s 0 0 → get_or s 0 0 ≤ 63 → get_or s 0 0 < length s → labels_of 0 s ≡ labels_of 0 (drop (get_or s 0 0 + 1) s)
one_label [] p h z = absurd (omega arith)
one_label (zero ∷ s) p h z = absurd (omega arith)
one_label (suc n ∷ s) p h z = rw add-one (begun n s (omega arith) ∙ skip (suc n) s (omega arith))

-- a part of a slice that reaches to its end
pub part_rest : (s : List ℕ) (a : ℕ) → take (length s - a) (drop a s) ≡ drop a s
part_rest s a = take_all (length s - a) (drop a s) (omega (arith, length-drop a s))

pub part_shorter : (s : List ℕ) (a : ℕ) → 0 < a → 0 < length s → length (take (length s - a) (drop a s)) < length s
part_shorter s a p h = rw (part_rest, length-drop) (omega arith)

-- A whole field.
pub shape_empty : (s : List ℕ) → length s ≡ 0 → shape_of s ≡ Empty
unfolding shape_of
shape_empty [] h = refl
shape_empty (x ∷ s) h = absurd (omega arith)

pub shape_root : (s : List ℕ) → 0 < length s → get_or s 0 0 ≡ 0 → shape_of s ≡ Malformed
unfolding shape_of
shape_root [] h z = absurd (omega arith)
shape_root (zero ∷ s) h z = refl
shape_root (suc n ∷ s) h z = absurd (omega arith)

pub shape_limited : (s : List ℕ) → 0 < length s → (get_or s 0 0 ≡ 0 → ⊥) → shape_of s ≡ limited (labels_of 0 s) (length s)
unfolding shape_of
shape_limited [] h z = absurd (omega arith)
shape_limited (zero ∷ s) h z = absurd (z refl)
shape_limited (suc n ∷ s) h z = refl

pub limited_over : (t : Shape) (n : ℕ) → 255 < n → limited t n ≡ Malformed
unfolding limited
limited_over Full n h = rw (limited, lt-leb n 255 h)
limited_over Partial n h = rw (limited, lt-leb n 254 (omega arith))
limited_over Empty n h = refl
limited_over Malformed n h = refl

pub limited_full : (n : ℕ) → n ≤ 255 → limited Full n ≡ Full
unfolding limited
limited_full n h = rw (limited, le-leb n 255 h)

pub limited_partial : (n : ℕ) → n ≤ 254 → limited Partial n ≡ Partial
unfolding limited
limited_partial n h = rw (limited, le-leb n 254 h)

pub partial_over : (n : ℕ) → 254 < n → limited Partial n ≡ Malformed
unfolding limited
partial_over n h = rw (limited, lt-leb n 254 h)

pub shape_over : (s : List ℕ) → 255 < length s → shape_of s ≡ Malformed
unfolding shape_of
shape_over [] h = absurd (omega arith)
shape_over (zero ∷ s) h = refl
shape_over (suc n ∷ s) h = limited_over (labels_of 0 (suc n ∷ s)) (length (suc n ∷ s)) h

-- Equal names: the same key.
pub same_name_key : (a b : List ℕ) → same_name a b ≡ true → key a ≡ key b
unfolding same_name
same_name_key a b h = same_true (key a) (key b) h

pub key_same_name : (a b : List ℕ) → key a ≡ key b → same_name a b ≡ true
unfolding same_name
key_same_name a b h = rw h (same_self (key b))
