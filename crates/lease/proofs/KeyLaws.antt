-- The laws of two strings of octets whose first n are compared, the first eight of them as numbers. Assumes nothing.
use mathlib.Core.Path.{◌≡◌, sym, ap, ◌∙◌}
use mathlib.Core.Bool.{Bool, true, false, and-false}
use mathlib.Core.List.{List, [], ◌∷◌}
use Prim.Native.Nat.{ℕ, ◌≤◌, ◌<◌}
use native.Mathlib.Omega.{arith}
use lib.Dec.{leb}
use lib.ListN.{length, get_or, take}
use lib.Seq.{length-take-le}
use borrow.Author.Tests.{le-leb, lt-leb}
use Rattle.octets.specs.Compare.{same_octets}
use Rattle.octets.specs.Word.{value}
use Rattle.lease.specs.Lease.{same_key}
use Rattle.lease.specs.Leading.{leading}
use Rattle.lease.proofs.LeadingLaws.{first_eight, lead_apart, lead_alike, Octets}

-- u and v are what the leading octets of both make
module _ (n : ℕ) (a b : List ℕ) {u v : ℕ} (p : u ≡ leading n (value (take 8 a))) (q : v ≡ leading n (value (take 8 b))) where
  pub match_apart : (u ≡ v → ⊥) → false ≡ same_key (length a) n a b
  match_apart h = rw (lead_apart n a b (λ e. h (p ∙ e ∙ sym q))) (sym (and-false (leb n (length a))))

  pub match_alike : u ≡ v → 8 ≤ length a → length a ≤ length b → n ≤ 8 → Octets a → Octets b → true ≡ same_key (length a) n a b
  match_alike e f g h i j =
      let k : n ≤ length a = omega arith in
      rw (le-leb n (length a) k) (sym (lead_alike n a b h i j (sym p ∙ e ∙ q) k (omega arith)))

-- ---- the first n octets of an array of m
pub first_length : (m n : ℕ) (s : List ℕ) → length s ≡ m → n ≤ m → n ≡ length (take n s)
first_length m n s e h = sym (length-take-le n s (omega (arith, e, h)))

-- the number of the first eight octets has those of the first n
pub first_leading : (m n : ℕ) (s : List ℕ) → length s ≡ m → 8 ≤ m → {v r : ℕ}
    → v ≡ value (get_or s 0 0 ∷ get_or s 1 0 ∷ get_or s 2 0 ∷ get_or s 3 0 ∷ get_or s 4 0 ∷ get_or s 5 0 ∷ get_or s 6 0 ∷ get_or s 7 0 ∷ []) → r ≡ leading n v → r ≡ leading n (value (take 8 s))
first_leading m n s e h f g = g ∙ ap (leading n) (f ∙ sym (ap value (first_eight s (omega (arith, e, h)))))

-- ---- two arrays, the first of m octets
module _ (m n : ℕ) (a b : List ℕ) where
  pub match_long : m < n → false ≡ same_key m n a b
  match_long h = rw (lt-leb n m h)

  pub match_each : {r : Bool} → n ≤ m → r ≡ same_octets (take n a) (take n b) → r ≡ same_key m n a b
  match_each h e = rw (le-leb n m h) e

  -- u and v are what the leading octets of both make; the second has k octets, and both are any octets, whatever hands them over
  module _ {u v : ℕ} (p : u ≡ leading n (value (take 8 a))) (q : v ≡ leading n (value (take 8 b))) where
    pub match_alike_octets : (k : ℕ) → length a ≡ m → length b ≡ k → Octets a → Octets b → 8 ≤ m → 8 ≤ k → u ≡ v → n ≤ 8 → true ≡ same_key m n a b
    match_alike_octets k i j o r f g e h =
        let s = lead_alike n a b h o r (sym p ∙ e ∙ q) (omega (arith, i, f, h)) (omega (arith, j, g, h)) in
        match_each (omega (arith, f, h)) (sym s)
