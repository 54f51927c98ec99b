-- The laws of two arrays of octets, the first of m, of which the first n are compared. Assumes nothing.
use mathlib.Core.Path.{◌≡◌, sym, ◌∙◌}
use mathlib.Core.Bool.{true, false, and-false}
use mathlib.Core.List.{List}
use Prim.Native.Nat.{ℕ, ◌≤◌}
use native.Mathlib.Omega.{arith}
use lib.Dec.{leb}
use lib.ListN.{take}
use mir.Val.{Val}
use mir.Syntax.{w8}
use denote.Laws.{Is}
use denote.Array.{Array}
use denote.Plain.{UInt}
use Rattle.octets.specs.Word.{value}
use Rattle.lease.specs.Lease.{same_key}
use Rattle.lease.specs.Leading.{leading}
use Rattle.lease.proofs.LeadingLaws.{lead_apart, array_octets}
use Rattle.lease.proofs.KeyLaws.{match_alike_octets}

-- u and v are what the leading octets of both make
module _ (m n : ℕ) (a b : List ℕ) {u v : ℕ} (p : u ≡ leading n (value (take 8 a))) (q : v ≡ leading n (value (take 8 b))) where
  pub match_apart : (u ≡ v → ⊥) → false ≡ same_key m n a b
  match_apart h = rw (lead_apart n a b (λ e. h (p ∙ e ∙ sym q))) (sym (and-false (leb n m)))

  pub match_alike : (k : ℕ) {vs ws : List Val} → Is (Array (UInt w8) m) a vs → Is (Array (UInt w8) k) b ws → 8 ≤ m → 8 ≤ k → u ≡ v → n ≤ 8 → true ≡ same_key m n a b
  match_alike k i j f g e h = match_alike_octets m n a b p q k (let l = i.1.0.1 in omega (arith, l)) (let l = j.1.0.1 in omega (arith, l)) (array_octets m a i) (array_octets k b j) f g e h
