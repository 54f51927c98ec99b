-- The turns of the loops that write digits. Assumes nothing.
use mathlib.Core.Path.{◌≡◌, refl, sym, ap, ◌∙◌}
use mathlib.Core.List.{List, [], ◌∷◌, ◌++◌, append_assoc, append-nil}
use Prim.Native.Nat.{ℕ, zero, suc, ◌+◌, ◌-◌, ◌*◌, ◌/◌, ◌%◌, ◌^◌, ◌≤◌, ◌<◌}
use native.Mathlib.Omega.{arith}
use native.Mathlib.Nat.{pow-suc}
use native.Mathlib.Numerals.{add-one}
use lib.ListN.{length, take, drop, get_or, set, length-set, length-append}
use lib.Seq.{set_split, drop_at, length-take-le, take-suc}
use Rattle.octets.specs.Write.{put}
use Rattle.octets.proofs.WriteLaws.{put_more}
use Rattle.text.specs.Text.{digit, decimal, hex}
use Rattle.text.proofs.TextLaws.{decimal_one, decimal_more, tenth_below, two_an_octet}

-- What is known while digits are put in from the back: those of the rest are still to come, and there is room for them.
pub record Spelling (n : ℕ) (octets : List ℕ) (from rest : ℕ) : Type 0 where
  pub size : length octets ≡ 20
  pub some : 0 < from
  pub within : from ≤ 20
  pub room : rest < 10 ^ from
  pub digits : decimal n ≡ decimal rest ++ drop from octets

drop_set : (s : List ℕ) (k x : ℕ) → k < length s → drop k (set s k x) ≡ x ∷ drop (suc k) s
drop_set s k x h = ap (drop k) (set_split s k x h) ∙ drop_at (take k s) (x ∷ drop (suc k) s) k (length-take-le k s (omega arith))

-- a place in front
before : (s : List ℕ) (f x : ℕ) → 0 < f → f ≤ length s → drop (f - 1) (set s (f - 1) x) ≡ x ∷ drop f s
before s f x p h =
    let e : suc (f - 1) ≡ f = omega arith in
    drop_set s (f - 1) x (omega arith) ∙ ap (λ (k : ℕ). x ∷ drop k s) e

pub spelling_begins : (n : ℕ) (s : List ℕ) → length s ≡ 20 → drop 20 s ≡ [] → n < 10 ^ 20 → Spelling n s 20 n
spelling_begins n s l e h = record { size = l; some = omega arith; within = omega arith; room = h; digits = sym (append-nil (decimal n)) ∙ ap (λ (t : List ℕ). decimal n ++ t) (sym e) }

-- a number of two digits or more leaves its tenth a place
tenth_room : (f r : ℕ) → 10 ≤ r → r < 10 ^ f → (1 < f) × (r / 10 < 10 ^ (f - 1))
tenth_room zero r h l = absurd (omega arith)
tenth_room (suc zero) r h l = let m : r < 10 = l in absurd (omega arith)
tenth_room (suc (suc k)) r h l = (
  omega arith,
  let e : suc (suc k) - 1 ≡ suc k = omega arith in
      rw e (tenth_below r (10 ^ suc k) (rw pow-suc at l)),
)

-- a turn: the last digit of the rest is put in
pub spelling_turns : (n : ℕ) (s : List ℕ) (f r x : ℕ) → Spelling n s f r → 10 ≤ r → x ≡ digit (r % 10) → Spelling n (set s (f - 1) x) (f - 1) (r / 10)
spelling_turns n s f r x p h e =
    let w : (1 < f) × (r / 10 < 10 ^ (f - 1)) = tenth_room f r h p.room in
    let b : drop (f - 1) (set s (f - 1) x) ≡ x ∷ drop f s = before s f x p.some (omega (arith, p.size, p.within)) in
    record {
      size = length-set s (f - 1) x ∙ p.size;
      some = omega (arith, w.0);
      within = omega (arith, p.within);
      room = w.1;
      digits =
          p.digits
          ∙ ap (λ (t : List ℕ). t ++ drop f s) (decimal_more r h)
          ∙ append_assoc (decimal (r / 10)) (digit (r % 10) ∷ []) (drop f s)
          ∙ ap (λ (d : ℕ). decimal (r / 10) ++ (d ∷ drop f s)) (sym e)
          ∙ ap (λ (t : List ℕ). decimal (r / 10) ++ t) (sym b);
    }

-- the end: the rest is the first digit
pub spelling_ends : (n : ℕ) (s : List ℕ) (f r x : ℕ) → Spelling n s f r → r < 10 → x ≡ digit r → drop (f - 1) (set s (f - 1) x) ≡ decimal n
spelling_ends n s f r x p h e =
    before s f x p.some (omega (arith, p.size, p.within))
    ∙ ap (λ (d : ℕ). d ∷ drop f s) e
    ∙ ap (λ (t : List ℕ). t ++ drop f s) (sym (decimal_one r h))
    ∙ sym p.digits

hex_append : (t : List ℕ) (x : ℕ) → hex (t ++ (x ∷ [])) ≡ hex t ++ (digit (x / 16) ∷ digit (x % 16) ∷ [])
unfolding hex
hex_append [] x = refl
hex_append (y ∷ t) x = ap (λ (r : List ℕ). digit (y / 16) ∷ digit (y % 16) ∷ r) (hex_append t x)

-- one octet more in hexadecimal digits
hex_more : (s : List ℕ) (i : ℕ) → i < length s → hex (take (i + 1) s) ≡ (hex (take i s) ++ (digit (get_or s i 0 / 16) ∷ [])) ++ (digit (get_or s i 0 % 16) ∷ [])
hex_more s i h =
    ap (λ (k : ℕ). hex (take k s)) (add-one i)
    ∙ ap hex (take-suc s i 0 h)
    ∙ hex_append (take i s) (get_or s i 0)
    ∙ sym (append_assoc (hex (take i s)) (digit (get_or s i 0 / 16) ∷ []) (digit (get_or s i 0 % 16) ∷ []))

-- a turn of the loop that writes them
pub hex_turns : (b s l : List ℕ) (at i x y : ℕ) → at + 2 * length s ≤ length b → i < length s → l ≡ put b at (hex (take i s))
    → x ≡ digit (get_or s i 0 / 16) → y ≡ digit (get_or s i 0 % 16) → set (set l (at + 2 * i) x) (at + 2 * i + 1) y ≡ put b at (hex (take (i + 1) s))
hex_turns b s l at i x y h k e p q =
    let n : length (hex (take i s)) ≡ 2 * i = two_an_octet (take i s) ∙ ap (λ (j : ℕ). 2 * j) (length-take-le i s (omega arith)) in
    let f : set l (at + 2 * i) x ≡ put b at (hex (take i s) ++ (x ∷ [])) = put_more b (hex (take i s)) (hex (take i s) ++ (x ∷ [])) l at (2 * i) x n refl (omega arith) e in
    let g : at + 2 * i + 1 ≡ at + (2 * i + 1) = omega arith in
    let m : length (hex (take i s) ++ (x ∷ [])) ≡ 2 * i + 1 = length-append (hex (take i s)) (x ∷ []) ∙ omega arith in
    let z : hex (take (i + 1) s) ≡ (hex (take i s) ++ (x ∷ [])) ++ (y ∷ []) = rw (p, q) (hex_more s i k) in
    ap (λ (j : ℕ). set (set l (at + 2 * i) x) j y) g
    ∙ put_more b (hex (take i s) ++ (x ∷ [])) (hex (take (i + 1) s)) (set l (at + 2 * i) x) at (2 * i + 1) y m z (omega arith) f
