-- The laws by which writes compose. Assumes nothing.
use Prim.Native.Nat.{ℕ, ◌+◌, ◌-◌, ◌≤◌, ◌<◌}
use mathlib.Core.List.{List, [], ◌∷◌, ◌++◌, append_assoc}
use mathlib.Core.Path.{◌≡◌, refl, sym, ap, ap₂, ◌∙◌}
use native.Mathlib.Omega.{arith}
use native.Mathlib.Nat.{zero-add, add-zero}
use native.Mathlib.Numerals.{add-one}
use lib.ListN.{length, take, drop, set, get_or, length-append, length-drop, take-append-drop, replicate, length-replicate, replicate-append-replicate}
use lib.Seq.{drop-append-add, drop-drop, set_split, length-take-le, take_at, take-suc}
use borrow.Rule.Slice.PartMut.{put_mid, post_of, Post-is}
use borrow.Author.Tests.{le-leb, lt-leb}
use Rattle.octets.specs.Write.{put, laid, laid_at, next_at, Laid, Wrote, WroteIf}

pub put_nil : (b : List ℕ) (at : ℕ) → put b at [] ≡ b
unfolding put
put_nil b at = rw add-zero (take-append-drop at b)

-- at the front, a write is what a promise says of the whole buffer
pub put_front : (b ys : List ℕ) → put b 0 ys ≡ laid ys b
unfolding put laid
put_front b ys = rw zero-add

pub laid_nothing : (b : List ℕ) → laid [] b ≡ b
unfolding laid
laid_nothing b = refl

pub set_put : (b : List ℕ) (at v : ℕ) → at < length b → set b at v ≡ put b at (v ∷ [])
unfolding put
set_put b at v h = rw (add-one, set_split b at v)

pub length_put : (b : List ℕ) (at : ℕ) (ys : List ℕ) → at + length ys ≤ length b → length (put b at ys) ≡ length b
unfolding put
length_put b at ys h =
    let t : length (take at b) ≡ at = length-take-le at b (omega arith) in
    simp (length-append, length-drop, t) (omega arith)

drop_past : (p b : List ℕ) (n k : ℕ) → length p ≡ n → drop (n + k) (p ++ drop n b) ≡ drop (n + k) b
drop_past p b n k e = ap (λ (m : ℕ). drop (m + k) (p ++ drop n b)) (sym e) ∙ drop-append-add p (drop n b) k ∙ drop-drop k n b

-- a write right behind a write is one write
pub put_put : (b : List ℕ) (at : ℕ) (ys zs : List ℕ) (n : ℕ) → at + length ys ≡ n → n ≤ length b → put (put b at ys) n zs ≡ put b at (ys ++ zs)
unfolding put
put_put b at ys zs n e h =
    let t : length (take at b) ≡ at = length-take-le at b (omega arith) in
    let l : length (take at b ++ ys) ≡ n = length-append (take at b) ys ∙ omega arith in
    let q : (take at b ++ (ys ++ drop (at + length ys) b)) ≡ (take at b ++ ys) ++ drop n b = rw e (sym (append_assoc (take at b) ys (drop n b))) in
    let u : take n ((take at b ++ ys) ++ drop n b) ≡ take at b ++ ys = take_at _ _ n l in
    let d : drop (n + length zs) ((take at b ++ ys) ++ drop n b) ≡ drop (n + length zs) b = drop_past (take at b ++ ys) b n (length zs) l in
    let k : at + (length ys + length zs) ≡ n + length zs = omega arith in
    rw (q, u, d) (simp (append_assoc, length-append, k))

-- a turn of a loop that writes one octet more of what it is to write
pub put_more : (b ys zs l : List ℕ) (at i x : ℕ) → length ys ≡ i → zs ≡ ys ++ (x ∷ []) → at + i < length b → l ≡ put b at ys → set l (at + i) x ≡ put b at zs
put_more b ys zs l at i x n z h e =
    let q : length l ≡ length b = ap length e ∙ length_put b at ys (omega arith) in
    set_put l (at + i) x (omega arith)
    ∙ ap (λ (m : List ℕ). put m (at + i) (x ∷ [])) e
    ∙ put_put b at ys (x ∷ []) (at + i) (omega arith) (omega arith)
    ∙ ap (put b at) (sym z)

pub copy_more : (b s l : List ℕ) (at i : ℕ) → at + length s ≤ length b → i < length s → l ≡ put b at (take i s) → set l (at + i) (get_or s i 0) ≡ put b at (take (i + 1) s)
copy_more b s l at i h k e = put_more b (take i s) (take (i + 1) s) l at i (get_or s i 0) (length-take-le i s (omega arith)) (rw (add-one, take-suc s i 0)) (omega arith) e

pub clear_more : (b l : List ℕ) (at n i : ℕ) → at + n ≤ length b → i < n → l ≡ put b at (replicate i 0) → set l (at + i) 0 ≡ put b at (replicate (i + 1) 0)
clear_more b l at n i h k e = put_more b (replicate i 0) (replicate (i + 1) 0) l at i 0 (length-replicate i 0) (sym (replicate-append-replicate i 1 0)) (omega arith) e

pub wrote_length : {b : List ℕ} {at : ℕ} {ys l : List ℕ} {n : ℕ} → Wrote b at ys l n → length l ≡ length b
wrote_length {b} {at} {ys} {l} {n} w = ap length w.list ∙ length_put b at ys (omega arith)

-- what a writer did, by whether all fits
pub laid_in : {b : List ℕ} {at : ℕ} {ys l : List ℕ} {n : ℕ} → Wrote b at ys l n → Laid b at ys l n
unfolding laid_at next_at
laid_in {b} {at} {ys} {l} {n} w =
    let h : at + length ys ≤ length b = omega arith in
    record { list = rw (le-leb _ _ h) w.list; next = rw (le-leb _ _ h) w.next }

pub laid_out : {b : List ℕ} {at : ℕ} (ys : List ℕ) → length b < at + length ys → Laid b at ys b at
unfolding laid_at next_at
laid_out ys h = record { list = rw (lt-leb _ _ h); next = rw (lt-leb _ _ h) }

-- the octets of a part of the buffer written over
pub laid_over : (b : List ℕ) (at end : ℕ) (ys zs : List ℕ) → ys ≡ zs → end ≡ at + length zs → end ≤ length b → Laid b at zs (put_mid at (end - at) b ys) end
unfolding put
laid_over b at end ys zs e n h =
    let d : post_of at (end - at) b ≡ drop (at + length zs) b = Post-is at end b (omega arith) ∙ ap (λ (k : ℕ). drop k b) n in
    laid_in (record { list = ap₂ (λ (x y : List ℕ). take at b ++ (x ++ y)) e d; next = n; fits = h })

pub zeros_out : {b : List ℕ} {at : ℕ} (n : ℕ) → length b < at + n → Laid b at (replicate n 0) b at
zeros_out n h =
    let l : length {A = ℕ} (replicate n 0) ≡ n = length-replicate n 0 in
    laid_out (replicate n 0) (omega arith)

-- A run of writers: it starts with nothing, each writer adds what it puts, and the room is shown at its end.
pub nothing : {b : List ℕ} {at : ℕ} → WroteIf b at [] b at
nothing {b} {at} = record { fit = λ h. record { list = sym (put_nil b at); next = omega arith; fits = omega arith } }

pub written : {b : List ℕ} {at : ℕ} {ys l : List ℕ} {n : ℕ} → Laid b at ys l n → WroteIf b at ys l n
unfolding laid_at next_at
written {b} {at} {ys} {l} {n} w = record {
  fit = λ h.
      let e : n ≡ at + length ys = rw (le-leb _ _ h) at w.next in
      record { list = rw (le-leb _ _ h) at w.list; next = e; fits = omega arith };
}

pub then : {b : List ℕ} {at : ℕ} {ys l : List ℕ} {n : ℕ} {zs m : List ℕ} {k : ℕ} → WroteIf b at ys l n → WroteIf l n zs m k → WroteIf b at (ys ++ zs) m k
then {b} {at} {ys} {l} {n} {zs} {m} {k} v w = record {
  fit = λ h.
      let e : length (ys ++ zs) ≡ length ys + length zs = length-append ys zs in
      let p : Wrote b at ys l n = v.fit (omega arith) in
      let q : length l ≡ length b = wrote_length p in
      let r : Wrote l n zs m k = w.fit (omega arith) in
      record {
        list = r.list ∙ ap (λ (x : List ℕ). put x n zs) p.list ∙ put_put b at ys zs n (sym p.next) p.fits;
        next = omega arith;
        fits = omega arith;
      };
}

pub more : {b : List ℕ} {at : ℕ} {ys l : List ℕ} {n : ℕ} {zs m : List ℕ} {k : ℕ} → WroteIf b at ys l n → Laid l n zs m k → WroteIf b at (ys ++ zs) m k
more v w = then v (written w)
