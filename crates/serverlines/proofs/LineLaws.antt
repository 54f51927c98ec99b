-- The laws of the lines of an answer. Assumes nothing.
use mathlib.Core.Path.{◌≡◌, refl, sym, ap, ◌∙◌}
use mathlib.Core.Bool.{Bool, true, false, cond}
use mathlib.Core.List.{List, [], ◌∷◌, ◌++◌, append_assoc, append-nil}
use Prim.Native.Nat.{ℕ, ◌+◌, ◌*◌, ◌≤◌, ◌<◌}
use native.Mathlib.Omega.{arith}
use native.Mathlib.Numerals.{add-one}
use lib.Dec.{leb, eqb}
use borrow.Author.Tests.{leb-true}
use lib.ListN.{length, take, drop, get_or, length-append}
use lib.Seq.{take-suc, take_at}
use Rattle.entries.specs.Entries.{expires}
use Rattle.rdnss.specs.declared.ServerListAnswer.{ServerListAnswer}
use Rattle.serverlist.specs.Servers.{servers, held}
use Rattle.serverlist.specs.declared.Server.{Server}
use Rattle.octets.specs.Write.{put, laid_at, next_at, laid, Laid, Wrote}
use Rattle.octets.proofs.WriteLaws.{nothing, then, put_front, length_put, wrote_length}
use Rattle.text.specs.Text.{ascii, decimal, hex}
use Rattle.text.proofs.TextLaws.{decimal_is_short, two_an_octet}
use Rattle.serverlines.specs.Lines.{line, server_line, server_lines, list_lines, refusal_line, answer_lines}
use Rattle.serverlines.specs.Inner.{PutWithin}

-- a number of 64 bits has at most twenty digits
pub twenty : (n : ℕ) → n < 18446744073709551616 → length (decimal n) ≤ 20
twenty n h = decimal_is_short 20 n (omega arith) (omega arith)

pub server_short : (e : Server) → length e.address.octets ≡ 16 → length (decimal (expires servers e).0) ≤ 20 → length (server_line e) ≤ 54
unfolding server_line ascii
server_short e n h =
    let d : length (hex e.address.octets) ≡ 32 = two_an_octet e.address.octets ∙ ap (λ (k : ℕ). 2 * k) n in
    let a : List ℕ = hex e.address.octets ++ ascii " " in
    let s : length a ≡ 33 = length-append (hex e.address.octets) (ascii " ") ∙ omega arith in
    let t : length (a ++ decimal (expires servers e).0) ≡ 33 + length (decimal (expires servers e).0) = length-append a (decimal (expires servers e).0) ∙ omega arith in
    let u : length ((a ++ decimal (expires servers e).0) ++ ascii "\n") ≡ length (a ++ decimal (expires servers e).0) + 1 = length-append (a ++ decimal (expires servers e).0) (ascii "\n") in
    omega arith

-- a word, a number and a line end
pub word_short : (w : List ℕ) (n : ℕ) → length w ≡ 8 → n < 18446744073709551616 → length (line (w ++ decimal n)) ≤ 29
unfolding ascii
word_short w n e h =
    let d : length (decimal n) ≤ 20 = twenty n h in
    let s : length (w ++ decimal n) ≡ 8 + length (decimal n) = length-append w (decimal n) ∙ omega arith in
    let u : length ((w ++ decimal n) ++ ascii "\n") ≡ length (w ++ decimal n) + 1 = length-append (w ++ decimal n) (ascii "\n") in
    omega arith

-- the lines of one server more
lines_more : (l : List Server) (e : Server) → server_lines (l ++ (e ∷ [])) ≡ server_lines l ++ server_line e
unfolding server_lines
lines_more [] e = append-nil (server_line e)
lines_more (d ∷ l) e = ap (λ (s : List ℕ). server_line d ++ s) (lines_more l e) ∙ sym (append_assoc (server_line d) (server_lines l) (server_line e))

pub servers_begin : (buf : List ℕ) (at : ℕ) (l : List Server) → PutWithin (54 * 0) buf at (server_lines (take 0 l)) buf at
unfolding server_lines
servers_begin buf at l = record { wrote = nothing; short = omega arith }

module _ {b : List ℕ} {at : ℕ} {m : List ℕ} {n : ℕ} {k : List ℕ} {p : ℕ} where
  pub servers_turn : (l : List Server) (i : ℕ) (d : Server) → i < length l → PutWithin (54 * i) b at (server_lines (take i l)) m n → PutWithin 54 m n (server_line (get_or l i d)) k p
      → PutWithin (54 * (i + 1)) b at (server_lines (take (i + 1) l)) k p
  servers_turn l i d h v w =
      let e : server_lines (take (i + 1) l) ≡ server_lines (take i l) ++ server_line (get_or l i d) = ap (λ (j : ℕ). server_lines (take j l)) (add-one i) ∙ ap server_lines (take-suc l i d h) ∙ lines_more (take i l) (get_or l i d) in
      rw e (record {
        wrote = then v.wrote w.wrote;
        short = omega (arith, v.short, w.short, length-append (server_lines (take i l)) (server_line (get_or l i d)));
      })

-- the whole of a list
pub list_put : {b : List ℕ} {at : ℕ} {m : List ℕ} {k : ℕ} {o : List ℕ} {r : ℕ} (l : List Server) → length l ≤ 8
    → PutWithin 29 b at (line (ascii "servers " ++ decimal (length l))) m k → PutWithin (54 * length l) m k (server_lines l) o r → PutWithin 512 b at (list_lines l) o r
unfolding list_lines
list_put l e v w = record { wrote = then v.wrote w.wrote; short = omega (arith, v.short, w.short, length-append (line (ascii "servers " ++ decimal (length l))) (server_lines l)) }

-- the line of a refusal
pub refusal_put : {b : List ℕ} {at : ℕ} {m : List ℕ} {k : ℕ} (n : ℕ) → PutWithin 29 b at (line (ascii "refused " ++ decimal n)) m k → PutWithin 512 b at (refusal_line n) m k
unfolding refusal_line
refusal_put n v = record { wrote = v.wrote; short = omega (arith, v.short) }

-- what stands at the front of a buffer with room for it
pub record Front (ys lines : List ℕ) (n : ℕ) : Type 0 where
  pub within : n ≤ length lines
  pub text : take n lines ≡ ys

pub front : {b ys lines : List ℕ} {n : ℕ} → length b ≡ 512 → PutWithin 512 b 0 ys lines n → Front ys lines n
unfolding laid
front {b} {ys} {lines} {n} e p =
    let w : Wrote b 0 ys lines n = p.wrote.fit (omega (arith, p.short)) in
    let k : length ys ≡ n = omega (arith, w.next) in
    let l : lines ≡ ys ++ drop (length ys) b = w.list ∙ put_front b ys in
    record { within = omega (arith, wrote_length w, w.fits); text = ap (take n) l ∙ take_at ys (drop (length ys) b) n k }

pub answer_refused : (a : ServerListAnswer) → eqb a.refusal 0 ≡ false → answer_lines a ≡ refusal_line a.refusal
unfolding answer_lines
answer_refused a h = rw h

pub answer_list : (a : ServerListAnswer) → eqb a.refusal 0 ≡ true → answer_lines a ≡ list_lines (held a.list)
unfolding answer_lines
answer_list a h = rw h

-- the place that a writer answers lies in the buffer, if the one that it was given does
pub next_within : {b : List ℕ} {at : ℕ} {ys l : List ℕ} {n : ℕ} → Laid b at ys l n → at ≤ length b → n ≤ length l
unfolding laid_at next_at
next_within {b} {at} {ys} {l} {n} w h = go (leb (at + length ys) (length b)) refl w.list w.next
  where
    go : (t : Bool) → leb (at + length ys) (length b) ≡ t → l ≡ cond t (put b at ys) b → n ≡ cond t (at + length ys) at → n ≤ length l
    go true q d e =
        let k : at + length ys ≤ length b = leb-true (at + length ys) (length b) q in
        omega (arith, k, e, ap length d ∙ length_put b at ys k)
    go false q d e = omega (arith, ap length d, e)
