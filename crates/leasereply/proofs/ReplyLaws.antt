-- The laws of a reply's octets. Assumes nothing.
use Prim.Native.Nat.{ℕ, ◌+◌, ◌*◌, ◌/◌, ◌%◌, ◌≤◌, ◌<◌}
use mathlib.Core.Path.{◌≡◌, refl, sym, ap, ◌∙◌}
use mathlib.Core.List.{List, [], ◌∷◌, ◌++◌, append_assoc, append-nil}
use mathlib.Core.Bool.{Bool, true, false, cond, ◌||◌}
use native.Mathlib.Omega.{arith}
use native.Mathlib.Nat.{zero-add, mod-add-div, add-mul-mod_self_left, add-mul-div_left}
use native.Mathlib.Numerals.{add-one}
use lib.ListN.{length, take, drop, get_or, length-append, length-take, length-map}
use lib.Dec.{ltb, eqb, lit<}
use borrow.Author.Tests.{ltb-false}
use lib.Seq.{take-suc, length-take-le}
use Rattle.octets.proofs.BoolLaws.{or_right}
use Rattle.clock.specs.declared.Moment.{Moment}
use Rattle.clock.specs.Clock.{moment, seconds_left, seconds_since}
use Rattle.octets.specs.Number.{big_endian}
use Rattle.octets.specs.Write.{laid, Laid, WroteIf}
use Rattle.octets.proofs.NumberLaws.{length_big_endian}
use Rattle.octets.proofs.WriteLaws.{nothing, more, put_front}
use Rattle.lease.specs.declared.Lease.{Lease}
use Rattle.lease.specs.declared.Rank.{Rank}
use Rattle.leasepacket.specs.Packet.{part}
use Rattle.leasepacket.specs.Options.{Opt}
use Rattle.leasepacket.specs.declared.requested.Requested.{Requested}
use Rattle.leasepacket.specs.Layout.{fixed_fields, option, encoded}
use Rattle.leasepacket.specs.Requested.{request_list, is_requested}
use Rattle.leasepacket.specs.ReplyOptions.{in_active, in_kind, held, sent_by}
use Rattle.leasepacket.specs.Reading.{requested_in}
use Rattle.leasepacket.proofs.SentLaws.{encoded_held, held_short, sent_more, sent_none, nothing_sent}
use Rattle.leasereply.specs.Reply.{fixed, options_of, of_server, of_lease, flat, other_reply, active_reply, addresses_of, listed, asked, about_lease, Wrote}

-- ---- options that may be left out
pub none_encoded : {b : List ℕ} {at : ℕ} → WroteIf b at (encoded []) b at
unfolding encoded
none_encoded = nothing

pub some_encoded : {b v l : List ℕ} {at n k code : ℕ} → length v ≡ n → 0 < n → WroteIf b at (code ∷ n ∷ v) l k → WroteIf b at (encoded (held code v)) l k
some_encoded {b} {v} {l} {at} {n} {k} {code} e h w = rw (encoded_held code v (omega arith), e) w

pub asked_not : {b : List ℕ} {at : ℕ} (is : Bool) (code : ℕ) (v : List ℕ) → is ≡ false → WroteIf b at (asked is code v) b at
asked_not is code v e = rw e none_encoded

pub asked_none : {b : List ℕ} {at : ℕ} (is : Bool) (code n : ℕ) (v : List ℕ) → is ≡ true → n ≡ 0 → WroteIf b at (asked is code (take n v)) b at
asked_none is code n v e z = rw (e, z) none_encoded

pub asked_number : {b l : List ℕ} {at k : ℕ} (is : Bool) (code v : ℕ) → is ≡ true → WroteIf b at (option code (big_endian 4 v)) l k → WroteIf b at (asked is code (big_endian 4 v)) l k
asked_number is code v e w =
    let n = length_big_endian 4 v in
    rw e (some_encoded n (omega arith) (rw n at w))

-- ---- the options of a reply behind its fixed fields, one by one
regrouped : (front a b c d e f g end : List ℕ) → front ++ ((a ++ (b ++ (c ++ (d ++ (e ++ (f ++ (g ++ []))))))) ++ end) ≡ front ++ a ++ b ++ (c ++ d ++ e ++ f) ++ g ++ end
regrouped front a b c d e f g end = simp (append_assoc, append-nil) refl

module _ (q front : List ℕ) (server : ℕ) where
  server_held : encoded (held 54 (big_endian 4 server)) ≡ option 54 (big_endian 4 server)
  server_held = let n = length_big_endian 4 server in encoded_held 54 (big_endian 4 server) (omega (arith, n))

  -- no other code has anything to say
  no_more : (kind : ℕ) (b : Bool) → sent_by q (of_server kind server) (cond b in_active []) ≡ []
  unfolding of_server
  no_more kind false = nothing_sent q (of_server kind server) [] tt
  no_more kind true = nothing_sent q (of_server kind server) in_active (refl, (refl, (refl, (refl, (refl, tt)))))

  other_options : (kind : ℕ) → encoded (sent_by q (of_server kind server) (in_kind kind)) ≡ option 53 (kind ∷ []) ++ option 54 (big_endian 4 server)
  unfolding sent_by of_server encoded
  other_options kind =
      ap (λ (os : List Opt). option 53 (kind ∷ []) ++ encoded os)
      (ap (λ (os : List Opt). held 54 (big_endian 4 server) ++ os) (no_more kind (eqb kind 13)) ∙ append-nil (held 54 (big_endian 4 server)))
      ∙ ap (λ (l : List ℕ). option 53 (kind ∷ []) ++ l) server_held

  pub other_parts : (kind : ℕ) → front ++ options_of kind q (of_server kind server) ≡ front ++ option 53 (kind ∷ []) ++ option 54 (big_endian 4 server) ++ (255 ∷ [])
  unfolding options_of
  other_parts kind = rw (other_options kind) (simp append_assoc refl)

  pub active_parts : (clock : Moment) (x : Lease) (addresses : List ℕ) → front ++ options_of 13 q (of_lease clock server x addresses) ≡ front ++ option 53 (13 ∷ []) ++ option 54 (big_endian 4 server) ++ about_lease clock x (requested_in (request_list q)) ++ encoded (held 92 (flat addresses)) ++ (255 ∷ [])
  unfolding options_of of_lease of_server about_lease is_requested encoded
  active_parts clock x addresses =
      let said = of_lease clock server x addresses in
      let about : encoded (sent_by q said in_active) ≡ _ = sent_more q said _ _ _ (sent_more q said _ _ _ (sent_more q said _ _ _ (sent_more q said _ _ _ (sent_more q said _ _ _ (sent_none q said))))) in
      ap (λ (l : List ℕ). front ++ (l ++ (255 ∷ []))) (sent_more q said _ _ _ (sent_more q said _ in_active _ about))
      ∙ regrouped front (option 53 (13 ∷ [])) (encoded (held 54 (big_endian 4 server)))
      (asked (is_requested q 51) 51 (said 51)) (asked (is_requested q 61) 61 (said 61)) (asked (is_requested q 82) 82 (said 82)) (asked (is_requested q 91) 91 (said 91))
      (encoded (held 92 (flat addresses))) (255 ∷ [])
      ∙ ap (λ (l : List ℕ). front ++ option 53 (13 ∷ []) ++ l ++ about_lease clock x (requested_in (request_list q)) ++ encoded (held 92 (flat addresses)) ++ (255 ∷ [])) server_held

-- ---- addresses
flat_behind : (xs : List ℕ) (x : ℕ) → flat (xs ++ (x ∷ [])) ≡ flat xs ++ big_endian 4 x
unfolding flat
flat_behind [] x = append-nil (big_endian 4 x)
flat_behind (y ∷ ys) x = ap (λ (l : List ℕ). big_endian 4 y ++ l) (flat_behind ys x) ∙ sym (append_assoc (big_endian 4 y) (flat ys) (big_endian 4 x))

pub flat_length : (xs : List ℕ) → length (flat xs) ≡ 4 * length xs
unfolding flat
flat_length [] = refl
flat_length (x ∷ xs) = length-append (big_endian 4 x) (flat xs) ∙ (let h = flat_length xs in let k = length_big_endian 4 x in omega arith)

map_behind : (xs : List Rank) (x : Rank) → addresses_of (xs ++ (x ∷ [])) ≡ addresses_of xs ++ (x.address ∷ [])
map_behind [] x = refl
map_behind (y ∷ ys) x = ap (λ (l : List ℕ). y.address ∷ l) (map_behind ys x)

abbrev no_rank : Rank
no_rank = record { last = moment 0; address = 0 }

-- one address more is written
pub flat_more : {b l m : List ℕ} {at a k : ℕ} (v : List Rank) (i : ℕ) → i < length v → WroteIf b at (flat (addresses_of (take i v))) l a → Laid l a (big_endian 4 (get_or v i no_rank).address) m k → WroteIf b at (flat (addresses_of (take (i + 1) v))) m k
flat_more v i h p q = rw (add-one, take-suc v i no_rank h, map_behind (take i v) (get_or v i no_rank), flat_behind (addresses_of (take i v)) (get_or v i no_rank).address) (more p q)

pub addresses_length : (v : List Rank) (n : ℕ) → n ≤ length v → length (flat (addresses_of (take n v))) ≡ 4 * n
addresses_length v n h = flat_length (addresses_of (take n v)) ∙ ap (λ (k : ℕ). 4 * k) (length-map (take n v) (λ (r : Rank). r.address) ∙ length-take-le n v h)

-- ---- no reply is longer than 648 octets
part_short : (q : List ℕ) (at n : ℕ) → length (part q at n) ≤ n
part_short q at n = let e = length-take n (drop at q) in omega (arith, e)

fixed_short : (q : List ℕ) (htype hlen : ℕ) (ciaddr chaddr : List ℕ) → length ciaddr ≤ 4 → length chaddr ≤ 16 → length (fixed q htype hlen ciaddr chaddr) ≤ 240
unfolding fixed fixed_fields
fixed_short q htype hlen ciaddr chaddr a b =
    let x = part_short q 4 4 in
    let y = part_short q 10 2 in
    let z = part_short q 24 4 in
    simp length-append (omega (arith, x, y, z))

pub other_short : (kind server : ℕ) (q : List ℕ) → length (other_reply kind server q) ≤ 648
unfolding other_reply
other_short kind server q =
    let f = fixed_short q (get_or q 1 0) (get_or q 2 0) (part q 12 4) (part q 28 16) (part_short q 12 4) (part_short q 28 16) in
    let n = length_big_endian 4 server in
    rw (other_parts q (fixed q (get_or q 1 0) (get_or q 2 0) (part q 12 4) (part q 28 16)) server kind) (simp length-append (omega (arith, f, n)))

lease_short : (clock : Moment) (x : Lease) (r : Requested) → length (take x.idlen x.id) ≤ 64 → length (take x.relaylen x.relay) ≤ 64 → length (about_lease clock x r) ≤ 144
unfolding about_lease
lease_short clock x r p q =
    let left = big_endian 4 (seconds_left x.expiry clock).0 in
    let since = big_endian 4 (seconds_since x.last clock).0 in
    let a = held_short 51 left r.seconds_left in
    let b = held_short 61 (take x.idlen x.id) r.client_id in
    let c = held_short 82 (take x.relaylen x.relay) r.relay_information in
    let d = held_short 91 since r.seconds_since in
    let m = length_big_endian 4 (seconds_left x.expiry clock).0 in
    let n = length_big_endian 4 (seconds_since x.last clock).0 in
    simp length-append (omega (arith, a, b, c, d, m, n))

pub active_short : (clock : Moment) (server : ℕ) (q : List ℕ) (x : Lease) (addresses : List ℕ) → length (take x.idlen x.id) ≤ 64 → length (take x.relaylen x.relay) ≤ 64 → length addresses ≤ 63 → length (active_reply clock server q x addresses) ≤ 648
unfolding active_reply
active_short clock server q x addresses p r h =
    let c : length (big_endian 4 x.address) ≤ 4 = omega (arith, length_big_endian 4 x.address) in
    let k : length (take 16 x.chaddr) ≤ 16 = omega (arith, length-take 16 x.chaddr) in
    let f = fixed_short q x.htype x.hlen (big_endian 4 x.address) (take 16 x.chaddr) c k in
    let n = length_big_endian 4 server in
    let l = lease_short clock x (requested_in (request_list q)) p r in
    let o = held_short 92 (flat addresses) true in
    let e = flat_length addresses in
    rw (active_parts q (fixed q x.htype x.hlen (big_endian 4 x.address) (take 16 x.chaddr)) server clock x addresses) (simp length-append (omega (arith, f, n, l, o, e)))

-- ---- what a writer did, by whether query and buffer are long enough
module _ (q b : List ℕ) where
  pub fits_not : (w : List ℕ) → (ltb (length q) 240 || ltb (length b) 648) ≡ true → Wrote q b w 0 b
  unfolding laid
  fits_not w e = record { answers = rw e; holds = rw e; few = omega arith }

  pub fits : (w l : List ℕ) (n : ℕ) → (ltb (length q) 240 || ltb (length b) 648) ≡ false → length w ≤ 648 → WroteIf b 0 w l n → Wrote q b w n l
  fits w l n e s v =
      let k : 648 ≤ length b = ltb-false (length b) 648 (or_right (ltb (length q) 240) (ltb (length b) 648) e) in
      let r = v.fit (omega arith) in
      record {
        answers = rw e (r.next ∙ zero-add (length w));
        holds = rw e (r.list ∙ put_front b w);
        few = omega (arith, r.next, s);
      }

listed_short : (n : ℕ) (ranks : List Rank) → length (listed n ranks) ≤ 63
listed_short n ranks = go (ltb n 2 || ltb 63 n) refl
  where
    go : (b : Bool) → (ltb n 2 || ltb 63 n) ≡ b → length (cond b [] (addresses_of (take n ranks))) ≤ 63
    go true e = omega arith
    go false e =
        let h : n ≤ 63 = ltb-false 63 n (or_right (ltb n 2) (ltb 63 n) e) in
        omega (arith, length-map (take n ranks) (λ (r : Rank). r.address), length-take n ranks)

pub active_fits : (clock : Moment) (server : ℕ) (q : List ℕ) (x : Lease) (n : ℕ) (ranks : List Rank) → length x.id ≡ 64 → length x.relay ≡ 64 → length (active_reply clock server q x (listed n ranks)) ≤ 648
active_fits clock server q x n ranks a b =
    active_short clock server q x (listed n ranks) (omega (arith, length-take x.idlen x.id)) (omega (arith, length-take x.relaylen x.relay)) (listed_short n ranks)

-- ---- the lower four octets
part_of : (v r q k : ℕ) → v ≡ r + 256 * (k * q) → (v % 256 ≡ r % 256) × (v / 256 ≡ r / 256 + k * q)
part_of v r q k e = let p : 0 < 256 = lit< tt in (ap (λ (m : ℕ). m % 256) e ∙ add-mul-mod_self_left r 256 (k * q), ap (λ (m : ℕ). m / 256) e ∙ add-mul-div_left r (k * q) p)

pub low_octets : (v : ℕ) → big_endian 4 (v % 4294967296) ≡ big_endian 4 v
unfolding big_endian
low_octets v =
    let q = v / 4294967296 in
    let r = v % 4294967296 in
    let e : v ≡ r + 4294967296 * q = sym (mod-add-div v 4294967296) in
    let a = part_of v r q 16777216 (omega (arith, e)) in
    let b = part_of (v / 256) (r / 256) q 65536 (omega (arith, a.1)) in
    let c = part_of (v / 256 / 256) (r / 256 / 256) q 256 (omega (arith, b.1)) in
    let d = part_of (v / 256 / 256 / 256) (r / 256 / 256 / 256) q 1 (omega (arith, c.1)) in
    rw (a.0, b.0, c.0, d.0)
