-- The claims of specs/Asks.antt. Assumes nothing.
use Prim.Native.Nat.{ℕ}
use mathlib.Core.Path.{◌≡◌, refl, sym, ap, ◌∙◌, subst}
use mathlib.Core.Bool.{true, false, not, true≢false}
use mathlib.Core.List.{List, [], ◌∷◌}
use mathlib.Core.Logic.{◌⊎◌, inl, inr, ⊎_elim}
use mathlib.Core.Option.{none}
use native.Mathlib.Omega.{arith}
use borrow.Table.Steps.{cases}
use borrow.Author.Tests.{eqb-true, eqb-false, leb-true, leb-false, not-true, not-false}
use lib.Dec.{ltb, leb, eqb}
use lib.ListN.{length, take, drop}
use lib.Seq.{take-append_seam}
use Rattle.octets.specs.Write.{laid}
use Rattle.octets.proofs.BoolLaws.{and_both, and_left, and_right}
use Rattle.clock.specs.declared.Moment.{Moment}
use Rattle.clock.specs.Clock.{is_moment}
use Rattle.lease.specs.declared.Lease.{Lease}
use Rattle.lease.specs.Lease.{active_at}
use Rattle.leasepacket.specs.Layout.{option}
use Rattle.leasepacket.specs.Requested.{request_list}
use Rattle.leasepacket.specs.Query.{Asked, refused, by_address, by_client_id, first_of, asking}
use Rattle.leasetable.specs.Table.{table_fits, those, ranked}
use Rattle.leasequery.specs.Answer.{told, has_key, leases_of, by_address_of, by_client_of, answer_by, asked_of, answer}
use Rattle.deskquery.specs.Query.{hardware_key, packet, query_by, is_key, write_refusals, asked_by}
use Rattle.deskquery.specs.Promise.{refusal_of, given}
use Rattle.deskclaims.specs.Asks.{Handed, address, hardware, client_id, key_of, Address, Typed, Asking, sent, AsksForItsKey, AsksForAll, Own, TakenByTheBox, TooLong, RefusesNoMore}
use Rattle.deskclaims.proofs.PacketLaws.{refused_giaddr, giaddr_is}
use Rattle.deskclaims.proofs.KeyLaws.{none_set, zeros, address_no_list, asks_address, no_address, hardware_no_list, asks_hardware, no_hardware, long_hardware, id_no_list, asks_id, short_id, padded}

-- ---- what a call is asked for: the key, where it gives no refusal
module _ (giaddr : ℕ) (key : Asked) (room : ℕ) where
  abbrev asked : Asked
  asked = asked_by giaddr key room

  asked_key : refusal_of asked ≡ 0 → (asked ≡ key) × (giaddr ≡ 0 → ⊥) × (is_key key ≡ true)
  unfolding asked_by write_refusals first_of
  asked_key e =
      cases (eqb giaddr 0) (λ g. absurd (let z : ◌≡◌ {A = ℕ} 19 0 = rw g at e in omega arith))
      (λ g. cases (is_key key)
      (λ k. cases (ltb room 501) (λ r. absurd (let z : ◌≡◌ {A = ℕ} 32 0 = rw (g, k, r) at e in omega arith))
      (λ r. (rw (g, k, r), eqb-false giaddr 0 g, k)))
      (λ k. absurd (let z : ◌≡◌ {A = ℕ} 19 0 = rw (g, k) at e in omega arith)))

  asked_19 : refusal_of key ≡ 0 → refusal_of asked ≡ 19 → (giaddr ≡ 0) ⊎ (is_key key ≡ false)
  unfolding asked_by write_refusals first_of
  asked_19 h e =
      cases (eqb giaddr 0) (λ g. inl (eqb-true giaddr 0 g))
      (λ g. cases (is_key key)
      (λ k. cases (ltb room 501) (λ r. absurd (let z : ◌≡◌ {A = ℕ} 32 19 = rw (g, k, r) at e in omega arith))
      (λ r. absurd (let z : refusal_of key ≡ 19 = rw (g, k, r) at e in omega (arith, z, h))))
      (λ k. inr k))

-- ---- the octets that are sent, and the refusal
module _ (a : Asking) where
  abbrev key : Asked
  key = key_of a.handed

  abbrev given_to : Asked
  given_to = asked_by a.giaddr key (length a.buffer)

  refusal_is_lem : a.result.refusal ≡ refusal_of given_to
  unfolding given
  refusal_is_lem = ap (λ x. x.0.refusal) a.promised

  sent_is : sent a ≡ query_by a.xid a.giaddr given_to
  unfolding given laid
  sent_is =
      let q = query_by a.xid a.giaddr given_to in
      ap (λ x. take x.0.length x.1) a.promised ∙ take-append_seam q (drop (length q) a.buffer)

-- ---- the claims
-- a key that is taken is asked for
asks : (xid giaddr : ℕ) → Address giaddr → (giaddr ≡ 0 → ⊥) → (h : Handed) → Typed h → is_key (key_of h) ≡ true → asking (query_by xid giaddr (key_of h)) ≡ key_of h
unfolding query_by is_key hardware_key
asks xid giaddr g n (address a) w k = asks_address xid giaddr a w g n (eqb-false a 0 (not-true (eqb a 0) k))
asks xid giaddr g n (hardware htype octets) w k =
    let least = leb-true 1 (length octets) (and_left (leb 1 (length octets)) (leb (length octets) 16) k) in
    let most = leb-true (length octets) 16 (and_right (leb 1 (length octets)) (leb (length octets) 16) k) in
    asks_hardware xid giaddr htype (length octets) (laid octets none_set) (padded octets most) g n least most
asks xid giaddr g n (client_id id) w k =
    let least = leb-true 2 (length id) (and_left (leb 2 (length id)) (leb (length id) 255) k) in
    let most = leb-true (length id) 255 (and_right (leb 2 (length id)) (leb (length id) 255) k) in
    asks_id xid giaddr id g n least most

-- and has no list
lists_none : (xid giaddr : ℕ) (h : Handed) → Typed h → is_key (key_of h) ≡ true → request_list (query_by xid giaddr (key_of h)) ≡ none
unfolding query_by is_key hardware_key
lists_none xid giaddr (address a) w k = address_no_list xid giaddr a w
lists_none xid giaddr (hardware htype octets) w k =
    let most = leb-true (length octets) 16 (and_right (leb 1 (length octets)) (leb (length octets) 16) k) in
    hardware_no_list xid giaddr htype (length octets) (laid octets none_set) (padded octets most)
lists_none xid giaddr (client_id id) w k = id_no_list xid giaddr id

pub asks_for_its_key : AsksForItsKey
asks_for_its_key a r =
    let k = asked_key a.giaddr (key_of a.handed) (length a.buffer) (sym (refusal_is_lem a) ∙ r) in
    ap asking (sent_is a) ∙ ap (λ (x : Asked). asking (query_by a.xid a.giaddr x)) k.0
    ∙ asks a.xid a.giaddr a.relay k.1 a.handed a.typed k.2

pub asks_for_all : AsksForAll
asks_for_all a r =
    let k = asked_key a.giaddr (key_of a.handed) (length a.buffer) (sym (refusal_is_lem a) ∙ r) in
    ap request_list (sent_is a) ∙ ap (λ (x : Asked). request_list (query_by a.xid a.giaddr x)) k.0
    ∙ lists_none a.xid a.giaddr a.handed a.typed k.2

-- ---- the box: a key that is asked for is answered, and what stands before it are the refusals of clock, table and buffer
module _ (clock : Moment) (server : ℕ) (q : List ℕ) where
  client_answered : (l : List Lease) → (told (by_client_of clock server q l)).refusal ≡ 0
  unfolding by_client_of
  client_answered [] = refl
  client_answered (x ∷ []) = refl
  client_answered (x ∷ y ∷ ys) = refl

  address_answered : (l : List Lease) → (told (by_address_of clock server q l)).refusal ≡ 0
  unfolding by_address_of
  address_answered [] = refl
  address_answered (x ∷ xs) = cases (active_at clock x) (λ e. rw e) (λ e. rw e)

  key_answered : (h : Handed) (t : List Lease) → (told (answer_by clock server q (key_of h) t)).refusal ≡ 0
  unfolding answer_by hardware_key
  key_answered (address a) t = address_answered (those (has_key (by_address a)) t)
  key_answered (hardware htype octets) t = client_answered (ranked (leases_of clock server q (hardware_key htype octets) t))
  key_answered (client_id id) t = client_answered (ranked (leases_of clock server q (by_client_id id) t))

  -- by what applies first
  box_refusal : (t : List Lease) (room : ℕ) (h : Handed) → asking q ≡ key_of h → let n = (told (answer clock t server q room)).refusal in (n ≡ 0) ⊎ Own n
  unfolding answer asked_of answer_by first_of
  box_refusal t room h k =
      cases (not (is_moment clock)) (λ e. inr (inl (rw e)))
      (λ e. cases (not (table_fits t)) (λ f. inr (inr (inl (rw (e, f)))))
      (λ f. cases (ltb room 648) (λ r. inr (inr (inr (rw (e, f, r)))))
      (λ r. inl (rw (e, f, r, k) (key_answered h t)))))

pub taken_by_the_box : TakenByTheBox
taken_by_the_box a c r e =
    let n = ap (λ x. x.refusal) c.promised.answers in
    subst (λ (m : ℕ). (m ≡ 0) ⊎ Own m) (sym n)
    (box_refusal c.clock c.server c.query c.table (length c.buffer) a.handed (ap asking e ∙ asks_for_its_key a r))

-- ---- what is refused with 19
module _ (xid giaddr : ℕ) (g : Address giaddr) where
  abbrev TooMuch : Handed → Type 0
  TooMuch h = TooLong h ⊎ ((n : ℕ) × (asking (query_by xid giaddr (key_of h)) ≡ refused n))

  -- a giaddr of zero
  no_giaddr : giaddr ≡ 0 → (h : Handed) → TooMuch h
  unfolding query_by hardware_key
  no_giaddr z (address a) = inr (refused_giaddr (packet xid giaddr a 0 0 none_set []) (giaddr_is xid giaddr a 0 0 none_set [] zeros g ∙ z))
  no_giaddr z (hardware htype octets) =
      let p = packet xid giaddr 0 htype (length octets) (laid octets none_set) [] in
      cases (leb (length octets) 16)
      (λ e. inr (refused_giaddr p (giaddr_is xid giaddr 0 htype (length octets) (laid octets none_set) [] (padded octets (leb-true (length octets) 16 e)) g ∙ z)))
      (λ e. inr (long_hardware xid giaddr htype (length octets) (laid octets none_set) (leb-false (length octets) 16 e)))
  no_giaddr z (client_id id) = inr (refused_giaddr (packet xid giaddr 0 0 0 none_set (option 61 id)) (giaddr_is xid giaddr 0 0 0 none_set (option 61 id) zeros g ∙ z))

  -- a key that is not taken
  no_key_lem : (h : Handed) → Typed h → is_key (key_of h) ≡ false → TooMuch h
  unfolding query_by is_key hardware_key
  no_key_lem (address a) w k = inr (no_address xid giaddr a w (eqb-true a 0 (not-false (eqb a 0) k)))
  no_key_lem (hardware htype octets) w k =
      cases (leb (length octets) 16)
      (λ e. cases (leb 1 (length octets))
      (λ f. absurd (true≢false (sym (and_both (leb 1 (length octets)) (leb (length octets) 16) f e) ∙ k)))
      (λ f. let m = leb-false 1 (length octets) f in
      inr (no_hardware xid giaddr htype (length octets) (laid octets none_set) (padded octets (leb-true (length octets) 16 e)) (omega (arith, m)))))
      (λ e. inr (long_hardware xid giaddr htype (length octets) (laid octets none_set) (leb-false (length octets) 16 e)))
  no_key_lem (client_id id) w k =
      cases (leb (length id) 255)
      (λ e. cases (leb 2 (length id))
      (λ f. absurd (true≢false (sym (and_both (leb 2 (length id)) (leb (length id) 255) f e) ∙ k)))
      (λ f. inr (short_id xid giaddr id (leb-false 2 (length id) f))))
      (λ e. let m = leb-false (length id) 255 e in inl (omega (arith, m)))

-- none of the keys that a call is handed is a refusal
not_refused : (h : Handed) → refusal_of (key_of h) ≡ 0
unfolding hardware_key
not_refused (address a) = refl
not_refused (hardware htype octets) = refl
not_refused (client_id id) = refl

pub refuses_no_more : RefusesNoMore
refuses_no_more a r =
    ⊎_elim
    (λ z. no_giaddr a.xid a.giaddr a.relay z a.handed)
    (λ k. no_key_lem a.xid a.giaddr a.relay a.handed a.typed k)
    (asked_19 a.giaddr (key_of a.handed) (length a.buffer) (not_refused a.handed) (sym (refusal_is_lem a) ∙ r))
