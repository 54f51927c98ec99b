-- The claims of specs/RoundTrip.antt and specs/Listed.antt. Assumes nothing.
use Prim.Native.Nat.{ℕ, zero, suc, ◌≤◌, ◌<◌}
use mathlib.Core.Path.{◌≡◌, refl, sym, ap, ◌∙◌, subst}
use mathlib.Core.Bool.{Bool, true, false, cond, not, ◌&&◌, true≢false}
use mathlib.Core.List.{List, [], ◌∷◌, map}
use mathlib.Core.Logic.{◌⊎◌, inl, inr}
use mathlib.Core.Option.{Option, none, some}
use native.Mathlib.Omega.{arith}
use borrow.Table.Steps.{cases}
use borrow.Author.Tests.{eq-eqb, leb-true}
use lib.Dec.{leb, eqb}
use lib.ListN.{length, get_or, take, drop, length-take, length-map}
use lib.Seq.{take-append_seam}
use Rattle.clock.specs.declared.Moment.{Moment}
use Rattle.clock.specs.declared.Span.{Span}
use Rattle.clock.specs.Clock.{seconds_left, seconds_since}
use Rattle.octets.specs.Write.{laid}
use Rattle.octets.proofs.BoolLaws.{and_left, and_right}
use Rattle.lease.specs.declared.Lease.{Lease}
use Rattle.lease.specs.Lease.{no_lease, active_at, well_formed, lengths_fit, moments_fit, hardware_fits}
use Rattle.leasepacket.specs.Packet.{xid, hlen}
use Rattle.leasepacket.specs.Options.{values, values_in}
use Rattle.leasepacket.specs.Requested.{request_list, requested_by, is_requested}
use Rattle.leasepacket.specs.Query.{Asked, refused, by_address, by_hardware, by_client_id, asking}
use Rattle.leasepacket.specs.ReplyOptions.{held}
use Rattle.leasepacket.proofs.QueryLaws.{NotRefused, asked_fits, asking_sound, Sound}
use Rattle.leasepacket.proofs.SentLaws.{only}
use Rattle.leasetable.specs.Table.{table_fits, those, ranked}
use Rattle.leasereply.specs.Reply.{of_lease, other_reply, active_reply}
use Rattle.leasequery.specs.Answer.{Outcome, refusal, reply, told, written, has_key, leases_of, by_address_of, by_client_of, answer_by}
use Rattle.leaseclaims.specs.Claims.{Call, ActiveAt}
use Rattle.leaseclaims.proofs.ListLaws.{StandsAt, AllStand, those_stand, ranked_stand}
use Rattle.leaseclaims.proofs.OrderLaws.{formed_at}
use Rattle.leaseclaims.proofs.Claims.{answer_is_lem, rises, table_fits_lem}
use Rattle.deskreply.specs.Reading.{reading}
use Rattle.deskreply.specs.Reading as read
use Rattle.deskreply.specs.Promise.{is_there, answered}
use Rattle.deskclaims.specs.Asks.{Address}
use Rattle.deskclaims.specs.RoundTrip.{Typed, AllTyped, replied, ReadBack, time_for, from_query, from_lease, ReadsQuery, NotListed, AbsentExactly, ReadsLease, RoundTrip}
use Rattle.deskclaims.specs.Listed.{OnlyIfListed, SendsOnlyListed, InFull, AnsweredInFull}
use Rattle.deskclaims.proofs.Asks.{asks_for_all}
use Rattle.deskclaims.proofs.KindLaws.{AllAddress, Formed, Given, lacks_other, reads_other, reads_active, stands_all}

-- ---- what is known of the records of a table
typed_at : (t : List Lease) → AllTyped t → (i : ℕ) → i < length t → Typed (get_or t i no_lease)
typed_at [] a i h = absurd (omega arith)
typed_at (x ∷ xs) a zero h = a.0
typed_at (x ∷ xs) a (suc i) h = typed_at xs a.1 i (omega arith)

formed : (x : Lease) → Typed x → well_formed x ≡ true → Formed x
unfolding well_formed lengths_fit hardware_fits
formed x t w =
    let a = leb x.state 1 in
    let n = not (eqb x.idlen 1) in
    let i = leb x.idlen 64 in
    let r = leb x.relaylen 64 in
    let m = moments_fit x.last x.expiry in
    let h = leb x.hlen 16 in
    let z = not (eqb x.hlen 0) in
    let hardware = hardware_fits x.htype x.hlen x.chaddr in
    let l : (n && i && r) ≡ true = and_right a (n && i && r) (and_left (a && (n && i && r)) m (and_left (a && (n && i && r) && m) hardware w)) in
    let e : hardware ≡ true = and_right (a && (n && i && r) && m) hardware w in
    record {
      typed = t;
      hlen = leb-true x.hlen 16 (first_of_three _ _ _ e);
      idlen = leb-true x.idlen 64 (and_right n i (and_left (n && i) r l));
      not_1 = λ k. true≢false (sym (and_left n i (and_left (n && i) r l)) ∙ ap not (eq-eqb x.idlen 1 k));
      relaylen = leb-true x.relaylen 64 (and_right (n && i) r l);
    }
  where
    first_of_three : (a b c : Bool) → (a && b && c) ≡ true → a ≡ true
    first_of_three a b c e = and_left a b (and_left (a && b) c e)

-- ---- the addresses that are given
module _ (f : Lease → Bool) (t : List Lease) (a : AllTyped t) where
  address_small : (x : Lease) → StandsAt f t x → Address x.address
  address_small x s = subst (λ (y : Lease). Address y.address) s.2 (typed_at t a s.0 s.1).address

  addresses_small : (n : ℕ) (l : List Lease) → AllStand f t l → AllAddress (take n (map (λ z. z.address) l))
  addresses_small zero l s = tt
  addresses_small (suc n) [] s = tt
  addresses_small (suc n) (x ∷ xs) s = (address_small x s.0, addresses_small n xs s.1)

  none_given : Given []
  none_given = record { small = tt; not_1 = λ e. omega (arith, e); most = omega arith }

  some_given : (x y : Lease) (ys : List Lease) → AllStand f t (x ∷ y ∷ ys) → Given (take 63 (map (λ z. z.address) (x ∷ y ∷ ys)))
  some_given x y ys s =
      let l = length-take 63 (map (λ z. z.address) (x ∷ y ∷ ys)) in
      let m = length-map ys (λ (z : Lease). z.address) in
      record { small = addresses_small 63 (x ∷ y ∷ ys) s; not_1 = λ e. omega (arith, e, l, m); most = omega (arith, l) }

-- ---- what a call that was not refused comes to
module _ (c : Call) (a : AllTyped c.table) (fits : table_fits c.table ≡ true) where
  pub record IsOther (kind : ℕ) (octets : List ℕ) : Type 0 where
    pub number : (kind ≡ 11) ⊎ (kind ≡ 12)
    pub are : octets ≡ other_reply kind c.server c.query

  pub record IsActive (test : Lease → Bool) (kind : ℕ) (octets : List ℕ) : Type 0 where
    pub number : kind ≡ 13
    pub lease : Lease
    pub addresses : List ℕ
    pub place : ℕ
    pub active : ActiveAt c test place
    pub stands : get_or c.table place no_lease ≡ lease
    pub are : octets ≡ active_reply c.clock c.server c.query lease addresses
    pub good : Formed lease
    pub listed : Given addresses

  abbrev Back : (Lease → Bool) → Outcome → Type 0
  Back test (refusal n) = ⊥
  Back test (reply kind octets) = IsOther kind octets ⊎ IsActive test kind octets

  -- a lease that stands in the table, is active and passes the test
  about : (test f : Lease → Bool) (x : Lease) (bs : List ℕ) → (s : StandsAt f c.table x) → active_at c.clock x ≡ true → test x ≡ true → Given bs → IsActive test 13 (active_reply c.clock c.server c.query x bs)
  about test f x bs s active has g = record {
    number = refl;
    lease = x;
    addresses = bs;
    place = s.0;
    active = record { inside = s.1; active = ap (active_at c.clock) s.2 ∙ active; has = ap test s.2 ∙ has };
    stands = s.2;
    are = refl;
    good = subst Formed s.2 (formed (get_or c.table s.0 no_lease) (typed_at c.table a s.0 s.1) (formed_at 0 c.table (rises c.table fits) s.0 s.1));
    listed = g;
  }

  by_address_lem : (test : Lease → Bool) (l : List Lease) → AllStand test c.table l → Back test (by_address_of c.clock c.server c.query l)
  unfolding by_address_of
  by_address_lem test [] s = inl (record { number = inr refl; are = refl })
  by_address_lem test (x ∷ xs) s =
      cases (active_at c.clock x)
      (λ e. rw e (inr (about test test x [] s.0 e s.0.3 (none_given test c.table a))))
      (λ e. rw e (inl (record { number = inl refl; are = refl })))

  module _ (test : Lease → Bool) where
    abbrev both : Lease → Bool
    both x = active_at c.clock x && test x

    by_client : (l : List Lease) → AllStand both c.table l → Back test (by_client_of c.clock c.server c.query l)
    unfolding by_client_of
    by_client [] s = inl (record { number = inr refl; are = refl })
    by_client (x ∷ []) s =
        inr (about test both x [] s.0 (and_left (active_at c.clock x) (test x) s.0.3) (and_right (active_at c.clock x) (test x) s.0.3) (none_given both c.table a))
    by_client (x ∷ y ∷ ys) s =
        inr (about test both x (take 63 (map (λ z. z.address) (x ∷ y ∷ ys))) s.0 (and_left (active_at c.clock x) (test x) s.0.3) (and_right (active_at c.clock x) (test x) s.0.3) (some_given both c.table a x y ys s))

  back : (key : Asked) → NotRefused key → Back (has_key key) (answer_by c.clock c.server c.query key c.table)
  unfolding answer_by
  back (refused n) k = k
  back (by_address b) k = by_address_lem (has_key (by_address b)) (those (has_key (by_address b)) c.table) (those_stand (has_key (by_address b)) c.table)
  back (by_hardware htype hlen o) k = by_client (has_key (by_hardware htype hlen o)) (ranked (leases_of c.clock c.server c.query (by_hardware htype hlen o) c.table)) (ranked_stand (both (has_key (by_hardware htype hlen o))) c.table)
  back (by_client_id o) k = by_client (has_key (by_client_id o)) (ranked (leases_of c.clock c.server c.query (by_client_id o) c.table)) (ranked_stand (both (has_key (by_client_id o))) c.table)

-- ---- the octets of the reply
told_length : (w : Outcome) → (told w).length ≡ length (written w)
told_length (refusal n) = refl
told_length (reply kind octets) = refl

module _ (c : Call) (r : c.result.refusal ≡ 0) where
  abbrev outcome : Outcome
  outcome = answer_by c.clock c.server c.query (asking c.query) c.table

  answers : c.result ≡ told outcome
  answers = c.promised.answers ∙ ap told (answer_is_lem c r)

  writes : c.after ≡ laid (written outcome) c.buffer
  writes = c.promised.writes ∙ ap (λ (w : Outcome). laid (written w) c.buffer) (answer_is_lem c r)

  replied_is : replied c ≡ written outcome
  unfolding laid
  replied_is =
      ap (λ (n : ℕ). take n c.after) (ap (λ x. x.length) answers ∙ told_length outcome)
      ∙ ap (take (length (written outcome))) writes
      ∙ take-append_seam (written outcome) (drop (length (written outcome)) c.buffer)

  not_refused : NotRefused (asking c.query)
  unfolding answer_by
  not_refused = go (asking c.query) (asking_sound c.query) (sym (ap (λ x. x.refusal) answers) ∙ r)
    where
      go : (key : Asked) → Sound c.query key → (told (answer_by c.clock c.server c.query key c.table)).refusal ≡ 0 → NotRefused key
      go (refused n) s e = s e
      go (by_address b) s e = tt
      go (by_hardware htype hlen o) s e = tt
      go (by_client_id o) s e = tt

-- ---- what a query does not ask for: it listed options, and not this one
not_listed : (query : List ℕ) (code : ℕ) → is_requested query code ≡ false → NotListed query code
unfolding is_requested
not_listed query code e = go (request_list query) refl e
  where
    go : (list : Option (List ℕ)) → request_list query ≡ list → requested_by code list ≡ false → NotListed query code
    go none l f = absurd (true≢false f)
    go (some codes) l f = (codes, l, f)

pub not_requested : (query : List ℕ) (code : ℕ) → NotListed query code → is_requested query code ≡ false
unfolding is_requested
not_requested query code n = ap (requested_by code) n.1 ∙ n.2

absent_exactly : (query : List ℕ) (code there : ℕ) (time : Span) → there ≡ is_there (time_for query code time) → AbsentExactly query code there
absent_exactly query code there time e = (λ z. not_listed query code (absent (is_requested query code) (sym e ∙ z)), λ n. e ∙ rw (not_requested query code n))
  where
    absent : (b : Bool) → is_there (cond b (some time) none) ≡ 0 → b ≡ false
    absent true z = absurd (let one : ◌≡◌ {A = ℕ} 1 0 = z in omega (arith, one))
    absent false z = refl

-- ---- the claim
module _ (c : Call) (d : ReadBack c) (r : c.result.refusal ≡ 0) where
  from_other : (kind : ℕ) (octets : List ℕ) → outcome c r ≡ reply kind octets → (kind ≡ 11) ⊎ (kind ≡ 12) → octets ≡ other_reply kind c.server c.query → ReadsQuery c d
  from_other kind octets e k o =
      let q = asked_fits c.query (not_refused c r) in
      let n : c.result.kind ≡ kind = ap (λ x. x.kind) (answers c r ∙ ap told e) in
      let p : replied c ≡ other_reply kind c.server c.query = replied_is c r ∙ ap written e ∙ o in
      record {
        kind = subst (λ (m : ℕ). (m ≡ 11) ⊎ (m ≡ 12)) (sym n) k;
        reads = d.promised ∙ ap (λ (l : List ℕ). answered (reading (xid c.query) l)) p ∙ ap answered (read_other kind k q.0 q.1) ∙ ap (λ (m : ℕ). answered (read.told (from_query m c.query))) (sym n);
      }
    where
      read_other : (m : ℕ) → (m ≡ 11) ⊎ (m ≡ 12) → 240 ≤ length c.query → hlen c.query ≤ 16 → reading (xid c.query) (other_reply m c.server c.query) ≡ read.told (from_query m c.query)
      read_other m (inl z) l h = rw z (reads_other 11 c.server c.query l refl refl h)
      read_other m (inr z) l h = rw z (reads_other 12 c.server c.query l refl refl h)

  from_active : (a : AllTyped c.table) (f : table_fits c.table ≡ true) (kind : ℕ) (octets : List ℕ) → outcome c r ≡ reply kind octets → IsActive c a f (has_key (asking c.query)) kind octets → ReadsLease c d
  from_active a f kind octets e w =
      let q = asked_fits c.query (not_refused c r) in
      let p : written (outcome c r) ≡ active_reply c.clock c.server c.query w.lease w.addresses = ap written e ∙ w.are in
      let b : d.result ≡ answered (read.told (from_lease c.clock c.query w.lease w.addresses)) =
      d.promised ∙ ap (λ (l : List ℕ). answered (reading (xid c.query) l)) (replied_is c r ∙ p) ∙ ap answered (reads_active c.clock c.server c.query w.lease w.addresses q.0 w.good w.listed) in
      record {
        kind = ap (λ x. x.kind) (answers c r ∙ ap told e) ∙ w.number;
        lease = w.lease;
        addresses = w.addresses;
        place = w.place;
        active = w.active;
        stands = w.stands;
        written = writes c r ∙ ap (λ (l : List ℕ). laid l c.buffer) p;
        reads = b;
        left = absent_exactly c.query 51 d.result.has_left (seconds_left w.lease.expiry c.clock) (ap (λ x. x.has_left) b);
        since = absent_exactly c.query 91 d.result.has_since (seconds_since w.lease.last c.clock) (ap (λ x. x.has_since) b);
      }

  by_outcome : (a : AllTyped c.table) (f : table_fits c.table ≡ true) (w : Outcome) → outcome c r ≡ w → Back c a f (has_key (asking c.query)) w → ReadsQuery c d ⊎ ReadsLease c d
  by_outcome a f (refusal n) e b = absurd b
  by_outcome a f (reply kind octets) e (inl o) = inl (from_other kind octets e o.number o.are)
  by_outcome a f (reply kind octets) e (inr o) = inr (from_active a f kind octets e o)

-- ---- a reply about an active lease, and an option that goes out only if it is listed
module _ (clock : Moment) (server : ℕ) (q : List ℕ) (x : Lease) (bs : List ℕ) (long : 240 ≤ length q) (f : Formed x) (g : Given bs) where
  pub lacks_active : (code : ℕ) → OnlyIfListed code → is_requested q code ≡ false → values_in code (active_reply clock server q x bs) ≡ []
  lacks_active code o r = stands_all clock server q x bs long f g code o ∙ rw r

  pub has_active : (code : ℕ) → OnlyIfListed code → is_requested q code ≡ true → values_in code (active_reply clock server q x bs) ≡ values code (held code (of_lease clock server x bs code))
  unfolding values
  has_active code o r = stands_all clock server q x bs long f g code o ∙ rw r (own (of_lease clock server x bs code))
    where
      own : (v : List ℕ) → only v ≡ values code (held code v)
      own [] = refl
      own (y ∷ ys) = rw (eq-eqb code code refl)

-- ---- what was not listed is not sent
-- it is neither the kind nor the server's address
neither : (code : ℕ) → OnlyIfListed code → (eqb 53 code ≡ false) × (eqb 54 code ≡ false)
neither code (inl e) = rw e (refl, refl)
neither code (inr (inl e)) = rw e (refl, refl)
neither code (inr (inr (inl e))) = rw e (refl, refl)
neither code (inr (inr (inr e))) = rw e (refl, refl)

module _ (c : Call) (r : c.result.refusal ≡ 0) (code : ℕ) (o : OnlyIfListed code) (n : NotListed c.query code) where
  lacks_reply : (a : AllTyped c.table) (f : table_fits c.table ≡ true) (w : Outcome) → Back c a f (has_key (asking c.query)) w → values_in code (written w) ≡ []
  lacks_reply a f (refusal m) b = absurd b
  lacks_reply a f (reply kind octets) (inl b) = ap (values_in code) b.are ∙ lacks_kind kind b.number
    where
      lacks_kind : (m : ℕ) → (m ≡ 11) ⊎ (m ≡ 12) → values_in code (other_reply m c.server c.query) ≡ []
      lacks_kind m (inl z) = rw z (lacks_other 11 c.server c.query (asked_fits c.query (not_refused c r)).0 refl refl code (neither code o).0 (neither code o).1)
      lacks_kind m (inr z) = rw z (lacks_other 12 c.server c.query (asked_fits c.query (not_refused c r)).0 refl refl code (neither code o).0 (neither code o).1)
  lacks_reply a f (reply kind octets) (inr b) =
      ap (values_in code) b.are
      ∙ lacks_active c.clock c.server c.query b.lease b.addresses (asked_fits c.query (not_refused c r)).0 b.good b.listed code o (not_requested c.query code n)

pub sends_only_listed : SendsOnlyListed
sends_only_listed c a r code o n =
    ap (values_in code) (replied_is c r)
    ∙ lacks_reply c r code o n a (table_fits_lem c r) (outcome c r) (back c a (table_fits_lem c r) (asking c.query) (not_refused c r))

pub round_trip : RoundTrip
round_trip c d a r = by_outcome c d r a (table_fits_lem c r) (outcome c r) refl (back c a (table_fits_lem c r) (asking c.query) (not_refused c r))

-- ---- a desk's own query is answered in full
module _ (c : Call) (d : ReadBack c) (r : c.result.refusal ≡ 0) (k : c.result.kind ≡ 13) (q : (code : ℕ) → is_requested c.query code ≡ true) where
  in_full_lem : (a : AllTyped c.table) (f : table_fits c.table ≡ true) (w : Outcome) → outcome c r ≡ w → Back c a f (has_key (asking c.query)) w → InFull c d
  unfolding from_active
  in_full_lem a f (refusal n) e b = absurd b
  in_full_lem a f (reply kind octets) e (inl o) = absurd (not_13 (from_other c d r kind octets e o.number o.are).kind)
    where
      not_13 : (c.result.kind ≡ 11) ⊎ (c.result.kind ≡ 12) → ⊥
      not_13 (inl z) = omega (arith, k, z)
      not_13 (inr z) = omega (arith, k, z)
  in_full_lem a f (reply kind octets) e (inr o) =
      let b = (from_active c d r a f kind octets e o).reads in
      record {
        about = from_active c d r a f kind octets e o;
        sends = λ code l. ap (values_in code) (replied_is c r ∙ ap written e ∙ o.are)
            ∙ has_active c.clock c.server c.query o.lease o.addresses (asked_fits c.query (not_refused c r)).0 o.good o.listed code l (q code);
        left = ap (λ x. x.has_left) b ∙ rw (q 51);
        since = ap (λ x. x.has_since) b ∙ rw (q 91);
      }

pub answered_in_full : AnsweredInFull
unfolding is_requested
answered_in_full a c d t w e r k =
    in_full_lem c d r k (λ code. ap (requested_by code) (ap request_list e ∙ asks_for_all a w)) t (table_fits_lem c r) (outcome c r) refl
    (back c t (table_fits_lem c r) (asking c.query) (not_refused c r))
