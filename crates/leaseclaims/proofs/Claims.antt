-- The claims of specs/Claims.antt. Assumes nothing.
use Prim.Native.Nat.{ℕ, ◌≤◌, ◌<◌}
use mathlib.Core.Path.{◌≡◌, refl, sym, ap, ◌∙◌, subst}
use mathlib.Core.Bool.{Bool, true, not, ◌&&◌}
use mathlib.Core.List.{List, [], ◌∷◌, map}
use mathlib.Core.Logic.{inl, inr}
use native.Mathlib.Omega.{arith}
use lib.Dec.{ltb, leb, eqb}
use lib.ListN.{length, get_or, take, length-take}
use borrow.Table.Steps.{cases}
use Rattle.octets.proofs.BoolLaws.{and_left, and_right}
use Rattle.clock.specs.declared.Moment.{Moment}
use Rattle.clock.specs.Clock.{is_moment}
use Rattle.lease.specs.declared.Lease.{Lease}
use Rattle.lease.specs.Lease.{no_lease, active_at, well_formed, lengths_fit, moments_fit, hardware_fits}
use Rattle.leasepacket.specs.Query.{Asked, refused, by_address, by_hardware, by_client_id, first_of, asking}
use Rattle.leasetable.specs.Table.{count_fits, table_fits, rises_from, those, ranked}
use Rattle.octets.specs.Write.{laid}
use Rattle.leasereply.specs.Reply.{other_reply, active_reply}
use Rattle.leasequery.specs.Answer.{Outcome, refusal, reply, told, written, has_key, by_address_of, by_client_of, leases_of, answer_by, asked_of, answer}
use Rattle.leaseclaims.specs.Claims.{Call, ActiveAt, NoneActive, UnknownExactly, Demand2, TellsUnknown, NeverUnassigned, In, Ordered, given, ToldActive, TellsActive, Fits}
use Rattle.leaseclaims.proofs.ListLaws.{those_none, none_those, ranked_length, StandsAt, AllStand, those_stand, ranked_stand}
use Rattle.leaseclaims.proofs.OrderLaws.{ranked_ordered, formed_at, in_ranked, stand_in}
use Rattle.leasereply.proofs.ReplyLaws.{other_short, active_short}
use borrow.Author.Tests.{leb-true}

-- ---- what was asked, where there is no refusal
asked_is : (clock : Moment) (t : List Lease) (server : ℕ) (q : List ℕ) (room : ℕ) → (told (answer clock t server q room)).refusal ≡ 0 → asked_of clock t q room ≡ asking q
unfolding answer asked_of answer_by first_of
asked_is clock t server q room r =
    cases (not (is_moment clock)) (λ e. absurd (let z : ◌≡◌ {A = ℕ} 15 0 = rw e at r in omega arith))
    (λ e. cases (not (table_fits t)) (λ f. absurd (let z : ◌≡◌ {A = ℕ} 9 0 = rw (e, f) at r in omega arith))
    (λ f. cases (ltb room 648) (λ g. absurd (let z : ◌≡◌ {A = ℕ} 8 0 = rw (e, f, g) at r in omega arith))
    (λ g. rw (e, f, g))))

pub answer_is_lem : (c : Call) → c.result.refusal ≡ 0 → answer c.clock c.table c.server c.query (length c.buffer) ≡ answer_by c.clock c.server c.query (asking c.query) c.table
unfolding answer
answer_is_lem c r =
    ap (λ (k : Asked). answer_by c.clock c.server c.query k c.table)
    (asked_is c.clock c.table c.server c.query (length c.buffer) (sym (ap (λ a. a.refusal) c.promised.answers) ∙ r))

-- ---- the leases of a client
and_both : {a b : Bool} → a ≡ true → b ≡ true → (a && b) ≡ true
and_both p q = rw (p, q)

empty : (l : List Lease) → length l ≡ 0 → l ≡ []
empty [] e = refl
empty (x ∷ xs) e = absurd (omega arith)

module _ (clock : Moment) (server : ℕ) (q : List ℕ) where
  kind_12 : (l : List Lease) → (told (by_client_of clock server q l)).kind ≡ 12 → l ≡ []
  unfolding by_client_of
  kind_12 [] e = refl
  kind_12 (x ∷ []) e = absurd (omega (arith, e))
  kind_12 (x ∷ y ∷ ys) e = absurd (omega (arith, e))

  kind_none : (l : List Lease) → l ≡ [] → (told (by_client_of clock server q l)).kind ≡ 12
  unfolding by_client_of
  kind_none l e = rw e

  kind_not_11 : (l : List Lease) → (told (by_client_of clock server q l)).kind ≡ 11 → ⊥
  unfolding by_client_of
  kind_not_11 [] e = omega (arith, e)
  kind_not_11 (x ∷ []) e = omega (arith, e)
  kind_not_11 (x ∷ y ∷ ys) e = omega (arith, e)

-- ---- a call by a client whose key is known
module _ (c : Call) (key : Asked) where
  abbrev test : Lease → Bool
  test x = active_at c.clock x && has_key key x

  abbrev leases : List Lease
  leases = ranked (those test c.table)

  none_iff : (told (by_client_of c.clock c.server c.query leases)).kind ≡ 12 → NoneActive c (has_key key)
  none_iff e i a =
      let l : length leases ≡ 0 = ap length (kind_12 c.clock c.server c.query leases e) in
      let n : those test c.table ≡ [] = empty (those test c.table) (sym (ranked_length (those test c.table)) ∙ l) in
      those_none test c.table n i a.inside (and_both a.active a.has)

  iff_none : NoneActive c (has_key key) → (told (by_client_of c.clock c.server c.query leases)).kind ≡ 12
  iff_none n =
      let z : those test c.table ≡ [] = none_those test c.table (λ i h w. n i (record { inside = h; active = and_left (active_at c.clock (get_or c.table i no_lease)) (has_key key (get_or c.table i no_lease)) w; has = and_right (active_at c.clock (get_or c.table i no_lease)) (has_key key (get_or c.table i no_lease)) w })) in
      let l : length leases ≡ 0 = ranked_length (those test c.table) ∙ ap length z in
      kind_none c.clock c.server c.query leases (empty leases l)

  exactly : c.result.kind ≡ (told (by_client_of c.clock c.server c.query leases)).kind → UnknownExactly c (has_key key)
  exactly e = (λ k. none_iff (sym e ∙ k), λ n. e ∙ iff_none n)

-- ---- demand 2
client_hardware : (c : Call) (htype hlen : ℕ) (o : List ℕ) → c.result.refusal ≡ 0 → asking c.query ≡ by_hardware htype hlen o → answer c.clock c.table c.server c.query (length c.buffer) ≡ by_client_of c.clock c.server c.query (leases c (by_hardware htype hlen o))
unfolding answer_by
client_hardware c htype hlen o r a = answer_is_lem c r ∙ ap (λ (k : Asked). answer_by c.clock c.server c.query k c.table) a

client_id_lem : (c : Call) (o : List ℕ) → c.result.refusal ≡ 0 → asking c.query ≡ by_client_id o → answer c.clock c.table c.server c.query (length c.buffer) ≡ by_client_of c.clock c.server c.query (leases c (by_client_id o))
unfolding answer_by
client_id_lem c o r a = answer_is_lem c r ∙ ap (λ (k : Asked). answer_by c.clock c.server c.query k c.table) a

pub demand_2 : Demand2
unfolding has_key
demand_2 = record {
  by_hardware_lem = λ c htype hlen o r a. exactly c (by_hardware htype hlen o) (ap (λ x. x.kind) c.promised.answers ∙ ap (λ (w : Outcome). (told w).kind) (client_hardware c htype hlen o r a));
  by_client_id_lem = λ c o r a. exactly c (by_client_id o) (ap (λ x. x.kind) c.promised.answers ∙ ap (λ (w : Outcome). (told w).kind) (client_id_lem c o r a));
}

-- ---- kinds of answer: a refusal has the kind 0
refusal_zero : (w : Outcome) (k : ℕ) → 0 < k → (told w).kind ≡ k → (told w).refusal ≡ 0
refusal_zero (refusal n) k h e = absurd (omega (arith, e))
refusal_zero (reply j o) k h e = refl

no_refusal : (c : Call) (k : ℕ) → 0 < k → c.result.kind ≡ k → c.result.refusal ≡ 0
no_refusal c k h e =
    ap (λ x. x.refusal) c.promised.answers ∙ refusal_zero (answer c.clock c.table c.server c.query (length c.buffer)) k h (sym (ap (λ x. x.kind) c.promised.answers) ∙ e)

pub never_unassigned : NeverUnassigned
never_unassigned c (inl (htype, hlen, o, a)) e =
    kind_not_11 c.clock c.server c.query (leases c (by_hardware htype hlen o))
    (sym (ap (λ (w : Outcome). (told w).kind) (client_hardware c htype hlen o (no_refusal c 11 (omega arith) e) a)) ∙ sym (ap (λ x. x.kind) c.promised.answers) ∙ e)
never_unassigned c (inr (o, a)) e =
    kind_not_11 c.clock c.server c.query (leases c (by_client_id o))
    (sym (ap (λ (w : Outcome). (told w).kind) (client_id_lem c o (no_refusal c 11 (omega arith) e) a)) ∙ sym (ap (λ x. x.kind) c.promised.answers) ∙ e)

-- ---- what the buffer holds
pub rises : (t : List Lease) → table_fits t ≡ true → rises_from 0 t ≡ true
unfolding table_fits
rises t e = and_right (count_fits (length t)) (rises_from 0 t) e

pub table_fits_lem : (c : Call) → c.result.refusal ≡ 0 → table_fits c.table ≡ true
unfolding answer asked_of answer_by first_of
table_fits_lem c r =
    let z : (told (answer c.clock c.table c.server c.query (length c.buffer))).refusal ≡ 0 = sym (ap (λ a. a.refusal) c.promised.answers) ∙ r in
    cases (not (is_moment c.clock)) (λ e. absurd (let y : ◌≡◌ {A = ℕ} 15 0 = rw e at z in omega arith))
    (λ e. cases (table_fits c.table) (λ f. f) (λ f. absurd (let y : ◌≡◌ {A = ℕ} 9 0 = rw (e, f) at z in omega arith)))

module _ (clock : Moment) (server : ℕ) (q : List ℕ) where
  client_unknown : (l : List Lease) → (told (by_client_of clock server q l)).kind ≡ 12 → written (by_client_of clock server q l) ≡ other_reply 12 server q
  unfolding by_client_of
  client_unknown [] e = refl
  client_unknown (x ∷ []) e = absurd (omega (arith, e))
  client_unknown (x ∷ y ∷ ys) e = absurd (omega (arith, e))

  address_unknown : (l : List Lease) → (told (by_address_of clock server q l)).kind ≡ 12 → written (by_address_of clock server q l) ≡ other_reply 12 server q
  unfolding by_address_of
  address_unknown [] e = refl
  address_unknown (x ∷ xs) e = cases (active_at clock x)
      (λ t. absurd (let z : ◌≡◌ {A = ℕ} 13 12 = rw t at e in omega arith))
      (λ t. absurd (let z : ◌≡◌ {A = ℕ} 11 12 = rw t at e in omega arith))

  tells_of : (x : Lease) (xs : List Lease) → written (by_client_of clock server q (x ∷ xs)) ≡ active_reply clock server q x (given (x ∷ xs))
  unfolding by_client_of
  tells_of x [] = refl
  tells_of x (y ∷ ys) = refl

holds_unknown : (clock : Moment) (server : ℕ) (q : List ℕ) (key : Asked) (t : List Lease) → (told (answer_by clock server q key t)).kind ≡ 12 → written (answer_by clock server q key t) ≡ other_reply 12 server q
unfolding answer_by
holds_unknown clock server q (refused n) t e = absurd (omega (arith, e))
holds_unknown clock server q (by_address a) t e = address_unknown clock server q (those (has_key (by_address a)) t) e
holds_unknown clock server q (by_hardware htype hlen o) t e = client_unknown clock server q (ranked (leases_of clock server q (by_hardware htype hlen o) t)) e
holds_unknown clock server q (by_client_id o) t e = client_unknown clock server q (ranked (leases_of clock server q (by_client_id o) t)) e

pub tells_unknown : TellsUnknown
unfolding answer
tells_unknown c e =
    let k = sym (ap (λ x. x.kind) c.promised.answers) ∙ e in
    c.promised.writes ∙ ap (λ (o : List ℕ). laid o c.buffer) (holds_unknown c.clock c.server c.query (asked_of c.clock c.table c.query (length c.buffer)) c.table k)

module _ (c : Call) (key : Asked) (f : table_fits c.table ≡ true) where
  only_those : (x : Lease) → In x (leases c key) → (i : ℕ) × ActiveAt c (has_key key) i × (get_or c.table i no_lease ≡ x)
  only_those x h =
      let s = stand_in (test c key) c.table x (leases c key) (ranked_stand (test c key) c.table) h in
      let y = get_or c.table s.0 no_lease in
      let t : test c key y ≡ true = ap (test c key) s.2 ∙ s.3 in
      (s.0, record { inside = s.1; active = and_left (active_at c.clock y) (has_key key y) t; has = and_right (active_at c.clock y) (has_key key y) t }, s.2)

  all_those : (i : ℕ) → ActiveAt c (has_key key) i → In (get_or c.table i no_lease) (leases c key)
  all_those i a = in_ranked (test c key) c.table i a.inside (and_both a.active a.has)

  told_active : (l : List Lease) → leases c key ≡ l → c.after ≡ laid (written (by_client_of c.clock c.server c.query l)) c.buffer → (told (by_client_of c.clock c.server c.query l)).kind ≡ 13 → ToldActive c key
  unfolding by_client_of
  told_active [] e w k = absurd (omega (arith, k))
  told_active (x ∷ xs) e w k = record {
    best = x;
    others = xs;
    ordered = subst Ordered e (ranked_ordered (test c key) c.table (rises c.table f));
    only = λ y h. only_those y (subst (In y) (sym e) h);
    all = λ i a. subst (In (get_or c.table i no_lease)) e (all_those i a);
    holds = w ∙ ap (λ (o : List ℕ). laid o c.buffer) (tells_of c.clock c.server c.query x xs);
  }

from_client : (c : Call) (key : Asked) → table_fits c.table ≡ true → answer c.clock c.table c.server c.query (length c.buffer) ≡ by_client_of c.clock c.server c.query (leases c key) → c.result.kind ≡ 13 → ToldActive c key
from_client c key f d e =
    told_active c key f (leases c key) refl (c.promised.writes ∙ ap (λ (w : Outcome). laid (written w) c.buffer) d)
    (sym (ap (λ (w : Outcome). (told w).kind) d) ∙ sym (ap (λ x. x.kind) c.promised.answers) ∙ e)

pub tells_active : TellsActive
tells_active c (inl (htype, hlen, o, a)) e =
    let r = no_refusal c 13 (omega arith) e in
    subst (ToldActive c) (sym a) (from_client c (by_hardware htype hlen o) (table_fits_lem c r) (client_hardware c htype hlen o r a) e)
tells_active c (inr (o, a)) e =
    let r = no_refusal c 13 (omega arith) e in
    subst (ToldActive c) (sym a) (from_client c (by_client_id o) (table_fits_lem c r) (client_id_lem c o r a) e)

-- ---- every reply fits
formed_lengths : (x : Lease) → well_formed x ≡ true → (x.idlen ≤ 64) × (x.relaylen ≤ 64)
unfolding well_formed lengths_fit
formed_lengths x w =
    let a = leb x.state 1 in
    let b = not (eqb x.idlen 1) && leb x.idlen 64 && leb x.relaylen 64 in
    let l : b ≡ true = and_right a b (and_left (a && b) (moments_fit x.last x.expiry) (and_left (a && b && moments_fit x.last x.expiry) (hardware_fits x.htype x.hlen x.chaddr) w)) in (
      leb-true x.idlen 64 (and_right (not (eqb x.idlen 1)) (leb x.idlen 64) (and_left (not (eqb x.idlen 1) && leb x.idlen 64) (leb x.relaylen 64) l)),
      leb-true x.relaylen 64 (and_right (not (eqb x.idlen 1) && leb x.idlen 64) (leb x.relaylen 64) l),
    )

module _ (clock : Moment) (server : ℕ) (q : List ℕ) (t : List Lease) (r : rises_from 0 t ≡ true) where
  active_fits : (f : Lease → Bool) (x : Lease) (addresses : List ℕ) → StandsAt f t x → length addresses ≤ 63 → length (active_reply clock server q x addresses) ≤ 648
  active_fits f x addresses s h =
      let w : well_formed x ≡ true = ap well_formed (sym s.2) ∙ formed_at 0 t r s.0 s.1 in
      let l = formed_lengths x w in
      active_short clock server q x addresses (omega (arith, l.0, length-take x.idlen x.id)) (omega (arith, l.1, length-take x.relaylen x.relay)) h

  client_fits : (f : Lease → Bool) (l : List Lease) → AllStand f t l → (told (by_client_of clock server q l)).length ≤ 648
  unfolding by_client_of
  client_fits f [] a = other_short 12 server q
  client_fits f (x ∷ []) a = active_fits f x [] a.0 (omega arith)
  client_fits f (x ∷ y ∷ ys) a = active_fits f x (take 63 (map (λ z. z.address) (x ∷ y ∷ ys))) a.0 (omega (arith, length-take 63 (map (λ z. z.address) (x ∷ y ∷ ys))))

  address_fits : (f : Lease → Bool) (l : List Lease) → AllStand f t l → (told (by_address_of clock server q l)).length ≤ 648
  unfolding by_address_of
  address_fits f [] a = other_short 12 server q
  address_fits f (x ∷ xs) a = cases (active_at clock x) (λ e. rw e (active_fits f x [] a.0 (omega arith))) (λ e. rw e (other_short 11 server q))

  asked_fits : (key : Asked) → (told (answer_by clock server q key t)).length ≤ 648
  unfolding answer_by
  asked_fits (refused n) = omega arith
  asked_fits (by_address a) = address_fits (has_key (by_address a)) (those (has_key (by_address a)) t) (those_stand (has_key (by_address a)) t)
  asked_fits (by_hardware htype hlen o) = client_fits (λ x. active_at clock x && has_key (by_hardware htype hlen o) x) (ranked (leases_of clock server q (by_hardware htype hlen o) t)) (ranked_stand (λ x. active_at clock x && has_key (by_hardware htype hlen o) x) t)
  asked_fits (by_client_id o) = client_fits (λ x. active_at clock x && has_key (by_client_id o) x) (ranked (leases_of clock server q (by_client_id o) t)) (ranked_stand (λ x. active_at clock x && has_key (by_client_id o) x) t)

answer_fits : (clock : Moment) (t : List Lease) (server : ℕ) (q : List ℕ) (room : ℕ) → (told (answer clock t server q room)).length ≤ 648
unfolding answer asked_of answer_by first_of
answer_fits clock t server q room =
    cases (not (is_moment clock)) (λ e. rw e (omega arith))
    (λ e. cases (table_fits t) (λ f. asked_fits clock server q t (rises t f) (asked_of clock t q room)) (λ f. rw (e, f) (omega arith)))

pub fits : Fits
fits c = subst (λ n. n ≤ 648) (sym (ap (λ x. x.length) c.promised.answers)) (answer_fits c.clock c.table c.server c.query (length c.buffer))
