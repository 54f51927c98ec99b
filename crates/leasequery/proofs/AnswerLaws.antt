-- The scans and the conclusion come to the answer. Assumes nothing.
use Prim.Native.Nat.{ℕ, zero, suc, ◌≤◌, ◌<◌, min}
use mathlib.Core.Path.{◌≡◌, refl, sym, ap, subst, ◌∙◌}
use mathlib.Core.List.{List, [], ◌∷◌, foldl, map}
use mathlib.Core.Bool.{Bool, true, false, cond, not, ◌&&◌, and-false}
use native.Mathlib.Omega.{arith}
use lib.Dec.{leb, ltb, eqb}
use lib.ListN.{length, take, drop, replicate}
use lib.Seq.{take-append-le}
use borrow.Table.Steps.{cases}
use borrow.Author.Tests.{leb-true, leb-false, lt-ltb, le-ltb, ltb-false}
use Rattle.std.specs.Prelude.{Option, None}
use Rattle.clock.specs.declared.Moment.{Moment}
use Rattle.clock.specs.Clock.{is_moment}
use Rattle.octets.specs.Write.{laid}
use Rattle.lease.specs.declared.Lease.{Lease}
use Rattle.lease.specs.declared.Rank.{Rank}
use Rattle.lease.specs.Lease.{active_at, has_hardware, has_client_id, rank_of}
use Rattle.leasepacket.specs.declared.query.Query.{Query}
use Rattle.leasepacket.specs.declared.query.Query.TheVariants.{ByAddress, ByHardware, ByClientId}
use Rattle.leasepacket.specs.Packet.{part, chaddr}
use Rattle.leasepacket.specs.Query.{Asked, refused, by_address, by_hardware, by_client_id, first_of, asking}
use Rattle.leasepacket.specs.Reading.{asked_by}
use Rattle.leasepacket.proofs.QueryLaws.{Sound, asking_sound}
use Rattle.leasetable.specs.declared.form.Form.{Form}
use Rattle.leasetable.specs.declared.client.Key.{Key}
use Rattle.leasetable.specs.declared.client.Key.TheVariants.{Hardware}
use Rattle.leasetable.specs.declared.look.Found.{Found}
use Rattle.leasetable.specs.declared.look.Found.TheVariants.{OfAddress}
use Rattle.leasetable.specs.Table.{count_fits, table_fits, rises_from, those, placed, ranked}
use Rattle.leasetable.specs.Folds.{form_start, form_from, form_of, client_has, no_rank, by_client, looked_from, looked}
use Rattle.leasetable.specs.Folds.{by_address as by_address_in}
use Rattle.leasetable.proofs.FormLaws.{form_whole}
use Rattle.leasetable.proofs.LookLaws.{Looked, client_looked, first_or, record_looked}
use Rattle.leasereply.specs.Reply.{other_reply, active_reply, addresses_of, listed, fitting}
use Rattle.leasequery.specs.Answer.{refusal, reply, has_key, by_address_of, by_client_of, leases_of, answer_by, asked_of, answer}
use Rattle.leasequery.specs.Stages.{padded, id_key, key_for, asked_at, other_of, active_of, concluded}
use Rattle.leasequery.proofs.StageLaws.{padded_laid, con_unknown, con_client, con_nobody, con_active, con_unassigned}

-- ---- keys
padded_front : (o : List ℕ) (n : ℕ) → length o ≤ 64 → n ≤ length o → take n (padded o) ≡ take n o
unfolding laid
padded_front o n h k = ap (take n) (padded_laid o h) ∙ take-append-le n o (drop (length o) (replicate 64 0)) k

hardware_key_lem : (htype hlen : ℕ) (o : List ℕ) (x : Lease) → hlen ≤ 16 → length o ≡ 16 → client_has (Hardware htype hlen (padded o)) x ≡ has_key (by_hardware htype hlen o) x
unfolding client_has has_key has_hardware
hardware_key_lem htype hlen o x h e = rw (padded_front o hlen (omega arith) (omega arith))

id_key_lem : (o : List ℕ) (x : Lease) → client_has (id_key o) x ≡ has_key (by_client_id o) x
unfolding client_has has_key has_client_id id_key
id_key_lem o x =
    cases (leb (length o) 64)
    (λ t. let h : length o ≤ 64 = leb-true (length o) 64 t in let m : min (length o) 65 ≡ length o = omega arith in rw (m, padded_front o (length o) h (omega arith)))
    (λ t. let h : 64 < length o = leb-false (length o) 64 t in let m : min (length o) 65 ≡ 65 = omega arith in rw (m, t) (rw (and-false (eqb x.idlen 65), and-false (eqb x.idlen (length o)))))

those_alike : (f g : Lease → Bool) → ((x : Lease) → f x ≡ g x) → (t : List Lease) → those f t ≡ those g t
unfolding those
those_alike f g e [] = refl
those_alike f g e (x ∷ xs) = rw (e x, those_alike f g e xs)

map_take_addresses : (n : ℕ) (l : List Lease) → addresses_of (take n (map rank_of l)) ≡ take n (map (λ z. z.address) l)
map_take_addresses zero l = refl
map_take_addresses (suc n) [] = refl
map_take_addresses (suc n) (x ∷ xs) = ap (λ (r : List ℕ). x.address ∷ r) (map_take_addresses n xs)

module _ (clock : Moment) (server : ℕ) (ps os : List ℕ) (a : 240 ≤ length ps) (b : 648 ≤ length os) where
  fit : (w : List ℕ) → fitting ps os w ≡ w
  fit w = rw (le-ltb (length ps) 240 a, le-ltb (length os) 648 b)

  other_is : (kind : ℕ) → other_of kind server ps os ≡ reply kind (other_reply kind server ps)
  other_is kind = ap (reply kind) (fit (other_reply kind server ps))

  active_is : (x : Lease) (n : ℕ) (ranks : List Rank) (addresses : List ℕ) → listed n ranks ≡ addresses → active_of clock x n ranks server ps os ≡ reply 13 (active_reply clock server ps x addresses)
  active_is x n ranks addresses r = ap (reply 13) (fit (active_reply clock server ps x (listed n ranks)) ∙ ap (active_reply clock server ps x) r)

  -- ---- by client
  listed_one : (n : ℕ) (ranks : List Rank) → n ≡ 1 → listed n ranks ≡ []
  listed_one n ranks e = rw (lt-ltb n 2 (omega arith))

  listed_more : (n : ℕ) (ranks : List Rank) → 2 ≤ n → n ≤ 63 → listed n ranks ≡ addresses_of (take n ranks)
  listed_more n ranks h k = rw (le-ltb n 2 h, le-ltb 63 n k)

  client_out : (h : Found) (l : List Lease) → Looked clock h l → concluded clock h server ps os ≡ by_client_of clock server ps l
  unfolding by_client_of
  client_out h [] r = ap (λ (o : Found). concluded clock o server ps os) r.found_is ∙ con_unknown clock server ps os r.kept r.ranks ∙ other_is 12
  client_out h (x ∷ []) r =
      ap (λ (o : Found). concluded clock o server ps os) r.found_is
      ∙ con_client clock server ps os r.kept r.ranks x
      ∙ active_is x r.kept r.ranks [] (listed_one r.kept r.ranks (omega (arith, r.kept_is)))
  client_out h (x ∷ y ∷ ys) r =
      ap (λ (o : Found). concluded clock o server ps os) r.found_is
      ∙ con_client clock server ps os r.kept r.ranks x
      ∙ active_is x r.kept r.ranks (take 63 (map (λ z. z.address) (x ∷ y ∷ ys)))
      (listed_more r.kept r.ranks (omega (arith, r.kept_is)) (omega (arith, r.kept_is)) ∙ ap addresses_of r.ranks_are ∙ map_take_addresses 63 (x ∷ y ∷ ys))

  by_client_lem : (key : Asked) (k : Key) → ((x : Lease) → client_has k x ≡ has_key key x) → (t : List Lease) → rises_from 0 t ≡ true → concluded clock (by_client clock k t) server ps os ≡ by_client_of clock server ps (ranked (leases_of clock server ps key t))
  unfolding ranked
  by_client_lem key k e t f =
      client_out (by_client clock k t) (foldl (λ ys x. placed x ys) [] (those (λ x. active_at clock x && client_has k x) t)) (client_looked clock k t f)
      ∙ ap (λ (l : List Lease). by_client_of clock server ps (foldl (λ ys x. placed x ys) [] l)) (those_alike (λ x. active_at clock x && client_has k x) (λ x. active_at clock x && has_key key x) (λ x. ap (λ (w : Bool). active_at clock x && w) (e x)) t)

  -- ---- by address
  address_out : (l : List Lease) (kept : ℕ) (ranks : List Rank) → concluded clock (OfAddress (first_or None l) kept ranks) server ps os ≡ by_address_of clock server ps l
  unfolding by_address_of
  address_out [] kept ranks = con_nobody clock server ps os kept ranks ∙ other_is 12
  address_out (x ∷ xs) kept ranks =
      cases (active_at clock x)
      (λ t. rw t (con_active clock server ps os kept ranks x t ∙ active_is x 0 [] [] refl))
      (λ t. rw t (con_unassigned clock server ps os kept ranks x t ∙ other_is 11))

  by_address_lem : (a : ℕ) (t : List Lease) → rises_from 0 t ≡ true → concluded clock (by_address_in a t) server ps os ≡ by_address_of clock server ps (those (has_key (by_address a)) t)
  unfolding has_key by_address_in
  by_address_lem a t f = ap (λ (o : Option Lease). concluded clock (OfAddress o 0 (replicate 4 no_rank)) server ps os) (record_looked t a f) ∙ address_out (those (λ x. eqb x.address a) t) 0 (replicate 4 no_rank)

-- ---- the whole
-- with a key, the buffer is long enough and the addresses rise
abbrev Ready : ℕ → List Lease → Asked → Type 0
Ready room t (refused n) = Unit {0}
Ready room t (by_address a) = (648 ≤ room) × (rises_from 0 t ≡ true)
Ready room t (by_hardware htype hlen octets) = (648 ≤ room) × (rises_from 0 t ≡ true)
Ready room t (by_client_id octets) = (648 ≤ room) × (rises_from 0 t ≡ true)

module _ (clock : Moment) (server : ℕ) (ps os : List ℕ) (t : List Lease) where
  by_id : (o : List ℕ) → Sound ps (by_client_id o) → Ready (length os) t (by_client_id o) → concluded clock (looked clock (id_key o) t) server ps os ≡ answer_by clock server ps (by_client_id o) t
  unfolding answer_by looked looked_from by_client id_key
  by_id o s b = by_client_lem clock server ps os s b.0 (by_client_id o) (id_key o) (id_key_lem o) t b.1

  by_query : (q : Query) → Sound ps (asked_by ps q) → Ready (length os) t (asked_by ps q) → concluded clock (looked clock (key_for ps q) t) server ps os ≡ answer_by clock server ps (asked_by ps q) t
  unfolding answer_by looked looked_from by_client by_address_in
  by_query (ByAddress a) s b = by_address_lem clock server ps os s b.0 a t b.1
  by_query (ByHardware htype hlen) s b = by_client_lem clock server ps os s.0 b.0 (by_hardware htype hlen (chaddr ps)) (Hardware htype hlen (padded (chaddr ps))) (λ x. hardware_key_lem htype hlen (chaddr ps) x s.1 s.2) t b.1
  by_query (ByClientId place) s b = by_id (part ps place.at place.len) s b

-- the form that the scan found is that of the table
same_asked : (clock : Moment) (t : List Lease) (ps : List ℕ) (room : ℕ) → asked_at clock (form_of t).ok ps room ≡ asked_of clock t ps room
unfolding asked_at asked_of first_of
same_asked clock t ps room = rw (form_whole t)

fit_rises : (t : List Lease) → not (table_fits t) ≡ false → rises_from 0 t ≡ true
unfolding table_fits
fit_rises t e = go (count_fits (length t)) (rises_from 0 t) e
  where
    go : (a b : Bool) → not (a && b) ≡ false → b ≡ true
    go true true h = refl
    go true false h = sym h
    go false b h = absurd (let z : ◌≡◌ {A = ℕ} 1 0 = ap (λ (c : Bool). cond c 1 0) h in omega (arith, z))

-- what is asked is sound
asked_sound : (clock : Moment) (t : List Lease) (ps : List ℕ) (room : ℕ) → Sound ps (asked_of clock t ps room) × Ready room t (asked_of clock t ps room)
unfolding asked_of first_of
asked_sound clock t ps room =
    cases (not (is_moment clock)) (λ e. rw e ((λ z. omega (arith, z)), tt))
    (λ e. cases (not (table_fits t)) (λ f. rw (e, f) ((λ z. omega (arith, z)), tt))
    (λ f. cases (ltb room 648) (λ g. rw (e, f, g) ((λ z. omega (arith, z)), tt))
    (λ g. rw (e, f, g) (asking_sound ps, ready (asking ps) (ltb-false room 648 g, fit_rises t f)))))
  where
    ready : (a : Asked) → (648 ≤ room) × (rises_from 0 t ≡ true) → Ready room t a
    ready (refused n) b = tt
    ready (by_address a) b = b
    ready (by_hardware htype hlen octets) b = b
    ready (by_client_id octets) b = b

-- ---- the call by its parts: the form of the table, and what is asked
module _ (clock : Moment) (ys : List Lease) (server : ℕ) (ps os : List ℕ) {f g : Form} (p : f ≡ form_start (length ys)) (s : g ≡ form_from f ys) where
  asked_is : {a : Asked} → a ≡ asked_at clock g.ok ps (length os) → a ≡ asked_of clock ys ps (length os)
  asked_is r = r ∙ ap (λ (h : Form). asked_at clock h.ok ps (length os)) (s ∙ ap (λ (h : Form). form_from h ys) p) ∙ same_asked clock ys ps (length os)

  -- what is found in the table
  pub comes_to : (q : Query) {h : Found} → asked_by ps q ≡ asked_at clock g.ok ps (length os) → h ≡ looked clock (key_for ps q) ys → concluded clock h server ps os ≡ answer clock ys server ps (length os)
  unfolding answer
  comes_to q r h =
      let e = asked_is r in
      let t = asked_sound clock ys ps (length os) in
      ap (λ (o : Found). concluded clock o server ps os) h
      ∙ by_query clock server ps os ys q (subst (Sound ps) (sym e) t.0) (subst (Ready (length os) ys) (sym e) t.1)
      ∙ ap (λ (a : Asked). answer_by clock server ps a ys) e

  -- a refusal
  pub comes_to_refusal : {n : ℕ} → refused n ≡ asked_at clock g.ok ps (length os) → refusal n ≡ answer clock ys server ps (length os)
  unfolding answer answer_by
  comes_to_refusal r = ap (λ (a : Asked). answer_by clock server ps a ys) (asked_is r)
