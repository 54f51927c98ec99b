-- What the scans carry from record to record. Only the contracts of the scans, of their steps and of `look` cite this; none is exported.
-- Of each scan: `Off` where it has nothing to look for, `Wants` where a record is to be noted, `Add` the record noted, and `Turn`, one turn of its loop.
use Rattle.std.specs.Prelude.{ℕ, ◌+◌, min, Bool, true, false, cond, not, ◌&&◌, ltb, eqb, length, take, drop, get_or, replicate, Option, Some, None}
use mathlib.Core.List.{List, [], ◌∷◌, ◌++◌, foldl}
use Rattle.clock.specs.declared.Moment.{Moment}
use Rattle.clock.specs.Clock.{moment}
use Rattle.lease.specs.declared.Lease.{Lease}
use Rattle.lease.specs.declared.Rank.{Rank}
use Rattle.lease.specs.Lease.{well_formed, active_at, has_hardware, has_client_id, rank_of, ranks_before}
use Rattle.leasetable.specs.declared.form.Form.{Form}
use Rattle.leasetable.specs.declared.client.Key.{Key}
use Rattle.leasetable.specs.declared.client.Key.TheVariants.{Address, Hardware, ClientId}
use Rattle.leasetable.specs.declared.client.Client.{Client}
use Rattle.leasetable.specs.declared.record.Record.{Record}
use Rattle.leasetable.specs.declared.look.Found.{Found}
use Rattle.leasetable.specs.declared.look.Found.TheVariants.{OfAddress, OfClient}
use Rattle.leasetable.specs.Table.{count_fits}

-- ---- the form of the table
-- the records so far keep the form, and the last has this address
abbrev pub form_good : ℕ → Form
form_good address = record { ok = true; last = address }

-- a record broke the form
abbrev pub form_bad : Form
form_bad = record { ok = false; last = 0 }

-- no record is passed yet of so many
abbrev pub form_start : ℕ → Form
form_start count = record { ok = count_fits count; last = 0 }

abbrev pub form_off : Form → Bool
form_off a = not a.ok

abbrev pub form_wants : Form → Lease → Bool
form_wants a x = a.ok

unfoldable pub form_add : Form → Lease → Form
form_add a x = cond (ltb a.last x.address && well_formed x) (form_good x.address) form_bad

abbrev pub form_turn : Form → Lease → Form
form_turn a x = cond (form_wants a x) (form_add a x) a

-- the whole scan, and from the start
abbrev pub form_from : Form → List Lease → Form
form_from a t = cond (form_off a) a (foldl form_turn a t)

abbrev pub form_of : List Lease → Form
form_of t = form_from (form_start (length t)) t

-- ---- the leases of a client
-- the lease has the hardware address or the client id
unfoldable pub client_has : Key → Lease → Bool
client_has (Address address) x = false
client_has (Hardware htype hlen octets) x = has_hardware htype hlen octets x
client_has (ClientId len octets) x = has_client_id len octets x

-- a rank goes into a list of ranks, by the rule of `placed` in Table for leases
unfoldable pub placed_rank : Rank → List Rank → List Rank
placed_rank e [] = e ∷ []
placed_rank e (y ∷ ys) = cond (ranks_before e y) (e ∷ placed_rank y ys) (y ∷ placed_rank e ys)

-- it goes among the first n, and all behind them move on by one; there are as many places as before
unfoldable pub inserted : ℕ → ℕ → Rank → List Rank → List Rank
inserted places n e ranks = take places (placed_rank e (take n ranks) ++ drop (n + 1) ranks)

-- a lease is to be noted if it is active and has the client's key
abbrev pub wanted : Moment → Key → Lease → Bool
wanted clock k x = active_at clock x && client_has k x

-- a lease is noted by its rank: `carry` gives what is carried with one rank more, of so many places at most. With more ranks than places, which no scan comes to, a stays as it is
unfoldable pub noted : {A : Type 0} → ℕ → ℕ → List Rank → Lease → (ℕ → List Rank → A) → A → A
noted places kept ranks x carry a = cond (ltb places kept) a (carry (min (kept + 1) places) (inserted places kept (rank_of x) ranks))

-- ---- client: the ranks of the client's first active leases, of so many places
-- what stands in a place without a rank
abbrev pub no_rank : Rank
no_rank = record { last = moment 0; address = 0 }

abbrev pub client_start : (places : ℕ) → Moment → Key → Client places
client_start places clock key = record { clock = clock; key = key; kept = 0; ranks = replicate places no_rank }

abbrev pub client_off : {n : ℕ} → Client n → Bool
client_off a = false

abbrev pub client_wants : {n : ℕ} → Client n → Lease → Bool
client_wants a x = wanted a.clock a.key x

-- the same with other ranks
abbrev pub client_with : {n : ℕ} → Client n → ℕ → List Rank → Client n
client_with a kept ranks = record { clock = a.clock; key = a.key; kept = kept; ranks = ranks }

abbrev pub client_add : (places : ℕ) → Client places → Lease → Client places
client_add places a x = noted places a.kept a.ranks x (client_with a) a

abbrev pub client_turn : (places : ℕ) → Client places → Lease → Client places
client_turn places a x = cond (client_wants a x) (client_add places a x) a

-- the candidates are the first four, and the associated ones the first 63
abbrev pub Candidates : Type 0
Candidates = Client 4

abbrev pub candidates_wants : Candidates → Lease → Bool
candidates_wants = client_wants

abbrev pub candidates_add : Candidates → Lease → Candidates
candidates_add = client_add 4

abbrev pub Associated : Type 0
Associated = Client 63

abbrev pub associated_wants : Associated → Lease → Bool
associated_wants = client_wants

abbrev pub associated_add : Associated → Lease → Associated
associated_add = client_add 63

-- ---- record: the record of an address
abbrev pub record_start : ℕ → Record
record_start address = record { address = address; best = None }

abbrev pub record_off : Record → Bool
record_off a = false

abbrev pub record_wants : Record → Lease → Bool
record_wants a x = eqb x.address a.address

abbrev pub record_add : Record → Lease → Record
record_add a x = record { address = a.address; best = Some x }

abbrev pub record_turn : Record → Lease → Record
record_turn a x = cond (record_wants a x) (record_add a x) a

-- ---- the scans together
-- what each finds in a table, from its start
abbrev pub client_in : (places : ℕ) → Moment → Key → List Lease → Client places
client_in places clock key t = foldl (client_turn places) (client_start places clock key) t

abbrev pub record_in : ℕ → List Lease → Option Lease
record_in address t = (foldl record_turn (record_start address) t).best

abbrev pub no_ranks : List Rank
no_ranks = replicate 63 no_rank

-- fewer than four ranks are all that there are
abbrev pub widened : Candidates → Associated
widened four =
    record {
      clock = four.clock;
      key = four.key;
      kept = four.kept;
      ranks = take 3 four.ranks ++ drop 3 no_ranks;
    }

-- with four, the table is gone through again
abbrev pub associated : Candidates → List Lease → Associated
associated four t = cond (eqb four.kept 4) (client_in 63 four.clock four.key t) (widened four)

-- the record of the client's first lease, if it has one
abbrev pub first_record : Candidates → List Lease → Option Lease
first_record four t = cond (eqb four.kept 0) None (record_in (get_or four.ranks 0 no_rank).address t)

-- of a client
abbrev pub found : ℕ → List Rank → Option Lease → Found
found kept ranks best = OfClient best kept ranks

-- the record of an address, with the count and the ranks of candidates
abbrev pub found_at : ℕ → Candidates → List Lease → Found
found_at address a t = OfAddress (record_in address t) a.kept a.ranks

-- and with none
unfoldable pub by_address : ℕ → List Lease → Found
by_address address t = OfAddress (record_in address t) 0 (replicate 4 no_rank)

-- the ranks of the client, from its first four, with the record of the first
abbrev pub found_from : Candidates → List Lease → Found
found_from four t = found (associated four t).kept (associated four t).ranks (first_record four t)

unfoldable pub by_client : Moment → Key → List Lease → Found
by_client clock key t = found_from (client_in 4 clock key t) t

-- what is looked for, from candidates among records that were passed before
abbrev pub looked_by : Key → Candidates → List Lease → Found
looked_by (Address address) a t = found_at address a t
looked_by (Hardware htype hlen octets) a t = found_from (foldl (client_turn 4) a t) t
looked_by (ClientId len octets) a t = found_from (foldl (client_turn 4) a t) t

unfoldable pub looked_from : Candidates → List Lease → Found
looked_from a t = looked_by a.key a t

-- and from none
unfoldable pub looked : Moment → Key → List Lease → Found
looked clock key t = looked_from (client_start 4 clock key) t
