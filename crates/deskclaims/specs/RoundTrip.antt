-- Every reply that a box writes is read back with the fields that it was written from. Document 02, d) and e). Said of any results that meet
-- the promises of the two calls.
use Rattle.std.specs.Prelude.{ℕ, ◌≡◌, false, cond, List, [], ◌∷◌, ◌⊎◌, length, get_or, take}
use Rattle.std.proofs.Math.Option.{Option, none, some}
use Rattle.clock.specs.declared.Moment.{Moment}
use Rattle.clock.specs.declared.Span.{Span}
use Rattle.clock.specs.Clock.{seconds_left, seconds_since}
use Rattle.octets.specs.Write.{laid}
use Rattle.lease.specs.declared.Lease.{Lease}
use Rattle.lease.specs.Lease.{no_lease}
use Rattle.leasepacket.specs.Packet.{htype, hlen, xid, ciaddr, chaddr, lease_time, last_transaction_time}
use Rattle.leasepacket.specs.Requested.{request_list, is_listed, is_requested}
use Rattle.leasepacket.specs.Query.{asking}
use Rattle.leasereply.specs.Reply.{active_reply}
use Rattle.leasequery.specs.Answer.{has_key}
use Rattle.leaseclaims.specs.Claims.{Call, ActiveAt}
use Rattle.deskreply.specs.declared.LeaseReading.{LeaseReading}
use Rattle.deskreply.specs.Reading.{Told, told}
use Rattle.deskreply.specs.Promise.{answered, ReadPromise}
use Rattle.deskclaims.specs.Asks.{Address}

-- What the types of a record say of it: its address has 32 bits, and its arrays have the lengths that they have.
pub record Typed (x : Lease) : Type 0 where
  pub address : Address x.address
  pub chaddr : length x.chaddr ≡ 16
  pub id : length x.id ≡ 64
  pub relay : length x.relay ≡ 64

abbrev pub AllTyped : List Lease → Type 0
AllTyped [] = Unit {0}
AllTyped (x ∷ xs) = Typed x × AllTyped xs

-- The reply: as many octets of the buffer as the box's call answers.
abbrev pub replied : Call → List ℕ
replied c = take c.result.length c.after

-- The desk reads that reply, with the xid of the query. The promise of `jespurla_lease_reply_read` is all that is known of its result.
pub record ReadBack (c : Call) : Type 0 where
  pub result : LeaseReading
  pub promised : ReadPromise (xid c.query) (replied c) result

-- The fields of a reply where no lease is active: the query's.
abbrev pub from_query : ℕ → List ℕ → Told
from_query kind query =
    record {
      kind = kind;
      address = ciaddr query;
      htype = htype query;
      hlen = hlen query;
      chaddr = chaddr query;
      left = none;
      since = none;
      addresses = [];
    }

-- A time goes out under its code if the query asks for it.
abbrev pub time_for : List ℕ → ℕ → Span → Option Span
time_for query code time = cond (is_requested query code) (some time) none

-- The fields of a reply about an active lease: the record's, with the seconds of options 51 and 91 and the addresses of option 92.
abbrev pub from_lease : Moment → List ℕ → Lease → List ℕ → Told
from_lease clock query x addresses =
    record {
      kind = 13;
      address = x.address;
      htype = x.htype;
      hlen = x.hlen;
      chaddr = x.chaddr;
      left = time_for query lease_time (seconds_left x.expiry clock);
      since = time_for query last_transaction_time (seconds_since x.last clock);
      addresses = addresses;
    }

-- No lease is active: the kind is 11 or 12, and the desk reads the query's fields.
pub record ReadsQuery (c : Call) (d : ReadBack c) : Type 0 where
  pub kind : (c.result.kind ≡ 11) ⊎ (c.result.kind ≡ 12)
  pub reads : d.result ≡ answered (told (from_query c.result.kind c.query))

-- A query listed options, and not this one.
abbrev pub NotListed : List ℕ → ℕ → Type 0
NotListed query code = (codes : List ℕ) × (request_list query ≡ some codes) × (is_listed code codes ≡ false)

-- The number that says whether a time is there is 0 exactly where the query listed options and not this one.
abbrev pub AbsentExactly : List ℕ → ℕ → ℕ → Type 0
AbsentExactly query code there = (there ≡ 0 → NotListed query code) × (NotListed query code → there ≡ 0)

-- A lease is active: a record of the table that has the key. The buffer holds the reply about it, with some addresses, and the desk reads the
-- fields of this record and these addresses, each time exactly where it was not left out.
pub record ReadsLease (c : Call) (d : ReadBack c) : Type 0 where
  pub kind : c.result.kind ≡ 13
  pub lease : Lease
  pub addresses : List ℕ
  pub place : ℕ
  pub active : ActiveAt c (has_key (asking c.query)) place
  pub stands : get_or c.table place no_lease ≡ lease
  pub written : c.after ≡ laid (active_reply c.clock c.server c.query lease addresses) c.buffer
  pub reads : d.result ≡ answered (told (from_lease c.clock c.query lease addresses))
  pub left : AbsentExactly c.query lease_time d.result.has_left
  pub since : AbsentExactly c.query last_transaction_time d.result.has_since

-- Whatever table, clock, server and query: where the box's call is not refused, neither is the desk's, and it reads what was written.
abbrev pub RoundTrip : Type 0
RoundTrip = (c : Call) (d : ReadBack c) → AllTyped c.table → c.result.refusal ≡ 0 → ReadsQuery c d ⊎ ReadsLease c d
