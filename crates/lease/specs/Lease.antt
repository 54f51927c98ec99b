-- One record of the lease table. Document 01, "Lease table and queries".
use Rattle.std.specs.Prelude.{ℕ, Bool, true, ◌&&◌, ◌||◌, not, List, [], ◌∷◌, ltb, leb, eqb, take, drop, replicate}
use Rattle.clock.specs.declared.Moment.{Moment}
use Rattle.clock.specs.Clock.{moment, is_moment, is_expiry, is_ahead}
use Rattle.octets.specs.Compare.{same_octets}
use Rattle.lease.specs.declared.Lease.{Lease}
use Rattle.lease.specs.declared.Rank.{Rank}

-- All octets are zero.
unfoldable pub all_zero : List ℕ → Bool
all_zero [] = true
all_zero (x ∷ xs) = eqb x 0 && all_zero xs

-- The hardware address: hlen 0 to 16, zeros past hlen in the 16 octets, and with hlen 0 the type is 0.
unfoldable pub hardware_fits : ℕ → ℕ → List ℕ → Bool
hardware_fits htype hlen chaddr = leb hlen 16 && (not (eqb hlen 0) || eqb htype 0) && all_zero (drop hlen chaddr)

-- The client id has 0 or 2 to 64 octets, the relay information 0 to 64.
unfoldable pub lengths_fit : ℕ → ℕ → Bool
lengths_fit idlen relaylen = not (eqb idlen 1) && leb idlen 64 && leb relaylen 64

-- The last transaction was at a moment; the expiry is a moment or never.
unfoldable pub moments_fit : Moment → Moment → Bool
moments_fit last expiry = is_moment last && is_expiry expiry

-- A record of the table has the form of a lease; the state is 0 for free, 1 for leased. Of the address only the table says something.
unfoldable pub well_formed : Lease → Bool
well_formed x =
    leb x.state 1 && lengths_fit x.idlen x.relaylen && moments_fit x.last x.expiry
    && hardware_fits x.htype x.hlen x.chaddr

-- A record is active when it is leased and its expiry is never or later than now.
unfoldable pub active_at : Moment → Lease → Bool
active_at clock x = eqb x.state 1 && is_ahead x.expiry clock

-- The first n octets of a key are the same, n being at most the length that such a key may have.
abbrev pub same_key : ℕ → ℕ → List ℕ → List ℕ → Bool
same_key most n a b = leb n most && same_octets (take n a) (take n b)

-- A hardware key matches on htype, hlen and the first hlen octets.
unfoldable pub has_hardware : ℕ → ℕ → List ℕ → Lease → Bool
has_hardware htype hlen octets x = eqb x.htype htype && eqb x.hlen hlen && same_key 16 hlen x.chaddr octets

-- A client id matches on its length and octets. One over 64 octets matches nothing.
unfoldable pub has_client_id : ℕ → List ℕ → Lease → Bool
has_client_id n octets x = eqb x.idlen n && same_key 64 n x.id octets

-- What a lease is ranked by.
abbrev pub rank_of : Lease → Rank
rank_of x = record { last = x.last; address = x.address }

-- The later transaction comes first, and of equal ones the lower address.
unfoldable pub ranks_before : Rank → Rank → Bool
ranks_before x y = ltb y.last.0 x.last.0 || (not (ltb x.last.0 y.last.0) && ltb x.address y.address)

-- The record that stands for none.
unfoldable pub no_lease : Lease
no_lease =
    record {
      last = moment 0;
      expiry = moment 0;
      chaddr = replicate 16 0;
      id = replicate 64 0;
      relay = replicate 64 0;
      address = 0;
      state = 0;
      htype = 0;
      hlen = 0;
      idlen = 0;
      relaylen = 0;
    }
