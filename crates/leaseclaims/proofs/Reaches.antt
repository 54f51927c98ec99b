-- The bound of 648 octets is reached: a client id with 63 active leases, each with 64 octets of id and of relay information. Assumes nothing.
use Prim.Native.Nat.{ℕ, zero, suc, ◌+◌}
use mathlib.Core.Path.{◌≡◌, refl}
use mathlib.Core.List.{List, [], ◌∷◌, ◌++◌}
use lib.ListN.{length, replicate}
use Rattle.clock.specs.Clock.{moment, never, is_expiry, is_ahead, seconds_left, seconds_since}
use Rattle.octets.specs.Number.{number_at, big_endian}
use Rattle.octets.specs.Compare.{same_octets}
use Rattle.lease.specs.declared.Lease.{Lease}
use Rattle.lease.specs.Lease.{all_zero, hardware_fits, lengths_fit, moments_fit, well_formed, active_at, has_client_id, ranks_before}
use Rattle.leasepacket.specs.Packet.{is_packet}
use Rattle.leasepacket.specs.Options.{options, values, has_options}
use Rattle.leasepacket.specs.Query.{any_set, has_hardware_key, keys, key_of, has_bad_length, refusals, first_of, asking}
use Rattle.leasepacket.specs.Layout.{fixed_fields, encoded}
use Rattle.leasepacket.specs.Requested.{is_requested}
use Rattle.leasepacket.specs.ReplyOptions.{sent_by}
use Rattle.leasetable.specs.Table.{table_fits, rises_from, those, placed, ranked}
use Rattle.leasereply.specs.Reply.{fixed, options_of, of_server, of_lease, flat, active_reply}
use Rattle.leasequery.specs.Answer.{written, has_key, by_client_of, answer_by, asked_of, answer}

abbrev lease_at : ℕ → Lease
lease_at address = record {
  last = moment 5;
  expiry = moment never;
  chaddr = replicate 16 0;
  id = replicate 64 9;
  relay = replicate 64 8;
  address = address;
  state = 1;
  htype = 0;
  hlen = 0;
  idlen = 64;
  relaylen = 64;
}

-- leases with the addresses behind one, as many as the number says
unfoldable pub leases_from : ℕ → ℕ → List Lease
leases_from zero address = []
leases_from (suc n) address = lease_at (address + 1) ∷ leases_from n (address + 1)

-- a query by the client id of all: op 1, giaddr 10.0.0.1
abbrev asks : List ℕ
asks =
    (1 ∷ 0 ∷ 0 ∷ 0 ∷ 1 ∷ 2 ∷ 3 ∷ 4 ∷ replicate 16 0) ++ (10 ∷ 0 ∷ 0 ∷ 1 ∷ []) ++ replicate 208 0 ++ (99 ∷ 130 ∷ 83 ∷ 99 ∷ 53 ∷ 1 ∷ 10 ∷ 61 ∷ 64 ∷ replicate 64 9) ++ (255 ∷ [])

pub reaches : length (written (answer (moment 10) (leases_from 63 167772160) 167772161 asks 648)) ≡ 648
unfolding leases_from answer asked_of answer_by has_key by_client_of asking options values any_set has_hardware_key keys key_of has_bad_length refusals first_of is_packet has_options number_at big_endian same_octets table_fits rises_from those placed ranked all_zero hardware_fits lengths_fit moments_fit well_formed active_at has_client_id ranks_before is_expiry is_ahead seconds_left seconds_since active_reply fixed_fields fixed options_of is_requested sent_by encoded of_server of_lease flat
reaches = refl
