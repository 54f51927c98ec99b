-- Each case holds by computing the definitions. Assumes nothing.
use mathlib.Core.Path.{◌≡◌, refl, fun_ext}
use mathlib.Core.Bool.{Bool, true, false, cond}
use mathlib.Core.List.{[], ◌∷◌}
use mathlib.Core.Option.{none, some}
use Rattle.dname.specs.Name.{labels_of, limited, shape_of, key}
use Rattle.fqdn.specs.Flags.{honoured, flag_answer}
use Rattle.fqdn.specs.Answer.{by_name, by_suffix, by_flags, by_value, answer_of, octets_of, result_of}
use Rattle.octets.specs.Compare.{same_octets}
use Rattle.octets.specs.Count.{Octets}
use Rattle.octets.specs.Number.{number_at, big_endian}
use Rattle.clock.specs.Clock.{is_expiry, is_ahead, moment_after, expiry_after, seconds_left, seconds_since}
use Rattle.entries.specs.Entries.{earlier, are_moments, moments_after, withdraws, keep, one_of, each, distinct, removed, renewed, evicted, roomed, inserted, named, named_all}
use Rattle.serverlist.specs.Servers.{is_sound, is_timely}
use Rattle.rdnss.specs.Area.{is_whole, options, is_area, is_acting, addresses_from, named_by}
use Rattle.rdnss.specs.Options.{option_applied}
use Rattle.rdnss.specs.ServerList.{first_refusal, server_list}
use Rattle.lease.specs.Lease.{all_zero, hardware_fits, lengths_fit, moments_fit, well_formed, active_at, has_hardware, has_client_id, ranks_before}
use Rattle.leasepacket.specs.Options as packet_options
use Rattle.leasepacket.specs.Packet.{is_packet}
use Rattle.leasepacket.specs.Options.{values, has_options}
use Rattle.leasepacket.specs.Query.{any_set, has_hardware_key, keys, key_of, has_bad_length, refusals, first_of, asking}
use Rattle.leasepacket.specs.Layout.{fixed_fields}
use Rattle.leasetable.specs.Table.{rises_from, table_fits, those, placed, ranked}
use Rattle.leasereply.specs.Reply.{fixed, of_lease, flat, other_reply, active_reply}
use Rattle.leasequery.specs.Answer.{has_key, by_address_of, by_client_of, answer_by, asked_of, answer}
use Rattle.addresses.specs.Addresses.{including, excluding}
use Rattle.update.specs.Rules.{Host, with, held_by, empty, new_host, left, fits, write_b, request_a, request_b, remove_address, remove_name, with_name, without_name, with_address, without_address, delete_name}
use Rattle.job.specs.Jobs.{fresh, after, after_first, after_second, step}
use Rattle.cases.specs.Cases.{no_names, held, x_removes, y_adds, Holds, All, cases, stepped, stepped_fresh}

-- The zone of P12 at its end has no name: at each key the delete stands over X's writes. Y first and X after computes to the same zone.
p12_mixed : (stepped_fresh held x_removes y_adds (true ∷ false ∷ false ∷ true ∷ [])).zone ≡ no_names
unfolding same_octets key including excluding with with_name without_name held_by empty with_address without_address new_host request_a request_b remove_address delete_name remove_name fresh after after_first after_second step stepped stepped_fresh
p12_mixed = λ i. record { size = 0; at = fun_ext at i }
  where
    go : (b : Bool) (g h : Host) → cond b none (cond b (some g) (cond b (some h) none)) ≡ none
    go true g h = refl
    go false g h = refl

    at : (k : Octets) → (stepped_fresh held x_removes y_adds (true ∷ false ∷ false ∷ true ∷ [])).zone.at k ≡ none
    at k = go (same_octets x_removes.update.name k) _ _

pub cases_hold : All cases
unfolding All Holds cases labels_of limited shape_of honoured flag_answer by_name by_suffix by_flags by_value answer_of octets_of result_of same_octets number_at is_expiry moment_after expiry_after earlier are_moments moments_after withdraws keep one_of each distinct removed renewed evicted roomed inserted named named_all is_whole options is_area is_acting addresses_from named_by is_sound is_timely option_applied first_refusal server_list big_endian is_ahead seconds_left seconds_since all_zero hardware_fits lengths_fit moments_fit well_formed active_at has_client_id ranks_before packet_options.options values any_set asking rises_from table_fits those placed ranked fixed_fields fixed of_lease flat other_reply active_reply has_key by_address_of by_client_of answer_by asked_of answer key including excluding with with_name without_name held_by empty with_address without_address new_host left fits write_b request_a request_b remove_address delete_name remove_name fresh after after_first after_second step stepped stepped_fresh has_hardware has_hardware_key keys key_of has_bad_length refusals first_of is_packet has_options
cases_hold = (refl, (refl, (refl, (refl, (refl, (refl, (refl, ((refl, refl), ((refl, refl), ((refl, refl), (refl, (refl, (refl, (refl, (refl, (refl, ((refl, refl), ((refl, refl), ((refl, refl), ((refl, refl, refl), ((refl, refl, p12_mixed), ((refl, refl, p12_mixed), tt))))))))))))))))))))))
