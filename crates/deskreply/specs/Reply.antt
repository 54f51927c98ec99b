-- Which packets are replies. Document 02, d) and e); the packet checks 1 and 3 are those that queries and replies share.
use Rattle.std.specs.Prelude.{ℕ, ◌%◌, Bool, true, false, not, ◌&&◌, List, [], ◌∷◌, leb, eqb, length, get_or}
use Rattle.leasepacket.specs.Packet.{op, hlen, message_type, is_packet}
use Rattle.leasepacket.specs.Options.{values_in, has_options}
use Rattle.leasepacket.specs.ReplyOptions.{Lengths, Rule, in_kind, is_always}

-- The values of an option keep its rule: it is not repeated, its length is one that a server gives it, and it is there if a server always sends it.
unfoldable pub keeps : Bool → Lengths → List (List ℕ) → Bool
keeps always lengths [] = not always
keeps always lengths (v ∷ []) = leb lengths.least (length v) && leb (length v) lengths.most && eqb (length v % lengths.unit) 0
keeps always lengths (v ∷ w ∷ vs) = false

unfoldable pub keeps_all : List Rule → List ℕ → Bool
keeps_all [] p = true
keeps_all (r ∷ rs) p = keeps (is_always r.sent) r.lengths (values_in r.code p) && keeps_all rs p

-- The kind of a reply, by the values of its message type; 0 where there is no such option, or more than one.
abbrev pub kind_by : List (List ℕ) → ℕ
kind_by [] = 0
kind_by (v ∷ []) = get_or v 0 0
kind_by (v ∷ w ∷ vs) = 0

abbrev pub kind_of : List ℕ → ℕ
kind_of p = kind_by (values_in message_type p)

-- LEASEUNASSIGNED (11), LEASEUNKNOWN (12) or LEASEACTIVE (13).
abbrev pub is_kind : ℕ → Bool
is_kind kind = leb 11 kind && leb kind 13

-- A well-formed reply passes the packet checks 1 and 3, comes from a server, has a hardware address that fits and a kind, and each option
-- that servers write in this kind keeps its rule. Other options, a list of requested ones among them, and other fields are not looked at.
-- Anything else is refusal 20.
unfoldable pub is_reply : List ℕ → Bool
is_reply p = is_packet p && has_options p && eqb (op p) 2 && leb (hlen p) 16 && is_kind (kind_of p) && keeps_all (in_kind (kind_of p)) p
