-- The octets of a packet as they are written, a query's and a reply's. Document 01, "Lease table and queries".
use Rattle.std.specs.Prelude.{ℕ, List, [], ◌∷◌, ◌++◌, length, replicate}
use Rattle.leasepacket.specs.Packet.{cookie}
use Rattle.leasepacket.specs.Options.{Opt}

-- The fixed fields in the order of their offsets: op, htype, hlen, hops, xid, secs, flags; ciaddr, yiaddr and siaddr, giaddr, chaddr, sname
-- and file, the cookie. Those that are not given are zero.
unfoldable pub fixed_fields : ℕ → ℕ → ℕ → List ℕ → List ℕ → List ℕ → List ℕ → List ℕ → List ℕ
fixed_fields op htype hlen xid flags ciaddr giaddr chaddr =
    ((op ∷ htype ∷ hlen ∷ 0 ∷ []) ++ xid ++ replicate 2 0 ++ flags)
    ++ (ciaddr ++ replicate 8 0 ++ giaddr ++ chaddr ++ replicate 192 0 ++ cookie)

-- An option with its value, and options one behind the other.
abbrev pub option : ℕ → List ℕ → List ℕ
option code value = code ∷ length value ∷ value

unfoldable pub encoded : List Opt → List ℕ
encoded [] = []
encoded (o ∷ os) = option o.code o.octets ++ encoded os
