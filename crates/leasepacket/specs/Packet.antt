-- The layout of a packet. Document 01, "Lease table and queries"; the names are those of RFC 2131, 2132 and 4388.
use Rattle.std.specs.Prelude.{ℕ, Bool, ◌&&◌, List, [], ◌∷◌, leb, eqb, length, get_or, take, drop}
use Rattle.octets.specs.Number.{number_at}

-- As many octets of a packet as the second number says, from the place that the first says.
abbrev pub part : List ℕ → ℕ → ℕ → List ℕ
part p at n = take n (drop at p)

-- The fixed fields that a query or a reply is read by; op is 1 in a packet from a client or a relay, 2 in one from a server.
abbrev pub op : List ℕ → ℕ
op p = get_or p 0 0

abbrev pub htype : List ℕ → ℕ
htype p = get_or p 1 0

abbrev pub hlen : List ℕ → ℕ
hlen p = get_or p 2 0

abbrev pub xid : List ℕ → ℕ
xid p = number_at 4 p 4

abbrev pub ciaddr : List ℕ → ℕ
ciaddr p = number_at 4 p 12

abbrev pub giaddr : List ℕ → ℕ
giaddr p = number_at 4 p 24

abbrev pub chaddr : List ℕ → List ℕ
chaddr p = part p 28 16

-- The magic cookie, which stands before the options.
abbrev pub cookie : List ℕ
cookie = 99 ∷ 130 ∷ 83 ∷ 99 ∷ []

-- The options stand behind it, from octet 240 on.
abbrev pub option_area : List ℕ → List ℕ
option_area p = drop 240 p

-- The codes of the options that a query is read by, and of those that a reply has besides; and the message type DHCPLEASEQUERY.
abbrev pub message_type : ℕ
message_type = 53

abbrev pub client_id : ℕ
client_id = 61

abbrev pub parameter_request_list : ℕ
parameter_request_list = 55

abbrev pub lease_time : ℕ
lease_time = 51

abbrev pub server_id : ℕ
server_id = 54

abbrev pub relay_information : ℕ
relay_information = 82

abbrev pub last_transaction_time : ℕ
last_transaction_time = 91

abbrev pub associated_ip : ℕ
associated_ip = 92

abbrev pub lease_query : ℕ
lease_query = 10

-- A packet has 240 to 1,500 octets, with the cookie at 236. If not, that is refusal 1.
unfoldable pub is_packet : List ℕ → Bool
is_packet p = leb 240 (length p) && leb (length p) 1500 && eqb (number_at 4 p 236) (number_at 4 cookie 0)
