-- Which options a server's reply has, in their order. Document 01, "Lease table and queries"; document 02, e).
use Rattle.std.specs.Prelude.{ℕ, Bool, true, false, cond, List, [], ◌∷◌, ◌++◌, eqb}
use Rattle.leasepacket.specs.Packet.{message_type, client_id, lease_time, server_id, relay_information, last_transaction_time, associated_ip}
use Rattle.leasepacket.specs.Options.{Opt}
use Rattle.leasepacket.specs.Requested.{is_requested}

-- When a reply has an option: always; if there is something to say under its code and the query asks for it; or if there is something to say.
pub data Sent : Type 0 where
  always : Sent
  if_requested : Sent
  if_held : Sent

-- The lengths of an option's value: multiples of a unit from the least to the most.
pub record Lengths : Type 0 where
  pub least : ℕ
  pub most : ℕ
  pub unit : ℕ

pub record Rule : Type 0 where
  pub code : ℕ
  pub sent : Sent
  pub lengths : Lengths

abbrev rule : ℕ → Sent → ℕ → ℕ → ℕ → Rule
rule code sent least most unit = record { code = code; sent = sent; lengths = record { least = least; most = most; unit = unit } }

-- In every kind: the kind, and the server's address.
abbrev pub in_every : List Rule
in_every = rule message_type always 1 1 1 ∷ rule server_id always 4 4 1 ∷ []

-- In LEASEACTIVE (13) besides: seconds left, client id, relay information, seconds since the last transaction, and 2 to 63 addresses.
abbrev pub in_active : List Rule
in_active =
    rule lease_time if_requested 4 4 1
    ∷ rule client_id if_requested 2 64 1
    ∷ rule relay_information if_requested 1 64 1
    ∷ rule last_transaction_time if_requested 4 4 1
    ∷ rule associated_ip if_held 8 252 4
    ∷ []

abbrev pub in_kind : ℕ → List Rule
in_kind kind = in_every ++ cond (eqb kind 13) in_active []

-- A reader may count on an option that is always sent.
abbrev pub is_always : Sent → Bool
is_always always = true
is_always if_requested = false
is_always if_held = false

-- The query does not keep an option of a code out of the reply.
abbrev pub is_allowed : List ℕ → ℕ → Sent → Bool
is_allowed query code always = true
is_allowed query code if_requested = is_requested query code
is_allowed query code if_held = true

-- An option of a code; none where there is nothing to say, which is an empty value.
abbrev pub held : ℕ → List ℕ → List Opt
held code [] = []
held code (x ∷ xs) = record { code = code; octets = x ∷ xs } ∷ []

-- The options of a reply to a query, by what there is to say under each code, in the order of the rules.
unfoldable pub sent_by : List ℕ → (ℕ → List ℕ) → List Rule → List Opt
sent_by query value [] = []
sent_by query value (r ∷ rs) = cond (is_allowed query r.code r.sent) (held r.code (value r.code)) [] ++ sent_by query value rs
