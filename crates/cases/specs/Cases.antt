-- Document 01, "Proof cases": what the definitions that the promises cite come to on each case. No rule is defined here.
use Rattle.std.specs.Prelude.{◌≡◌, Bool, true, false, List, [], ◌∷◌, ◌++◌, ℕ, replicate}
use Rattle.std.proofs.Math.Option.{none}
use Rattle.clock.specs.Clock.{moment, span}
use Rattle.fqdn.specs.Flags.{sent, R, flag_answer}
use Rattle.fqdn.specs.Answer.{refused, wrote, answer_of, octets_of, result_of}
use Rattle.fqdn.specs.declared.answer.NameOptionAnswer.{NameOptionAnswer}
use Rattle.fqdn.specs.declared.flags.FlagAnswer.{FlagAnswer}
use Rattle.octets.specs.Number.{number_at}
use Rattle.lease.specs.declared.Lease.{Lease}
use Rattle.leasequery.specs.Answer.{answer as query_answer, told, written}
use Rattle.addresses.specs.Addresses.{four}
use Rattle.update.specs.Rules.{Zone, Update, keep_others, request_a}
use Rattle.job.specs.Jobs.{add, remove, Arguments, conflict, gone, Stage, before_first, ended, fresh, step}
use Rattle.serverlist.specs.Servers.{packed}
use Rattle.serverlist.specs.declared.Server.{Server}
use Rattle.rdnss.specs.ServerList.{answer, server_list}

-- A case: what is asked, and what is to come of it.
pub data Case : Type 0 where
  -- the flag decision for a flags octet, S honoured or not, N honoured or not: the answer
  flags : ℕ → ℕ → ℕ → FlagAnswer → Case
  -- the answer to an option value with a suffix, neither bit honoured, in a buffer of 256 octets: the octets written and what is answered
  option : List ℕ → List ℕ → List ℕ → NameOptionAnswer → Case
  -- the server list at a moment after an area that comes in then from a router with a lifetime of 1,800 seconds: the servers held before, with the clock of that list, and those held after
  area : ℕ → List Server → ℕ → List ℕ → List Server → Case
  -- a lease query at a moment over a table, in a buffer of 648 octets: the reply's kind and its ciaddr
  query : ℕ → List Lease → List ℕ → ℕ → ℕ → Case
  -- the steps of two fresh jobs X and Y on a zone, in the order of a list (true: X): where X stands then, where Y does, and the zone that there is,
  -- which is its number of names and what stands at every one
  jobs : Zone → Arguments → Arguments → List Bool → Stage → Stage → Zone → Case

-- A zone and where two jobs on it stand; a step of each by the rules.
pub record Two : Type 0 where
  pub zone : Zone
  pub x : Stage
  pub y : Stage

unfoldable pub stepped : Arguments → Arguments → List Bool → Two → Two
stepped x y [] t = t
stepped x y (true ∷ turns) t = stepped x y turns (record { zone = (step x t.zone t.x).zone; x = (step x t.zone t.x).stage; y = t.y })
stepped x y (false ∷ turns) t = stepped x y turns (record { zone = (step y t.zone t.y).zone; x = t.x; y = (step y t.zone t.y).stage })

unfoldable pub stepped_fresh : Zone → Arguments → Arguments → List Bool → Two
stepped_fresh zone x y turns = stepped x y turns (record { zone = zone; x = fresh x; y = fresh y })

unfoldable pub Holds : Case → Type 0
Holds (flags f s n right) = flag_answer f s n ≡ right
Holds (option value suffix octets right) =
    (octets_of (answer_of value suffix 0 0 256) value suffix ≡ octets) × (result_of (answer_of value suffix 0 0 256) octets ≡ right)
Holds (area last before now octets after) = server_list (packed (moment last) before) (moment now) (span 1800) octets ≡ answer 0 (packed (moment now) after)
Holds (query now table packet kind address) =
    ((told (query_answer (moment now) table 0 packet 648)).kind ≡ kind) × (number_at 4 (written (query_answer (moment now) table 0 packet 648)) 12 ≡ address)
Holds (jobs zone x y turns xStage yStage after) =
    ((stepped_fresh zone x y turns).x ≡ xStage) × ((stepped_fresh zone x y turns).y ≡ yStage) × ((stepped_fresh zone x y turns).zone ≡ after)

unfoldable pub All : List Case → Type 0
All [] = Unit
All (c ∷ cs) = Holds c × All cs

-- the suffix of P5 and P6: stage
abbrev stage : List ℕ
stage = 5 ∷ 115 ∷ 116 ∷ 97 ∷ 103 ∷ 101 ∷ 0 ∷ []

-- the servers of P7 to P9: an address of 16 octets that are alike, an expiry and a router moment
abbrev server : ℕ → ℕ → ℕ → Server
server octet expiry router = record { address = record { octets = replicate 16 octet }; expiry = moment expiry; router = moment router }

-- an option of Type 25 with a Length and a Lifetime under 256, and the octets of its addresses
abbrev servers : ℕ → ℕ → List ℕ → List ℕ
servers units lifetime octets = 25 ∷ units ∷ 0 ∷ 0 ∷ 0 ∷ 0 ∷ 0 ∷ lifetime ∷ octets

-- the 16 octets of the hardware address in P10, of which six count
abbrev hardware : List ℕ
hardware = 2 ∷ 0 ∷ 0 ∷ 0 ∷ 0 ∷ 7 ∷ replicate 10 0

-- the leases of P10: an address, hardware address 2:0:0:0:0:7 of type 1, and client id p7, last seen at 50 and leased until 200
abbrev lease : ℕ → Lease
lease address =
    record {
      last = moment 50;
      expiry = moment 200;
      chaddr = hardware;
      id = 112 ∷ 55 ∷ replicate 62 0;
      relay = replicate 64 0;
      address = address;
      state = 1;
      htype = 1;
      hlen = 6;
      idlen = 2;
      relaylen = 0;
    }

-- the packets of P10, lease queries from the relay 10.0.0.1: by client id p7, and by hardware address
abbrev packet : List ℕ
packet =
    (1 ∷ replicate 23 0) ++ (10 ∷ 0 ∷ 0 ∷ 1 ∷ replicate 208 0) ++ (99 ∷ 130 ∷ 83 ∷ 99 ∷ 53 ∷ 1 ∷ 10 ∷ 61 ∷ 2 ∷ 112 ∷ 55 ∷ 255 ∷ [])

abbrev packet_by_hardware : List ℕ
packet_by_hardware =
    (1 ∷ 1 ∷ 6 ∷ replicate 21 0) ++ (10 ∷ 0 ∷ 0 ∷ 1 ∷ []) ++ hardware ++ replicate 192 0 ++ (99 ∷ 130 ∷ 83 ∷ 99 ∷ 53 ∷ 1 ∷ 10 ∷ 255 ∷ [])

-- P11 and P12: pipe7.stage, held by X with the one address that X added to the empty zone
abbrev update : ℕ → ℕ → Update
update dhcid octet =
    record {
      name = 5 ∷ 112 ∷ 105 ∷ 112 ∷ 101 ∷ 55 ∷ stage;
      dhcid = replicate 35 dhcid;
      family = four;
      address = 10 ∷ 0 ∷ 0 ∷ octet ∷ [];
    }

abbrev pub no_names : Zone
no_names = record { size = 0; at = λ k. none }

abbrev pub held : Zone
held = (request_a (update 1 7) no_names).zone

abbrev pub x_removes : Arguments
x_removes = record { kind = remove; update = update 1 7; policy = keep_others }

abbrev pub y_adds : Arguments
y_adds = record { kind = add; update = update 2 8; policy = keep_others }

unfoldable pub cases : List Case
cases =
    -- P1: flags 249, S honoured
    flags 249 1 0 (sent 1)
    -- P2: flags 1, neither honoured
    ∷ flags 1 0 0 (sent 2)
    -- P3: flags 4, neither honoured
    ∷ flags 4 0 0 (sent 0)
    -- P4: flags 5, whatever may be honoured
    ∷ flags 5 0 0 R
    ∷ flags 5 1 0 R
    ∷ flags 5 0 1 R
    ∷ flags 5 1 1 R
    -- P5: a partial name completed to one of 13 octets, behind one of flags
    ∷ option (0 ∷ 5 ∷ 112 ∷ 105 ∷ 112 ∷ 101 ∷ 55 ∷ []) stage (0 ∷ 5 ∷ 112 ∷ 105 ∷ 112 ∷ 101 ∷ 55 ∷ 5 ∷ 115 ∷ 116 ∷ 97 ∷ 103 ∷ 101 ∷ 0 ∷ []) (wrote 14)
    -- P6: a label of 63 octets passes, one of 64 is refused
    ∷ option (0 ∷ 63 ∷ replicate 63 97 ++ (0 ∷ [])) stage (0 ∷ 63 ∷ replicate 63 97 ++ (0 ∷ [])) (wrote 66)
    ∷ option (0 ∷ 64 ∷ replicate 64 97 ++ (0 ∷ [])) stage [] (refused 11)
    -- P7: an option of Length 4 is ignored: it neither renews the server that it names nor withdraws it
    ∷ area 0 (server 1 90 70 ∷ []) 0 (servers 4 60 (replicate 24 1)) (server 1 90 70 ∷ [])
    ∷ area 0 (server 1 90 70 ∷ []) 0 (servers 4 0 (replicate 24 1)) (server 1 90 70 ∷ [])
    -- P8: the list holds C, an option names A and B: A, B, C
    ∷ area 0 (server 3 90 70 ∷ []) 0 (servers 5 60 (replicate 16 1 ++ replicate 16 2)) (server 1 60 1800 ∷ server 2 60 1800 ∷ server 3 90 70 ∷ [])
    -- P9: Lifetime 60 at 100; held at 160, gone at 161
    ∷ area 0 [] 100 (servers 3 60 (replicate 16 1)) (server 1 160 1900 ∷ [])
    ∷ area 100 (server 1 160 1900 ∷ []) 160 [] (server 1 160 1900 ∷ [])
    ∷ area 100 (server 1 160 1900 ∷ []) 161 [] []
    -- P10: two active leases with equal transaction moments: the lower address; and where all have expired, unknown
    ∷ query 100 (lease 7 ∷ lease 9 ∷ []) packet 13 7
    ∷ query 100 (lease 7 ∷ lease 9 ∷ []) packet_by_hardware 13 7
    ∷ query 200 (lease 7 ∷ lease 9 ∷ []) packet_by_hardware 12 0
    -- P11: the name is held by X, Y adds: two requests, conflict, and the zone stays
    ∷ jobs held x_removes y_adds (false ∷ false ∷ []) before_first (ended (conflict 2)) held
    -- P12: X removes its only address, Y adds in between: Y in conflict and the name gone; Y first and X after come to the same zone
    ∷ jobs held x_removes y_adds (true ∷ false ∷ false ∷ true ∷ []) (ended gone) (ended (conflict 2)) no_names
    ∷ jobs held x_removes y_adds (false ∷ false ∷ true ∷ true ∷ []) (ended gone) (ended (conflict 2)) no_names
    ∷ []
