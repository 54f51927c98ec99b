-- The answer of the server list call as lines of text. docs/PROGRAMS.md says the same as a grammar.
use Rattle.std.specs.Prelude.{cond, List, [], ◌∷◌, ◌++◌, ℕ, eqb, length}
use Rattle.clock.specs.Clock.{moment, span}
use Rattle.entries.specs.Entries.{expires}
use Rattle.rdnss.specs.declared.ServerListAnswer.{ServerListAnswer}
use Rattle.rdnss.specs.ServerList.{server_list}
use Rattle.serverlist.specs.Servers.{servers, held, packed}
use Rattle.serverlist.specs.declared.Server.{Server}
use Rattle.text.specs.Text.{ascii, decimal, hex}

-- A line is its text and a line end.
abbrev pub line : List ℕ → List ℕ
line text = text ++ ascii "\n"

-- A server: the digits of its address, a blank, and the seconds of the moment at which it expires, the earlier of its two.
unfoldable pub server_line : Server → List ℕ
server_line e = line ((hex e.address.octets ++ ascii " ") ++ decimal (expires servers e).0)

-- A line for each server, in their order.
unfoldable pub server_lines : List Server → List ℕ
server_lines [] = []
server_lines (e ∷ l) = server_line e ++ server_lines l

-- How many there are, and then these.
unfoldable pub list_lines : List Server → List ℕ
list_lines l = line (ascii "servers " ++ decimal (length l)) ++ server_lines l

-- A refusal's number.
unfoldable pub refusal_line : ℕ → List ℕ
refusal_line refusal = line (ascii "refused " ++ decimal refusal)

-- An answer: the list, or the refusal if there is one.
unfoldable pub answer_lines : ServerListAnswer → List ℕ
answer_lines answer = cond (eqb answer.refusal 0) (list_lines (held answer.list)) (refusal_line answer.refusal)

-- What the program `servers` prints for its input: the answer to it as an area, on a list without servers at clock 0, from a router with a lifetime of 1,800 seconds.
unfoldable pub area_lines : List ℕ → List ℕ
area_lines area = answer_lines (server_list (packed (moment 0) []) (moment 0) (span 1800) area)
