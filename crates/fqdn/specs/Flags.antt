-- The flag decision. Document 01, "Name option".
use Rattle.std.specs.Prelude.{ℕ, zero, suc, ◌+◌, ◌*◌, ◌%◌, List, [], ◌∷◌, get_or}
use Rattle.fqdn.specs.declared.flags.FlagAnswer.{FlagAnswer}

-- Whether a bit may be honoured, as the caller's number says it: 0 is no, any other yes.
unfoldable pub honoured : ℕ → ℕ
honoured zero = 0
honoured (suc n) = 1

-- An answer: these flags are sent, or R, refusal 10.
abbrev pub sent : ℕ → FlagAnswer
sent flags = record { refusal = 0; flags = flags }

abbrev pub R : FlagAnswer
R = record { refusal = 10; flags = 0 }

-- Document 01, "Name option": the answers to the lowest three bits N O S, counted up in each row. The rows: neither may be honoured, S, N, both.
abbrev pub flag_table : List FlagAnswer
flag_table =
    sent 0 ∷ sent 2 ∷ R ∷ R ∷ sent 0 ∷ R ∷ R ∷ R ∷
    sent 0 ∷ sent 1 ∷ R ∷ R ∷ sent 0 ∷ R ∷ R ∷ R ∷
    sent 0 ∷ sent 2 ∷ R ∷ R ∷ sent 4 ∷ R ∷ R ∷ R ∷
    sent 0 ∷ sent 1 ∷ R ∷ R ∷ sent 4 ∷ R ∷ R ∷ R ∷ []

-- Document 01, "Name option": the answer at its place in the table. Every place is one of the 32.
unfoldable pub flag_answer : ℕ → ℕ → ℕ → FlagAnswer
flag_answer flags s n = get_or flag_table (flags % 8 + 8 * honoured s + 16 * honoured n) (sent 0)
