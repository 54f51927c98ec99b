-- The server's answer to a name option. Document 01, "Name option" and "Refusal numbers": 14, 10, 11 for the suffix, 12, 11 for the name, 13.
use Rattle.std.specs.Prelude.{◌≡◌, Result, Ok, Err, ℕ, ◌+◌, ◌<◌, ◌≤◌, cond, List, [], ◌∷◌, ◌++◌, eqb, ltb, length, drop}
use Rattle.octets.specs.Write.{laid}
use Rattle.dname.specs.Name.{shape_of}
use Rattle.dname.specs.declared.Shape.{Shape}
use Rattle.dname.specs.declared.Shape.TheVariants.{Empty, Full, Partial, Malformed}
use Rattle.fqdn.specs.Flags.{flag_answer}
use Rattle.fqdn.specs.declared.answer.NameAnswer.{NameAnswer}
use Rattle.fqdn.specs.declared.answer.NameAnswer.TheVariants.{Whole, Completed}
use Rattle.fqdn.specs.declared.refusal.Refusal.{Refusal}
use Rattle.fqdn.specs.declared.refusal.Refusal.TheVariants.{BadFlags, BadName, NoName, LongName, NoRoom}
use Rattle.fqdn.specs.declared.answer.NameOptionAnswer.{NameOptionAnswer}
use Rattle.fqdn.specs.declared.flags.FlagAnswer.{FlagAnswer}

-- The number of a refusal.
abbrev pub number_of : Refusal → ℕ
number_of BadFlags = 10
number_of BadName = 11
number_of NoName = 12
number_of LongName = 13
number_of NoRoom = 14

-- A refusal, or the answer.
abbrev pub Answer : Type 0
Answer = Result NameAnswer Refusal

-- By what the option's name is: refusals 12, 11 and 13. A full name is answered as it is, a partial one with the suffix behind it.
unfoldable pub by_name : Shape → ℕ → List ℕ → List ℕ → Answer
by_name Empty flags name suffix = Err NoName
by_name Malformed flags name suffix = Err BadName
by_name Full flags name suffix = Ok (Whole flags)
by_name Partial flags name suffix = cond (ltb 255 (length name + length suffix)) (Err LongName) (Ok (Completed flags))

-- By what the suffix is: refusal 11 where it is not a full name.
unfoldable pub by_suffix : Shape → ℕ → List ℕ → List ℕ → Answer
by_suffix Full flags name suffix = by_name (shape_of name) flags name suffix
by_suffix Empty flags name suffix = Err BadName
by_suffix Partial flags name suffix = Err BadName
by_suffix Malformed flags name suffix = Err BadName

-- The flag decision: refusal 10, or the flags of the answer.
unfoldable pub sent_flags : FlagAnswer → Result ℕ Refusal
sent_flags decision = cond (eqb decision.refusal 0) (Ok decision.flags) (Err BadFlags)

-- By the flag decision: refusal 10, or the flags of the answer.
unfoldable pub by_flags : FlagAnswer → List ℕ → List ℕ → Answer
by_flags decision name suffix = cond (eqb decision.refusal 0) (by_suffix (shape_of suffix) decision.flags name suffix) (Err BadFlags)

-- By the option's value, a flags octet and then the name: refusal 10 where it is empty.
unfoldable pub by_value : List ℕ → List ℕ → ℕ → ℕ → Answer
by_value [] suffix s n = Err BadFlags
by_value (flags ∷ name) suffix s n = by_flags (flag_answer flags s n) name suffix

-- By the reply buffer: refusal 14 where it has less than 256 octets.
unfoldable pub answer_of : List ℕ → List ℕ → ℕ → ℕ → ℕ → Answer
answer_of value suffix s n room = cond (ltb room 256) (Err NoRoom) (by_value value suffix s n)

-- The octets of an answer: none where it is a refusal.
unfoldable pub octets_of : Answer → List ℕ → List ℕ → List ℕ
octets_of (Err why) value suffix = []
octets_of (Ok (Whole flags)) value suffix = flags ∷ drop 1 value
octets_of (Ok (Completed flags)) value suffix = (flags ∷ drop 1 value) ++ suffix

-- What the call answers: a refusal, or how many octets it wrote.
abbrev pub refused : ℕ → NameOptionAnswer
refused number = record { refusal = number; length = 0 }

abbrev pub wrote : ℕ → NameOptionAnswer
wrote octets = record { refusal = 0; length = octets }

unfoldable pub result_of : Answer → List ℕ → NameOptionAnswer
result_of (Err why) octets = refused (number_of why)
result_of (Ok answer) octets = wrote (length octets)

-- The promise of the call: what it answers, r, and what the reply buffer holds then, after. The octets past the answer, and all where it is refused, are as before.
pub record Answered (value suffix : List ℕ) (s n : ℕ) (before : List ℕ) (r : NameOptionAnswer) (after : List ℕ) : Type 0 where
  pub result : r ≡ result_of (answer_of value suffix s n (length before)) (octets_of (answer_of value suffix s n (length before)) value suffix)
  pub buffer : after ≡ laid (octets_of (answer_of value suffix s n (length before)) value suffix) before

-- ---- for the contracts of inner functions; no promise of an exported call cites these

-- A value and what follows its name come to at most 256 octets, and the buffer has room for as many.
pub record Room (value tail : List ℕ) (room : ℕ) : Type 0 where
  pub some : 0 < length value
  pub most : length value + length tail ≤ 256
  pub fit : 256 ≤ room

-- Octets stand at the front of the buffer, and their number is the answer.
pub record Put (octets before : List ℕ) (r : NameOptionAnswer) (after : List ℕ) : Type 0 where
  pub result : r ≡ wrote (length octets)
  pub buffer : after ≡ laid octets before
