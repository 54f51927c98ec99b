-- Whole jobs one after the other, and when an order of them explains a list of steps. Document 01, "Zone, requests and jobs".
use Rattle.std.specs.Prelude.{◌≡◌, Bool, true, false, cond, List, [], ◌∷◌, ◌⊎◌, ℕ, ◌+◌, eqb}
use Rattle.std.proofs.Math.Option.{some}
use Rattle.std.proofs.Math.ListN.{get_elem?}
use Rattle.update.specs.Rules.{Zone}
use Rattle.job.specs.Jobs.{add, Arguments, End, done, conflict, no_room, gave_up, not_ours, gone, kept, ended, fresh, Sends}
use Rattle.job.specs.Meaning.{stage_number}

-- ---- how jobs end

-- An add that ended no room or gave up is left out of the order.
abbrev pub is_left_out : End → Bool
is_left_out (done n) = false
is_left_out (conflict n) = false
is_left_out (no_room n) = true
is_left_out (gave_up n) = true
is_left_out not_ours = false
is_left_out gone = false
is_left_out kept = false

-- Two ends are the same answer where a job that ended so has the same number: both done, for example, or both in conflict. Counts may differ.
unfoldable pub same_answer : End → End → Bool
same_answer d e = eqb (stage_number (ended d)) (stage_number (ended e))

-- ---- an order: a list of jobs' numbers

-- How often a job stands in an order.
unfoldable pub times : ℕ → List ℕ → ℕ
times i [] = 0
times i (k ∷ o) = cond (eqb i k) 1 0 + times i o

-- It stands there once; it does not stand there at all.
abbrev pub StandsOnce : ℕ → List ℕ → Type 0
StandsOnce i o = times i o ≡ 1

abbrev pub StandsNotAtAll : ℕ → List ℕ → Type 0
StandsNotAtAll i o = times i o ≡ 0

-- Job a stands in an order; it stands before job b.
abbrev pub In : ℕ → List ℕ → Type 0
In a [] = ⊥
In a (x ∷ o) = (x ≡ a) ⊎ In a o

abbrev pub Before : ℕ → ℕ → List ℕ → Type 0
Before a b [] = ⊥
Before a b (x ∷ o) = ((x ≡ a) × In b o) ⊎ Before a b o

-- ---- whole jobs in an order

-- The jobs that a list of steps had, and how each of them ended there.
module _ (js : List Arguments) (ends : List End) where
  -- Each job of the order in its turn, from its fresh stage to its end d, on the zone that the one before it left. An add gets the same answer
  -- as in the list, where it ended e.
  pub data InTurn : Zone → List ℕ → Zone → Type 0 where
    nobody : {z : Zone} → InTurn z [] z
    next : {x y z : Zone} {o : List ℕ} (i : ℕ) (j : Arguments) (e d : End) → get_elem? js i ≡ some j → get_elem? ends i ≡ some e
        → Sends j x (fresh j) y d → (j.kind ≡ add → same_answer d e ≡ true) → InTurn y o z → InTurn x (i ∷ o) z

  -- An order that explains the list: each job stands in it once, or not at all if it is left out, and the jobs in their turn lead from the
  -- list's first zone to its last.
  pub record Explains (x z : Zone) (o : List ℕ) : Type 0 where
    pub once : (i : ℕ) (e : End) → get_elem? ends i ≡ some e → is_left_out e ≡ false → StandsOnce i o
    pub not_at_all : (i : ℕ) (e : End) → get_elem? ends i ≡ some e → is_left_out e ≡ true → StandsNotAtAll i o
    pub in_turn : InTurn x o z
