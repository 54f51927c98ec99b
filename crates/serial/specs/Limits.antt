-- How much can be asked of the order: lists of steps that tell. Demand 3, and document 02, n).
use Rattle.std.specs.Prelude.{◌≡◌, true, List, [], ◌∷◌, ℕ}
use Rattle.octets.specs.Count.{Octets}
use Rattle.update.specs.Rules.{Zone}
use Rattle.update.specs.Meaning.{zone_of}
use Rattle.job.specs.Jobs.{Arguments, End, done, gone, kept, fresh, Sends}
use Rattle.serial.specs.Steps.{Calls, EndedFirst}
use Rattle.serial.specs.Order.{same_answer, StandsOnce, InTurn, nobody, next}
use Rattle.serial.specs.Demand.{Story, HeldHaveAddress, OnOneName, Fitting, Serializable}
use Rattle.serial.specs.Running.{running}
use Rattle.serial.specs.Values.{Held}
use Rattle.serial.specs.P12.{pipe, x_removes, x_adds}

-- pipe in capital letters.
unfoldable pub PIPE : Octets
PIPE = 4 ∷ 80 ∷ 73 ∷ 80 ∷ 69 ∷ 0 ∷ []

-- ---- document 02, n), asks for more than demand 3

-- X leaves and comes back, of the calls that run and with zones and jobs that a program can hold. X has pipe with 10.0.0.1; its remove of that
-- sends both its requests, and then its add of 10.0.0.9 to PIPE, which is the same name, sends one. Two orders fit: the add first and the
-- remove after lead to the same zone, too, and the add is done, though it takes two requests then, and the remove keeps the name. But the
-- remove ended before the add sent its first request, so only one order is as players saw it.
pub record TurnsRound : Type 0 where
  pub story : Story running
  pub values : Held story.steps
  pub held : HeldHaveAddress (zone_of story.first_zone)
  pub jobs : story.arguments ≡ x_removes ∷ x_adds PIPE 9 ∷ []
  pub ends : story.ends ≡ gone ∷ done 1 ∷ []
  pub one_name : OnOneName running story 0 1
  pub ended_first : EndedFirst running story.steps 0 1
  pub seen : Fitting running story (0 ∷ 1 ∷ [])
  pub turned : Fitting running story (1 ∷ 0 ∷ [])
  pub turned_ends : (y : Zone) × Sends (x_adds PIPE 9) (zone_of story.first_zone) (fresh (x_adds PIPE 9)) y (done 2)
      × Sends x_removes y (fresh x_removes) (zone_of story.last_zone) kept
  pub only_seen : (r : Serializable running story) → r.order ≡ 0 ∷ 1 ∷ []

-- ---- the answers of removes can't be asked for

-- In these turns every job gets the same answer as in the list, removes too.
unfoldable pub RemovesAgree : {js : List Arguments} {ends : List End} {x z : Zone} {o : List ℕ} → InTurn js ends x o z → Type 0
RemovesAgree nobody = Unit
RemovesAgree (next i j e d p q m v t) = (same_answer d e ≡ true) × RemovesAgree t

-- X holds pipe with one address. Its remove takes the first step, its add of the same address is done, and the remove finds an address: the name
-- is kept. Whole, before the add or after it, the remove finds none, and the name is gone. So no turns of the two jobs give every job its
-- answer, wherever they lead.
pub record RemovesDiffer (C : Calls) : Type 0 where
  pub story : Story C
  pub jobs : story.arguments ≡ x_removes ∷ x_adds pipe 1 ∷ []
  pub ends : story.ends ≡ kept ∷ done 2 ∷ []
  pub none : (o : List ℕ) (z : Zone) (t : InTurn story.arguments story.ends (C.zone_of story.first_zone) o z) → StandsOnce 0 o → StandsOnce 1 o
      → RemovesAgree t → ⊥
