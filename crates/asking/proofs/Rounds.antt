-- Rounds of steps in which Y's add is sent back to request A, with the count of its requests and of the deletions between them. Assumes nothing.
use mathlib.Core.Path.{◌≡◌, refl, ◌∙◌, ap}
use mathlib.Core.Bool.{Bool, true, false, cond, ◌&&◌}
use mathlib.Core.List.{List, [], ◌∷◌}
use mathlib.Core.Option.{some}
use Prim.Native.Nat.{ℕ, suc, ◌+◌, ◌≤◌, ◌<◌}
use native.Mathlib.Omega.{arith}
use lib.Dec.{eqb}
use lib.ListN.{get_elem?, set}
use borrow.Author.Tests.{eq-eqb, ne_eqb, lt-ltb}
use Rattle.octets.proofs.CompareLaws.{same_self}
use Rattle.dname.specs.Name.{key}
use Rattle.zone.specs.declared.Zone.{Zone}
use Rattle.update.specs.Rules as rules
use Rattle.update.specs.Rules.{NXDOMAIN}
use Rattle.job.specs.declared.job.Job.{Job}
use Rattle.job.specs.Jobs as jobs
use Rattle.job.specs.Jobs.{Stage, before_a, before_b, before_second, ended, conflict, done, gone, after}
use Rattle.job.specs.Meaning.{job_of, at_stage, stage_number, stage_count}
use Rattle.step.specs.declared.Stepped.{Stepped}
use Rattle.serial.specs.Steps.{going, Steps, stepped, own_steps}
use Rattle.serial.specs.Running.{running}
use Rattle.serial.specs.Values.{ZoneValue, are_octets, JobValue, Held}
use Rattle.serial.specs.P12.{pipe, x_removes, y_adds}
use Rattle.serial.proofs.ListLaws.{set_same}
use Rattle.serial.proofs.Running.{Ok}
use Rattle.serial.proofs.P12Zones.{small, full, bare, clear, full_value, bare_value, clear_value}
use Rattle.serial.proofs.P12Runs.{Turn, meets, next_is, next_ok, kx, kx₂, x_first, x_second, x_values, asks_bare, conflicts_bare}
use Rattle.serial.proofs.XAdds.{kx⁺, x_adds_anew, x⁺-values}
use Rattle.asking.specs.Asking.{is_second, ended_gone, deletes, begun, unfinished, deletions}
use Rattle.asking.proofs.NameLaws.{no_deletion, deletion}
use Rattle.asking.proofs.RoundSteps.{asks_clear, value_at}

-- X's remove that has ended gone, and X's add that is done.
abbrev pub kx₃ : Job
kx₃ = at_stage kx₂ (ended gone)

abbrev pub kx⁺₂ : Job
kx⁺₂ = at_stage (kx⁺ pipe small 1) (ended (done 1))

-- What a deletion counts where N requests have been sent, of m.
abbrev between : ℕ → ℕ → Bool
between N m = begun N && unfinished N m

abbrev pub within : ℕ → ℕ → ℕ
within N m = cond (between N m) 1 0

x_deletes_pipe : deletes pipe (record { arguments = x_removes; stage = before_second }) (ended gone) ≡ true
x_deletes_pipe = deletion x_removes pipe ∙ (unfold x_removes in same_self (key pipe))

module _ (ks₀ : List Job) where
  -- A list of steps as far as this zone and these jobs. Job 0 has sent N requests, and pipe was deleted D m times while it had sent at least
  -- one, and fewer than m.
  pub record So (z : Zone) (ks : List Job) (N : ℕ) (D : ℕ → ℕ) : Type 0 where
    pub list : Steps running full ks₀ z ks
    pub held : Held list
    pub sent : own_steps running list 0 ≡ N
    pub deleted : (m : ℕ) → deletions running list 0 pipe m ≡ D m

  -- ---- one step more

  module _ {z w : Zone} {ks : List Job} {N : ℕ} {D : ℕ → ℕ} (so : So z ks N D) (i : ℕ) {j : Job} (g : get_elem? ks i ≡ some j)
      {x y : rules.Zone} {m : jobs.Job} {s : Stage} (t : Turn z w j x y m s) (zv : ZoneValue w) (jv : JobValue (at_stage j s)) where
    abbrev r : Stepped
    r = record { refusal = 0; zone = w; job = at_stage j s }

    abbrev longer : Steps running full ks₀ w (set ks i (at_stage j s))
    longer = stepped so.list i j r g (meets t) refl

    longer_held : Held longer
    unfolding Held
    longer_held = (so.held, zv, jv)

    longer_sent : own_steps running longer 0 ≡ N + cond (eqb i 0 && going m.stage) 1 0
    unfolding own_steps
    longer_sent = ap (λ (n : ℕ). n + cond (eqb i 0 && going (job_of j).stage) 1 0) so.sent ∙ ap (λ (k : jobs.Job). N + cond (eqb i 0 && going k.stage) 1 0) t.is

    -- whether it deletes the name, by the rules
    abbrev del : Bool
    del = deletes pipe m s

    deletes_is : deletes pipe (job_of j) (job_of (at_stage j s)).stage ≡ del
    deletes_is = ap (λ (k : jobs.Job). deletes pipe k (job_of (at_stage j s)).stage) t.is ∙ ap (λ (k : jobs.Job). deletes pipe m k.stage) (next_is t)

    longer_deleted : (v : ℕ) → deletions running longer 0 pipe v ≡ D v + cond (del && between N v) 1 0
    unfolding deletions
    longer_deleted v =
        ap (λ (d : ℕ). d + cond (deletes pipe (job_of j) (job_of (at_stage j s)).stage && between (own_steps running so.list 0) v) 1 0) (so.deleted v)
        ∙ ap (λ (n : ℕ). D v + cond (deletes pipe (job_of j) (job_of (at_stage j s)).stage && between n v) 1 0) so.sent
        ∙ ap (λ (b : Bool). D v + cond (b && between N v) 1 0) deletes_is

    none_deleted : (is_second m.stage && ended_gone s) ≡ false → (v : ℕ) → deletions running longer 0 pipe v ≡ D v
    none_deleted n v = longer_deleted v ∙ rw (no_deletion m.arguments pipe m.stage s n) (omega arith)

    -- a request of job 0
    pub own : i ≡ 0 → going m.stage ≡ true → (is_second m.stage && ended_gone s) ≡ false → So w (set ks i (at_stage j s)) (suc N) D
    own e o n = record { list = longer; held = longer_held; sent = longer_sent ∙ rw (eq-eqb i 0 e, o) (omega arith); deleted = none_deleted n }

    -- a request of another job, which does not delete the name
    pub quiet : ¬ (i ≡ 0) → (is_second m.stage && ended_gone s) ≡ false → So w (set ks i (at_stage j s)) N D
    quiet e n = record { list = longer; held = longer_held; sent = longer_sent ∙ rw (ne_eqb i 0 e) (omega arith); deleted = none_deleted n }

    -- and one that does
    pub deleting : ¬ (i ≡ 0) → del ≡ true → So w (set ks i (at_stage j s)) N (λ v. D v + within N v)
    deleting e d = record { list = longer; held = longer_held; sent = longer_sent ∙ rw (ne_eqb i 0 e) (omega arith); deleted = λ v. longer_deleted v ∙ rw d refl }

  -- ---- X's requests, Y's add being number 0

  module _ {y : Job} {rest : List Job} {N : ℕ} {D : ℕ → ℕ} where
    -- X's remove a sends its first request, and its second
    pub takes_address : So full (y ∷ rest) N D → (a : ℕ) → get_elem? rest a ≡ some kx → So bare (y ∷ set rest a kx₂) N D
    takes_address so a g = quiet so (suc a) g x_first bare_value x_values.1 (λ e. omega arith) refl

    pub deletes_name : So bare (y ∷ rest) N D → (a : ℕ) → get_elem? rest a ≡ some kx₂ → So clear (y ∷ set rest a kx₃) N (λ v. D v + within N v)
    deletes_name so a g = deleting so (suc a) g x_second clear_value x_values.2 (λ e. omega arith) x_deletes_pipe

    -- X's add b
    pub adds_again : So clear (y ∷ rest) N D → (b : ℕ) → get_elem? rest b ≡ some (kx⁺ pipe small 1) → So full (y ∷ set rest b kx⁺₂) N D
    adds_again so b g = quiet so (suc b) g (x_adds_anew pipe small 1) full_value (x⁺-values pipe small 1 refl).1 (λ e. omega arith) refl

  -- X's remove a, whole
  pub leaves : {y : Job} {rest : List Job} {N : ℕ} {D : ℕ → ℕ} → So full (y ∷ rest) N D → (a : ℕ) → get_elem? rest a ≡ some kx
      → So clear (y ∷ set (set rest a kx₂) a kx₃) N (λ v. D v + within N v)
  leaves {rest = rest} so a g = deletes_name (takes_address so a g) a (set_same rest a kx kx₂ g)

-- ---- Y's requests

-- Y's add at a stage.
pub record YAt (y : Job) (s : Stage) : Type 0 where
  pub is : job_of y ≡ record { arguments = y_adds; stage = s }
  pub ok : Ok y
  pub value : JobValue y

-- The numbers of a stage are octets, whatever count stood before it.
abbrev pub Octet : Stage → Type 0
Octet s = (m : ℕ) → are_octets (stage_number s ∷ stage_count s m ∷ []) ≡ true

octet_b : (n : ℕ) → n < 256 → Octet (before_b n)
unfolding are_octets stage_number stage_count
octet_b n l m = rw (lt-ltb n 256 l) refl

octet_conflict : (n : ℕ) → n < 256 → Octet (ended (conflict n))
unfolding are_octets stage_number stage_count
octet_conflict n l m = rw (lt-ltb n 256 l) refl

-- Y's add, n requests sent, sends A, which finds the name, and B, which finds another owner or no name.
module _ (n : ℕ) (few : n ≤ 4) (y : Job) (h : YAt y (before_a n)) where
  abbrev y₁ : Job
  y₁ = at_stage y (before_b (suc n))

  asked : YAt y₁ (before_b (suc n))
  asked =
      let t = asks_bare y n h.is h.ok in
      record { is = next_is t; ok = next_ok t; value = value_at y (before_b (suc n)) h.value (octet_b (suc n) (omega arith) y.count) }

  abbrev y_refused : Job
  y_refused = at_stage y₁ (ended (conflict (suc (suc n))))

  pub refused_is : YAt y_refused (ended (conflict (suc (suc n))))
  refused_is =
      let t = conflicts_bare y₁ (suc n) asked.is asked.ok in
      record { is = next_is t; ok = next_ok t; value = value_at y₁ (ended (conflict (suc (suc n)))) asked.value (octet_conflict (suc (suc n)) (omega arith) y₁.count) }

  pub back_is : (s : Stage) → after (suc (suc n)) NXDOMAIN ≡ s → Octet s → YAt (at_stage y₁ s) s
  back_is s leads o =
      let t = asks_clear y₁ (suc n) s leads asked.is asked.ok in
      record { is = next_is t; ok = next_ok t; value = value_at y₁ s asked.value (o y₁.count) }

  module _ (ks₀ : List Job) {rest : List Job} {D : ℕ → ℕ} where
    asks_a_lem : So ks₀ bare (y ∷ rest) n D → So ks₀ bare (y₁ ∷ rest) (suc n) D
    asks_a_lem so = own ks₀ so 0 refl (asks_bare y n h.is h.ok) bare_value asked.value refl refl refl

  -- A round: X's remove a sends its first request, Y sends A, X's remove its second, Y sends B.
  pub round : (ks₀ : List Job) {rest : List Job} {D : ℕ → ℕ} (s : Stage) → after (suc (suc n)) NXDOMAIN ≡ s → Octet s
      → So ks₀ full (y ∷ rest) n D → (a : ℕ) → get_elem? rest a ≡ some kx
      → So ks₀ clear (at_stage y₁ s ∷ set (set rest a kx₂) a kx₃) (suc (suc n)) (λ v. D v + within (suc n) v)
  round ks₀ {rest} s leads o so a g =
      own ks₀ (deletes_name ks₀ (asks_a_lem ks₀ (takes_address ks₀ so a g)) a (set_same rest a kx kx₂ g)) 0 refl
      (asks_clear y₁ (suc n) s leads asked.is asked.ok) clear_value (back_is s leads o).value refl refl refl

  -- The steps of P12: X's remove a sends its first request, Y sends A and B, X's remove its second.
  pub p12 : (ks₀ : List Job) {rest : List Job} {D : ℕ → ℕ} → So ks₀ full (y ∷ rest) n D → (a : ℕ) → get_elem? rest a ≡ some kx
      → So ks₀ clear (y_refused ∷ set (set rest a kx₂) a kx₃) (suc (suc n)) (λ v. D v + within (suc (suc n)) v)
  p12 ks₀ {rest} so a g =
      let there = asks_a_lem ks₀ (takes_address ks₀ so a g) in
      deletes_name ks₀ (own ks₀ there 0 refl (conflicts_bare y₁ (suc n) asked.is asked.ok) bare_value refused_is.value refl refl refl) a (set_same rest a kx kx₂ g)
