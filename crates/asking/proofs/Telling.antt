-- What an add's stage tells of the deletions of its name, and what a step leaves of that. Assumes nothing.
use mathlib.Core.Path.{◌≡◌, refl, sym, ◌∙◌, ap, subst}
use mathlib.Core.Bool.{Bool, true, false, cond, true≢false}
use mathlib.Core.List.{[], ◌∷◌}
use Prim.Native.Nat.{ℕ, suc, ◌+◌, ◌*◌, ◌≤◌, ◌<◌}
use native.Mathlib.Omega.{arith}
use lib.Dec.{eqb, ltb}
use borrow.Table.Steps.{cases}
use Rattle.update.specs.Rules.{Zone, there, at_key, at_name, held_by, left, fits, NXDOMAIN}
use Rattle.job.specs.Jobs.{Arguments, End, done, conflict, no_room, gave_up, not_ours, gone, kept, Stage, before_a, before_b, before_first, before_second, ended, possible, after, State, step}
use Rattle.job.proofs.StageLaws.{each_among}
use Rattle.update.proofs.ZoneLaws.{option_case}
use Rattle.serial.specs.Steps.{going}
use Rattle.serial.proofs.RequestLaws.{step_a_new, step_a_full, step_a_there, step_b_absent, step_b_other, step_b_full, step_b_done}
use Rattle.serial.proofs.Demand.{Sent}
use Rattle.serial.proofs.InTime.{few_sent}
use Rattle.asking.specs.Asking.{is_second, most, most_going}

-- Before request B, which follows a request A that found the name: where the name stands no more, it was deleted since.
pub record BeforeB (n : ℕ) (stands : Bool) (b d : ℕ) : Type 0 where
  pub few : n ≤ 1 + 2 * b
  pub one : 0 < n
  pub since : stands ≡ false → b < d

abbrev pub AtEnd : End → ℕ → Type 0
AtEnd (done n) b = n ≤ 2 + 2 * b
AtEnd (conflict n) b = n ≤ 2 + 2 * b
AtEnd (no_room n) b = n ≤ 2 + 2 * b
AtEnd (gave_up n) b = n ≤ 2 * b
AtEnd not_ours b = ⊥
AtEnd gone b = ⊥
AtEnd kept b = ⊥

-- Its name stands or not, and was deleted b times up to its last request, and d times up to now.
abbrev pub Tells : Stage → Bool → ℕ → ℕ → Type 0
Tells (before_a n) stands b d = n ≤ 2 * b
Tells (before_b n) stands b d = BeforeB n stands b d
Tells before_first stands b d = ⊥
Tells before_second stands b d = ⊥
Tells (ended e) stands b d = AtEnd e b

-- ---- its own request: what was counted up to now is counted up to its last request from then on

module _ (j : Arguments) (z : Zone) (b d c : ℕ) (more : b ≤ d) where
  abbrev stands : Zone → Bool
  stands y = there (at_key j.update.name y)

  abbrev After : State → Type 0
  After w = Tells w.stage (stands w.zone) d c

  by : {s w : State} → s ≡ w → After w → After s
  by e h = subst After (sym e) h

  again : (n : ℕ) → n ≤ 1 + 2 * b → b < d → Tells (after (suc n) NXDOMAIN) (stands z) d c
  unfolding after
  again n f l = go (eqb (suc n) 6)
    where
      go : (t : Bool) → Tells (cond t (ended (gave_up (suc n))) (before_a (suc n))) (stands z) d c
      go true = omega arith
      go false = omega arith

  pub own : (s : Stage) → going s ≡ true → Tells s (stands z) b d → After (step j z s)
  own (before_a n) g h =
      option_case (at_name j.update z)
      (λ e. cases (ltb z.size 64) (λ r. by (step_a_new j z n e r) (omega arith)) (λ r. by (step_a_full j z n e r) (omega arith)))
      (λ x e. by (step_a_there j z n x e) (record { few = omega arith; one = omega arith; since = λ a. absurd (true≢false (sym (ap there e) ∙ a)) }))
  own (before_b n) g h =
      option_case (at_name j.update z)
      (λ e. by (step_b_absent j z n e) (again n h.few (h.since (ap there e))))
      (λ x e. cases (held_by j.update.dhcid x.owner)
      (λ o. cases (fits j.update (left j.update.family j.policy x)) (λ r. by (step_b_done j z x e n o r) (omega (arith, h.few))) (λ r. by (step_b_full j z x e n o r) (omega (arith, h.few))))
      (λ o. by (step_b_other j z x e n o) (omega (arith, h.few))))
  own before_first g h = absurd h
  own before_second g h = absurd h
  own (ended e) g h = absurd (true≢false (sym g))

-- ---- a step of another job, and one of an add that has ended

pub not_second_lem : (s : Stage) (t : Bool) (b d : ℕ) → Tells s t b d → is_second s ≡ false
not_second_lem (before_a n) t b d h = refl
not_second_lem (before_b n) t b d h = refl
not_second_lem before_first t b d h = refl
not_second_lem before_second t b d h = absurd h
not_second_lem (ended e) t b d h = refl

-- where another job steps, a stage goes on to tell what it told, the deletions up to now being one more where the name was taken
pub other : (s : Stage) (t u : Bool) (N b d c : ℕ) → Sent s N → b ≤ d → d ≤ c → (t ≡ true → u ≡ false → 0 < N → d < c) → Tells s t b d → Tells s u b c
other (before_a n) t u N b d c e k l m h = h
other (before_b n) t u N b d c e k l m h = record { few = h.few; one = h.one; since = since }
  where
    since : u ≡ false → b < c
    since a = cases t (λ x. let y : d < c = m x a (let o : 0 < n = h.one in omega arith) in omega arith) (λ x. let y : b < d = h.since x in omega arith)
other before_first t u N b d c e k l m h = h
other before_second t u N b d c e k l m h = h
other (ended x) t u N b d c e k l m h = h

-- a step of an add that has ended
pub idle : (j : Arguments) (z : Zone) (s : Stage) (t u : Bool) (b d c : ℕ) → going s ≡ false → Tells s t b d → Tells (step j z s).stage u b c
idle j z (before_a n) t u b d c o h = absurd (true≢false o)
idle j z (before_b n) t u b d c o h = absurd (true≢false o)
idle j z before_first t u b d c o h = absurd h
idle j z before_second t u b d c o h = absurd h
idle j z (ended e) t u b d c o h = unfold step in h

pub tells_so : {s s' : Stage} {t t' : Bool} {b b' c c' : ℕ} → s ≡ s' → t ≡ t' → b ≡ b' → c ≡ c' → Tells s t b c → Tells s' t' b' c'
tells_so {s} {s'} {t} {t'} {b} {b'} {c} {c'} p q r v h = subst (λ (w : Stage). Tells w t' b' c') p (subst (λ (w : Bool). Tells s w b' c') q (subst (λ (w : ℕ). Tells s t w c') r (subst (Tells s t b) v h)))

-- ---- what follows of its requests

at_most_ended : (e : End) (N b : ℕ) → AtEnd e b → Sent (ended e) N → N ≤ most b
unfolding most
at_most_ended (done n) N b h c = let e : n ≡ N = c n refl in omega arith
at_most_ended (conflict n) N b h c = let e : n ≡ N = c n refl in omega arith
at_most_ended (no_room n) N b h c = let e : n ≡ N = c n refl in omega arith
at_most_ended (gave_up n) N b h c = let e : n ≡ N = c n refl in omega arith
at_most_ended not_ours N b h c = absurd h
at_most_ended gone N b h c = absurd h
at_most_ended kept N b h c = absurd h

pub at_most_lem : (s : Stage) (t : Bool) (N b d : ℕ) → Tells s t b d → Sent s N → N ≤ most b
unfolding most
at_most_lem (ended e) t N b d h c = at_most_ended e N b h c
at_most_lem (before_a n) t N b d h c = omega arith
at_most_lem (before_b n) t N b d h c = omega (arith, h.few)
at_most_lem before_first t N b d h c = absurd h
at_most_lem before_second t N b d h c = absurd h

pub still_going_lem : (s : Stage) (t : Bool) (N b d : ℕ) → going s ≡ true → Tells s t b d → Sent s N → N ≤ most_going b
unfolding most_going
still_going_lem (before_a n) t N b d o h c = omega arith
still_going_lem (before_b n) t N b d o h c = omega (arith, h.few)
still_going_lem (ended e) t N b d o h c = absurd (true≢false (sym o))
still_going_lem before_first t N b d o h c = absurd h
still_going_lem before_second t N b d o h c = absurd h

pub gave_up_lem : (s : Stage) (t : Bool) (b d n : ℕ) → s ≡ ended (gave_up n) → possible s ≡ true → Tells s t b d → 3 ≤ b
unfolding possible
gave_up_lem s t b d n e c h =
    let six : 6 ≤ n = each_among (λ x. 6 ≤ x) n (6 ∷ []) (omega arith, tt) (subst (λ (v : Stage). possible v ≡ true) e c) in
    let f : n ≤ 2 * b = subst (λ (v : Stage). Tells v t b d) e h in
    omega arith

-- six at most
six_ended : (e : End) (N b : ℕ) → AtEnd e b → possible (ended e) ≡ true → Sent (ended e) N → N ≤ 6
six_ended (done n) N b h p c = let e : n ≡ N = c n refl in let l : n ≤ 6 = few_sent (done n) n p refl in omega arith
six_ended (conflict n) N b h p c = let e : n ≡ N = c n refl in let l : n ≤ 6 = few_sent (conflict n) n p refl in omega arith
six_ended (no_room n) N b h p c = let e : n ≡ N = c n refl in let l : n ≤ 6 = few_sent (no_room n) n p refl in omega arith
six_ended (gave_up n) N b h p c = let e : n ≡ N = c n refl in let l : n ≤ 6 = few_sent (gave_up n) n p refl in omega arith
six_ended not_ours N b h p c = absurd h
six_ended gone N b h p c = absurd h
six_ended kept N b h p c = absurd h

pub six : (s : Stage) (t : Bool) (N b d : ℕ) → Tells s t b d → possible s ≡ true → Sent s N → N ≤ 6
unfolding possible
six (before_a n) t N b d h p c = let l : n ≤ 6 = each_among (λ x. x ≤ 6) n (0 ∷ 2 ∷ 4 ∷ []) (omega arith, (omega arith, (omega arith, tt))) p in omega arith
six (before_b n) t N b d h p c = let l : n ≤ 6 = each_among (λ x. x ≤ 6) n (1 ∷ 3 ∷ 5 ∷ []) (omega arith, (omega arith, (omega arith, tt))) p in omega arith
six (ended e) t N b d h p c = six_ended e N b h p c
six before_first t N b d h p c = absurd h
six before_second t N b d h p c = absurd h
