-- The laws of the two moments of an entry. Assumes nothing.
use mathlib.Core.Path.{◌≡◌, refl, ap, ◌∙◌}
use mathlib.Core.Bool.{Bool, true, false, ◌&&◌, ◌||◌, or-true}
use Prim.Native.Nat.{◌+◌, min}
use native.Mathlib.Omega.{arith}
use lib.Dec.{eqb}
use borrow.Author.Tests.{le-leb, eq-eqb, ne_eqb}
use Rattle.octets.proofs.BoolLaws.{and_both}
use Rattle.clock.specs.Clock.{latest, endless, is_never, is_moment, is_expiry, moment_after, expiry_after}
use Rattle.clock.specs.declared.Moment.{Moment}
use Rattle.clock.specs.declared.Span.{Span}
use Rattle.entries.specs.Entries.{are_moments, moments_after, withdraws}
use Rattle.entries.specs.declared.Moments.{Moments}
use Rattle.entries.proofs.EntryLaws.{cond_case}

-- whether they are such, by the expiry
module _ (m : Moments) where
  pub no_expiry : is_expiry m.expiry ≡ false → are_moments m ≡ false
  unfolding are_moments
  no_expiry h = ap (λ (b : Bool). b && is_moment m.router) h

  pub by_router : is_expiry m.expiry ≡ true → are_moments m ≡ is_moment m.router
  unfolding are_moments
  by_router h = ap (λ (b : Bool). b && is_moment m.router) h

-- now and a span is a moment
is_moment_after : (clock : Moment) (after : Span) → is_moment (moment_after clock after) ≡ true
unfolding moment_after
is_moment_after clock after = le-leb (min (clock.0 + after.0) latest) latest (omega arith)

-- what an option gives are moments
pub are_moments_after : (clock : Moment) (lifetime router : Span) → are_moments (moments_after clock lifetime router) ≡ true
unfolding are_moments moments_after is_expiry expiry_after
are_moments_after clock lifetime router =
    and_both _ _
    (cond_case (λ (m : Moment). (is_never m || is_moment m) ≡ true) (eqb lifetime.0 endless)
    (λ _. refl)
    (λ _. rw (is_moment_after clock lifetime) (or-true (is_never (moment_after clock lifetime)))))
    (is_moment_after clock router)

-- what withdraws: a Lifetime of 0, a router lifetime of 0 whatever the Lifetime, and nothing else
module _ (lifetime router : Span) where
  pub lifetime_withdraws : lifetime.0 ≡ 0 → withdraws lifetime router ≡ true
  unfolding withdraws
  lifetime_withdraws z = ap (λ (b : Bool). b || eqb router.0 0) (eq-eqb lifetime.0 0 z)

  pub router_withdraws : router.0 ≡ 0 → withdraws lifetime router ≡ true
  unfolding withdraws
  router_withdraws z = ap (λ (b : Bool). eqb lifetime.0 0 || b) (eq-eqb router.0 0 z) ∙ or-true (eqb lifetime.0 0)

  pub router_decides : (lifetime.0 ≡ 0 → ⊥) → withdraws lifetime router ≡ eqb router.0 0
  unfolding withdraws
  router_decides n = ap (λ (b : Bool). b || eqb router.0 0) (ne_eqb lifetime.0 0 n)
