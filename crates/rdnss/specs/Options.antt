-- A router's option area on a list, whatever its entries are about. Document 01, "Server list", and document 02, b).
use Rattle.std.specs.Prelude.{Bool, ℕ, leb}
use mathlib.Core.List.{List, foldl}
use Rattle.clock.specs.declared.Moment.{Moment}
use Rattle.clock.specs.declared.Span.{Span}
use Rattle.entries.specs.Entries.{Kind, withdraws, moments_after, unexpired, named_all}
use Rattle.entries.specs.declared.Moments.{Moments}
use Rattle.rdnss.specs.Area.{options, lifetime_of}

-- A router lifetime is at most 65,535 seconds.
abbrev pub most_lifetime : ℕ
most_lifetime = 65535

abbrev pub is_router_lifetime : Span → Bool
is_router_lifetime router = leb router.0 most_lifetime

-- Whether an option withdraws what it names, in an area of a router with a lifetime.
abbrev pub is_withdrawing : Span → List ℕ → Bool
is_withdrawing router option = withdraws (lifetime_of option) router

-- An area comes in at a clock, from a router with a lifetime.
module _ (clock : Moment) (router : Span) where
  -- The moments that an option gives which does not withdraw.
  abbrev pub moments_of : List ℕ → Moments
  moments_of option = moments_after clock (lifetime_of option) router

  -- A list of entries of one kind, and what an option names of that kind.
  module _ {K E : Type 0} (kind : Kind K E) (names : List ℕ → List K) where
    -- One option.
    unfoldable pub option_applied : List E → List ℕ → List E
    option_applied l option = named_all kind (is_withdrawing router option) (moments_of option) (names option) l

    -- First the entries that have expired go, then each option acts, from the first to the last.
    abbrev pub applied : List ℕ → List E → List E
    applied area l = foldl option_applied (unexpired kind clock l) (options 0 area)
