-- The refusals of the server list call as the inner functions have them. No promise of an exported call cites this.
use Rattle.std.specs.Prelude.{◌≡◌, ℕ, List, MatchResult, Result}
use Rattle.clock.specs.declared.Moment.{Moment}
use Rattle.clock.specs.declared.Span.{Span}
use Rattle.serverlist.specs.Servers.{held, packed}
use Rattle.serverlist.specs.declared.ServerList.{ServerList}
use Rattle.rdnss.specs.ServerList.{servers_after, refusal_of}
use Rattle.rdnss.specs.declared.Refusal.{Refusal}
use Rattle.rdnss.specs.declared.Refusal.TheVariants.{NotSound, NotTimely, NoLifetime, NotWhole}

-- The number that stands for a refusal in an answer.
abbrev pub number : Refusal → ℕ
number NotSound = 31
number NotTimely = 15
number NoLifetime = 15
number NotWhole = 16

module _ (list : ServerList) (clock : Moment) (router : Span) (area : List ℕ) where
  -- A call is not refused, or by the first refusal that applies.
  abbrev pub Checked : Result Unit Refusal → Type 0
  Checked r = MatchResult r (λ _. refusal_of list clock router area ≡ 0) (λ e. refusal_of list clock router area ≡ number e)

  -- The list after an area; or the first refusal that applies, and the list as it was.
  abbrev pub Updated : ServerList → Result Unit Refusal → Type 0
  Updated after r =
      MatchResult r
      (λ _. (refusal_of list clock router area ≡ 0) × (after ≡ packed clock (servers_after clock router area (held list))))
      (λ e. (refusal_of list clock router area ≡ number e) × (after ≡ list))
