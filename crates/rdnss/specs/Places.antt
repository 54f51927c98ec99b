-- The list in its places while an area is applied, as the inner functions have it. No promise of an exported call cites this.
use mathlib.Core.List.{List, foldl}
use Rattle.std.specs.Prelude.{◌≡◌, true, [], ◌∷◌, ℕ, ◌*◌, ◌≤◌, ◌<◌, eqb, length}
use Rattle.clock.specs.declared.Moment.{Moment}
use Rattle.clock.specs.declared.Span.{Span}
use Rattle.serverlist.specs.Servers.{servers, held, packed}
use Rattle.serverlist.specs.declared.ServerList.{ServerList}
use Rattle.serverlist.specs.declared.Address6.{Address6}
use Rattle.rdnss.specs.Area.{is_whole, options, length_of, named_by}
use Rattle.rdnss.specs.Options.{option_applied}

-- An option has as many octets as its Length says.
pub record OptionFits (option : List ℕ) : Type 0 where
  pub whole : 8 * length_of option ≤ length option

-- The list with each option of an area applied.
pub record Applies (list : ServerList) (clock : Moment) (router : Span) (area : List ℕ) (r : ServerList) : Type 0 where
  pub applied : r ≡ packed list.clock (foldl (option_applied clock router servers named_by) (held list) (options 0 area))

-- An area begins with an option, and others are behind it.
pub record Splits (area option behind : List ℕ) : Type 0 where
  pub whole : is_whole 0 area ≡ is_whole 0 behind
  pub options : options 0 area ≡ option ∷ options 0 behind
  pub shorter : length behind < length area
  pub fits : OptionFits option

-- An area begins with no option: it is whole only if it has no octets, and then it has no options.
pub record Ends (area : List ℕ) : Type 0 where
  pub whole : is_whole 0 area ≡ eqb (length area) 0
  pub none : is_whole 0 area ≡ true → options 0 area ≡ []

-- 16 octets as an address.
abbrev pub address : List ℕ → Address6
address octets = record { octets = octets }
