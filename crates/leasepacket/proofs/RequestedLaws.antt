-- The laws of the list of a query and of the codes in it. Assumes nothing.
use Prim.Native.Nat.{ℕ}
use mathlib.Core.Path.{◌≡◌, refl, sym, ap}
use mathlib.Core.List.{List, [], ◌∷◌}
use mathlib.Core.Option.{Option, none, some}
use mathlib.Core.Bool.{Bool, ◌||◌}
use lib.Dec.{eqb}
use Rattle.std.specs.List.{list_any}
use Rattle.leasepacket.specs.Packet.{parameter_request_list}
use Rattle.leasepacket.specs.Options.{values_in, only_of}
use Rattle.leasepacket.specs.Requested.{request_list, is_listed}

pub listed_any : (code : ℕ) (s : List ℕ) → is_listed code s ≡ list_any (λ y. eqb y code) s
unfolding is_listed
listed_any code [] = refl
listed_any code (x ∷ xs) = ap (λ (b : Bool). eqb x code || b) (listed_any code xs)

-- the list, by the values of its option; none where there is no such option, or more than one
abbrev pub list_by : List (List ℕ) → Option (List ℕ)
list_by [] = none
list_by (codes ∷ []) = some codes
list_by (codes ∷ more ∷ rest) = none

-- that is the value of an option that is there just once
pub list_by_only : (vs : List (List ℕ)) → list_by vs ≡ only_of vs
list_by_only [] = refl
list_by_only (codes ∷ []) = refl
list_by_only (codes ∷ more ∷ rest) = refl

pub request_list_by : (p : List ℕ) → request_list p ≡ list_by (values_in parameter_request_list p)
request_list_by p = sym (list_by_only (values_in parameter_request_list p))
