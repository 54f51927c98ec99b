-- The steps of P12 by the rules, and what X's name has with an address more or less. Assumes nothing.
use mathlib.Core.Path.{◌≡◌, refl, ◌∙◌, ap, fun_ext}
use mathlib.Core.Bool.{Bool, true, false, cond, not, ◌&&◌, ◌||◌}
use mathlib.Core.Option.{none, some}
use Prim.Native.Nat.{ℕ, suc, ◌-◌}
use Rattle.octets.specs.Compare.{same_octets}
use Rattle.octets.proofs.CompareLaws.{same_self}
use Rattle.octets.specs.Count.{Octets, member}
use Rattle.addresses.specs.Addresses.{Family, four, six, Addresses, nothing, including, excluding}
use Rattle.dname.specs.Name.{key}
use Rattle.update.specs.Rules as rules
use Rattle.update.specs.Rules.{Host, with, with_name, without_name, with_address, without_address, new_host, held_by, empty, request_a, request_b, remove_address, delete_name, remove_name}
use Rattle.job.specs.Jobs.{before_a, before_b, before_first, before_second, ended, conflict, gone, after, after_first, after_second, step}
use Rattle.serial.proofs.RequestLaws.{state}
use Rattle.serial.specs.P12.{pipe, x_dhcid, y_dhcid, address1, x_update, x_removes, y_adds, alone, one_address, x_host, held_by_x, no_names}

-- ---- X's name with other addresses

-- a host is X's with its addresses of family 4, where it has no others
host_is_lem : (h : Host) (s : Addresses) → h.owner ≡ some x_dhcid → h.addresses four ≡ s → h.addresses six ≡ nothing → h ≡ x_host s
unfolding x_host
host_is_lem h s o e g = λ i. record { owner = o i; addresses = fun_ext each i }
  where
    each : (f : Family) → h.addresses f ≡ (x_host s).addresses f
    each four = e
    each six = g

module _ (name a : Octets) (s : Addresses) where
  pub host_less : without_address (x_update name a) (x_host s) ≡ x_host (excluding a s)
  host_less = host_is_lem (without_address (x_update name a) (x_host s)) (excluding a s) (unfold x_host without_address with in refl) (unfold x_host without_address with in refl) (unfold x_host without_address with in refl)

  pub host_more : with_address (x_update name a) (x_host s) ≡ x_host (including a s)
  host_more = host_is_lem (with_address (x_update name a) (x_host s)) (including a s) (unfold x_host with_address with in refl) (unfold x_host with_address with in refl) (unfold x_host with_address with in refl)

pub host_new : (name a : Octets) → new_host (x_update name a) ≡ x_host (alone a)
host_new name a = host_is_lem (new_host (x_update name a)) (alone a) (unfold new_host with_address with in refl) (unfold new_host with_address with including alone member in refl) (unfold new_host with_address with in refl)

-- X's name with these addresses written over it with those, and where there is no name; in whatever letters
module _ (name : Octets) (k : key name ≡ pipe) where
  pub held_over : (s t : Addresses) → with_name name (x_host t) (held_by_x s) ≡ held_by_x t
  unfolding held_by_x with_name
  held_over s t = rw (k, same_self pipe) (λ i. record { size = 1; at = fun_ext (λ n. go (same_octets pipe n)) i })
    where
      go : (b : Bool) → cond b (some (x_host t)) (cond b (some (x_host s)) none) ≡ cond b (some (x_host t)) none
      go true = refl
      go false = refl

  pub held_new : (t : Addresses) → with_name name (x_host t) no_names ≡ held_by_x t
  unfolding held_by_x with_name
  held_new t = rw k refl

pub pipe_key : key pipe ≡ pipe
unfolding pipe key
pipe_key = refl

-- one address, taken away
pub none_left : (a : Octets) → excluding a (alone a) ≡ nothing
unfolding excluding alone member
none_left a = λ i. record { count = count i; has = fun_ext (λ b. go (same_octets a b)) i }
  where
    count : cond (same_octets a a || false) (1 - 1) 1 ≡ 0
    count = rw (same_self a) refl

    go : (b : Bool) → (not b && (b || false)) ≡ false
    go true = refl
    go false = refl

-- ---- the steps

-- X's first request takes its one address: the host that is left is X's without any.
pub x_takes : step x_removes (held_by_x one_address) before_first ≡ state (held_by_x nothing) before_second
x_takes = found ∙ ap (λ (h : Host). state (with_name pipe h (held_by_x one_address)) before_second) (host_less pipe address1 one_address ∙ ap x_host (none_left address1)) ∙ ap (λ (z : rules.Zone). state z before_second) (held_over pipe pipe_key one_address nothing)
  where
    found : step x_removes (held_by_x one_address) before_first ≡ state (with_name pipe (without_address (x_update pipe address1) (x_host one_address)) (held_by_x one_address)) before_second
    found = unfold held_by_x x_host x_removes pipe x_dhcid step remove_address after_first held_by same_octets key in refl

-- Y's request A finds the name, its request B another owner, whatever number was sent before.
pub y_asks : (n : ℕ) → step y_adds (held_by_x nothing) (before_a n) ≡ state (held_by_x nothing) (before_b (suc n))
unfolding held_by_x y_adds pipe step request_a after same_octets key
y_asks n = refl

pub y_conflicts : (n : ℕ) → step y_adds (held_by_x nothing) (before_b n) ≡ state (held_by_x nothing) (ended (conflict (suc n)))
unfolding held_by_x x_host y_adds pipe x_dhcid y_dhcid step request_b after held_by same_octets key
y_conflicts n = refl

-- X's second request deletes the name: no key has a host then.
pub x_deletes : step x_removes (held_by_x nothing) before_second ≡ state no_names (ended gone)
unfolding held_by_x x_host x_removes pipe x_dhcid step remove_name delete_name after_second held_by same_octets key without_name empty
x_deletes = λ i. record { zone = record { size = 0; at = fun_ext (λ k. go (same_octets pipe k)) i }; stage = ended gone }
  where
    go : (b : Bool) → cond b none (cond b (some (x_host nothing)) none) ≡ none
    go true = refl
    go false = refl
