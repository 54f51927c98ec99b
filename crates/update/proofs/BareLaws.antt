-- Bare names: held, and without an address. What the requests make of them. Assumes nothing.
use mathlib.Core.Path.{◌≡◌, refl, sym, ◌∙◌, ap, subst, fun_ext}
use mathlib.Core.Bool.{Bool, true, false, cond, ◌&&◌, and-false, true≢false}
use mathlib.Core.Option.{Option, none, some}
use Prim.Native.Nat.{ℕ, ◌+◌, ◌-◌, ◌≤◌, ◌<◌}
use native.Mathlib.Omega.{arith}
use lib.Dec.{eqb}
use borrow.Author.Tests.{eqb-true, ne_eqb}
use Rattle.octets.proofs.BoolLaws.{and_left, and_right}
use Rattle.octets.specs.Compare.{same_octets}
use Rattle.octets.specs.Count.{Octets, Counts}
use Rattle.addresses.specs.Addresses.{Family, four, six, Addresses, nothing, excluding}
use Rattle.octets.proofs.CountLaws.{same_no, same_dec, counts_le, counts_none, one, counts_mark}
use Rattle.update.specs.Rules.{Host, Zone, there, GoodHost, is_family, with, Update, Policy, keep_others, one_of_family, only_this, held_by, empty, without_address, new_host, left, fits}
use Rattle.update.proofs.ZoneLaws.{Named, owner_eq, address, address_own, new_own, good_add, good_new}

-- ---- a name held without an address

-- Held, with no address.
abbrev pub held : Option Octets → Bool
held none = false
held (some d) = true

unfoldable pub bare : Host → Bool
bare h = held h.owner && empty h

pub owned_bare : (u : Update) (h : Host) → held_by u.dhcid h.owner ≡ true → bare h ≡ empty h
unfolding bare
owned_bare u h e = rw (owner_eq u.dhcid h.owner e)

-- An address makes a host not bare.
pub full : (f : Family) (h : Host) → ¬ ((h.addresses f).count ≡ 0) → bare h ≡ false
unfolding bare empty
full four h n = rw (ne_eqb (h.addresses four).count 0 n) (and-false (held h.owner))
full six h n = rw (ne_eqb (h.addresses six).count 0 n, and-false (eqb (h.addresses four).count 0)) (and-false (held h.owner))

-- After an add the host has an address.
abbrev own_count : Update → Host → ℕ
own_count u h = (h.addresses u.family).count

some_there : (u : Update) (h : Host) → GoodHost h → (h.addresses u.family).has u.address ≡ true → bare h ≡ false
some_there u h g has = full u.family h none_left
  where
    none_left : ¬ (own_count u h ≡ 0)
    none_left e = true≢false (sym has ∙ counts_none (subst (λ (n : ℕ). Counts n (h.addresses u.family).has) e (g.counted u.family)) u.address)

pub address_full : (u : Update) (h : Host) → GoodHost h → fits u h ≡ true → bare (address u true h) ≡ false
address_full u h g r = some_there u (address u true h) (good_add u h g r) (address_own u true h)

pub new_full : (u : Update) → bare (new_host u) ≡ false
new_full u = some_there u (new_host u) (good_new u) (new_own u)

-- A host with no address is all but nothing.
abbrev blank : Option Octets → Host
blank o = record { owner = o; addresses = λ f. nothing }

nothing_eq : (s : Addresses) → Counts s.count s.has → s.count ≡ 0 → s ≡ nothing
nothing_eq s c e =
    let f : s.has ≡ (λ (a : Octets). false) = fun_ext (counts_none (subst (λ (n : ℕ). Counts n s.has) e c)) in
    λ i. record { count = e i; has = f i }

empty_eq : (h : Host) → GoodHost h → empty h ≡ true → h ≡ blank h.owner
unfolding empty
empty_eq h g e =
    let f : h.addresses ≡ (λ (x : Family). nothing) = fun_ext on in
    λ i. record { owner = h.owner; addresses = f i }
  where
    on : (x : Family) → h.addresses x ≡ nothing
    on four = nothing_eq (h.addresses four) (g.counted four) (eqb-true _ 0 (and_left (eqb (h.addresses four).count 0) (eqb (h.addresses six).count 0) e))
    on six = nothing_eq (h.addresses six) (g.counted six) (eqb-true _ 0 (and_right (eqb (h.addresses four).count 0) (eqb (h.addresses six).count 0) e))

-- B at a bare name leaves what A makes of an absent one.
left_blank : (u : Update) (p : Policy) (o : Option Octets) → left u.family p (blank o) ≡ blank o
unfolding left with
left_blank u keep_others o = refl
left_blank u only_this o = refl
left_blank u one_of_family o =
    let f : ◌≡◌ {A = Family → Addresses} (λ g. cond (is_family u.family g) nothing nothing) (λ g. nothing) = fun_ext (λ g. on (is_family u.family g)) in
    λ i. record { owner = o; addresses = f i }
  where
    on : (b : Bool) → cond b nothing nothing ≡ nothing
    on true = refl
    on false = refl

pub bare_left : (u : Update) (p : Policy) (h : Host) → GoodHost h → held_by u.dhcid h.owner ≡ true → bare h ≡ true → left u.family p h ≡ blank (some u.dhcid)
bare_left u p h g o e =
    ap (left u.family p) (empty_eq h g (sym (owned_bare u h o) ∙ e) ∙ ap blank (owner_eq u.dhcid h.owner o)) ∙ left_blank u p (some u.dhcid)

pub bare_new : (u : Update) (p : Policy) (h : Host) → GoodHost h → held_by u.dhcid h.owner ≡ true → bare h ≡ true → address u true (left u.family p h) ≡ new_host u
unfolding new_host
bare_new u p h g o e = ap (address u true) (bare_left u p h g o e)

-- The first remove request at a bare name leaves it bare.
less_blank : (u : Update) (d : Octets) (f : Family) → u.family ≡ f → bare (address u false (blank (some d))) ≡ true
unfolding bare without_address with excluding empty
less_blank u d four p = rw p
less_blank u d six p = rw p

pub less_bare : (u : Update) (h : Host) → GoodHost h → held_by u.dhcid h.owner ≡ true → bare h ≡ true → bare (address u false h) ≡ true
less_bare u h g o e =
    subst (λ (x : Host). bare (address u false x) ≡ true) (sym (empty_eq h g (sym (owned_bare u h o) ∙ e) ∙ ap blank (owner_eq u.dhcid h.owner o)))
    (less_blank u u.dhcid u.family refl)

-- ---- zones

-- A zone that has no name but another's, and lacks one of them, has fewer.
pub lacks_one : (x z : Zone) (n : Octets) (h : Host) → Named x → Named z → ((k : Octets) → there (x.at k) ≡ true → there (z.at k) ≡ true)
    → x.at n ≡ none → z.at n ≡ some h → x.size < z.size
lacks_one x z n h c d w e p =
    let l : (x.size + 1) - one (there (x.at n)) ≤ z.size = counts_le (counts_mark n true c) d (λ k. more k (same_dec n k)) in
    let q : one (there (x.at n)) ≡ 0 = ap (λ (u : Option Host). one (there u)) e in
    omega arith
  where
    more : (k : Octets) → Dec (n ≡ k) → cond (same_octets n k) true (there (x.at k)) ≡ true → there (z.at k) ≡ true
    more k (yes r) t = ap (λ (u : Octets). there (z.at u)) (sym r) ∙ ap there p
    more k (no r) t = w k (sym (ap (λ (u : Bool). cond u true (there (x.at k))) (same_no n k r)) ∙ t)
