-- The laws of the zone and its requests: all that a layer above needs of them. Assumes nothing.
use mathlib.Core.Path.{◌≡◌, refl, sym, ◌∙◌, ap, subst, fun_ext}
use mathlib.Core.Bool.{Bool, true, false, cond, ◌||◌, true≢false}
use mathlib.Core.Option.{Option, none, some}
use Prim.Native.Nat.{ℕ, ◌+◌, ◌-◌, ◌≤◌, ◌<◌}
use native.Mathlib.Omega.{arith}
use lib.Dec.{ltb}
use borrow.Author.Tests.{ltb-true, lt-ltb, le-ltb}
use Rattle.octets.specs.Compare.{same_octets}
use Rattle.octets.proofs.CompareLaws.{same_self, same_true}
use Rattle.dname.specs.Name.{key}
use Rattle.octets.specs.Count.{Octets, Counts}
use Rattle.addresses.specs.Addresses.{Family, four, six, Addresses, nothing}
use Rattle.octets.proofs.CountLaws.{same_yes, same_no, same_dec, counts_eq, counts_nothing, counts_ext, one, counts_mark}
use Rattle.addresses.proofs.SetLaws.{mark, mark_has, mark_count, mark_counts}
use Rattle.addresses.proofs.SetLaws.{set_eq}
use Rattle.update.specs.Rules.{Host, Zone, there, GoodHost, Form, is_family, with, at_key, with_name, without_name, Update, Policy, keep_others, one_of_family, only_this, success, YXDOMAIN, NXDOMAIN, YXRRSET, NXRRSET, no_room, says, at_name, own_family, held_by, empty, with_address, without_address, new_host, request_a, left, fits, write_b, request_b, remove_address, delete_name, remove_name}

pub some≢none : {A : Type 0} {a : A} → ◌≡◌ {A = Option A} (some a) none → ⊥
some≢none {a = a} e = let z : ◌≡◌ {A = ℕ} 0 1 = cc in omega arith

pub option_case {ℓ} : {A : Type 0} {P : Type ℓ} (o : Option A) → (o ≡ none → P) → ((a : A) → o ≡ some a → P) → P
option_case none f g = f refl
option_case (some a) f g = g a refl

-- ---- sameness: zones of good form that agree at every name are equal, and so are hosts with the same owner and addresses

abbrev pub Named : Zone → Type 0
Named z = Counts z.size (λ k. there (z.at k))

pub zone_eq : (x y : Zone) → Named x → Named y → ((k : Octets) → x.at k ≡ y.at k) → x ≡ y
zone_eq x y c d e =
    let n : x.size ≡ y.size = counts_eq c d (λ k. ap there (e k)) in
    let f : x.at ≡ y.at = fun_ext e in
    λ i. record { size = n i; at = f i }

pub same_size : (x y : Zone) → Form x → Form y → ((k : Octets) → x.at k ≡ y.at k) → x.size ≡ y.size
same_size x y g h e = counts_eq g.names h.names (λ k. ap there (e k))

pub same_zone : (x y : Zone) → Form x → Form y → ((k : Octets) → x.at k ≡ y.at k) → x ≡ y
same_zone x y g h = zone_eq x y g.names h.names

pub same_host_lem : (g h : Host) → GoodHost g → GoodHost h → g.owner ≡ h.owner → ((f : Family) (a : Octets) → (g.addresses f).has a ≡ (h.addresses f).has a) → g ≡ h
same_host_lem g h c d o e =
    let f : g.addresses ≡ h.addresses = fun_ext (λ x. set_eq (g.addresses x) (h.addresses x) (c.counted x) (d.counted x) (e x)) in
    λ i. record { owner = o i; addresses = f i }

-- ---- one host

pub owner_eq : (d : Octets) (o : Option Octets) → held_by d o ≡ true → o ≡ some d
owner_eq d none r = absurd (true≢false (sym (unfold held_by in r)))
owner_eq d (some x) r = ap some (same_true x d (unfold held_by in r))

pub owner_of : (d : Octets) (o : Option Octets) → o ≡ some d → held_by d o ≡ true
unfolding held_by
owner_of d o e = rw e (same_self d)

pub family_self : (f : Family) → is_family f f ≡ true
family_self four = refl
family_self six = refl

pub family_other : (f g : Family) → ¬ (f ≡ g) → is_family f g ≡ false
family_other four four n = absurd (n refl)
family_other four six n = refl
family_other six four n = refl
family_other six six n = absurd (n refl)

-- a host with the update's address, or without it: one name for both, by which laws speak of both
abbrev pub address : Update → Bool → Host → Host
address u true h = with_address u h
address u false h = without_address u h

pub address_is_lem : (u : Update) (v : Bool) (h : Host) → address u v h ≡ with u.family (mark u.address v (own_family u h)) h
address_is_lem u true h = unfold with_address in refl
address_is_lem u false h = unfold without_address in refl

module _ (u : Update) (v : Bool) (h : Host) where
  own_family_lem : (address u v h).addresses u.family ≡ mark u.address v (own_family u h)
  unfolding with
  own_family_lem = ap (λ (k : Host). k.addresses u.family) (address_is_lem u v h) ∙ rw (family_self u.family) refl

  pub address_owner : (address u v h).owner ≡ h.owner
  unfolding with
  address_owner = ap (λ (k : Host). k.owner) (address_is_lem u v h)

  -- the address itself, another of its family, one of another family
  pub address_own : ((address u v h).addresses u.family).has u.address ≡ v
  address_own =
      ap (λ (s : Addresses). s.has u.address) own_family_lem ∙ mark_has u.address v (own_family u h) u.address
      ∙ rw (same_self u.address) refl

  pub address_other : (a : Octets) → ¬ (u.address ≡ a) → ((address u v h).addresses u.family).has a ≡ (h.addresses u.family).has a
  address_other a n =
      ap (λ (s : Addresses). s.has a) own_family_lem ∙ mark_has u.address v (own_family u h) a ∙ rw (same_no u.address a n) refl

  pub address_family : (f : Family) → ¬ (u.family ≡ f) → (address u v h).addresses f ≡ h.addresses f
  unfolding with
  address_family f n = ap (λ (k : Host). k.addresses f) (address_is_lem u v h) ∙ rw (family_other u.family f n) refl

  pub address_count_lem : ((address u v h).addresses u.family).count ≡ ((h.addresses u.family).count + one v) - one ((h.addresses u.family).has u.address)
  address_count_lem = ap (λ (s : Addresses). s.count) own_family_lem ∙ mark_count u.address v (own_family u h)

module _ (f : Family) (h : Host) where
  pub left_owner : (p : Policy) → (left f p h).owner ≡ h.owner
  unfolding left with
  left_owner keep_others = refl
  left_owner one_of_family = refl
  left_owner only_this = refl

  pub left_keep : left f keep_others h ≡ h
  unfolding left
  left_keep = refl

  -- policy 1 leaves no address of the family, and every other; policy 2 none at all
  pub left_one : (left f one_of_family h).addresses f ≡ nothing
  unfolding left with
  left_one = rw (family_self f) refl

  pub left_one_other : (g : Family) → ¬ (f ≡ g) → (left f one_of_family h).addresses g ≡ h.addresses g
  unfolding left with
  left_one_other g n = rw (family_other f g n) refl

  pub left_only : (g : Family) → (left f only_this h).addresses g ≡ nothing
  unfolding left
  left_only g = refl

-- what A makes of an absent name: its DHCID's, with the one address
module _ (u : Update) where
  pub new_owner : (new_host u).owner ≡ some u.dhcid
  unfolding new_host
  new_owner = address_owner u true (record { owner = some u.dhcid; addresses = λ f. nothing })

  pub new_own : ((new_host u).addresses u.family).has u.address ≡ true
  unfolding new_host
  new_own = address_own u true (record { owner = some u.dhcid; addresses = λ f. nothing })

  pub new_other : (a : Octets) → ¬ (u.address ≡ a) → ((new_host u).addresses u.family).has a ≡ false
  unfolding new_host
  new_other a n = address_other u true (record { owner = some u.dhcid; addresses = λ f. nothing }) a n

  pub new_family : (f : Family) → ¬ (u.family ≡ f) → (new_host u).addresses f ≡ nothing
  unfolding new_host
  new_family f n = address_family u true (record { owner = some u.dhcid; addresses = λ f. nothing }) f n

-- ---- hosts in form

good_nothing : (o : Option Octets) → GoodHost (record { owner = o; addresses = λ f. nothing })
good_nothing o = record { at_most_four = λ f. omega arith; counted = λ f. counts_nothing }

good_with : (f : Family) (s : Addresses) (h : Host) → s.count ≤ 4 → Counts s.count s.has → GoodHost h → GoodHost (with f s h)
unfolding with
good_with f s h n c g = record { at_most_four = λ e. few (is_family f e) e; counted = λ e. go (is_family f e) e }
  where
    few : (b : Bool) (e : Family) → (cond b s (h.addresses e)).count ≤ 4
    few true e = n
    few false e = g.at_most_four e

    go : (b : Bool) (e : Family) → Counts (cond b s (h.addresses e)).count (cond b s (h.addresses e)).has
    go true e = c
    go false e = g.counted e

mark_few : (u : Update) (h : Host) → GoodHost h → fits u h ≡ true → (mark u.address true (own_family u h)).count ≤ 4
unfolding fits
mark_few u h g r = rw (mark_count u.address true (own_family u h)) (go ((own_family u h).has u.address) (ltb (own_family u h).count 4) refl r)
  where
    go : (v w : Bool) → ltb (own_family u h).count 4 ≡ w → (v || w) ≡ true → ((own_family u h).count + 1) - one v ≤ 4
    go true w e r = let n = g.at_most_four u.family in omega arith
    go false true e r = let n = ltb-true (own_family u h).count 4 e in omega arith
    go false false e r = absurd (true≢false (sym r))

less_few : (u : Update) (h : Host) → GoodHost h → (mark u.address false (own_family u h)).count ≤ 4
less_few u h g =
    let n = g.at_most_four u.family in
    let m = mark_count u.address false (own_family u h) in
    omega arith

pub good_add : (u : Update) (h : Host) → GoodHost h → fits u h ≡ true → GoodHost (address u true h)
unfolding with_address
good_add u h g r = good_with u.family (mark u.address true (own_family u h)) h (mark_few u h g r) (mark_counts u.address true (own_family u h) (g.counted u.family)) g

pub good_remove : (u : Update) (h : Host) → GoodHost h → GoodHost (address u false h)
unfolding without_address
good_remove u h g = good_with u.family (mark u.address false (own_family u h)) h (less_few u h g) (mark_counts u.address false (own_family u h) (g.counted u.family)) g

pub good_left : (f : Family) (p : Policy) (h : Host) → GoodHost h → GoodHost (left f p h)
unfolding left
good_left f keep_others h g = g
good_left f one_of_family h g = good_with f nothing h (omega arith) counts_nothing g
good_left f only_this h g = good_nothing h.owner

pub good_new : (u : Update) → GoodHost (new_host u)
unfolding new_host
good_new u = good_add u (record { owner = some u.dhcid; addresses = λ f. nothing }) (good_nothing (some u.dhcid)) (unfold fits in refl)

-- ---- the zone at a name that is written, and at any other

-- the zone with a host at a name, or without that name: one name for both, by which laws speak of both
abbrev pub put : Octets → Option Host → Zone → Zone
put n (some h) z = with_name n h z
put n none z = without_name n z

pub put_has : (n : Octets) (v : Option Host) (z : Zone) (k : Octets) → (put n v z).at k ≡ cond (same_octets (key n) k) v (z.at k)
put_has n (some h) z k = unfold with_name in refl
put_has n none z k = unfold without_name in refl

pub put_at : (n : Octets) (v : Option Host) (z : Zone) → (put n v z).at (key n) ≡ v
put_at n v z = put_has n v z (key n) ∙ rw (same_self (key n)) refl

pub put_off : (n : Octets) (v : Option Host) (z : Zone) (k : Octets) → ¬ (key n ≡ k) → (put n v z).at k ≡ z.at k
put_off n v z k q = put_has n v z k ∙ rw (same_no (key n) k q) refl

pub put_size : (n : Octets) (v : Option Host) (z : Zone) → (put n v z).size ≡ (z.size + one (there v)) - one (there (z.at (key n)))
put_size n (some h) z = unfold with_name in go (there (at_key n z))
  where
    go : (b : Bool) → cond b z.size (z.size + 1) ≡ (z.size + 1) - one b
    go true = omega arith
    go false = omega arith
put_size n none z = unfold without_name in go (there (at_key n z))
  where
    go : (b : Bool) → cond b (z.size - 1) z.size ≡ (z.size + 0) - one b
    go true = omega arith
    go false = omega arith

-- what is written at a name is what stood there already, exactly when the zone stays as it is
pub put_same : (n : Octets) (h : Host) (z : Zone) → z.at (key n) ≡ some h → put n (some h) z ≡ z
put_same n h z e =
    let m : (put n (some h) z).size ≡ z.size = put_size n (some h) z ∙ rw e (omega arith) in
    let f : (put n (some h) z).at ≡ z.at = fun_ext (λ k. put_has n (some h) z k ∙ go k (same_dec (key n) k)) in
    λ i. record { size = m i; at = f i }
  where
    go : (k : Octets) → Dec (key n ≡ k) → cond (same_octets (key n) k) (some h) (z.at k) ≡ z.at k
    go k (yes p) = rw (same_yes (key n) k p) (sym e ∙ ap z.at p)
    go k (no q) = rw (same_no (key n) k q) refl

pub put_stood : (n : Octets) (v : Option Host) (z : Zone) → put n v z ≡ z → v ≡ z.at (key n)
put_stood n v z e = sym (put_at n v z) ∙ ap (λ (x : Zone). x.at (key n)) e

there_cond : (b : Bool) (u v : Option Host) → cond b (there u) (there v) ≡ there (cond b u v)
there_cond true u v = refl
there_cond false u v = refl

pub named_put : (n : Octets) (v : Option Host) (z : Zone) → Named z → Named (put n v z)
named_put n v z c =
    subst (λ (m : ℕ). Counts m (λ k. there ((put n v z).at k))) (sym (put_size n v z))
    (counts_ext (λ k. there_cond (same_octets (key n) k) v (z.at k) ∙ ap there (sym (put_has n v z k))) (counts_mark (key n) (there v) c))

pub form_put : (n : Octets) (v : Option Host) (z : Zone) → Form z → ((h : Host) → v ≡ some h → GoodHost h)
    → (z.size + one (there v)) - one (there (z.at (key n))) ≤ 64 → Form (put n v z)
form_put n v z g f l = record { few = subst (λ (m : ℕ). m ≤ 64) (sym (put_size n v z)) l; names = named_put n v z g.names; hosts = λ k h e. host k h e (same_dec (key n) k) }
  where
    host : (k : Octets) (h : Host) → (put n v z).at k ≡ some h → Dec (key n ≡ k) → GoodHost h
    host k h e (yes p) = f h (sym (put_at n v z) ∙ ap (put n v z).at p ∙ e)
    host k h e (no q) = g.hosts k h (sym (put_off n v z k q) ∙ e)

good : (h : Host) → GoodHost h → (b : Host) → ◌≡◌ {A = Option Host} (some h) (some b) → GoodHost b
good h w b p = let q : h ≡ b = cc in subst GoodHost q w

pub form_new : (n : Octets) (h : Host) (z : Zone) → Form z → GoodHost h → z.at (key n) ≡ none → z.size < 64 → Form (put n (some h) z)
form_new n h z g w e l = form_put n (some h) z g (good h w) (rw e (omega arith))

pub form_change : (n : Octets) (h b : Host) (z : Zone) → Form z → GoodHost h → z.at (key n) ≡ some b → Form (put n (some h) z)
form_change n h b z g w e = form_put n (some h) z g (good h w) (rw e (omega (arith, g.few)))

pub form_delete : (n : Octets) (b : Host) (z : Zone) → Form z → z.at (key n) ≡ some b → Form (put n none z)
form_delete n b z g e = form_put n none z g (λ h p. absurd (some≢none (sym p))) (rw e (omega (arith, g.few)))

-- ---- the requests, by what stands at the name: these cases are all there are

module _ (u : Update) (z : Zone) where
  pub A-new : at_name u z ≡ none → z.size < 64 → request_a u z ≡ says success (put u.name (some (new_host u)) z)
  unfolding request_a
  A-new h r = rw (h, request_a, lt-ltb z.size 64 r)

  pub A-full : at_name u z ≡ none → 64 ≤ z.size → request_a u z ≡ says no_room z
  unfolding request_a
  A-full h r = rw (h, request_a, le-ltb z.size 64 r)

  pub A-there : (h : Host) → at_name u z ≡ some h → request_a u z ≡ says YXDOMAIN z
  unfolding request_a
  A-there h e = rw (e, request_a)

  pub B-absent : (p : Policy) → at_name u z ≡ none → request_b p u z ≡ says NXDOMAIN z
  unfolding request_b
  B-absent p e = rw (e, request_b)

  pub remove_address_absent : at_name u z ≡ none → remove_address u z ≡ says NXRRSET z
  unfolding remove_address
  remove_address_absent e = rw (e, remove_address)

  pub remove_name_absent : at_name u z ≡ none → remove_name u z ≡ says NXRRSET z
  unfolding remove_name
  remove_name_absent e = rw (e, remove_name)

  module _ (h : Host) (e : at_name u z ≡ some h) where
    pub B-other : (p : Policy) → held_by u.dhcid h.owner ≡ false → request_b p u z ≡ says NXRRSET z
    unfolding request_b
    B-other p o = rw (e, request_b, o)

    pub B-full : (p : Policy) → held_by u.dhcid h.owner ≡ true → fits u (left u.family p h) ≡ false → request_b p u z ≡ says no_room z
    unfolding request_b write_b
    B-full p o r = rw (e, request_b, o, r)

    pub B-done : (p : Policy) → held_by u.dhcid h.owner ≡ true → fits u (left u.family p h) ≡ true
        → request_b p u z ≡ says success (put u.name (some (address u true (left u.family p h))) z)
    unfolding request_b write_b
    B-done p o r = rw (e, request_b, o, r)

    pub remove_address_other : held_by u.dhcid h.owner ≡ false → remove_address u z ≡ says NXRRSET z
    unfolding remove_address
    remove_address_other o = rw (e, remove_address, o)

    pub remove_address_own : held_by u.dhcid h.owner ≡ true → remove_address u z ≡ says success (put u.name (some (address u false h)) z)
    unfolding remove_address
    remove_address_own o = rw (e, remove_address, o)

    pub remove_name_other : held_by u.dhcid h.owner ≡ false → remove_name u z ≡ says NXRRSET z
    unfolding remove_name
    remove_name_other o = rw (e, remove_name, o)

    pub remove_name_kept : held_by u.dhcid h.owner ≡ true → empty h ≡ false → remove_name u z ≡ says YXRRSET z
    unfolding remove_name delete_name
    remove_name_kept o a = rw (e, remove_name, o, a)

    pub remove_name_gone : held_by u.dhcid h.owner ≡ true → empty h ≡ true → remove_name u z ≡ says success (put u.name none z)
    unfolding remove_name delete_name
    remove_name_gone o a = rw (e, remove_name, o, a)
