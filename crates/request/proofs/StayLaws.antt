-- When a write leaves the host at a name as it is, and when not. Assumes nothing.
use mathlib.Core.Path.{◌≡◌, refl, sym, ◌∙◌, ap, subst}
use mathlib.Core.Bool.{Bool, true, false, true≢false}
use Prim.Native.Nat.{ℕ, zero, suc, ◌+◌, ◌-◌, ◌≤◌}
use native.Mathlib.Omega.{arith}
use borrow.Author.Tests.{eq-eqb, eqb-true}
use Rattle.octets.proofs.BoolLaws.{and_left, and_right}
use Rattle.octets.specs.Count.{Octets, Counts}
use Rattle.addresses.specs.Addresses.{Family, four, six, Addresses, nothing}
use Rattle.octets.proofs.CountLaws.{one, same_dec, counts_none, counts_one}
use Rattle.update.specs.Rules.{Host, GoodHost, Update, Policy, keep_others, one_of_family, only_this, own_family, left, fits}
use Rattle.update.proofs.ZoneLaws.{address, same_host_lem, address_owner, address_own, address_other, address_family, address_count_lem, left_owner, left_keep, left_one, left_one_other, left_only, good_add, good_remove, good_left}
use Rattle.request.specs.Inner.{alone, added}

four≢six : four ≡ six → ⊥
four≢six e = let z : ◌≡◌ {A = ℕ} 0 1 = cc in omega arith

family_dec : (f g : Family) → Dec (f ≡ g)
family_dec four four = yes refl
family_dec four six = no four≢six
family_dec six four = no (λ e. four≢six (sym e))
family_dec six six = yes refl

-- one in all: one of a family, and none of the other
one_each : (c : Family → ℕ) (f : Family) → c four + c six ≡ 1 → 1 ≤ c f → (c f ≡ 1) × ((x : Family) → ¬ (f ≡ x) → c x ≡ 0)
one_each c four e l = (omega arith, rest)
  where
    rest : (x : Family) → ¬ (four ≡ x) → c x ≡ 0
    rest four d = absurd (d refl)
    rest six d = omega arith
one_each c six e l = (omega arith, rest)
  where
    rest : (x : Family) → ¬ (six ≡ x) → c x ≡ 0
    rest four d = omega arith
    rest six d = absurd (d refl)

one_all : (c : Family → ℕ) (f : Family) → c f ≡ 1 → ((x : Family) → ¬ (f ≡ x) → c x ≡ 0) → c four + c six ≡ 1
one_all c four e l = let n : c six ≡ 0 = l six four≢six in omega arith
one_all c six e l = let n : c four ≡ 0 = l four (λ q. four≢six (sym q)) in omega arith

module _ (u : Update) (h : Host) (g : GoodHost h) where
  abbrev f : Family
  f = u.family

  abbrev own : Addresses
  own = own_family u h

  -- ---- a write to a host k that has all of h but the update's address, which h has or not as the write says
  module _ (v : Bool) (k : Host) (is : own.has u.address ≡ v)
      (beside : (a : Octets) → ¬ (u.address ≡ a) → (k.addresses f).has a ≡ own.has a)
      (others : (x : Family) → ¬ (f ≡ x) → (a : Octets) → (k.addresses x).has a ≡ (h.addresses x).has a) where
    same_has : (x : Family) (a : Octets) → Dec (f ≡ x) → Dec (u.address ≡ a) → ((address u v k).addresses x).has a ≡ (h.addresses x).has a
    same_has x a (yes p) (yes q) =
        subst (λ (y : Family). ((address u v k).addresses y).has a ≡ (h.addresses y).has a) p
        (subst (λ (b : Octets). ((address u v k).addresses f).has b ≡ own.has b) q (address_own u v k ∙ sym is))
    same_has x a (yes p) (no q) =
        subst (λ (y : Family). ((address u v k).addresses y).has a ≡ (h.addresses y).has a) p (address_other u v k a q ∙ beside a q)
    same_has x a (no p) q = ap (λ (s : Addresses). s.has a) (address_family u v k x p) ∙ others x p a

    written_same : GoodHost (address u v k) → k.owner ≡ h.owner → address u v k ≡ h
    written_same w o = same_host_lem (address u v k) h w g (address_owner u v k ∙ o) (λ x a. same_has x a (family_dec f x) (same_dec u.address a))

  -- ---- an address taken out

  pub removed_same : own.has u.address ≡ false → address u false h ≡ h
  removed_same n = written_same false h n (λ a d. refl) (λ x d a. refl) (good_remove u h g) refl

  pub removed_other : own.has u.address ≡ true → ¬ (address u false h ≡ h)
  removed_other t q = true≢false (sym t ∙ sym (ap (λ (x : Host). (x.addresses f).has u.address) q) ∙ address_own u false h)

  -- ---- an address put in, after the deletes by policy

  has_some : own.has u.address ≡ true → 1 ≤ own.count
  has_some t = go own.count (g.counted f)
    where
      go : (n : ℕ) → Counts n own.has → 1 ≤ n
      go zero c = absurd (true≢false (sym t ∙ counts_none c u.address))
      go (suc n) c = omega arith

  -- the address is the only one of its family, or the only one
  only_here : own.count ≡ 1 → own.has u.address ≡ true → (a : Octets) → ¬ (u.address ≡ a) → own.has a ≡ false
  only_here n t a d = counts_one u.address a (subst (λ (m : ℕ). Counts m own.has) n (g.counted f)) t d

  none_there : (x : Family) → (h.addresses x).count ≡ 0 → (a : Octets) → (h.addresses x).has a ≡ false
  none_there x n a = counts_none (subst (λ (m : ℕ). Counts m (h.addresses x).has) n (g.counted x)) a

  alone_all : alone only_this f h ≡ true → own.has u.address ≡ true → (own.count ≡ 1) × ((x : Family) → ¬ (f ≡ x) → (h.addresses x).count ≡ 0)
  unfolding alone
  alone_all l t = one_each (λ x. (h.addresses x).count) f (eqb-true _ 1 l) (has_some t)

  module _ (q : own.has u.address ≡ true) where
    left_beside : (p : Policy) → alone p f h ≡ true → (a : Octets) → ¬ (u.address ≡ a) → ((left f p h).addresses f).has a ≡ own.has a
    left_beside keep_others l a d = ap (λ (x : Host). (x.addresses f).has a) (left_keep f h)
    left_beside one_of_family l a d = ap (λ (s : Addresses). s.has a) (left_one f h) ∙ sym (only_here (eqb-true _ 1 (unfold alone in l)) q a d)
    left_beside only_this l a d = ap (λ (s : Addresses). s.has a) (left_only f h f) ∙ sym (only_here (alone_all l q).0 q a d)

    left_others : (p : Policy) → alone p f h ≡ true → (x : Family) → ¬ (f ≡ x) → (a : Octets) → ((left f p h).addresses x).has a ≡ (h.addresses x).has a
    left_others keep_others l x d a = ap (λ (y : Host). (y.addresses x).has a) (left_keep f h)
    left_others one_of_family l x d a = ap (λ (s : Addresses). s.has a) (left_one_other f h x d)
    left_others only_this l x d a = ap (λ (s : Addresses). s.has a) (left_only f h x) ∙ sym (none_there x ((alone_all l q).1 x d) a)

    left_fits : (p : Policy) → fits u (left f p h) ≡ true
    unfolding fits
    left_fits keep_others = rw (left_keep f h, q) refl
    left_fits one_of_family = rw (left_one f h) refl
    left_fits only_this = rw (left_only f h f) refl

  pub record Added (p : Policy) : Type 0 where
    pub room : fits u (left f p h) ≡ true
    pub same : address u true (left f p h) ≡ h

  pub added_same : (p : Policy) → added p u h ≡ true → Added p
  added_same p t =
      let l : alone p f h ≡ true = and_left (alone p f h) (own.has u.address) t in
      let q : own.has u.address ≡ true = and_right (alone p f h) (own.has u.address) t in
      let r : fits u (left f p h) ≡ true = left_fits q p in
      record {
        room = r;
        same = written_same true (left f p h) q (left_beside q p l) (left_others q p l) (good_add u (left f p h) (good_left f p h g) r) (left_owner f h p);
      }

  -- what the add leaves is what stands there: then the address is there, and alone
  module _ (p : Policy) (q : address u true (left f p h) ≡ h) where
    count_here : (left f p h).addresses f ≡ nothing → own.count ≡ 1
    count_here e =
        sym (ap (λ (x : Host). (x.addresses f).count) q) ∙ address_count_lem u true (left f p h)
        ∙ ap (λ (s : Addresses). (s.count + 1) - one (s.has u.address)) e

    count_there : (x : Family) → ¬ (f ≡ x) → (left f p h).addresses x ≡ nothing → (h.addresses x).count ≡ 0
    count_there x d e =
        sym (ap (λ (y : Host). (y.addresses x).count) q) ∙ ap (λ (s : Addresses). s.count) (address_family u true (left f p h) x d ∙ e)

    has_here : own.has u.address ≡ true
    has_here = sym (ap (λ (x : Host). (x.addresses f).has u.address) q) ∙ address_own u true (left f p h)

  alone_is : (p : Policy) → address u true (left f p h) ≡ h → alone p f h ≡ true
  unfolding alone
  alone_is keep_others q = refl
  alone_is one_of_family q = eq-eqb _ 1 (count_here one_of_family q (left_one f h))
  alone_is only_this q =
      eq-eqb _ 1 (one_all (λ x. (h.addresses x).count) f (count_here only_this q (left_only f h f)) (λ x d. count_there only_this q x d (left_only f h x)))

  pub added_other : (p : Policy) → added p u h ≡ false → ¬ (address u true (left f p h) ≡ h)
  added_other p n q = true≢false (sym (rw (alone_is p q, has_here p q) refl) ∙ n)
