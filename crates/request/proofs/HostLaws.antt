-- The laws of what is written at one place: its sets, one family's or both. Assumes nothing.
use mathlib.Core.Path.{◌≡◌, refl, sym, ◌∙◌, ap, fun_ext}
use mathlib.Core.Bool.{Bool, true, false, cond, ◌||◌}
use mathlib.Core.List.{List, [], ◌∷◌}
use mathlib.Core.Option.{none, some}
use Prim.Native.Nat.{ℕ, ◌+◌, ◌≤◌}
use native.Mathlib.Omega.{arith}
use lib.Dec.{eqb, leb, ltb}
use lib.ListN.{length, get_or, take}
use borrow.Author.Tests.{eq-eqb, ne_eqb, leb-true, le-leb}
use Rattle.octets.proofs.BoolLaws.{and_left, and_right}
use Rattle.octets.specs.Count.{Octets, member, distinct, without}
use Rattle.addresses.specs.Addresses.{Family, four, six, Addresses, nothing, list4, list6, set_of, sound, joined}
use Rattle.addresses.specs.declared.set4.Set4.{Set4}
use Rattle.addresses.specs.declared.set6.Set6.{Set6}
use Rattle.octets.proofs.CountLaws.{distinct_nil, distinct_without}
use Rattle.addresses.proofs.SetLaws.{mark, sound_few, sound_once, sound_both, joined_once, joined_mark, without_mark}
use Rattle.zone.specs.declared.entry.Entry.{Entry}
use Rattle.zone.specs.declared.entry.Records.{Records}
use Rattle.zone.specs.declared.entry.Address.{Address}
use Rattle.zone.specs.declared.entry.Dhcid.{Dhcid}
use Rattle.dname.specs.declared.name.Name.{Name}
use Rattle.update.proofs.ZoneLaws.{address, address_is_lem}
use Rattle.update.specs.Rules.{Host, Update, own_family, is_family, with, fits, left, new_host}
use Rattle.dname.specs.Name.{name_of, is_full}
use Rattle.zone.specs.Meaning.{in_order}
use Rattle.zone.specs.Survey.{records_of}
use Rattle.update.specs.Meaning.{list_of, host_of, family_of, policy_of, address_of, update_of}
use Rattle.request.specs.Inner.{Stands, Makes, Joined, About, alone, emptied}

-- ---- a place in order, by its parts

pub record Order (e : Entry) : Type 0 where
  pub kind : e.kind ≤ 2
  pub full_name : is_full (name_of e.name) ≡ true
  pub sound4 : sound e.v4.count (list4 e.v4) ≡ true
  pub sound6 : sound e.v6.count (list6 e.v6) ≡ true

pub order_parts : (e : Entry) → in_order e ≡ true → Order e
unfolding in_order
order_parts e t =
    let a = and_right (leb e.kind 2) _ t in
    let b = and_right (is_full (name_of e.name)) _ a in
    record {
      kind = leb-true e.kind 2 (and_left (leb e.kind 2) _ t);
      full_name = and_left (is_full (name_of e.name)) _ a;
      sound4 = and_left (sound e.v4.count (list4 e.v4)) _ b;
      sound6 = and_right (sound e.v4.count (list4 e.v4)) _ b;
    }

pub order_whole : (e : Entry) → Order e → in_order e ≡ true
unfolding in_order
order_whole e o = rw (le-leb e.kind 2 o.kind, o.full_name, o.sound4, o.sound6)

-- ---- another set of one family

abbrev pub with4 : Entry → Set4 → Entry
with4 e w = record { kind = e.kind; name = e.name; dhcid = e.dhcid; v4 = w; v6 = e.v6 }

abbrev pub with6 : Entry → Set6 → Entry
with6 e w = record { kind = e.kind; name = e.name; dhcid = e.dhcid; v4 = e.v4; v6 = w }

host4 : (e : Entry) (w : Set4) → host_of (with4 e w) ≡ with four (set_of (list4 w)) (host_of e)
unfolding host_of with
host4 e w =
    let f : ◌≡◌ {A = Family → Addresses} (λ g. set_of (list_of (with4 e w) g)) (λ g. cond (is_family four g) (set_of (list4 w)) (set_of (list_of e g))) = fun_ext on in
    λ i. record { owner = cond (eqb e.kind 1) none (some e.dhcid.octets); addresses = f i }
  where
    on : (g : Family) → set_of (list_of (with4 e w) g) ≡ cond (is_family four g) (set_of (list4 w)) (set_of (list_of e g))
    on four = refl
    on six = refl

host6 : (e : Entry) (w : Set6) → host_of (with6 e w) ≡ with six (set_of (list6 w)) (host_of e)
unfolding host_of with
host6 e w =
    let f : ◌≡◌ {A = Family → Addresses} (λ g. set_of (list_of (with6 e w) g)) (λ g. cond (is_family six g) (set_of (list6 w)) (set_of (list_of e g))) = fun_ext on in
    λ i. record { owner = cond (eqb e.kind 1) none (some e.dhcid.octets); addresses = f i }
  where
    on : (g : Family) → set_of (list_of (with6 e w) g) ≡ cond (is_family six g) (set_of (list6 w)) (set_of (list_of e g))
    on four = refl
    on six = refl

module _ (e : Entry) (o : in_order e ≡ true) where
  pub kept4 : (w : Set4) (s : Addresses) → sound w.count (list4 w) ≡ true → set_of (list4 w) ≡ s → Stands e.name e.kind (with four s (host_of e)) (records_of (with4 e w))
  kept4 w s t q =
      let p = order_parts e o in
      record {
        kind_is = refl;
        order_is = order_whole (with4 e w) (record { kind = p.kind; full_name = p.full_name; sound4 = t; sound6 = p.sound6 });
        host_is = host4 e w ∙ ap (λ (x : Addresses). with four x (host_of e)) q;
      }

  pub kept6 : (w : Set6) (s : Addresses) → sound w.count (list6 w) ≡ true → set_of (list6 w) ≡ s → Stands e.name e.kind (with six s (host_of e)) (records_of (with6 e w))
  kept6 w s t q =
      let p = order_parts e o in
      record {
        kind_is = refl;
        order_is = order_whole (with6 e w) (record { kind = p.kind; full_name = p.full_name; sound4 = p.sound4; sound6 = t });
        host_is = host6 e w ∙ ap (λ (x : Addresses). with six x (host_of e)) q;
      }

pub kept_same : (e : Entry) → in_order e ≡ true → Stands e.name e.kind (host_of e) (records_of e)
kept_same e o = record { kind_is = refl; order_is = o; host_is = refl }

-- ---- no addresses

pub set_nothing : (l : List Octets) → l ≡ [] → set_of l ≡ nothing
unfolding member
set_nothing l e = ap set_of e

pub sound_nothing : (n : ℕ) (l : List Octets) → n ≡ 0 → l ≡ [] → sound n l ≡ true
sound_nothing n l z e = sound_both n l (omega arith) (ap distinct e ∙ distinct_nil)

pub both_empty : (e : Entry) → list4 e.v4 ≡ [] → list6 e.v6 ≡ [] → host_of e ≡ emptied (host_of e)
unfolding host_of
both_empty e p q =
    let f : ◌≡◌ {A = Family → Addresses} (λ g. set_of (list_of e g)) (λ g. nothing) = fun_ext on in
    λ i. record { owner = cond (eqb e.kind 1) none (some e.dhcid.octets); addresses = f i }
  where
    on : (g : Family) → set_of (list_of e g) ≡ nothing
    on four = set_nothing (list4 e.v4) p
    on six = set_nothing (list6 e.v6) q

-- ---- families by their numbers

pub family_four : (n : ℕ) → n ≡ 4 → family_of n ≡ four
unfolding family_of
family_four n e = rw (eq-eqb n 4 e)

pub family_six : (n : ℕ) → ¬ (n ≡ 4) → family_of n ≡ six
unfolding family_of
family_six n e = rw (ne_eqb n 4 e)

pub first_four : (o : List ℕ) → length o ≡ 16 → (get_or o 0 0 ∷ get_or o 1 0 ∷ get_or o 2 0 ∷ get_or o 3 0 ∷ []) ≡ take 4 o
first_four [] h = absurd (omega arith)
first_four (a ∷ []) h = absurd (omega arith)
first_four (a ∷ b ∷ []) h = absurd (omega arith)
first_four (a ∷ b ∷ c ∷ []) h = absurd (omega arith)
first_four (a ∷ b ∷ c ∷ d ∷ o) h = refl

-- an update about family 4, and one about family 6
pub record Means (u : Update) (f : Family) (x : Octets) : Type 0 where
  pub family_is : u.family ≡ f
  pub address_is : u.address ≡ x

pub means4 : {n : ℕ} {a : Address} {u : Update} {x : Octets} → About n a u → n ≡ 4 → x ≡ take 4 a.octets → Means u four x
means4 {n} {a} {u} b e q = record { family_is = b.family_is ∙ family_four n e; address_is = b.address_is ∙ ap (λ (f : Family). address_of f a) (family_four n e) ∙ sym q }

pub means6 : {n : ℕ} {a : Address} {u : Update} {x : Octets} → About n a u → ¬ (n ≡ 4) → x ≡ a.octets → Means u six x
means6 {n} {a} {u} b e q = record { family_is = b.family_is ∙ family_six n e; address_is = b.address_is ∙ ap (λ (f : Family). address_of f a) (family_six n e) ∙ sym q }

-- ---- how many addresses

pub count4_by : (e : Entry) (family n : ℕ) → family ≡ 4 → n ≡ length (list4 e.v4) → n ≡ ((host_of e).addresses (family_of family)).count
unfolding host_of
count4_by e family n k q = q ∙ ap (λ (f : Family). length (list_of e f)) (sym (family_four family k))

pub count6_by : (e : Entry) (family n : ℕ) → ¬ (family ≡ 4) → n ≡ length (list6 e.v6) → n ≡ ((host_of e).addresses (family_of family)).count
unfolding host_of
count6_by e family n k q = q ∙ ap (λ (f : Family). length (list_of e f)) (sym (family_six family k))

-- one of them alone, by policy
module _ (f : Family) (p : ℕ) (h : Host) where
  pub alone_keep : p ≡ 0 → true ≡ alone (policy_of p) f h
  unfolding alone policy_of
  alone_keep e = sym (rw (alone, eq-eqb p 0 e))

  pub alone_family : p ≡ 1 → eqb (h.addresses f).count 1 ≡ alone (policy_of p) f h
  unfolding alone policy_of
  alone_family e = rw (alone, e)

  pub alone_name : ¬ (p ≡ 0) → ¬ (p ≡ 1) → eqb ((h.addresses four).count + (h.addresses six).count) 1 ≡ alone (policy_of p) f h
  unfolding alone policy_of
  alone_name n m = rw (alone, ne_eqb p 0 n, ne_eqb p 1 m)

-- ---- room, an address more, an address less: for both families

module _ (e : Entry) (u : Update) (f : Family) (x : Octets) (m : Means u f x) where
  pub fits_by : fits u (host_of e) ≡ (member x (list_of e f) || ltb (length (list_of e f)) 4)
  unfolding fits host_of
  fits_by = rw (m.family_is, m.address_is)

  pub has_by : (own_family u (host_of e)).has u.address ≡ member x (list_of e f)
  unfolding host_of
  has_by = rw (m.family_is, m.address_is)

  address_by : (v : Bool) → address u v (host_of e) ≡ with f (mark x v (set_of (list_of e f))) (host_of e)
  unfolding host_of
  address_by v = address_is_lem u v (host_of e) ∙ rw (m.family_is, m.address_is)

  -- what a set comes to, where it is made of the one that stood there
  pub join_by : (l : List Octets) → distinct (list_of e f) ≡ true → fits u (host_of e) ≡ true → l ≡ joined x (list_of e f) → with f (set_of l) (host_of e) ≡ address u true (host_of e)
  join_by l d r q =
      ap (λ (s : Addresses). with f s (host_of e)) (ap set_of q ∙ joined_mark x (list_of e f) d (sym fits_by ∙ r)) ∙ sym (address_by true)

  pub part_by : (l : List Octets) → distinct (list_of e f) ≡ true → l ≡ without x (list_of e f) → with f (set_of l) (host_of e) ≡ address u false (host_of e)
  part_by l d q = ap (λ (s : Addresses). with f s (host_of e)) (ap set_of q ∙ without_mark x (list_of e f) d) ∙ sym (address_by false)

-- ---- what policies leave

pub kept_to : {n : Name} {kind : ℕ} {h g : Host} {r : Records} → Stands n kind h r → h ≡ g → Stands n kind g r
kept_to k q = record { kind_is = k.kind_is; order_is = k.order_is; host_is = k.host_is ∙ q }

-- another way to say what changes
pub makes_to : {f g : Host → Host} {e r : Records} → Makes f e r → ((h : Host) → f h ≡ g h) → Makes g e r
makes_to k q = record { makes = λ n o. kept_to (k.makes n o) (q _) }

module _ (f : Family) (p : ℕ) (h : Host) where
  pub left_all : p ≡ 0 → h ≡ left f (policy_of p) h
  unfolding left policy_of
  left_all e = rw (left, eq-eqb p 0 e)

  pub left_others : p ≡ 1 → with f nothing h ≡ left f (policy_of p) h
  unfolding left policy_of
  left_others e = rw (left, e)

  pub left_none : ¬ (p ≡ 0) → ¬ (p ≡ 1) → emptied h ≡ left f (policy_of p) h
  unfolding left policy_of
  left_none n m = rw (left, ne_eqb p 0 n, ne_eqb p 1 m)

-- both sets empty
pub kept_empty : (e : Entry) (v4 : Set4) (v6 : Set6) → in_order e ≡ true → list4 v4 ≡ [] → v4.count ≡ 0 → list6 v6 ≡ [] → v6.count ≡ 0
    → Stands e.name e.kind (emptied (host_of e)) (records_of (with6 (with4 e v4) v6))
kept_empty e v4 v6 o p x q y =
    let s = order_parts e o in
    let r : Entry = with6 (with4 e v4) v6 in
    record {
      kind_is = refl;
      order_is = order_whole r (record { kind = s.kind; full_name = s.full_name; sound4 = sound_nothing _ _ x p; sound6 = sound_nothing _ _ y q });
      host_is = both_empty r p q ∙ (unfold host_of in refl);
    }

module _ (e : Entry) (o : in_order e ≡ true) (u : Update) (x : Octets) where
  once4 : distinct (list4 e.v4) ≡ true
  once4 = sound_once _ _ (order_parts e o).sound4

  once6 : distinct (list6 e.v6) ≡ true
  once6 = sound_once _ _ (order_parts e o).sound6

  pub joined4 : (w : Set4) → Means u four x → list4 w ≡ joined x (list4 e.v4) → (e.v4.count ≤ 4 → w.count ≤ 4) → fits u (host_of e) ≡ true
      → Stands e.name e.kind (address u true (host_of e)) (records_of (with4 e w))
  joined4 w m q few r =
      kept_to (kept4 e o w (set_of (list4 w)) (sound_both _ _ (few (sound_few _ _ (order_parts e o).sound4)) (ap distinct q ∙ joined_once x _ once4)) refl)
      (join_by e u four x m (list4 w) once4 r q)

  pub joined6 : (w : Set6) → Means u six x → list6 w ≡ joined x (list6 e.v6) → (e.v6.count ≤ 4 → w.count ≤ 4) → fits u (host_of e) ≡ true
      → Stands e.name e.kind (address u true (host_of e)) (records_of (with6 e w))
  joined6 w m q few r =
      kept_to (kept6 e o w (set_of (list6 w)) (sound_both _ _ (few (sound_few _ _ (order_parts e o).sound6)) (ap distinct q ∙ joined_once x _ once6)) refl)
      (join_by e u six x m (list6 w) once6 r q)

  pub parted4 : (w : Set4) → Means u four x → list4 w ≡ without x (list4 e.v4) → w.count ≤ 4 → Stands e.name e.kind (address u false (host_of e)) (records_of (with4 e w))
  parted4 w m q few =
      kept_to (kept4 e o w (set_of (list4 w)) (sound_both _ _ few (ap distinct q ∙ distinct_without x _ once4)) refl) (part_by e u four x m (list4 w) once4 q)

  pub parted6 : (w : Set6) → Means u six x → list6 w ≡ without x (list6 e.v6) → w.count ≤ 4 → Stands e.name e.kind (address u false (host_of e)) (records_of (with6 e w))
  parted6 w m q few =
      kept_to (kept6 e o w (set_of (list6 w)) (sound_both _ _ few (ap distinct q ∙ distinct_without x _ once6)) refl) (part_by e u six x m (list6 w) once6 q)

-- ---- a place made for a name

-- the update that a call's arguments mean is about them
pub about : (n : Name) (d : Dhcid) (family : ℕ) (a : Address) → About family a (update_of n d family a)
unfolding update_of
about n d family a = record { family_is = refl; address_is = refl }

module _ (n : Name) (d : Dhcid) (v4 : Set4) (v6 : Set6) (p : list4 v4 ≡ []) (x : v4.count ≡ 0) (q : list6 v6 ≡ []) (y : v6.count ≡ 0) where
  abbrev bare : Entry
  bare = record { kind = 2; name = n; dhcid = d; v4 = v4; v6 = v6 }

  bare_order : is_full (name_of n) ≡ true → in_order bare ≡ true
  bare_order f = order_whole bare (record { kind = omega arith; full_name = f; sound4 = sound_nothing _ _ x p; sound6 = sound_nothing _ _ y q })

  bare_host : (family : ℕ) (a : Address) → host_of bare ≡ record { owner = some (update_of n d family a).dhcid; addresses = λ f. nothing }
  bare_host family a = both_empty bare p q ∙ (unfold host_of update_of in refl)

  module _ (family : ℕ) (a : Address) where
    abbrev u : Update
    u = update_of n d family a

    bare_fits : fits u (host_of bare) ≡ true
    unfolding fits
    bare_fits = rw (bare_host family a) refl

    pub made : (r : Records) → Joined family a (records_of bare) r → is_full (name_of n) ≡ true → Stands n 2 (new_host u) r
    unfolding new_host
    made r j f = kept_to (j.joins n u (about n d family a) (bare_order f) bare_fits) (ap (address u true) (bare_host family a))
