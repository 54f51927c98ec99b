-- What the occurrence of an option says of the values in a packet, and that the place of a value is where it stands. Assumes nothing.
use Prim.Native.Nat.{ℕ, zero, suc, ◌+◌, ◌-◌, ◌≤◌, ◌<◌}
use mathlib.Core.Path.{◌≡◌, refl, sym, ap, ◌∙◌, subst}
use mathlib.Core.List.{List, [], ◌∷◌, head_d}
use mathlib.Core.Option.{Option, none, some}
use Rattle.std.proofs.Math.Option.{some-ne-none}
use mathlib.Core.Bool.{true, false, ◌&&◌, and-false}
use native.Mathlib.Omega.{arith}
use borrow.Table.Steps.{cases}
use borrow.Author.Tests.{leb-true, leb-false, lt-leb}
use lib.Dec.{eqb, leb}
use lib.ListN.{length, get_or, take, drop, length-drop, length-take, drop_of_length-le}
use lib.Seq.{drop-drop}
use Rattle.std.specs.Prelude as std
use Rattle.std.specs.Prelude.{Some, None, Ok, Err}
use Rattle.leasepacket.specs.declared.options.Place.{Place}
use Rattle.leasepacket.specs.declared.options.Fault.{Fault}
use Rattle.leasepacket.specs.declared.options.Fault.TheVariants.{Broken, Repeated}
use Rattle.leasepacket.specs.Packet.{part}
use Rattle.leasepacket.specs.Options.{Opt, opt, followed, options, values, values_of, values_in, only_of, has_options}
use Rattle.leasepacket.specs.Occurrence.{before, place_of, Occurrence, counted, occurrence_in, occurrence}
use Rattle.leasepacket.specs.Places.{value, ReadAs, Stands, Tells}

-- ---- the place of a value is where it stands, and the value lies inside the octets
take_own : (n : ℕ) (l : List ℕ) → take (length (take n l)) l ≡ take n l
take_own zero l = refl
take_own (suc n) [] = refl
take_own (suc n) (x ∷ xs) = ap (λ (ys : List ℕ). x ∷ ys) (take_own n xs)

nothing : {A : Type 0} (v : List ℕ) (vs : List (List ℕ)) → [] ≡ v ∷ vs → A
nothing v vs e = absurd (let z : ◌≡◌ {A = ℕ} 0 (suc (length vs)) = ap length e in omega arith)

module _ (code : ℕ) (o : Opt) where
  found_here : (r : Option (List Opt)) (v : List ℕ) (vs : List (List ℕ)) → eqb o.code code ≡ true → values_of code (followed o r) ≡ v ∷ vs → o.octets ≡ v
  unfolding values head_d
  found_here none v vs c e = nothing v vs e
  found_here (some os) v vs c e = let g : o.octets ∷ values code os ≡ v ∷ vs = rw c at e in ap (λ (l : List (List ℕ)). head_d l []) g

  found_behind : (r : Option (List Opt)) → eqb o.code code ≡ false → values_of code (followed o r) ≡ values_of code r
  unfolding values
  found_behind none c = refl
  found_behind (some os) c = rw c

pub value_at : (code passing : ℕ) (l v : List ℕ) (vs : List (List ℕ)) → values_of code (options passing l) ≡ v ∷ vs → take (length v) (drop (before code passing l) l) ≡ v
unfolding options before values
value_at code passing [] v vs e = nothing v vs e
value_at code (suc k) (x ∷ rest) v vs e = value_at code k rest v vs e
value_at code zero (x ∷ rest) v vs e =
    cases (eqb x 255) (λ a. nothing v vs (rw a at e))
    (λ a. cases (eqb x 0) (λ b. rw (a, b) (value_at code 0 rest v vs (rw (a, b) at e)))
    (λ b. cases (eqb x code)
    (λ c. let g : take (get_or rest 0 0) (drop 1 rest) ≡ v = found_here code (opt x rest) (options (suc (get_or rest 0 0)) rest) v vs c (rw (a, b) at e) in
    rw (a, b, c) (ap (λ (w : List ℕ). take (length w) (drop 1 rest)) (sym g) ∙ take_own (get_or rest 0 0) (drop 1 rest) ∙ g))
    (λ c. rw (a, b, c) (value_at code (suc (get_or rest 0 0)) rest v vs (sym (found_behind code (opt x rest) (options (suc (get_or rest 0 0)) rest) c) ∙ rw (a, b) at e)))))

value_inside : (code passing : ℕ) (l v : List ℕ) (vs : List (List ℕ)) → values_of code (options passing l) ≡ v ∷ vs → before code passing l + length v ≤ length l
unfolding options before values
value_inside code passing [] v vs e = nothing v vs e
value_inside code (suc k) (x ∷ rest) v vs e = let h = value_inside code k rest v vs e in omega (arith, h)
value_inside code zero (x ∷ []) v vs e =
    cases (eqb x 255) (λ a. nothing v vs (rw a at e))
    (λ a. cases (eqb x 0) (λ b. nothing v vs (rw (a, b) at e)) (λ b. nothing v vs (rw (a, b) at e)))
value_inside code zero (x ∷ y ∷ rest) v vs e =
    cases (eqb x 255) (λ a. nothing v vs (rw a at e))
    (λ a. cases (eqb x 0) (λ b. rw (a, b) (let h = value_inside code 0 (y ∷ rest) v vs (rw (a, b) at e) in omega (arith, h)))
    (λ b. cases (eqb x code)
    (λ c. let g : take y rest ≡ v = found_here code (opt x (y ∷ rest)) (options (suc y) (y ∷ rest)) v vs c (rw (a, b) at e) in
    let m : length v ≤ length rest = let n = ap length g in let k = length-take y rest in omega (arith, n, k) in
    rw (a, b, c) (omega (arith, m)))
    (λ c. rw (a, b, c) (let h = value_inside code (suc y) (y ∷ rest) v vs (sym (found_behind code (opt x (y ∷ rest)) (options (suc y) (y ∷ rest)) c) ∙ rw (a, b) at e) in omega (arith, h)))))

-- ---- of a packet
abbrev Readable : List ℕ → Type 0
Readable p = (os : List Opt) × (options 0 (drop 240 p) ≡ some os)

none_some : {A : Type 0} (os : List Opt) → none ≡ some os → A
none_some os e = absurd (let z : ◌≡◌ {A = ℕ} 0 1 = ap number e in omega arith)
  where
    number : Option (List Opt) → ℕ
    number none = 0
    number (some os) = 1

module _ (p : List ℕ) where
  long : Readable p → 240 ≤ length p
  unfolding options
  long r =
      cases (leb 240 (length p)) (λ h. leb-true 240 (length p) h)
      (λ h. let k : length p ≤ 240 = (let z = leb-false 240 (length p) h in omega (arith, z)) in none_some r.0 (ap (options 0) (sym (drop_of_length-le p k)) ∙ r.1))

  module _ (code : ℕ) where
    -- the values of the only option of a code: what stands at its place
    only_value : Readable p → (v : List ℕ) (vs : List (List ℕ)) → values_in code p ≡ v ∷ vs → (part p (place_of code p) (length v) ≡ v) × (place_of code p + length v ≤ length p)
    unfolding place_of
    only_value r v vs e =
        let l = long r in
        let d = length-drop 240 p in
        let h = value_inside code 0 (drop 240 p) v vs e in
        (ap (take (length v)) (sym (drop-drop (before code 0 (drop 240 p)) 240 p)) ∙ value_at code 0 (drop 240 p) v vs e, omega (arith, l, d, h))

    abbrev pub Says : Occurrence → Type 0
    Says (Err Broken) = options 0 (drop 240 p) ≡ none
    Says (Err Repeated) = Readable p × (1 < length (values_in code p))
    Says (Ok None) = Readable p × (values_in code p ≡ [])
    Says (Ok (Some q)) = Readable p × (values_in code p ≡ part p q.at q.len ∷ []) × (q.at + q.len ≤ length p) × (q.at ≡ place_of code p)

    by_values : Readable p → (vs : List (List ℕ)) → values_in code p ≡ vs → Says (counted (place_of code p) vs)
    by_values r [] e = (r, e)
    by_values r (v ∷ []) e = let t = only_value r v [] e in (r, e ∙ ap (λ (w : List ℕ). w ∷ []) (sym t.0), t.1, refl)
    by_values r (v ∷ w ∷ vs) e = (r, let n = ap length e in omega (arith, n))

    by_options : (os : Option (List Opt)) → options 0 (drop 240 p) ≡ os → Says (occurrence_in code (place_of code p) os)
    by_options none e = e
    by_options (some os) e = by_values (os, e) (values code os) (ap (values_of code) e)

    pub says : (o : Occurrence) → o ≡ occurrence code p → Says o
    unfolding occurrence
    says o e = subst Says (sym e) (by_options (options 0 (drop 240 p)) refl)

    readable : (q : std.Option Place) → Says (Ok q) → Readable p
    readable None s = s.0
    readable (Some q) s = s.0

    pub read_as : (q : std.Option Place) → Says (Ok q) → ReadAs code p q
    read_as None s = record { are = s.1; inside = tt }
    read_as (Some q) s = record { are = s.1; inside = s.2 }

    -- the values of an option whose place is known, and of one with a fault: of options that can't be read there are none
    pub values_at : (q : std.Option Place) → Ok q ≡ occurrence code p → values_in code p ≡ value p q
    values_at q e = (read_as q (says (Ok q) e)).are

    pub place_inside : (q : Place) → Ok (Some q) ≡ occurrence code p → q.at + q.len ≤ length p
    place_inside q e = (says (Ok (Some q)) e).2

    pub values_broken : Err Broken ≡ occurrence code p → values_in code p ≡ []
    values_broken e = rw (says (Err Broken) e)

    pub values_repeated : Err Repeated ≡ occurrence code p → (v : List ℕ) × (w : List ℕ) × (vs : List (List ℕ)) × (values_in code p ≡ v ∷ w ∷ vs)
    values_repeated e = go (values_in code p) (says (Err Repeated) e).1
      where
        go : (us : List (List ℕ)) → 1 < length us → (v : List ℕ) × (w : List ℕ) × (vs : List (List ℕ)) × (us ≡ v ∷ w ∷ vs)
        go [] h = absurd (omega arith)
        go (v ∷ []) h = absurd (omega arith)
        go (v ∷ w ∷ vs) h = (v, w, vs, refl)

    pub not_only : (f : Fault) → Err f ≡ occurrence code p → only_of (values_in code p) ≡ none
    not_only Broken e = ap only_of (values_broken e)
    not_only Repeated e = ap only_of (values_repeated e).3

  -- ---- the packet as a whole: its options can be read, with 53 and 61 at most once each
  has : Readable p → has_options p ≡ (leb (length (values_in 53 p)) 1 && leb (length (values_in 61 p)) 1)
  unfolding has_options
  has r = rw r.1

  pub faulty : options 0 (drop 240 p) ≡ none → has_options p ≡ false
  unfolding has_options
  faulty e = rw e

  pub kind_fault : (f : Fault) → Err f ≡ occurrence 53 p → has_options p ≡ false
  kind_fault Broken e = faulty (says 53 (Err Broken) e)
  kind_fault Repeated e = let s = says 53 (Err Repeated) e in has s.0 ∙ rw (lt-leb (length (values_in 53 p)) 1 s.1)

  pub id_fault : (f : Fault) → Err f ≡ occurrence 61 p → has_options p ≡ false
  id_fault Broken e = faulty (says 61 (Err Broken) e)
  id_fault Repeated e =
      let s = says 61 (Err Repeated) e in
      has s.0 ∙ rw (lt-leb (length (values_in 61 p)) 1 s.1) (and-false (leb (length (values_in 53 p)) 1))

  at_most_one : (code : ℕ) (q : std.Option Place) → ReadAs code p q → leb (length (values_in code p)) 1 ≡ true
  at_most_one code None r = rw r.are
  at_most_one code (Some q) r = rw r.are

  stands : (q : std.Option Place) → Says 61 (Ok q) → Stands p q
  stands None s = tt
  stands (Some q) s = s.3

  pub tells : (kind id : std.Option Place) → Ok kind ≡ occurrence 53 p → Ok id ≡ occurrence 61 p → Tells p (Ok (record { kind = kind; id = id }))
  tells kind id e f =
      let s = says 53 (Ok kind) e in
      let t = says 61 (Ok id) f in
      let k = read_as 53 kind s in
      let i = read_as 61 id t in
      (has (readable 53 kind s) ∙ rw (at_most_one 53 kind k, at_most_one 61 id i), k, i, stands id t)

-- ---- a value that stands at a place, by the octets from there to its end
pub slice_is : (p : List ℕ) (at n : ℕ) → take (at + n - at) (drop at p) ≡ part p at n
slice_is p at n = let e : at + n - at ≡ n = omega arith in ap (λ (k : ℕ). take k (drop at p)) e

-- what is told of the values of an option that is not there just once
pub told_none : {A : Type 0} (tell : List (List ℕ) → A) (vs : List (List ℕ)) → only_of vs ≡ none → ((v w : List ℕ) (us : List (List ℕ)) → tell (v ∷ w ∷ us) ≡ tell []) → tell vs ≡ tell []
told_none tell [] e same = refl
told_none tell (v ∷ []) e same = absurd (some-ne-none v e)
told_none tell (v ∷ w ∷ us) e same = same v w us

-- the values of an option, by its occurrence: options that can't be read, none, one, or more
module _ (p : List ℕ) (code : ℕ) where
  pub none_faulty : Err Broken ≡ occurrence code p → values_in code p ≡ []
  none_faulty = values_broken p code

  pub none_absent : Ok None ≡ occurrence code p → values_in code p ≡ []
  none_absent = values_at p code None

  pub one : (at n : ℕ) → Ok (Some (record { at = at; len = n })) ≡ occurrence code p → (values_in code p ≡ part p at n ∷ []) × (at + n ≤ length p)
  one at n e = (values_at p code (Some (record { at = at; len = n })) e, place_inside p code (record { at = at; len = n }) e)

  pub more : Err Repeated ≡ occurrence code p → (v : List ℕ) × (w : List ℕ) × (vs : List (List ℕ)) × (values_in code p ≡ v ∷ w ∷ vs)
  more = values_repeated p code
