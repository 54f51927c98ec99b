-- The laws of an array with a count, whatever its elements and whichever their octets: what the count takes in, and each turn of the loops over it. Assumes nothing.
use mathlib.Core.Path.{◌≡◌, refl, sym, ◌∙◌, ap}
use mathlib.Core.Bool.{Bool, true, false, ◌||◌, or-true, or-false}
use mathlib.Core.List.{List, [], ◌∷◌, map}
use Prim.Native.Nat.{ℕ, ◌+◌, ◌≤◌, ◌<◌, min}
use native.Mathlib.Numerals.{add-one}
use native.Mathlib.Omega.{arith}
use lib.Dec.{eqb, ltb}
use lib.ListN.{length, get_or, drop, length-map, length-take, get_or-map, drop_of_length-le}
use lib.Seq.{drop-cons, get_or-take}
use borrow.Author.Tests.{eqb-true, eqb-false, eq-eqb, ne_eqb, lt-ltb, le-ltb}
use borrow.Table.Steps.{cases}
use Rattle.octets.specs.Compare.{same_octets}
use Rattle.octets.specs.Count.{Octets, member, distinct}
use Rattle.addresses.specs.Addresses.{Counted, counted4, counted6, held, listed, within}
use Rattle.addresses.specs.declared.set4.Set4.{Set4}
use Rattle.addresses.specs.declared.set6.Set6.{Set6}
use Rattle.addresses.specs.contracts.set4.Addr4
use Rattle.addresses.specs.contracts.set6.Addr6

-- there are four places
abbrev pub Four : {A : Type 0} → Counted A → Type 0
Four s = length s.items ≡ 4

-- an array of structs has its length by way of a map
pub four4 : (s : Set4) → length (map (Addr4.the_field).into s.items) ≡ 4 → Four (counted4 s)
four4 s e = sym (length-map s.items (Addr4.the_field).into) ∙ e

pub four6 : (s : Set6) → length (map (Addr6.the_field).into s.items) ≡ 4 → Four (counted6 s)
four6 s e = sym (length-map s.items (Addr6.the_field).into) ∙ e

-- there are four places, of which the count takes in n
pub record Places {A : Type 0} (s : Counted A) (n : ℕ) : Type 0 where
  pub four : Four s
  pub few : n ≡ min s.count 4

pub places4 : (s : Set4) {n : ℕ} → length (map (Addr4.the_field).into s.items) ≡ 4 → n ≡ min s.count 4 → Places (counted4 s) n
places4 s e m = record { four = four4 s e; few = m }

pub places6 : (s : Set6) {n : ℕ} → length (map (Addr6.the_field).into s.items) ≡ 4 → n ≡ min s.count 4 → Places (counted6 s) n
places6 s e m = record { four = four6 s e; few = m }

module _ {A : Type 0} (s : Counted A) (n : ℕ) (p : Places s n) where
  pub held_length : length (held s) ≡ n
  held_length = omega (arith, length-take s.count s.items)

  pub held_cons : (d : A) (i : ℕ) → i < n → drop i (held s) ≡ get_or s.items i d ∷ drop (i + 1) (held s)
  held_cons d i h =
      let l : i < length (held s) = omega (arith, held_length) in
      let k : i < s.count = omega arith in
      rw (add-one, drop-cons (held s) i d l, get_or-take s.count s.items i d k)

  pub held_end : (i : ℕ) → n ≤ i → drop i (held s) ≡ []
  held_end i h = drop_of_length-le (held s) {i = i} (omega (arith, held_length))

module _ {A : Type 0} (f : A → Octets) (s : Counted A) (n : ℕ) (p : Places s n) where
  pub listed_length : length (listed f s) ≡ n
  listed_length = length-map (held s) f ∙ held_length s n p

  listed_cons : (d : A) (i : ℕ) → i < n → drop i (listed f s) ≡ f (get_or s.items i d) ∷ drop (i + 1) (listed f s)
  listed_cons d i h =
      let l : i < length (listed f s) = omega (arith, listed_length) in
      let k : i < s.count = omega arith in
      rw (add-one, drop-cons (listed f s) i (f d) l, get_or-map f (held s) i d, get_or-take s.count s.items i d k)

  listed_end : (i : ℕ) → n ≤ i → drop i (listed f s) ≡ []
  listed_end i h = drop_of_length-le (listed f s) {i = i} (omega (arith, listed_length))

-- ---- an address looked for

pub record Search {A : Type 0} (f : A → Octets) (a : Octets) (from : ℕ) (s : Counted A) (n i : ℕ) : Type 0 where
  pub places : Places s n
  pub rest : member a (drop from (listed f s)) ≡ member a (drop i (listed f s))

pub search_start : {A : Type 0} {f : A → Octets} {a : Octets} {from : ℕ} {s : Counted A} {n : ℕ} → Places s n → Search f a from s n from
search_start p = record { places = p; rest = refl }

module _ {A : Type 0} {f : A → Octets} {a : Octets} {from : ℕ} {s : Counted A} {n i : ℕ} (l : Search f a from s n i) where
  pub search_hit : (d : A) → i < n → same_octets (f (get_or s.items i d)) a ≡ true → true ≡ member a (drop from (listed f s))
  unfolding member
  search_hit d h e = sym (l.rest ∙ rw (listed_cons f s n l.places d i h, e))

  pub search_miss : (d : A) → i < n → same_octets (f (get_or s.items i d)) a ≡ false → Search f a from s n (i + 1)
  unfolding member
  search_miss d h e = record { places = l.places; rest = l.rest ∙ ap (member a) (listed_cons f s n l.places d i h) ∙ rw e }

  pub search_end : n ≤ i → false ≡ member a (drop from (listed f s))
  unfolding member
  search_end h = sym (l.rest ∙ ap (member a) (listed_end f s n l.places i h))

-- ---- two equal ones looked for

pub record Pairs {A : Type 0} (f : A → Octets) (s : Counted A) (n i : ℕ) : Type 0 where
  pub places : Places s n
  pub rest : distinct (listed f s) ≡ distinct (drop i (listed f s))

pub pairs_start : {A : Type 0} {f : A → Octets} {s : Counted A} {n : ℕ} → Places s n → Pairs f s n 0
pairs_start p = record { places = p; rest = refl }

module _ {A : Type 0} {f : A → Octets} {s : Counted A} {n i : ℕ} (l : Pairs f s n i) where
  pub pairs_hit : (d : A) → i < n → member (f (get_or s.items i d)) (drop (i + 1) (listed f s)) ≡ true → false ≡ distinct (listed f s)
  unfolding distinct
  pairs_hit d h e = sym (l.rest ∙ ap distinct (listed_cons f s n l.places d i h) ∙ rw e)

  pub pairs_miss : (d : A) → i < n → member (f (get_or s.items i d)) (drop (i + 1) (listed f s)) ≡ false → Pairs f s n (i + 1)
  unfolding distinct
  pairs_miss d h e = record { places = l.places; rest = l.rest ∙ ap distinct (listed_cons f s n l.places d i h) ∙ rw e }

  pub pairs_end : n ≤ i → true ≡ distinct (listed f s)
  unfolding distinct
  pairs_end h = sym (l.rest ∙ ap distinct (listed_end f s n l.places i h))

-- ---- each one looked for in another list

pub record Inclusion {A : Type 0} (f : A → Octets) (s : Counted A) (m : List Octets) (n i : ℕ) : Type 0 where
  pub places : Places s n
  pub rest : within (listed f s) m ≡ within (drop i (listed f s)) m

pub inclusion_start : {A : Type 0} {f : A → Octets} {s : Counted A} {m : List Octets} {n : ℕ} → Places s n → Inclusion f s m n 0
inclusion_start p = record { places = p; rest = refl }

module _ {A : Type 0} {f : A → Octets} {s : Counted A} {m : List Octets} {n i : ℕ} (l : Inclusion f s m n i) where
  pub inclusion_lacks : (d : A) → i < n → member (f (get_or s.items i d)) m ≡ false → false ≡ within (listed f s) m
  unfolding within
  inclusion_lacks d h e = sym (l.rest ∙ ap (λ (x : List Octets). within x m) (listed_cons f s n l.places d i h) ∙ rw e)

  pub inclusion_has : (d : A) → i < n → member (f (get_or s.items i d)) m ≡ true → Inclusion f s m n (i + 1)
  unfolding within
  inclusion_has d h e = record { places = l.places; rest = l.rest ∙ ap (λ (x : List Octets). within x m) (listed_cons f s n l.places d i h) ∙ rw e }

  pub inclusion_end : n ≤ i → true ≡ within (listed f s) m
  unfolding within
  inclusion_end h = sym (l.rest ∙ ap (λ (x : List Octets). within x m) (listed_end f s n l.places i h))

-- ---- what the count tells: how many there are, whether there is none, whether there is room

module _ {A : Type 0} (f : A → Octets) (s : Counted A) (four : Four s) where
  pub count_length : length (listed f s) ≡ min s.count 4
  count_length = listed_length f s (min s.count 4) (record { four = four; few = refl })

  pub count_none : eqb s.count 0 ≡ eqb (length (listed f s)) 0
  count_none =
      cases (eqb s.count 0)
      (λ e. e ∙ sym (eq-eqb (length (listed f s)) 0 (omega (arith, count_length, eqb-true s.count 0 e))))
      (λ e. e ∙ sym (ne_eqb (length (listed f s)) 0 (λ (z : length (listed f s) ≡ 0). eqb-false s.count 0 e (omega (arith, count_length)))))

  pub count_fits_lem : (a : Octets) → s.count < 4 → true ≡ (member a (listed f s) || ltb (length (listed f s)) 4)
  count_fits_lem a h = sym (ap (λ (v : Bool). member a (listed f s) || v) (lt-ltb (length (listed f s)) 4 (omega (arith, count_length))) ∙ or-true (member a (listed f s)))

  pub count_full : (a : Octets) → 4 ≤ s.count → member a (listed f s) ≡ (member a (listed f s) || ltb (length (listed f s)) 4)
  count_full a h = sym (ap (λ (v : Bool). member a (listed f s) || v) (le-ltb (length (listed f s)) 4 (omega (arith, count_length))) ∙ or-false (member a (listed f s)))
