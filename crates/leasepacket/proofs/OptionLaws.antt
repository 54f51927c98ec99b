-- The walk of the options by places comes to what the options are. Assumes nothing.
use Prim.Native.Nat.{ℕ, zero, suc, ◌+◌, ◌-◌, ◌≤◌, ◌<◌}
use mathlib.Core.Path.{◌≡◌, refl, sym, ap, ◌∙◌}
use mathlib.Core.List.{List, [], ◌∷◌}
use mathlib.Core.Option.{Option, none, some}
use mathlib.Core.Bool.{true, false, cond}
use lib.ListN.{length, get_or, take, drop, length-drop, drop_of_length-le}
use lib.Seq.{drop-cons, drop-drop, get_or-drop, length-take-le}
use lib.Dec.{ltb, leb, eqb}
use native.Mathlib.Omega.{arith}
use native.Mathlib.Nat.{zero-add}
use native.Mathlib.Numerals.{add-one}
use borrow.Table.Steps.{cases}
use borrow.Author.Tests.{leb-true, leb-false, ltb-true, ltb-false}
use Rattle.std.specs.Prelude as std
use Rattle.std.specs.Prelude.{Some, None, Result, Ok, Err}
use Rattle.leasepacket.specs.declared.options.Fault.{Fault}
use Rattle.leasepacket.specs.declared.options.Fault.TheVariants.{Broken, Repeated}
use Rattle.leasepacket.specs.Options.{Opt, followed, options, values}
use Rattle.leasepacket.specs.Occurrence.{before, place_of, Occurrence, counted, occurrence_in, occurrence}
use Rattle.leasepacket.specs.Places.{noted_of, place_behind, step_of}

-- ---- the octets that belong to an option are passed
pub skip_past : (k : ℕ) (l : List ℕ) → length l < k → options k l ≡ none
unfolding options
skip_past k [] h = refl
skip_past zero (x ∷ r) h = absurd (omega arith)
skip_past (suc k) (x ∷ r) h = skip_past k r (omega arith)

skip_to : (k : ℕ) (l : List ℕ) → k ≤ length l → options k l ≡ options 0 (drop k l)
unfolding options
skip_to zero l h = refl
skip_to (suc k) [] h = absurd (omega arith)
skip_to (suc k) (x ∷ r) h = skip_to k r (omega arith)

-- the same of how many octets stand before a value
before_to : (code k : ℕ) (l : List ℕ) → k ≤ length l → before code k l ≡ k + before code 0 (drop k l)
unfolding before
before_to code zero l h = sym (zero-add (before code 0 l))
before_to code (suc k) [] h = absurd (omega arith)
before_to code (suc k) (x ∷ r) h = let e = before_to code k r (omega arith) in omega (arith, e)

-- the option at a place whose value has len octets
abbrev at_place : List ℕ → ℕ → ℕ → Opt
at_place s at len = record { code = get_or s at 0; octets = take len (drop (at + 2) s) }

module _ (s : List ℕ) (code at : ℕ) (below : at < length s) where
  abbrev len : ℕ
  len = get_or s (at + 1) 0

  first_is : get_or (drop (suc at) s) 0 0 ≡ len
  first_is = get_or-drop (suc at) s 0 0 ∙ ap (λ (n : ℕ). get_or s n 0) (omega arith)

  at_end : eqb (get_or s at 0) 255 ≡ true → options 0 (drop at s) ≡ some []
  unfolding options
  at_end e = rw (drop-cons s at 0 below) (simp e)

  before_padding : eqb (get_or s at 0) 255 ≡ false → eqb (get_or s at 0) 0 ≡ true → at + before code 0 (drop at s) ≡ at + 1 + before code 0 (drop (at + 1) s)
  unfolding before
  before_padding e f =
      let b : before code 0 (drop at s) ≡ suc (before code 0 (drop (at + 1) s)) = rw (drop-cons s at 0 below) (simp (e, f, add-one)) in
      omega (arith, b)

  at_padding : eqb (get_or s at 0) 255 ≡ false → eqb (get_or s at 0) 0 ≡ true → options 0 (drop at s) ≡ options 0 (drop (at + 1) s)
  unfolding options
  at_padding e f = rw (drop-cons s at 0 below) (simp (e, f, add-one))

  module _ (e : eqb (get_or s at 0) 255 ≡ false) (f : eqb (get_or s at 0) 0 ≡ false) where
    at_option : options 0 (drop at s) ≡ followed (record { code = get_or s at 0; octets = take len (drop 1 (drop (suc at) s)) }) (options (suc len) (drop (suc at) s))
    unfolding options
    at_option = rw (drop-cons s at 0 below, first_is) (simp (e, f))

    cut_short : length s < at + 2 + len → options 0 (drop at s) ≡ none
    cut_short h = at_option ∙ ap (followed _) (skip_past (suc len) (drop (suc at) s) (rw length-drop (omega arith)))

    module _ (h : at + 2 + len ≤ length s) where
      behind : drop (suc len) (drop (suc at) s) ≡ drop (at + 2 + len) s
      behind = let e₂ : suc at + suc len ≡ at + 2 + len = omega arith in drop-drop (suc len) (suc at) s ∙ ap (λ (m : ℕ). drop m s) e₂

      goes_on_lem : options 0 (drop at s) ≡ followed (at_place s at len) (options 0 (drop (at + 2 + len) s))
      goes_on_lem =
          let e₁ : suc at + 1 ≡ at + 2 = omega arith in
          let d : drop 1 (drop (suc at) s) ≡ drop (at + 2) s = drop-drop 1 (suc at) s ∙ ap (λ (m : ℕ). drop m s) e₁ in
          let k : options (suc len) (drop (suc at) s) ≡ options 0 (drop (at + 2 + len) s) = skip_to (suc len) (drop (suc at) s) (rw length-drop (omega arith)) ∙ ap (options 0) behind in
          at_option ∙ rw (d, k)

      before_past : eqb (get_or s at 0) code ≡ false → at + before code 0 (drop at s) ≡ at + 2 + len + before code 0 (drop (at + 2 + len) s)
      unfolding before
      before_past g =
          let b : before code 0 (drop at s) ≡ suc (before code (suc len) (drop (suc at) s)) = rw (drop-cons s at 0 below, first_is) (simp (e, f, g)) in
          let k : before code (suc len) (drop (suc at) s) ≡ suc len + before code 0 (drop (at + 2 + len) s) = before_to code (suc len) (drop (suc at) s) (rw length-drop (omega arith)) ∙ ap (λ (m : List ℕ). suc len + before code 0 m) behind in
          omega (arith, b, k)

    before_here : eqb (get_or s at 0) code ≡ true → at + before code 0 (drop at s) ≡ at + 2
    unfolding before
    before_here g =
        let b : before code 0 (drop at s) ≡ 2 = rw (drop-cons s at 0 below) (simp (e, f, g)) in
        omega (arith, b)

-- ---- what the options come to when some were seen and others are left, the next of the code at a place
abbrev seen_then : Occurrence → ℕ → List (List ℕ) → Occurrence
seen_then (Ok None) at vs = counted at vs
seen_then (Ok (Some q)) at [] = Ok (Some q)
seen_then (Ok (Some q)) at (v ∷ vs) = Err Repeated
seen_then (Err fault) at vs = Err fault

abbrev pub left : ℕ → Occurrence → ℕ → Option (List Opt) → Occurrence
left code seen at none = Err Broken
left code seen at (some os) = seen_then seen at (values code os)

pub left_all : (code : ℕ) (p : List ℕ) → occurrence code p ≡ left code (Ok None) (240 + before code 0 (drop 240 p)) (options 0 (drop 240 p))
unfolding occurrence place_of
left_all code p = go (options 0 (drop 240 p))
  where
    go : (os : Option (List Opt)) → occurrence_in code (240 + before code 0 (drop 240 p)) os ≡ left code (Ok None) (240 + before code 0 (drop 240 p)) os
    go none = refl
    go (some os) = refl

left_nothing : (code : ℕ) (seen : Occurrence) (at : ℕ) → left code seen at (some []) ≡ seen
unfolding values
left_nothing code (Ok None) at = refl
left_nothing code (Ok (Some q)) at = refl
left_nothing code (Err fault) at = refl

module _ (code : ℕ) (o : Opt) (at to : ℕ) where
  -- an option of another code changes nothing
  left_other : eqb o.code code ≡ false → at ≡ to → (seen : Occurrence) (os : Option (List Opt)) → left code seen at (followed o os) ≡ left code seen to os
  unfolding values
  left_other e q seen none = refl
  left_other e q seen (some os) = rw (e, q)

  -- one of the code is noted
  noted_first : (v : List ℕ) (vs : List (List ℕ)) → counted at (v ∷ vs) ≡ seen_then (Ok (Some (record { at = at; len = length v }))) to vs
  noted_first v [] = refl
  noted_first v (w ∷ vs) = refl

  noted_again : (seen : Occurrence) (vs : List (List ℕ)) → seen_then seen at (o.octets ∷ vs) ≡ seen_then (noted_of seen (record { at = at; len = length o.octets })) to vs
  noted_again (Ok None) vs = noted_first o.octets vs
  noted_again (Ok (Some q)) vs = refl
  noted_again (Err fault) vs = refl

  left_one : eqb o.code code ≡ true → (seen : Occurrence) (os : Option (List Opt)) → left code seen at (followed o os) ≡ left code (noted_of seen (record { at = at; len = length o.octets })) to os
  unfolding values
  left_one e seen none = refl
  left_one e seen (some os) = rw e (noted_again seen (values code os))

-- ---- what a step at a place tells of the options from there on
abbrev pub Told : List ℕ → ℕ → ℕ → Occurrence → Occurrence → Result (std.Option (ℕ × Occurrence)) Fault → Type 0
Told s code at seen whole (Ok (Some t)) = (whole ≡ left code t.1 (t.0 + before code 0 (drop t.0 s)) (options 0 (drop t.0 s))) × (at < length s) × (at < t.0)
Told s code at seen whole (Ok None) = whole ≡ seen
Told s code at seen whole (Err fault) = whole ≡ Err fault

module _ (s : List ℕ) (code at : ℕ) (seen : Occurrence) where
  abbrev whole : Occurrence
  whole = left code seen (at + before code 0 (drop at s)) (options 0 (drop at s))

  abbrev told : Result (std.Option (ℕ × Occurrence)) Fault → Type 0
  told step = Told s code at seen whole step

  faulty : options 0 (drop at s) ≡ none → whole ≡ Err Broken
  faulty e = rw e

  past_end : length s ≤ at → whole ≡ Err Broken
  unfolding options
  past_end h = faulty (rw (drop_of_length-le s h))

  module _ (below : at < length s) (i : eqb (get_or s at 0) 255 ≡ false) (j : eqb (get_or s at 0) 0 ≡ false) (h : at + 2 + get_or s (at + 1) 0 ≤ length s) where
    abbrev next : ℕ
    next = at + 2 + get_or s (at + 1) 0

    abbrev o : Opt
    o = at_place s at (get_or s (at + 1) 0)

    on : whole ≡ left code seen (at + before code 0 (drop at s)) (followed o (options 0 (drop next s)))
    on = ap (left code seen (at + before code 0 (drop at s))) (goes_on_lem s code at below i j h)

    size : length o.octets ≡ get_or s (at + 1) 0
    size = length-take-le (get_or s (at + 1) 0) (drop (at + 2) s) (rw length-drop (omega arith))

    one_told : eqb (get_or s at 0) code ≡ true → told (Ok (Some (next, noted_of seen (place_behind s at))))
    one_told g =
        let b = before_here s code at below i j g in
        let m = next + before code 0 (drop next s) in
        let t = left_one code o (at + 2) m g seen (options 0 (drop next s)) in
        (on ∙ ap (λ (k : ℕ). left code seen k (followed o (options 0 (drop next s)))) b ∙ t ∙ ap (λ (k : ℕ). left code (noted_of seen (record { at = at + 2; len = k })) m (options 0 (drop next s))) size, below, omega arith)

    other_told : eqb (get_or s at 0) code ≡ false → told (Ok (Some (next, seen)))
    other_told g = (on ∙ left_other code o _ _ g (before_past s code at below i j h g) seen (options 0 (drop next s)), below, omega arith)

    option_told : told (Ok (Some (next, cond (eqb (get_or s at 0) code) (noted_of seen (place_behind s at)) seen)))
    option_told = cases (eqb (get_or s at 0) code) (λ g. simp g (one_told g)) (λ g. simp g (other_told g))

  padding_told : at < length s → eqb (get_or s at 0) 255 ≡ false → eqb (get_or s at 0) 0 ≡ true → told (Ok (Some (at + 1, seen)))
  padding_told below i j = (rw (at_padding s code at below i j, before_padding s code at below i j), below, omega arith)

  end_told : at < length s → eqb (get_or s at 0) 255 ≡ true → told (Ok None)
  end_told below i = ap (left code seen (at + before code 0 (drop at s))) (at_end s code at below i) ∙ left_nothing code seen (at + before code 0 (drop at s))

  pub step_told : told (step_of s code at seen)
  unfolding step_of
  step_told =
      cases (leb (length s) at) (λ h. simp h (past_end (leb-true _ _ h)))
      (λ h. let below : at < length s = leb-false _ _ h in
      cases (eqb (get_or s at 0) 255) (λ i. simp (h, i) (end_told below i))
      (λ i. cases (eqb (get_or s at 0) 0) (λ j. simp (h, i, j) (padding_told below i j))
      (λ j. cases (ltb (length s - at) 2) (λ k. simp (h, i, j, k) (faulty (cut_short s code at below i j (let z = ltb-true (length s - at) 2 k in omega (arith, z)))))
      (λ k. cases (ltb (length s - at - 2) (get_or s (at + 1) 0))
      (λ l. simp (h, i, j, k, l) (faulty (cut_short s code at below i j (let z = ltb-true (length s - at - 2) (get_or s (at + 1) 0) l in omega (arith, z)))))
      (λ l. let y = ltb-false (length s - at) 2 k in let z = ltb-false (length s - at - 2) (get_or s (at + 1) 0) l in simp (h, i, j, k, l) (option_told below i j (omega (arith, y, z))))))))
