-- What the definitions on lists of octets are of a list of addresses, looked at one by one. Assumes nothing.
use mathlib.Core.Path.{◌≡◌, refl, sym, ◌∙◌, ap}
use mathlib.Core.Bool.{Bool, true, false, ◌&&◌, ◌||◌}
use mathlib.Core.List.{List, [], ◌∷◌, map}
use lib.ListN.{length}
use Rattle.std.specs.List.{list_any, list_all}
use Rattle.std.proofs.lemmas.List.{nil_from_length}
use Rattle.octets.specs.Compare.{same_octets}
use Rattle.octets.specs.Count.{Octets, member, distinct}
use Rattle.addresses.specs.Addresses.{within}

module _ {A : Type 0} (f : A → Octets) where
  pub any_member : (a : Octets) (l : List A) → list_any (λ x. same_octets (f x) a) l ≡ member a (map f l)
  unfolding member
  any_member a [] = refl
  any_member a (x ∷ l) = ap (λ (v : Bool). same_octets (f x) a || v) (any_member a l)

  pub all_within : (m : List Octets) (l : List A) → list_all (λ x. member (f x) m) l ≡ within (map f l) m
  unfolding within
  all_within m [] = refl
  all_within m (x ∷ l) = ap (λ (v : Bool). member (f x) m && v) (all_within m l)

  module _ (l rest : List A) (so_far : distinct (map f l) ≡ distinct (map f rest)) where
    module _ {a : A} {behind : List A} (e : rest ≡ a ∷ behind) {hit : Bool} (h : hit ≡ member (f a) (map f behind)) where
      pub distinct_hit : hit ≡ true → false ≡ distinct (map f l)
      unfolding distinct
      distinct_hit t = sym (so_far ∙ ap (λ (m : List A). distinct (map f m)) e ∙ rw (sym h ∙ t))

      pub distinct_miss : hit ≡ false → distinct (map f l) ≡ distinct (map f behind)
      unfolding distinct
      distinct_miss t = so_far ∙ ap (λ (m : List A). distinct (map f m)) e ∙ rw (sym h ∙ t)

    pub distinct_end : length rest ≡ 0 → true ≡ distinct (map f l)
    unfolding distinct
    distinct_end e = sym (so_far ∙ ap (λ (m : List A). distinct (map f m)) (nil_from_length rest e))
