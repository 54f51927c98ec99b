-- What options that withdraw leave of a list: the entries that they do not name. Assumes nothing.
use mathlib.Core.Path.{◌≡◌, refl, ap, sym, ◌∙◌}
use mathlib.Core.Bool.{Bool, true, false, not, cond, ◌&&◌, ◌||◌}
use mathlib.Core.List.{List, [], ◌∷◌, foldl}
use borrow.Author.Tests.{not-true}
use Rattle.octets.proofs.BoolLaws.{and_left, and_right}
use Rattle.entries.specs.Entries.{Kind, keep, one_of, is_about, is_held, distinct, removed}
use Rattle.entries.proofs.ChainLaws.{keep_all}
use Rattle.entries.proofs.SoundLaws.{Lawful, part_distinct, keep_part}
use Rattle.rdnss.proofs.NamingLaws.{held_alike}

module _ {E : Type 0} where
  pub keep_same : (p q : E → Bool) → ((e : E) → p e ≡ q e) → (l : List E) → keep p l ≡ keep q l
  unfolding keep
  keep_same p q f [] = refl
  keep_same p q f (e ∷ l) = rw (f e, keep_same p q f l)

  pub keep_each : (p : E → Bool) → ((e : E) → p e ≡ true) → (l : List E) → keep p l ≡ l
  unfolding keep
  keep_each p f [] = refl
  keep_each p f (e ∷ l) = rw (f e, keep_each p f l)

  -- what passes one test and then another
  pub keep_twice : (p q : E → Bool) (l : List E) → keep q (keep p l) ≡ keep (λ e. p e && q e) l
  unfolding keep
  keep_twice p q [] = refl
  keep_twice p q (e ∷ l) = go (p e) (keep_twice p q l)
    where
      go : (b : Bool) → keep q (keep p l) ≡ keep (λ e. p e && q e) l
          → keep q (cond b (e ∷ keep p l) (keep p l)) ≡ cond (b && q e) (e ∷ keep (λ e. p e && q e) l) (keep (λ e. p e && q e) l)
      go true h = rw h
      go false h = h

pub neither : (a b : Bool) → (not a && not b) ≡ not (a || b)
neither true b = refl
neither false b = refl

module _ {K E : Type 0} (kind : Kind K E) (w : Lawful kind) where
  -- one key withdrawn: no other entry is about it
  removed_keep : (k : K) (l : List E) → distinct kind l ≡ true → removed kind k l ≡ keep (λ e. not (is_about kind k e)) l
  unfolding removed keep distinct
  removed_keep k [] d = refl
  removed_keep k (e ∷ l) d = go (is_about kind k e) refl (removed_keep k l (and_right (not (is_held kind (kind.about e) l)) (distinct kind l) d))
    where
      go : (b : Bool) → is_about kind k e ≡ b → removed kind k l ≡ keep (λ e. not (is_about kind k e)) l
          → cond b l (e ∷ removed kind k l) ≡ cond (not b) (e ∷ keep (λ e. not (is_about kind k e)) l) (keep (λ e. not (is_about kind k e)) l)
      go true t i = sym (keep_all (is_about kind k) l (held_alike kind w k (kind.about e) t l ∙ not-true _ (and_left (not (is_held kind (kind.about e) l)) (distinct kind l) d)))
      go false t i = ap (λ (r : List E). e ∷ r) i

  -- the keys of an option withdrawn
  pub keys_keep : (keys : List K) (l : List E) → distinct kind l ≡ true → foldl (λ t k. removed kind k t) l keys ≡ keep (λ e. not (one_of (λ k. is_about kind k e) keys)) l
  unfolding one_of
  keys_keep [] l d = sym (keep_each (λ e. true) (λ e. refl) l)
  keys_keep (k ∷ keys) l d =
      let r = removed_keep k l d in
      ap (λ (t : List E). foldl (λ t k. removed kind k t) t keys) r
      ∙ keys_keep keys (keep (λ e. not (is_about kind k e)) l) (part_distinct kind (keep_part (λ e. not (is_about kind k e)) l) d)
      ∙ keep_twice (λ e. not (is_about kind k e)) (λ e. not (one_of (λ k. is_about kind k e) keys)) l
      ∙ keep_same (λ e. not (is_about kind k e) && not (one_of (λ k. is_about kind k e) keys)) (λ e. not (is_about kind k e || one_of (λ k. is_about kind k e) keys)) (λ e. neither (is_about kind k e) (one_of (λ k. is_about kind k e) keys)) l
