-- The walk over the places, wherever they stand: what it has found so far, a turn at a free place and at a used one, and its end. Assumes
-- nothing.
use Rattle.std.proofs.Common.{◌≡◌, ℕ, ◌+◌, ◌<◌, ◌≤◌, Bool, true, false, cond, not, ◌&&◌, List, ◌++◌, map, length, get_or, take, drop, set, sym, refl, ap, ◌∙◌, arith, length-set}
use Rattle.std.specs.Prelude.{Option, Some, None}
use mathlib.Core.Bool.{and-true}
use Rattle.octets.specs.Count.{distinct}
use Rattle.zone.specs.declared.entry.Entry.{Entry}
use Rattle.zone.specs.Meaning.{used, key_of, keys, in_order, all_in_order}
use Rattle.zone.specs.Survey.{fingerprint_words, repeated, named, place_from, Surveyed}
use Rattle.zone.proofs.FingerprintLaws.{clear_distinct}
use Rattle.zone.proofs.SurveyLaws.{blank, order_step, place_step, free_step, fingerprint_put, fingerprint_free, named_free, order_free, order_end, place_end, fingerprint_end}

abbrev is_free : Entry → Bool
is_free e = not (used e)

-- The places before i have been passed: so many fingerprints of used ones, whether they are in order, the last of the name, the last free one.
pub record Walk (es : List Entry) (n fingerprints : List ℕ) (count : ℕ) (inorder : Bool) (found free : Option ℕ) (i : ℕ) : Type 0 where
  pub below : i ≤ 64
  pub few : count ≤ i
  pub all : length es ≡ 64
  pub room : length fingerprints ≡ 64
  pub fingerprinted : take count fingerprints ++ map fingerprint_words (keys (drop i es)) ≡ map fingerprint_words (keys es)
  pub ordered : all_in_order es ≡ (inorder && all_in_order (drop i es))
  pub inside : (place : ℕ) → found ≡ Some place → place < 64
  pub wanted : place_from (named n) 0 None es ≡ place_from (named n) i found (drop i es)
  pub spare : place_from is_free 0 None es ≡ place_from is_free i free (drop i es)

pub walk_start : (es : List Entry) (n fingerprints : List ℕ) → length es ≡ 64 → length fingerprints ≡ 64 → Walk es n fingerprints 0 true None None 0
walk_start es n fingerprints l r = record { below = omega arith; few = omega arith; all = l; room = r; fingerprinted = refl; ordered = refl; inside = λ p e. cc; wanted = refl; spare = refl }

module _ (es : List Entry) (n fingerprints : List ℕ) (count : ℕ) (inorder : Bool) (found free : Option ℕ) (i : ℕ) (w : Walk es n fingerprints count inorder found free i) where
  module _ (more : i < 64) where
    there : i < length es
    there = let l = w.all in omega arith

    abbrev e : Entry
    e = get_or es i blank

    pub walk_free : used e ≡ false → Walk es n fingerprints count inorder found (Some i) (i + 1)
    walk_free u = record {
      below = omega arith;
      few = let f = w.few in omega arith;
      all = w.all;
      room = w.room;
      fingerprinted = fingerprint_free es blank i there fingerprint_words (take count fingerprints) u w.fingerprinted;
      ordered = order_step es blank i there _ inorder true inorder (order_free es blank i there u) (sym (and-true inorder)) w.ordered;
      inside = w.inside;
      wanted = w.wanted ∙ place_step es blank i there _ found false found (named_free es blank i there n u) refl;
      spare = w.spare ∙ free_step es blank i there free false (Some i) (sym u) refl;
    }

    pub walk_used : (fingerprint : ℕ) (fine hit both : Bool) (next : Option ℕ) → used e ≡ true → fingerprint ≡ fingerprint_words (key_of e) → fine ≡ cond (used e) (in_order e) true → hit ≡ named n e
        → both ≡ (inorder && fine) → next ≡ cond hit (Some i) found → Walk es n (set fingerprints count fingerprint) (count + 1) both next free (i + 1)
    walk_used fingerprint fine hit both next u p o h b f = record {
      below = omega arith;
      few = let c = w.few in omega arith;
      all = w.all;
      room = length-set fingerprints count fingerprint ∙ w.room;
      fingerprinted = fingerprint_put es blank i there fingerprint_words fingerprints count fingerprint true 1 (let c = w.few in let r = w.room in omega arith) (sym u) (λ t. p) refl w.fingerprinted;
      ordered = order_step es blank i there _ inorder fine both o b w.ordered;
      inside = λ p q. chosen hit f p q;
      wanted = w.wanted ∙ place_step es blank i there _ found hit next h f;
      spare = w.spare ∙ free_step es blank i there free true free (sym u) refl;
    }
      where
        chosen : (b : Bool) → next ≡ cond b (Some i) found → (place : ℕ) → next ≡ Some place → place < 64
        chosen true e place q = let k : i ≡ place = cc in omega arith
        chosen false e place q = w.inside place (sym e ∙ q)

  module _ (over : 64 ≤ i) where
    outside : length es ≤ i
    outside = let l = w.all in omega arith

    -- no two fingerprints equal: no two names equal
    pub walk_clear : repeated (take count fingerprints) ≡ false → distinct (keys es) ≡ true
    walk_clear r = clear_distinct fingerprint_words (keys es) (ap repeated (sym (fingerprint_end es i outside fingerprint_words _ w.fingerprinted)) ∙ r)

    pub walk_end : (names : Bool) → names ≡ distinct (keys es) → Surveyed (record { entries = es }) n (record { inorder = inorder; distinct = names; found = found; free = free })
    walk_end names d = record {
      places = record {
        places_are = w.all;
        order_is = order_end es i outside _ inorder w.ordered;
        found_is = sym (w.wanted ∙ place_end es i outside _ found);
        free_is = sym (w.spare ∙ place_end es i outside _ free);
      };
      distinct_is = d;
    }
