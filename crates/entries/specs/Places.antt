-- A list by its places, as the functions have it that work on it, whatever its entries are about. No promise of an exported call cites this.
use Rattle.std.specs.Prelude.{Bool, true, cond, ◌&&◌, List, [], ◌∷◌, ◌++◌, map, ◌≡◌, ℕ, zero, suc, ◌+◌, ◌-◌, ◌≤◌, leb, ltb, length, take, drop}
use Rattle.clock.specs.declared.Moment.{Moment}
use Rattle.entries.specs.Entries.{Kind, Marked, places, filled, unmarked, one_of, no_later}
use Rattle.entries.specs.declared.eviction.Candidate.{Candidate}

module _ {E : Type 0} where
  -- The place of the first entry that passes a test; the length where there is none.
  unfoldable pub place : (E → Bool) → List E → ℕ
  place p [] = 0
  place p (e ∷ l) = cond (p e) 0 (suc (place p l))

  abbrev pub insert_at : ℕ → E → List E → List E
  insert_at n e l = take n l ++ (e ∷ drop n l)

  abbrev pub remove_at : ℕ → List E → List E
  remove_at n l = take n l ++ drop (suc n) l

  abbrev pub replace_at : ℕ → E → List E → List E
  replace_at n e l = take n l ++ (e ∷ drop (suc n) l)

  -- A list of which this option inserted the first n.
  unfoldable pub marked : ℕ → List E → List (Marked E)
  marked zero l = map unmarked l
  marked (suc n) [] = []
  marked (suc n) (e ∷ l) = record { item = e; own = true } ∷ marked n l

-- The place of the entry that is evicted.
unfoldable pub evict_place : {K E : Type 0} → Kind K E → List E → ℕ
evict_place kind [] = 0
evict_place kind (e ∷ l) = cond (one_of (λ d. no_later kind d e) l) (suc (evict_place kind l)) 0

-- The candidate for eviction, or the entry at a place in front of it if that one expires before it.
abbrev pub earlier_of : Candidate → Moment → ℕ → Candidate
earlier_of c x at = cond (leb c.expires.0 x.0) c (record { at = at; expires = x })

-- A struct L that holds a list of entries E: in its places, of which it counts those that hold an entry. R is what else it has.
pub record Holder (E R L : Type 0) : Type 0 where
  pub entries : L → List E
  pub count : L → ℕ
  pub rest : L → R
  -- the struct of these three
  pub made : List E → ℕ → R → L
  -- what stands in a place that holds none
  pub blank : E
  pub entries_made : (l : List E) (n : ℕ) (r : R) → entries (made l n r) ≡ l
  pub count_made : (l : List E) (n : ℕ) (r : R) → count (made l n r) ≡ n
  pub rest_made : (l : List E) (n : ℕ) (r : R) → rest (made l n r) ≡ r
  pub whole : (l : L) → made (entries l) (count l) (rest l) ≡ l

module _ {E R L : Type 0} (h : Holder E R L) where
  -- The entries that are held. What stands in the places behind them is no part of the list.
  abbrev pub held_in : L → List E
  held_in l = take (h.count l) (h.entries l)

  -- The struct with these entries in its places, the others blank.
  abbrev pub packed_in : R → List E → L
  packed_in r l = h.made (filled h.blank l) (length l) r

  -- A struct has its entries in its places, the others blank.
  pub record InPlaces (l : L) : Type 0 where
    pub within : h.count l ≤ places
    pub packs : l ≡ packed_in (h.rest l) (held_in l)

  -- The struct as it is, with what stands at place out gone, and then an entry put in at a place: what stands between the two moves.
  abbrev pub shifted : ℕ → ℕ → E → L → L
  shifted out at e l = h.made (insert_at at e (remove_at out (h.entries l))) (h.count l) (h.rest l)

  -- The same, where both are places of a list; else nothing changes.
  abbrev pub exchanged : ℕ → ℕ → E → L → L
  exchanged out at e l = cond (ltb out places && ltb at places) (shifted out at e l) l

  -- The struct as it is, with another count.
  abbrev pub counting : ℕ → L → L
  counting n l = h.made (h.entries l) n (h.rest l)

  -- The list without the entry at a place, and with a blank right behind the others; where it holds none there, nothing changes.
  abbrev pub without : ℕ → L → L
  without at l = cond (leb (h.count l) places && ltb at (h.count l)) (counting (h.count l - 1) (shifted at (h.count l - 1) h.blank l)) l

  -- The list with an entry put in at a place, those from there on one place further back; where there is no room, or the place is further back than right behind the entries, nothing changes.
  abbrev pub inserted_in : ℕ → E → L → L
  inserted_in at e l = cond (ltb (h.count l) places && leb at (h.count l)) (counting (h.count l + 1) (shifted (h.count l) at e l)) l

  -- What an option makes of a list: its first entries, so many, are the option's own.
  abbrev pub marks : L → ℕ → List (Marked E)
  marks l own = marked own (held_in l)

  pub record Ready (l : L) (own : ℕ) : Type 0 where
    pub list : InPlaces l
    pub among : own ≤ h.count l

  -- The struct holds these entries with these marks, beside the same rest.
  pub record Holds (r : R) (ms : List (Marked E)) (l : L) (own : ℕ) : Type 0 where
    pub ready : Ready l own
    pub rested : h.rest l ≡ r
    pub holds : marks l own ≡ ms
