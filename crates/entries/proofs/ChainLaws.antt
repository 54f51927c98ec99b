-- A list of which no entry goes, and the search for the one that is evicted. Assumes nothing.
use mathlib.Core.Path.{◌≡◌, refl}
use mathlib.Core.Bool.{Bool, true, false, not, cond}
use mathlib.Core.List.{List, [], ◌∷◌}
use Prim.Native.Nat.{ℕ, ◌+◌, ◌-◌, ◌≤◌, ◌<◌}
use native.Mathlib.Omega.{arith}
use lib.Dec.{leb}
use lib.ListN.{length, drop, get_or}
use borrow.Author.Tests.{le-leb, lt-leb}
use Rattle.octets.proofs.BoolLaws.{or_left, or_right}
use Rattle.entries.specs.Entries.{Kind, keep, one_of, expires, no_later}
use Rattle.clock.specs.declared.Moment.{Moment}
use Rattle.entries.specs.Places.{earlier_of, evict_place}
use Rattle.entries.specs.declared.eviction.Candidate.{Candidate}
use Rattle.entries.proofs.PlaceLaws.{evict_last, evict_keep, evict_take}

-- where none passes a test, keeping the others keeps all
pub keep_all : {E : Type 0} (p : E → Bool) (l : List E) → one_of p l ≡ false → keep (λ e. not (p e)) l ≡ l
unfolding keep one_of
keep_all p [] h = refl
keep_all p (e ∷ l) h = rw (or_left (p e) (one_of p l) h, keep_all p l (or_right (p e) (one_of p l) h))

-- the candidate stays unless the entry in front of it expires before it
module _ (c : Candidate) (x : Moment) (at : ℕ) where
  pub stays : c.expires.0 ≤ x.0 → earlier_of c x at ≡ c
  stays h = rw (le-leb c.expires.0 x.0 h)

  pub gives_way : x.0 < c.expires.0 → earlier_of c x at ≡ record { at = at; expires = x }
  gives_way h = rw (lt-leb c.expires.0 x.0 h)

-- The search for the entry that is evicted, from the back.
module _ {K E : Type 0} (kind : Kind K E) (l : List E) (z : E) where
  -- the candidate among the entries from place i on
  pub record Foremost (i : ℕ) (c : Candidate) : Type 0 where
    pub place : c.at ≡ i + evict_place kind (drop i l)
    pub expires : c.expires ≡ expires kind (get_or l c.at z)

  pub foremost_last : (i : ℕ) (x : Moment) → length l ≡ i + 1 → x ≡ expires kind (get_or l i z) → Foremost i (record { at = i; expires = x })
  foremost_last i x h y = record { place = omega (arith, evict_last kind l z i h); expires = y }

  pub foremost_more : (i : ℕ) {c : Candidate} (x : Moment) → 0 < i → i < length l → x ≡ expires kind (get_or l (i - 1) z) → Foremost i c → Foremost (i - 1) (earlier_of c x (i - 1))
  foremost_more i {c} x p h q f = go (leb c.expires.0 x.0) refl
    where
      told : (b : Bool) → leb c.expires.0 x.0 ≡ b → no_later kind (get_or l c.at z) (get_or l (i - 1) z) ≡ b
      told b t = rw (← f.expires, ← q) t

      go : (b : Bool) → leb c.expires.0 x.0 ≡ b → Foremost (i - 1) (cond b c (record { at = i - 1; expires = x }))
      go true t = record { place = evict_keep kind l z i c.at p h f.place (told true t); expires = f.expires }
      go false t = record { place = evict_take kind l z i c.at p h f.place (told false t); expires = q }
