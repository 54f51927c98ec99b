-- The rules of a list of entries in order of preference, whatever an entry is about. Document 01, "Server list", and document 02, b).
use Rattle.std.specs.Prelude.{Bool, true, false, not, cond, ◌&&◌, ◌||◌, ℕ, ◌-◌, min, leb, ltb, eqb, length, replicate}
use mathlib.Core.List.{List, [], ◌∷◌, ◌++◌, map, foldl}
use Rattle.clock.specs.Clock.{moment, is_moment, is_expiry, is_past, moment_after, expiry_after}
use Rattle.clock.specs.declared.Moment.{Moment}
use Rattle.clock.specs.declared.Span.{Span}
use Rattle.entries.specs.declared.Moments.{Moments}

-- The list has eight places.
abbrev pub places : ℕ
places = 8

-- An entry has two moments: its expiry, which is a moment or never, and the router moment, up to which the router that named it last says that it is one.

-- The earlier of the two. Never is the highest number there is, so that it comes last.
unfoldable pub earlier : Moments → Moment
earlier m = moment (min m.expiry.0 m.router.0)

-- Refusal 31 looks at both: the router moment can't be never.
unfoldable pub are_moments : Moments → Bool
are_moments m = is_expiry m.expiry && is_moment m.router

-- What an option with a Lifetime gives, in an area of a router with a lifetime.
unfoldable pub moments_after : Moment → Span → Span → Moments
moments_after clock lifetime router = record { expiry = expiry_after clock lifetime; router = moment_after clock router }

-- A Lifetime of 0 withdraws what the option names, and so does a router lifetime of 0.
unfoldable pub withdraws : Span → Span → Bool
withdraws lifetime router = eqb lifetime.0 0 || eqb router.0 0

-- What tells one kind of entries E from another is what they are about, keys K.
pub record Kind (K E : Type 0) : Type 0 where
  -- the entry about a key, with its moments
  pub entry : K → Moments → E
  -- what an entry is about
  pub about : E → K
  -- the moments of an entry
  pub moments : E → Moments
  -- the entry with other moments
  pub renew : Moments → E → E
  -- whether two keys are the same
  pub same : K → K → Bool

module _ {E : Type 0} where
  -- The entries that pass a test, in their order.
  unfoldable pub keep : (E → Bool) → List E → List E
  keep p [] = []
  keep p (e ∷ l) = cond (p e) (e ∷ keep p l) (keep p l)

  -- Whether one of the entries passes a test.
  unfoldable pub one_of : (E → Bool) → List E → Bool
  one_of p [] = false
  one_of p (e ∷ l) = p e || one_of p l

  -- Whether each of the entries passes a test.
  unfoldable pub each : (E → Bool) → List E → Bool
  each p [] = true
  each p (e ∷ l) = p e && each p l

  -- Entries in the eight places; those behind them are blank.
  abbrev pub filled : E → List E → List E
  filled blank l = l ++ replicate (places - length l) blank

module _ {K E : Type 0} (kind : Kind K E) where
  -- When an entry expires: at the earlier of its moments.
  abbrev pub expires : E → Moment
  expires e = earlier (kind.moments e)

  -- Whether an entry has expired at a clock: at its moment it has not.
  abbrev pub is_expired : Moment → E → Bool
  is_expired clock e = is_past (expires e) clock

  -- The entries that are left at a clock: those that have expired go.
  abbrev pub unexpired : Moment → List E → List E
  unexpired clock l = keep (λ e. not (is_expired clock e)) l

  -- Whether an entry expires no later than another.
  abbrev pub no_later : E → E → Bool
  no_later d e = leb (expires d).0 (expires e).0

  -- Whether an entry is about a key.
  abbrev pub is_about : K → E → Bool
  is_about k e = kind.same k (kind.about e)

  -- Whether a key is present.
  abbrev pub is_held : K → List E → Bool
  is_held k l = one_of (is_about k) l

  -- No two entries are about the same key.
  unfoldable pub distinct : List E → Bool
  distinct [] = true
  distinct (e ∷ l) = not (is_held (kind.about e) l) && distinct l

  -- Refusal 31 is given unless no key stands twice and each entry's moments are such.
  abbrev pub is_orderly : List E → Bool
  is_orderly l = distinct l && each (λ e. are_moments (kind.moments e)) l

  -- A key withdrawn: its entry is gone. Where there is none, nothing changes.
  unfoldable pub removed : K → List E → List E
  removed k [] = []
  removed k (e ∷ l) = cond (is_about k e) l (e ∷ removed k l)

  -- A key that is present, with other moments: the place stays.
  unfoldable pub renewed : K → Moments → List E → List E
  renewed k m [] = []
  renewed k m (e ∷ l) = cond (is_about k e) (kind.renew m e ∷ l) (e ∷ renewed k m l)

  -- The entry that expires first goes, of several such the one furthest back: none behind it expires as early.
  unfoldable pub evicted : List E → List E
  evicted [] = []
  evicted (e ∷ l) = cond (one_of (λ d. no_later d e) l) (e ∷ evicted l) l

  -- Room for one more.
  unfoldable pub roomed : List E → List E
  roomed l = cond (ltb (length l) places) l (evicted l)

-- An entry while an option is applied: own says whether this option inserted it.
pub record Marked (E : Type 0) : Type 0 where
  pub item : E
  pub own : Bool

module _ {E : Type 0} where
  abbrev pub unmarked : E → Marked E
  unmarked e = record { item = e; own = false }

  -- The entries without their marks.
  abbrev pub items : List (Marked E) → List E
  items l = map (λ m. m.item) l

  -- The place of an insertion: behind those which this option inserted and that still stand, ahead of all others.
  unfoldable pub inserted : Marked E → List (Marked E) → List (Marked E)
  inserted m [] = m ∷ []
  inserted m (d ∷ l) = cond d.own (d ∷ inserted m l) (m ∷ (d ∷ l))

module _ {K E : Type 0} (kind : Kind K E) where
  -- The same rules with marks: what the option inserts is its own, and a renewal changes no mark.
  abbrev pub marking : Kind K (Marked E)
  marking =
      record {
        entry = λ k m. record { item = kind.entry k m; own = true };
        about = λ e. kind.about e.item;
        moments = λ e. kind.moments e.item;
        renew = λ m e. record { item = kind.renew m e.item; own = e.own };
        same = kind.same;
      }

  -- One key of an option: withdrawn, or else renewed if it is present, or else inserted with the same moments.
  unfoldable pub named : Bool → Moments → List (Marked E) → K → List (Marked E)
  named gone m l k =
      cond gone
      (removed marking k l)
      (cond (is_held marking k l) (renewed marking k m l) (inserted (marking.entry k m) (roomed marking l)))

  -- One option: its keys from the first to the last.
  unfoldable pub named_all : Bool → Moments → List K → List E → List E
  named_all gone m keys l = items (foldl (named gone m) (map unmarked l) keys)
