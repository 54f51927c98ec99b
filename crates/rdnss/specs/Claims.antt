-- What follows from the rules, in words that a reader of document 01, "Server list", and document 02, b), wants. Each claim is proved in proofs/Theorems.antt.
use Rattle.std.specs.Prelude.{Bool, true, false, not, cond, ◌&&◌, ◌≡◌, ℕ, ◌<◌, leb, eqb, length}
use mathlib.Core.List.{List, [], ◌∷◌, ◌++◌, map, foldl}
use Rattle.clock.specs.Clock.{span}
use Rattle.clock.specs.declared.Moment.{Moment}
use Rattle.clock.specs.declared.Span.{Span}
use Rattle.entries.specs.Entries.{Kind, Marked, places, earlier, keep, one_of, each, expires, unexpired, no_later, is_about, is_held, evicted, unmarked, items, marking, named}
use Rattle.entries.specs.declared.Moments.{Moments}
use Rattle.serverlist.specs.Servers.{servers, held, is_sound}
use Rattle.serverlist.specs.declared.Address6.{Address6}
use Rattle.serverlist.specs.declared.Server.{Server}
use Rattle.serverlist.specs.declared.ServerList.{ServerList}
use Rattle.rdnss.specs.Area.{options, named_by}
use Rattle.rdnss.specs.Options.{is_withdrawing, moments_of, option_applied}
use Rattle.rdnss.specs.ServerList.{server_list}

-- An eviction takes one entry and leaves the others as they stood. That entry expires no later than any, and all behind it expire later.
pub record Evicts {K E : Type 0} (kind : Kind K E) (l : List E) : Type 0 where
  pub front : List E
  pub gone : E
  pub back : List E
  pub stood : l ≡ front ++ (gone ∷ back)
  pub left : evicted kind l ≡ front ++ back
  pub first : each (λ e. no_later kind gone e) l ≡ true
  pub furthest : one_of (λ e. no_later kind e gone) back ≡ false

-- So it is with every list that is not empty.
abbrev pub EvictsFirst : Type 0
EvictsFirst = (l : List Server) → 0 < length l → Evicts servers l

-- A list that is sound stays sound, whatever clock, router lifetime and area come in, refused or not.
abbrev pub StaysSound : Type 0
StaysSound = (list : ServerList) (clock : Moment) (router : Span) (area : List ℕ) → is_sound list ≡ true → is_sound (server_list list clock router area).list ≡ true

module _ {E : Type 0} where
  -- From one list to another some entries went, each for a reason; the others are as they were, in their order.
  pub data Less (gone : E → Type 0) : List E → List E → Type 0 where
    none : Less gone [] []
    stays : {e : E} {l m : List E} → Less gone l m → Less gone (e ∷ l) (e ∷ m)
    goes : {e : E} {l m : List E} → gone e → Less gone l m → Less gone (e ∷ l) m

module _ {K E : Type 0} (kind : Kind K E) where
  -- Whether a key is to be inserted and there is no room for it: it is not withdrawn, it is absent, and all places are taken.
  abbrev pub has_no_room : Bool → List (Marked E) → K → Bool
  has_no_room gone l k = not gone && (not (is_held (marking kind) k l) && leb places (length l))

  -- The full lists that had to give one up for a key of an option, in the order of time.
  unfoldable pub full_lists : Bool → Moments → List (Marked E) → List K → List (List E)
  full_lists gone x l [] = []
  full_lists gone x l (k ∷ keys) =
      cond (has_no_room gone l k) (items l ∷ full_lists gone x (named kind gone x l k) keys) (full_lists gone x (named kind gone x l k) keys)

  -- An entry was evicted: it is the one that an eviction takes from one of these lists.
  pub data WasEvicted (e : E) : List (List E) → Type 0 where
    here : {l : List E} {ls : List (List E)} (v : Evicts kind l) → v.gone ≡ e → WasEvicted e (l ∷ ls)
    later : {l : List E} {ls : List (List E)} → WasEvicted e ls → WasEvicted e (l ∷ ls)

  -- One of the entries passes a test, or one that passes it was evicted.
  pub data HeldOrEvicted (test : E → Bool) (l : List E) (full : List (List E)) : Type 0 where
    is_there : one_of test l ≡ true → HeldOrEvicted test l full
    was_there : (e : E) → test e ≡ true → WasEvicted e full → HeldOrEvicted test l full

  -- Whether an entry is about a key and expires at a moment.
  abbrev pub is_until : K → Moment → E → Bool
  is_until a x e = is_about kind a e && eqb (expires kind e).0 x.0

  -- What options name of the entries of this kind.
  module _ (names : List ℕ → List K) where
    -- Whether one of these options names a key.
    abbrev pub is_named : List (List ℕ) → K → Bool
    is_named vs a = one_of (λ v. one_of (λ b. kind.same b a) (names v)) vs

    -- The full lists that had to give one up while options were applied.
    unfoldable pub evictions : Moment → Span → List E → List (List ℕ) → List (List E)
    evictions clock router l [] = []
    evictions clock router l (v ∷ vs) =
        full_lists (is_withdrawing router v) (moments_of clock router v) (map unmarked l) (names v)
        ++ evictions clock router (option_applied clock router kind names l v) vs

-- Whether no option of an area names what an entry is about.
abbrev pub is_unnamed : List ℕ → Server → Bool
is_unnamed area e = not (is_named servers named_by (options 0 area) e.address)

-- The servers after some options, from those before.
abbrev pub servers_behind : Moment → Span → List Server → List (List ℕ) → List Server
servers_behind clock router l vs = foldl (option_applied clock router servers named_by) l vs

-- Of a call that is not refused: the entries of the result that no option names are those of the list that had not expired, as they were and in their order, less those that were evicted.
abbrev pub KeepsUnnamed : Type 0
KeepsUnnamed =
    (list : ServerList) (clock : Moment) (router : Span) (area : List ℕ) → (server_list list clock router area).refusal ≡ 0
    → Less (λ e. WasEvicted servers e (evictions servers named_by clock router (unexpired servers clock (held list)) (options 0 area)))
    (keep (is_unnamed area) (unexpired servers clock (held list)))
    (keep (is_unnamed area) (held (server_list list clock router area).list))

-- Of a call that is not refused: an address whose last naming did not withdraw it stands in the result and expires at the earlier of the moments which that option gives, or the entry that does
-- was evicted, by that option or by one behind it.
abbrev pub NamesLast : Type 0
NamesLast =
    (list : ServerList) (clock : Moment) (router : Span) (area : List ℕ) → (server_list list clock router area).refusal ≡ 0
    → (a : Address6) (before : List (List ℕ)) (last : List ℕ) (after : List (List ℕ)) → options 0 area ≡ before ++ (last ∷ after)
    → is_named servers named_by (last ∷ []) a ≡ true → is_withdrawing router last ≡ false → is_named servers named_by after a ≡ false
    → HeldOrEvicted servers (is_until servers a (earlier (moments_of clock router last)))
    (held (server_list list clock router area).list)
    (evictions servers named_by clock router (servers_behind clock router (unexpired servers clock (held list)) before) (last ∷ after))

-- Of a call that is not refused: an address whose last naming withdrew it, by its Lifetime or the router's, is absent from the result.
abbrev pub WithdrawsLast : Type 0
WithdrawsLast =
    (list : ServerList) (clock : Moment) (router : Span) (area : List ℕ) → (server_list list clock router area).refusal ≡ 0
    → (a : Address6) (before : List (List ℕ)) (last : List ℕ) (after : List (List ℕ)) → options 0 area ≡ before ++ (last ∷ after)
    → is_named servers named_by (last ∷ []) a ≡ true → is_withdrawing router last ≡ true → is_named servers named_by after a ≡ false
    → is_held servers a (held (server_list list clock router area).list) ≡ false

-- Of a call that is not refused, with a router lifetime of 0: what is left is what had not expired and what the area does not name, as it was and in its order.
abbrev pub GoodbyeTakesNamed : Type 0
GoodbyeTakesNamed =
    (list : ServerList) (clock : Moment) (area : List ℕ) → (server_list list clock (span 0) area).refusal ≡ 0
    → held (server_list list clock (span 0) area).list ≡ keep (is_unnamed area) (unexpired servers clock (held list))
