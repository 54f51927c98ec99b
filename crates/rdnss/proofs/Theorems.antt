-- The claims of specs/Claims.antt, proved. Assumes nothing.
use mathlib.Core.Path.{◌≡◌, refl, ap, sym, subst, ◌∙◌}
use mathlib.Core.Bool.{Bool, true, false, not, cond, ◌&&◌, ◌||◌, or-false, or-true, false≢true}
use mathlib.Core.List.{List, [], ◌∷◌, ◌++◌, map, foldl, foldl-append}
use Prim.Native.Nat.{ℕ, ◌≤◌, ◌<◌}
use native.Mathlib.Omega.{arith}
use lib.Dec.{leb, eqb}
use lib.ListN.{length}
use borrow.Author.Tests.{le-leb, eq-eqb, eqb-true, eqb-false}
use Rattle.octets.proofs.BoolLaws.{and_both, and_left, and_right, or_left, or_right}
use Rattle.clock.specs.Clock.{span, is_moment}
use Rattle.clock.specs.declared.Moment.{Moment}
use Rattle.clock.specs.declared.Span.{Span}
use Rattle.entries.specs.Entries.{Kind, places, earlier, are_moments, keep, unmarked, one_of, each, expires, is_expired, unexpired, no_later, is_about, is_held, distinct, is_orderly, evicted, named_all}
use Rattle.entries.proofs.EntryLaws.{one_some, each_cons, itself, before_all, through}
use Rattle.entries.proofs.MomentLaws.{are_moments_after, router_withdraws}
use Rattle.entries.proofs.SoundLaws.{Lawful, part_each, part_distinct, keep_part}
use Rattle.entries.proofs.MarkLaws.{withdrawn_all}
use Rattle.entries.proofs.PackLaws.{packed_held}
use Rattle.entries.proofs.FormLaws.{is_timed, unexpired_fits}
use Rattle.serverlist.specs.Servers.{servers, held, packed, is_sound, is_timely}
use Rattle.serverlist.specs.Places.{server_places}
use Rattle.serverlist.specs.declared.Server.{Server}
use Rattle.serverlist.specs.declared.ServerList.{ServerList}
use Rattle.serverlist.proofs.ServerLaws.{lawful, sound_count, sound_orderly}
use Rattle.rdnss.specs.Area.{options, is_area, lifetime_of, named_by}
use Rattle.rdnss.specs.Options.{is_router_lifetime, is_withdrawing, moments_of, option_applied}
use Rattle.rdnss.specs.ServerList.{servers_after, refusal_of, server_list}
use Rattle.rdnss.specs.Claims.{Evicts, EvictsFirst, StaysSound, is_named, Less, full_lists, WasEvicted, HeldOrEvicted, is_there, was_there, evictions, is_unnamed, servers_behind, KeepsUnnamed, is_until, NamesLast, WithdrawsLast, GoodbyeTakesNamed}
use Rattle.rdnss.proofs.NamingLaws.{all_distinct, all_each, all_stay_absent, unmarked_items, withdrawn_absent}
use Rattle.rdnss.proofs.KeepingLaws.{Still, stood, went, less_same, less_then, evicted_front, evicted_back, keys_less, keys_name, still_there}
use Rattle.rdnss.proofs.GoodbyeLaws.{keep_same, keep_each, keep_twice, neither, keys_keep}
use Rattle.rdnss.proofs.CallLaws.{none_applies, refusing, accepting, option_fits}

-- evictions
module _ {K E : Type 0} (kind : Kind K E) where
  pub evicts_first_of : (l : List E) → 0 < length l → Evicts kind l
  unfolding evicted
  evicts_first_of [] h = absurd (omega arith)
  evicts_first_of (e ∷ l) h = go (one_of (λ d. no_later kind d e) l) refl (evicts_first_of l)
    where
      go : (b : Bool) → one_of (λ d. no_later kind d e) l ≡ b → (0 < length l → Evicts kind l) → Evicts kind (e ∷ l)
      go true t i =
          let r = i (one_some (λ d. no_later kind d e) l t) in
          record {
            front = e ∷ r.front;
            gone = r.gone;
            back = r.back;
            stood = ap (λ (m : List E). e ∷ m) r.stood;
            left = ap (λ (b : Bool). cond b (e ∷ evicted kind l) l) t ∙ ap (λ (m : List E). e ∷ m) r.left;
            first = each_cons (λ d. no_later kind r.gone d) e l (through kind r.gone e l r.first t) r.first;
            furthest = r.furthest;
          }
      go false t i =
          record {
            front = [];
            gone = e;
            back = l;
            stood = refl;
            left = ap (λ (b : Bool). cond b (e ∷ evicted kind l) l) t;
            first = each_cons (λ d. no_later kind e d) e l (itself kind e) (before_all kind e l t);
            furthest = t;
          }

pub evicts_first : EvictsFirst
evicts_first l h = evicts_first_of servers l h

-- Options on a list, whatever its entries are about.
module _ (clock : Moment) (router : Span) {K E : Type 0} (kind : Kind K E) (w : Lawful kind) (names : List ℕ → List K) where
  -- the list after one option, and after some
  abbrev after : List E → List ℕ → List E
  after = option_applied clock router kind names

  abbrev behind : List E → List (List ℕ) → List E
  behind = foldl after

  -- they leave an orderly list orderly, and in its places
  option_orderly : (l : List E) (v : List ℕ) → is_orderly kind l ≡ true → is_orderly kind (after l v) ≡ true
  unfolding option_applied
  option_orderly l v h =
      let x = moments_of clock router v in
      let m = are_moments_after clock (lifetime_of v) router in
      and_both _ _
      (all_distinct kind w (is_withdrawing router v) x (names v) l (and_left (distinct kind l) (each (is_timed kind) l) h))
      (all_each kind (is_timed kind) x (λ k. ap are_moments (w.timed k x) ∙ m) (λ e. ap are_moments (w.retimed x e) ∙ m) (is_withdrawing router v) (names v) l (and_right (distinct kind l) (each (is_timed kind) l) h))

  pub options_orderly : (vs : List (List ℕ)) (l : List E) → is_orderly kind l ≡ true → is_orderly kind (behind l vs) ≡ true
  options_orderly [] l h = h
  options_orderly (v ∷ vs) l h = options_orderly vs (after l v) (option_orderly l v h)

  pub options_fit : (vs : List (List ℕ)) (l : List E) → length l ≤ places → length (behind l vs) ≤ places
  options_fit [] l h = h
  options_fit (v ∷ vs) l h = options_fit vs (after l v) (option_fits clock router kind names l v h)

  pub unexpired_orderly : (l : List E) → is_orderly kind l ≡ true → is_orderly kind (unexpired kind clock l) ≡ true
  unexpired_orderly l h =
      let s = keep_part (λ (e : E). not (is_expired kind clock e)) l in
      and_both _ _
      (part_distinct kind s (and_left (distinct kind l) (each (is_timed kind) l) h))
      (part_each (is_timed kind) s (and_right (distinct kind l) (each (is_timed kind) l) h))

  -- the full lists that gave one up for an option
  abbrev full_of : List E → List ℕ → List (List E)
  full_of l v = full_lists kind (is_withdrawing router v) (moments_of clock router v) (map unmarked l) (names v)

  -- the entries that a test passes, of which no option names one: all but what was evicted
  module _ (gone : E → Type 0) (test : E → Bool) where
    option_less : (l : List E) (v : List ℕ) → ((e : E) → one_of (λ b. is_about kind b e) (names v) ≡ true → test e ≡ false)
        → ((e : E) → WasEvicted kind e (full_of l v) → gone e) → Less gone (keep test l) (keep test (after l v))
    unfolding named_all option_applied
    option_less l v out g =
        subst (λ (m : List E). Less gone (keep test m) (keep test (after l v))) (unmarked_items l)
        (keys_less kind w (evicts_first_of kind) gone test (is_withdrawing router v) (moments_of clock router v) (names v) (map unmarked l) out g)

    pub options_less : (vs : List (List ℕ)) (l : List E) → ((e : E) → is_named kind names vs (kind.about e) ≡ true → test e ≡ false)
        → ((e : E) → WasEvicted kind e (evictions kind names clock router l vs) → gone e) → Less gone (keep test l) (keep test (behind l vs))
    unfolding one_of evictions
    options_less [] l out g = less_same (keep test l)
    options_less (v ∷ vs) l out g =
        less_then
        (option_less l v (λ e t. out e (ap (λ (c : Bool). c || is_named kind names vs (kind.about e)) t)) (λ e q. g e (evicted_front (evictions kind names clock router (after l v) vs) q)))
        (options_less vs (after l v)
        (λ e t. out e (ap (λ (c : Bool). one_of (λ b. is_about kind b e) (names v) || c) t ∙ or-true (one_of (λ b. is_about kind b e) (names v))))
        (λ e q. g e (evicted_back (full_of l v) q)))

  -- a key that was named last
  module _ (a : K) where
    -- the moment at which an entry expires that an option gave its moments
    abbrev moment : List ℕ → Moment
    moment v = earlier (moments_of clock router v)

    made_until : (v : List ℕ) (k : K) → kind.same k a ≡ true → is_until kind a (moment v) (kind.entry k (moments_of clock router v)) ≡ true
    made_until v k q =
        let x = moments_of clock router v in
        and_both _ _ (ap (kind.same a) (w.made k x) ∙ w.turned a k ∙ q) (eq-eqb (expires kind (kind.entry k x)).0 (moment v).0 (ap (λ m. (earlier m).0) (w.timed k x)))

    renewed_until : (v : List ℕ) (e : E) → is_about kind a e ≡ true → is_until kind a (moment v) (kind.renew (moments_of clock router v) e) ≡ true
    renewed_until v e q =
        let x = moments_of clock router v in
        and_both _ _ (ap (kind.same a) (w.kept x e) ∙ q) (eq-eqb (expires kind (kind.renew x e)).0 (moment v).0 (ap (λ m. (earlier m).0) (w.retimed x e)))

    until_about : (v : List ℕ) (e : E) → is_until kind a (moment v) e ≡ true → is_about kind a e ≡ true
    until_about v e q = and_left (is_about kind a e) (eqb (expires kind e).0 (moment v).0) q

    names_it : (v : List ℕ) → is_named kind names (v ∷ []) a ≡ true → one_of (λ b. kind.same b a) (names v) ≡ true
    unfolding one_of
    names_it v n = sym (or-false (one_of (λ b. kind.same b a) (names v))) ∙ n

    option_names : (l : List E) (v : List ℕ) → is_named kind names (v ∷ []) a ≡ true → is_withdrawing router v ≡ false
        → Still (λ e. WasEvicted kind e (full_of l v)) (is_until kind a (moment v)) (after l v)
    unfolding named_all option_applied
    option_names l v n z =
        rw z (keys_name kind w (evicts_first_of kind) a (moments_of clock router v) (is_until kind a (moment v)) (until_about v) (made_until v) (renewed_until v) (names v) (map unmarked l) (names_it v n))

    -- who is named by the same key
    keys_alike : (b : K) → kind.same a b ≡ true → (keys : List K) → one_of (λ k. kind.same k a) keys ≡ one_of (λ k. kind.same k b) keys
    unfolding one_of
    keys_alike b s [] = refl
    keys_alike b s (k ∷ keys) =
        let q : kind.same k a ≡ kind.same k b = w.turned k a ∙ w.along a b k s ∙ w.turned b k in
        rw (q, keys_alike b s keys)

    named_alike : (b : K) → kind.same a b ≡ true → (vs : List (List ℕ)) → is_named kind names vs a ≡ is_named kind names vs b
    unfolding one_of
    named_alike b s [] = refl
    named_alike b s (v ∷ vs) = rw (keys_alike b s (names v), named_alike b s vs)

    unnamed_other : (vs : List (List ℕ)) → is_named kind names vs a ≡ false → (e : E) → is_named kind names vs (kind.about e) ≡ true → is_about kind a e ≡ false
    unnamed_other vs n e o = go (is_about kind a e) refl
      where
        go : (b : Bool) → is_about kind a e ≡ b → is_about kind a e ≡ false
        go true t = absurd (false≢true (sym n ∙ named_alike (kind.about e) t vs ∙ o))
        go false t = t

    -- from the option that named it to the end
    pub named_to_end : (l : List E) (v : List ℕ) (vs : List (List ℕ)) → is_named kind names (v ∷ []) a ≡ true → is_withdrawing router v ≡ false → is_named kind names vs a ≡ false
        → HeldOrEvicted kind (is_until kind a (moment v)) (behind (after l v) vs) (evictions kind names clock router l (v ∷ vs))
    unfolding evictions
    named_to_end l v vs n z f = go (option_names l v n z)
      where
        go : Still (λ e. WasEvicted kind e (full_of l v)) (is_until kind a (moment v)) (after l v) → HeldOrEvicted kind (is_until kind a (moment v)) (behind (after l v) vs) (evictions kind names clock router l (v ∷ vs))
        go (went e t g) = was_there e t (evicted_front (evictions kind names clock router (after l v) vs) g)
        go (stood h) = end (still_there kind w (evicts_first_of kind) a (moments_of clock router v) (is_until kind a (moment v)) (until_about v) (made_until v) (renewed_until v)
            (after l v) (behind (after l v) vs)
            (options_less (λ e. WasEvicted kind e (evictions kind names clock router (after l v) vs)) (is_about kind a) vs (after l v) (unnamed_other vs f) (λ e q. q)) h)
          where
            end : Still (λ e. WasEvicted kind e (evictions kind names clock router (after l v) vs)) (is_until kind a (moment v)) (behind (after l v) vs)
                → HeldOrEvicted kind (is_until kind a (moment v)) (behind (after l v) vs) (evictions kind names clock router l (v ∷ vs))
            end (stood q) = is_there q
            end (went e t g) = was_there e t (evicted_back (full_of l v) g)

    -- a key that was withdrawn last
    pub stay_absent : (vs : List (List ℕ)) (l : List E) → is_named kind names vs a ≡ false → is_held kind a l ≡ false → is_held kind a (behind l vs) ≡ false
    unfolding one_of option_applied
    stay_absent [] l n h = h
    stay_absent (v ∷ vs) l n h =
        stay_absent vs (after l v) (or_right (one_of (λ b. kind.same b a) (names v)) (is_named kind names vs a) n)
        (all_stay_absent kind w a (is_withdrawing router v) (moments_of clock router v) (names v) l (or_left (one_of (λ b. kind.same b a) (names v)) (is_named kind names vs a) n) h)

    pub withdrawn_last : (l : List E) (v : List ℕ) → distinct kind l ≡ true → is_named kind names (v ∷ []) a ≡ true → is_withdrawing router v ≡ true → is_held kind a (after l v) ≡ false
    unfolding option_applied
    withdrawn_last l v d n z = rw (z, withdrawn_all kind (moments_of clock router v) (names v) l) (withdrawn_absent kind w a (names v) l (names_it v n) d)

  -- options of a router whose lifetime is 0
  pub goodbye : router.0 ≡ 0 → (vs : List (List ℕ)) (l : List E) → distinct kind l ≡ true → behind l vs ≡ keep (λ e. not (is_named kind names vs (kind.about e))) l
  unfolding one_of option_applied
  goodbye z [] l d = sym (keep_each (λ e. true) (λ e. refl) l)
  goodbye z (v ∷ vs) l d =
      let p : E → Bool = λ e. not (one_of (λ k. is_about kind k e) (names v)) in
      let q : E → Bool = λ e. not (is_named kind names vs (kind.about e)) in
      let s : after l v ≡ keep p l =
      ap (λ (b : Bool). named_all kind b (moments_of clock router v) (names v) l) (router_withdraws (lifetime_of v) router z) ∙ withdrawn_all kind (moments_of clock router v) (names v) l ∙ keys_keep kind w (names v) l d in
      ap (λ (t : List E). behind t vs) s
      ∙ goodbye z vs (keep p l) (part_distinct kind (keep_part p l) d)
      ∙ keep_twice p q l
      ∙ keep_same (λ e. p e && q e) (λ e. not (is_named kind names (v ∷ vs) (kind.about e))) (λ e. neither (one_of (λ k. is_about kind k e) (names v)) (is_named kind names vs (kind.about e))) l

-- soundness of the call
packed_sound : (clock : Moment) (l : List Server) → is_moment clock ≡ true → length l ≤ places → is_orderly servers l ≡ true → is_sound (packed clock l) ≡ true
unfolding is_sound
packed_sound clock l m n h = and_both _ _ (and_both _ _ (le-leb (length l) places n) m) (ap (is_orderly servers) (packed_held server_places clock l) ∙ h)

timely_moment : (list : ServerList) (clock : Moment) → is_timely list clock ≡ true → is_moment clock ≡ true
unfolding is_timely
timely_moment list clock h = and_left (is_moment clock) (leb list.clock.0 clock.0) h

-- a call that is not refused
pub record Accepted (list : ServerList) (clock : Moment) (router : Span) (area : List ℕ) : Type 0 where
  pub sound : is_sound list ≡ true
  pub timely : is_timely list clock ≡ true
  pub gives : (server_list list clock router area).list ≡ packed clock (servers_after clock router area (held list))

accepted : (list : ServerList) (clock : Moment) (router : Span) (area : List ℕ) → refusal_of list clock router area ≡ 0 → Accepted list clock router area
accepted list clock router area z =
    let u = none_applies (is_sound list) (is_timely list clock) (is_router_lifetime router) (is_area area) z in
    record { sound = u.sound; timely = u.timely; gives = ap (λ x. x.list) (sym (accepting list clock router area z)) }

-- the call by its refusal
module _ (list : ServerList) (clock : Moment) (router : Span) (area : List ℕ) where
  pub either : {C : Type 0} → (Accepted list clock router area → C) → ((refusal_of list clock router area ≡ 0 → ⊥) → C) → C
  either {C} f g = go (eqb (refusal_of list clock router area) 0) refl
    where
      go : (b : Bool) → eqb (refusal_of list clock router area) 0 ≡ b → C
      go true q = f (accepted list clock router area (eqb-true (refusal_of list clock router area) 0 q))
      go false q = g (eqb-false (refusal_of list clock router area) 0 q)

pub stays_sound : StaysSound
stays_sound list clock router area s =
    either list clock router area
    (λ a.
    ap is_sound a.gives
    ∙ packed_sound clock (servers_after clock router area (held list)) (timely_moment list clock a.timely)
    (options_fit clock router servers lawful named_by (options 0 area) (unexpired servers clock (held list)) (unexpired_fits servers server_places list clock (sound_count list s)))
    (options_orderly clock router servers lawful named_by (options 0 area) (unexpired servers clock (held list)) (unexpired_orderly clock router servers lawful named_by (held list) (sound_orderly list s))))
    (λ n. ap (λ x. is_sound x.list) (sym (refusing list clock router area n)) ∙ s)

pub unrefused : (list : ServerList) (clock : Moment) (router : Span) (area : List ℕ) → (server_list list clock router area).refusal ≡ 0 → Accepted list clock router area
unrefused list clock router area h = either list clock router area (λ a. a) (λ n. absurd (n (ap (λ x. x.refusal) (refusing list clock router area n) ∙ h)))

-- the servers that such a call leaves
pub leaves : {list : ServerList} {clock : Moment} {router : Span} {area : List ℕ} → Accepted list clock router area → held (server_list list clock router area).list ≡ servers_after clock router area (held list)
leaves {list} {clock} {router} {area} a = ap held a.gives ∙ packed_held server_places clock (servers_after clock router area (held list))

pub keeps_unnamed : KeepsUnnamed
keeps_unnamed list clock router area h =
    let u = unexpired servers clock (held list) in
    let gone : Server → Type 0 = λ e. WasEvicted servers e (evictions servers named_by clock router u (options 0 area)) in
    subst (λ (r : List Server). Less gone (keep (is_unnamed area) u) (keep (is_unnamed area) r)) (sym (leaves (unrefused list clock router area h)))
    (options_less clock router servers lawful named_by gone (is_unnamed area) (options 0 area) u (λ e t. ap not t) (λ e w. w))

-- the servers after an area, by the option that names an address last
after_last : (list : ServerList) (clock : Moment) (router : Span) (area : List ℕ) → Accepted list clock router area → (before : List (List ℕ)) (last : List ℕ) (after : List (List ℕ)) → options 0 area ≡ before ++ (last ∷ after)
    → held (server_list list clock router area).list ≡ servers_behind clock router (option_applied clock router servers named_by (servers_behind clock router (unexpired servers clock (held list)) before) last) after
after_last list clock router area r before last after e =
    let u = unexpired servers clock (held list) in
    leaves r ∙ ap (servers_behind clock router u) e ∙ foldl-append (option_applied clock router servers named_by) u before (last ∷ after)

pub names_last : NamesLast
names_last list clock router area h a before last after e n z f =
    let m = servers_behind clock router (unexpired servers clock (held list)) before in
    subst (λ (r : List Server). HeldOrEvicted servers (is_until servers a (earlier (moments_of clock router last))) r (evictions servers named_by clock router m (last ∷ after)))
    (sym (after_last list clock router area (unrefused list clock router area h) before last after e))
    (named_to_end clock router servers lawful named_by a m last after n z f)

pub withdraws_last : WithdrawsLast
withdraws_last list clock router area h a before last after e n z f =
    let r = unrefused list clock router area h in
    let u = unexpired servers clock (held list) in
    let m = servers_behind clock router u before in
    let o : is_orderly servers m ≡ true = options_orderly clock router servers lawful named_by before u (unexpired_orderly clock router servers lawful named_by (held list) (sound_orderly list r.sound)) in
    ap (is_held servers a) (after_last list clock router area r before last after e)
    ∙ stay_absent clock router servers lawful named_by a after (option_applied clock router servers named_by m last) f
    (withdrawn_last clock router servers lawful named_by a m last (and_left (distinct servers m) (each (is_timed servers) m) o) n z)

pub goodbye_takes_named : GoodbyeTakesNamed
goodbye_takes_named list clock area h =
    let r = unrefused list clock (span 0) area h in
    let u = unexpired servers clock (held list) in
    let o : is_orderly servers u ≡ true = unexpired_orderly clock (span 0) servers lawful named_by (held list) (sound_orderly list r.sound) in
    leaves r ∙ goodbye clock (span 0) servers lawful named_by refl (options 0 area) u (and_left (distinct servers u) (each (is_timed servers) u) o)
