-- What the keys of an option leave of entries that they do not name: all but what was evicted. Assumes nothing.
use mathlib.Core.Path.{◌≡◌, refl, ap, sym, subst, ◌∙◌}
use mathlib.Core.Bool.{Bool, true, false, cond, ◌||◌, or-true, or-false, false≢true}
use mathlib.Core.List.{List, [], ◌∷◌, ◌++◌, foldl}
use Prim.Native.Nat.{◌≤◌, ◌<◌}
use lib.Dec.{ltb}
use lib.ListN.{length, length-map}
use native.Mathlib.Omega.{arith}
use borrow.Author.Tests.{ltb-false, le-leb}
use Rattle.octets.proofs.BoolLaws.{or_left, or_right}
use Rattle.entries.specs.Entries.{Kind, Marked, places, keep, one_of, is_about, is_held, removed, renewed, evicted, roomed, items, inserted, marking, named}
use Rattle.entries.specs.declared.Moments.{Moments}
use Rattle.entries.proofs.EntryLaws.{cond_case}
use Rattle.entries.proofs.SoundLaws.{Lawful, lawful_marking, inserted_one}
use Rattle.rdnss.specs.Claims.{Evicts, Less, none, stays, goes, has_no_room, full_lists, WasEvicted, here, later}
use Rattle.rdnss.proofs.NamingLaws.{items_one, items_keep, items_evicted, removed_keeps, renewed_keeps, made_out, inserted_keeps}

-- one of the list is there still, or went
pub data Still {E : Type 0} (gone : E → Type 0) (test : E → Bool) (m : List E) : Type 0 where
  stood : one_of test m ≡ true → Still gone test m
  went : (e : E) → test e ≡ true → gone e → Still gone test m

pub still_for : {E : Type 0} {g h : E → Type 0} {test : E → Bool} {m : List E} → ((e : E) → g e → h e) → Still g test m → Still h test m
still_for f (stood t) = stood t
still_for f (went e t q) = went e t (f e q)

-- lists of which some went
module _ {E : Type 0} {gone : E → Type 0} where
  pub less_same : (l : List E) → Less gone l l
  less_same [] = none
  less_same (e ∷ l) = stays (less_same l)

  pub less_equal : {l m : List E} → m ≡ l → Less gone l m
  less_equal {l} h = subst (λ (r : List E). Less gone l r) (sym h) (less_same l)

  pub less_then : {l m n : List E} → Less gone l m → Less gone m n → Less gone l n
  less_then none q = q
  less_then (stays p) (stays q) = stays (less_then p q)
  less_then (stays p) (goes g q) = goes g (less_then p q)
  less_then (goes g p) q = goes g (less_then p q)

  still_more : (test : E → Bool) (e : E) (m : List E) → Still gone test m → Still gone test (e ∷ m)
  unfolding one_of
  still_more test e m (stood h) = stood (ap (λ (b : Bool). test e || b) h ∙ or-true (test e))
  still_more test e m (went d t g) = went d t g

  pub still : (test : E → Bool) {l m : List E} → Less gone l m → one_of test l ≡ true → Still gone test m
  unfolding one_of
  still test none h = absurd (false≢true h)
  still test (stays {e} {l} {m} p) h = at (test e) refl h (still test p)
    where
      at : (b : Bool) → test e ≡ b → (b || one_of test l) ≡ true → (one_of test l ≡ true → Still gone test m) → Still gone test (e ∷ m)
      at true t q i = stood (ap (λ (c : Bool). c || one_of test m) t)
      at false t q i = still_more test e m (i q)
  still test (goes {e} {l} {m} g p) h = at (test e) refl h (still test p)
    where
      at : (b : Bool) → test e ≡ b → (b || one_of test l) ≡ true → (one_of test l ≡ true → Still gone test m) → Still gone test m
      at true t q i = went e t g
      at false t q i = i q

  less_middle : (test : E → Bool) (front back : List E) (e : E) → gone e → Less gone (keep test (front ++ (e ∷ back))) (keep test (front ++ back))
  unfolding keep
  less_middle test [] back e g = cond_case (λ (r : List E). Less gone r (keep test back)) (test e) (λ _. goes g (less_same (keep test back))) (λ _. less_same (keep test back))
  less_middle test (d ∷ front) back e g = at (test d) (less_middle test front back e g)
    where
      at : (b : Bool) → Less gone (keep test (front ++ (e ∷ back))) (keep test (front ++ back))
          → Less gone (cond b (d ∷ keep test (front ++ (e ∷ back))) (keep test (front ++ (e ∷ back)))) (cond b (d ∷ keep test (front ++ back)) (keep test (front ++ back)))
      at true p = stays p
      at false p = p

  pub less_evicted : {K : Type 0} (kind : Kind K E) (test : E → Bool) (l : List E) (v : Evicts kind l) → gone v.gone → Less gone (keep test l) (keep test (evicted kind l))
  less_evicted kind test l v g = rw v.left (subst (λ (r : List E). Less gone (keep test r) (keep test (v.front ++ v.back))) (sym v.stood) (less_middle test v.front v.back v.gone g))

-- evictions among more lists
module _ {K E : Type 0} {kind : Kind K E} {e : E} where
  pub evicted_front : {ls : List (List E)} (ms : List (List E)) → WasEvicted kind e ls → WasEvicted kind e (ls ++ ms)
  evicted_front ms (here v h) = here v h
  evicted_front ms (later w) = later (evicted_front ms w)

  pub evicted_back : (ls : List (List E)) {ms : List (List E)} → WasEvicted kind e ms → WasEvicted kind e (ls ++ ms)
  evicted_back [] w = w
  evicted_back (l ∷ ls) w = later (evicted_back ls w)

  pub behind_full : (c : Bool) (l : List E) (ls : List (List E)) → WasEvicted kind e ls → WasEvicted kind e (cond c (l ∷ ls) ls)
  behind_full true l ls q = later q
  behind_full false l ls q = q

pub first_full : {K E : Type 0} {kind : Kind K E} (c : Bool) (l : List E) (ls : List (List E)) → c ≡ true → (v : Evicts kind l) → WasEvicted kind v.gone (cond c (l ∷ ls) ls)
first_full true l ls q v = here v refl
first_full false l ls q v = absurd (false≢true q)

-- the keys of an option, none of which a test's entries are about
module _ {K E : Type 0} (kind : Kind K E) (w : Lawful kind) (takes : (l : List E) → 0 < length l → Evicts kind l) (gone : E → Type 0) (test : E → Bool) where
  same_items : (l m : List (Marked E)) → keep (λ n. test n.item) l ≡ keep (λ n. test n.item) m → keep test (items m) ≡ keep test (items l)
  same_items l m h = items_keep test m ∙ ap items (sym h) ∙ sym (items_keep test l)

  inserted_less : (l : List (Marked E)) (k : K) (x : Moments) → test (kind.entry k x) ≡ false → (places ≤ length l → (v : Evicts kind (items l)) → gone v.gone)
      → Less gone (keep test (items l)) (keep test (items (inserted ((marking kind).entry k x) (roomed (marking kind) l))))
  unfolding roomed
  inserted_less l k x n g =
      cond_case (λ (r : List (Marked E)). Less gone (keep test (items l)) (keep test (items (inserted ((marking kind).entry k x) r)))) (ltb (length l) places)
      (λ _. less_equal (same l))
      (λ t.
      let h : places ≤ length l = ltb-false (length l) places t in
      let v = takes (items l) (omega (arith, h, length-map l (λ m. m.item))) in
      less_then (less_evicted kind test (items l) v (g h v)) (less_equal (same (evicted (marking kind) l) ∙ ap (keep test) (items_evicted kind l))))
    where
      same : (r : List (Marked E)) → keep test (items (inserted ((marking kind).entry k x) r)) ≡ keep test (items r)
      same r = same_items r (inserted ((marking kind).entry k x) r) (inserted_keeps (λ m. test m.item) ((marking kind).entry k x) n r)

  named_less : (b : Bool) (x : Moments) (l : List (Marked E)) (k : K) → ((e : E) → is_about kind k e ≡ true → test e ≡ false) → (has_no_room kind b l k ≡ true → (v : Evicts kind (items l)) → gone v.gone)
      → Less gone (keep test (items l)) (keep test (items (named kind b x l k)))
  unfolding named
  named_less b x l k out g =
      cond_case (λ (r : List (Marked E)). Less gone (keep test (items l)) (keep test (items r))) b
      (λ _. less_equal (same_items l (removed (marking kind) k l) (removed_keeps (marking kind) (lawful_marking kind w) (λ m. test m.item) k (λ m. out m.item) l)))
      (λ f.
      cond_case (λ (r : List (Marked E)). Less gone (keep test (items l)) (keep test (items r))) (is_held (marking kind) k l)
      (λ _. less_equal (same_items l (renewed (marking kind) k x l) (renewed_keeps (marking kind) (lawful_marking kind w) (λ m. test m.item) k (λ m. out m.item) x l)))
      (λ a. inserted_less l k x (made_out kind w test k out x) (λ h. g (rw (f, a, le-leb places (length l) h)))))

  pub keys_less : (b : Bool) (x : Moments) (keys : List K) (l : List (Marked E)) → ((e : E) → one_of (λ k. is_about kind k e) keys ≡ true → test e ≡ false)
      → ((e : E) → WasEvicted kind e (full_lists kind b x l keys) → gone e) → Less gone (keep test (items l)) (keep test (items (foldl (named kind b x) l keys)))
  unfolding one_of full_lists
  keys_less b x [] l out g = less_same (keep test (items l))
  keys_less b x (k ∷ keys) l out g =
      less_then
      (named_less b x l k (λ e t. out e (ap (λ (c : Bool). c || one_of (λ k. is_about kind k e) keys) t)) (λ q v. g v.gone (first_full (has_no_room kind b l k) (items l) (full_lists kind b x (named kind b x l k) keys) q v)))
      (keys_less b x keys (named kind b x l k) (λ e t. out e (ap (λ (c : Bool). is_about kind k e || c) t ∙ or-true (is_about kind k e))) (λ e q. g e (behind_full (has_no_room kind b l k) (items l) (full_lists kind b x (named kind b x l k) keys) q)))

-- a key that is named, not withdrawn, has its entry then, or that was evicted
module _ {K E : Type 0} (kind : Kind K E) (w : Lawful kind) (takes : (l : List E) → 0 < length l → Evicts kind l) (a : K) (x : Moments) (test : E → Bool)
    (about : (e : E) → test e ≡ true → is_about kind a e ≡ true) (made : (k : K) → kind.same k a ≡ true → test (kind.entry k x) ≡ true)
    (kept : (e : E) → is_about kind a e ≡ true → test (kind.renew x e) ≡ true) where
  renewed_has : (k : K) (l : List (Marked E)) → kind.same k a ≡ true → is_held (marking kind) k l ≡ true → one_of (λ m. test m.item) (renewed (marking kind) k x l) ≡ true
  unfolding one_of renewed
  renewed_has k [] s h = absurd (false≢true h)
  renewed_has k (m ∷ l) s h = at (is_about (marking kind) k m) refl h (renewed_has k l s)
    where
      at : (b : Bool) → is_about (marking kind) k m ≡ b → (b || is_held (marking kind) k l) ≡ true → (is_held (marking kind) k l ≡ true → one_of (λ m. test m.item) (renewed (marking kind) k x l) ≡ true)
          → one_of (λ m. test m.item) (cond b ((marking kind).renew x m ∷ l) (m ∷ renewed (marking kind) k x l)) ≡ true
      at true t q i = ap (λ (c : Bool). c || one_of (λ m. test m.item) l) (kept m.item (sym (w.along k a (kind.about m.item) s) ∙ t))
      at false t q i = ap (λ (c : Bool). test m.item || c) (i q) ∙ or-true (test m.item)

  named_has : (k : K) (l : List (Marked E)) → kind.same k a ≡ true → one_of (λ m. test m.item) (named kind false x l k) ≡ true
  unfolding named
  named_has k l s =
      cond_case (λ (r : List (Marked E)). one_of (λ m. test m.item) r ≡ true) (is_held (marking kind) k l)
      (λ h. renewed_has k l s h)
      (λ _. inserted_one (λ m. test m.item) ((marking kind).entry k x) (roomed (marking kind) l) ∙ ap (λ (c : Bool). c || one_of (λ m. test m.item) (roomed (marking kind) l)) (made k s))

  one_keep : (l : List E) → one_of test l ≡ one_of test (keep (is_about kind a) l)
  unfolding one_of keep
  one_keep [] = refl
  one_keep (e ∷ l) = at (is_about kind a e) refl (test e) refl (one_keep l)
    where
      at : (b : Bool) → is_about kind a e ≡ b → (c : Bool) → test e ≡ c → one_of test l ≡ one_of test (keep (is_about kind a) l) → (test e || one_of test l) ≡ one_of test (cond b (e ∷ keep (is_about kind a) l) (keep (is_about kind a) l))
      at true t c q i = ap (λ (d : Bool). test e || d) i
      at false t true q i = absurd (false≢true (sym t ∙ about e q))
      at false t false q i = ap (λ (d : Bool). d || one_of test l) q ∙ i

  pub still_there : {gone : E → Type 0} (l m : List E) → Less gone (keep (is_about kind a) l) (keep (is_about kind a) m) → one_of test l ≡ true → Still gone test m
  still_there {gone} l m p h = back (still test p (sym (one_keep l) ∙ h))
    where
      back : Still gone test (keep (is_about kind a) m) → Still gone test m
      back (stood q) = stood (one_keep m ∙ q)
      back (went e t g) = went e t g

  -- none of these keys is the one
  pub others : (keys : List K) → one_of (λ k. kind.same k a) keys ≡ false → (e : E) → one_of (λ k. is_about kind k e) keys ≡ true → is_about kind a e ≡ false
  unfolding one_of
  others [] n e o = absurd (false≢true o)
  others (k ∷ keys) n e o = at (is_about kind k e) refl o (is_about kind a e) refl (others keys (or_right (kind.same k a) (one_of (λ k. kind.same k a) keys) n) e)
    where
      at : (b : Bool) → is_about kind k e ≡ b → (b || one_of (λ k. is_about kind k e) keys) ≡ true → (c : Bool) → is_about kind a e ≡ c → (one_of (λ k. is_about kind k e) keys ≡ true → is_about kind a e ≡ false) → is_about kind a e ≡ false
      at true t q true s i =
          let z : kind.same k a ≡ true = w.turned k a ∙ (w.along a (kind.about e) k s ∙ w.turned (kind.about e) k ∙ t) in
          absurd (false≢true (sym (or_left (kind.same k a) (one_of (λ k. kind.same k a) keys) n) ∙ z))
      at true t q false s i = s
      at false t q c s i = i q

  pub keys_name : (keys : List K) (l : List (Marked E)) → one_of (λ k. kind.same k a) keys ≡ true
      → Still (λ e. WasEvicted kind e (full_lists kind false x l keys)) test (items (foldl (named kind false x) l keys))
  unfolding one_of full_lists
  keys_name [] l o = absurd (false≢true o)
  keys_name (k ∷ keys) l o = at (one_of (λ k. kind.same k a) keys) refl (keys_name keys (named kind false x l k))
    where
      at : (b : Bool) → one_of (λ k. kind.same k a) keys ≡ b
          → (one_of (λ k. kind.same k a) keys ≡ true → Still (λ e. WasEvicted kind e (full_lists kind false x (named kind false x l k) keys)) test (items (foldl (named kind false x) (named kind false x l k) keys)))
          → Still (λ e. WasEvicted kind e (full_lists kind false x l (k ∷ keys))) test (items (foldl (named kind false x) (named kind false x l k) keys))
      at true q i = still_for (λ e. behind_full (has_no_room kind false l k) (items l) (full_lists kind false x (named kind false x l k) keys)) (i q)
      at false q i =
          let s : kind.same k a ≡ true = sym (ap (λ (c : Bool). kind.same k a || c) q ∙ or-false (kind.same k a)) ∙ o in
          still_for (λ e. behind_full (has_no_room kind false l k) (items l) (full_lists kind false x (named kind false x l k) keys)) (still_there (items (named kind false x l k)) (items (foldl (named kind false x) (named kind false x l k) keys))
          (keys_less kind w takes (λ e. WasEvicted kind e (full_lists kind false x (named kind false x l k) keys)) (is_about kind a) false x keys (named kind false x l k) (others keys q) (λ e g. g))
          (items_one test (named kind false x l k) ∙ named_has k l s))
