-- From a survey and the place found to what the rules say: each way out of a decision. Assumes nothing.
use mathlib.Core.Path.{◌≡◌, refl, sym, ◌∙◌, ap}
use mathlib.Core.Bool.{Bool, true, false, cond, not, true≢false}
use mathlib.Core.Option.{Option, none, some}
use Rattle.std.specs.Prelude.{Option as Maybe, Some, None as Nothing}
use Rattle.std.specs.Option.{is_some}
use Prim.Native.Nat.{ℕ, ◌≤◌, ◌<◌}
use native.Mathlib.Omega.{arith}
use lib.Dec.{eqb}
use lib.ListN.{get_or}
use Rattle.octets.specs.Count.{Octets}
use Rattle.dname.specs.Name.{key, name_of}
use Rattle.dname.specs.declared.name.Name.{Name}
use Rattle.zone.specs.declared.entry.Entry.{Entry}
use Rattle.zone.specs.declared.entry.Records.{Records}
use Rattle.zone.specs.declared.entry.Dhcid.{Dhcid}
use Rattle.zone.specs.declared.entry.Address.{Address}
use Rattle.zone.specs.declared.Zone.{Zone}
use Rattle.zone.specs.declared.survey.Survey.{Survey}
use Rattle.request.specs.declared.answer.Answer.{Answer as Said}
use Rattle.request.specs.declared.answer.Answer.TheVariants.{Success, NxDomain, YxDomain, YxRrset, NxRrset, NoRoom}
use Rattle.request.specs.declared.decide.Change.TheVariants.{Stays, Writes}
use Rattle.request.specs.declared.decide.Standing.{Standing}
use Rattle.request.specs.declared.decide.Update.{Update as Sent}
use Rattle.update.specs.Rules as rules
use Rattle.update.specs.Rules.{Host, GoodHost, Update, Answer, success, YXDOMAIN, NXDOMAIN, YXRRSET, NXRRSET, no_room, Outcome, says, held_by, empty, new_host, left, fits, request_a, request_b, remove_address, remove_name}
use Rattle.zone.specs.Meaning.{used, in_order, formed}
use Rattle.update.specs.Meaning.{host_of, zone_of, family_of, policy_of, update_of}
use Rattle.request.specs.Promise.{number_of}
use Rattle.request.specs.Answers.{means}
use Rattle.zone.specs.Survey.{Found, named, place_from, place_of}
use Rattle.request.specs.Inner.{update_at, written, Spells, Decided, Adds, place_at, Seen, Decides, Stands, Makes, Fresh, AlreadyAdded, HasAddress, HasRoom, Joined, Parted}
use Rattle.zone.proofs.SurveyLaws.{blank}
use Rattle.update.proofs.ZoneLaws.{put, address, some≢none, put_same, put_stood, A-new, A-full, A-there, B-absent, B-other, B-full, B-done, remove_address_absent, remove_address_other, remove_address_own, remove_name_absent, remove_name_other, remove_name_kept, remove_name_gone}
use Rattle.request.proofs.HostLaws.{about}
use Rattle.request.proofs.StayLaws.{removed_same, removed_other, added_same, added_other}
use Rattle.request.proofs.PlaceLaws.{good_host, found_below, found_order, found_host, found_changed, found_freed, not_found, free_below, free_written, free_room, no_room_lem}

-- ---- nothing is written, or one place

module _ {n : Octets} (z : Zone) (right : Outcome) (answer place : ℕ) (e : Entry) where
  stay : (a : Answer) → right ≡ says a (zone_of z) → answer ≡ number_of a → place ≡ 64 → Decided n z right answer place e
  stay a r p q = record {
    answer_is = p ∙ ap (λ (o : Outcome). number_of o.answer) (sym r);
    stays = λ h. ap (λ (o : Outcome). o.zone) (sym r);
    writes = λ h. absurd (omega arith);
    needed = λ h. absurd (omega arith);
  }

  write : (y : rules.Zone) → right ≡ says success y → answer ≡ number_of success → place < 64 → (formed (written z place e) ≡ true) × (zone_of (written z place e) ≡ y) × Spells n z (written z place e) → ¬ (y ≡ zone_of z) → Decided n z right answer place e
  write y r p q w d = record {
    answer_is = p ∙ ap (λ (o : Outcome). number_of o.answer) (sym r);
    stays = λ h. absurd (h q);
    writes = λ h. (w.0, w.1 ∙ ap (λ (o : Outcome). o.zone) (sym r), w.2);
    needed = λ h k. d (ap (λ (o : Outcome). o.zone) (sym r) ∙ k);
  }

-- ---- the four requests

module _ (sent : Sent) where
  abbrev d : Dhcid
  d = sent.dhcid

  abbrev family : ℕ
  family = sent.family

  abbrev a : Address
  a = sent.address

  abbrev u : Name → Update
  u = update_at sent

  -- what stands at the name
  module _ (z : Zone) (n : Name) (g : formed z ≡ true) where
    absent : place_from (named (name_of n)) 0 Nothing z.entries ≡ Nothing → (zone_of z).at (key (u n).name) ≡ none
    unfolding update_of
    absent w = not_found z g (name_of n) w

    stood : (b : Entry) (p : ℕ) → place_from (named (name_of n)) 0 Nothing z.entries ≡ Some p → (zone_of z).at (key (u n).name) ≡ some (host_of (get_or z.entries p b))
    unfolding update_of
    stood b p w = found_host z g (name_of n) b p w

  -- ---- request A

  module _ (s : Survey) where
    abbrev asks_a : Name → rules.Zone → Outcome
    asks_a n = request_a (u n)

    pub a_there : is_some s.found ≡ true → Adds asks_a s (Stays YxDomain)
    a_there h = go s.found refl h
      where
        go : (o : Maybe ℕ) → s.found ≡ o → is_some o ≡ true → Adds asks_a s (Stays YxDomain)
        go Nothing q t = absurd (true≢false (sym t))
        go (Some p) q t = record { adds = λ z n g m v e. stay z _ _ _ e YXDOMAIN (A-there (u n) (zone_of z) _ (stood z n g blank p (sym v.found_is ∙ q))) refl refl }

    module _ (b : is_some s.found ≡ false) where
      h : s.found ≡ Nothing
      h = go s.found b
        where
          go : (o : Maybe ℕ) → is_some o ≡ false → o ≡ Nothing
          go Nothing q = refl
          go (Some p) q = absurd (true≢false q)

      gone : {z : Zone} (n : Name) → formed z ≡ true → Found z (name_of n) s → (zone_of z).at (key (u n).name) ≡ none
      gone {z} n g v = absent z n g (sym v.found_is ∙ h)

      pub a_full : s.free ≡ Nothing → Adds asks_a s (Stays NoRoom)
      a_full k = record {
        adds = λ z n g m v e. stay z _ _ _ e no_room (A-full (u n) (zone_of z) (gone n g v) (no_room_lem z g (sym v.free_is ∙ k))) refl refl;
      }

      pub a_new : (p : ℕ) (r : Records) → s.free ≡ Some p → Fresh d family a r → Adds asks_a s (Writes p r)
      unfolding number_of update_of
      a_new p r k f = record { adds = λ z n g m v. (k, new z n g v (f.stands n m)) }
        where
          new : (z : Zone) (n : Name) → formed z ≡ true → Found z (name_of n) s → Stands n 2 (new_host (u n)) r → Decided (name_of n) z (asks_a n (zone_of z)) 0 p (place_of n r)
          new z n g v t =
              let w : place_from (λ (x : Entry). not (used x)) 0 Nothing z.entries ≡ Some p = sym v.free_is ∙ k in
              let used_r : used (place_of n r) ≡ true = unfold used in rw t.kind_is refl in
              let name_r : name_of n ≡ (u n).name = refl in
              let room = free_room z g (u n).name blank p w (gone n g v) (place_of n r) used_r name_r t.order_is in
              let y = free_written z g (u n).name blank p w (gone n g v) (place_of n r) used_r name_r t.order_is in
              let low : p < 64 = free_below z g (u n).name blank p w in
              write z _ _ _ _ (put (u n).name (some (new_host (u n))) (zone_of z)) (A-new (u n) (zone_of z) (gone n g v) room) refl low
              (y.0, y.1 ∙ ap (λ (x : Host). put (u n).name (some x) (zone_of z)) t.host_is, y.2)
              (λ q. some≢none (put_stood (u n).name (some (new_host (u n))) (zone_of z) q ∙ gone n g v))

  -- ---- the others, where nothing stands at the name

  module _ (request : Name → rules.Zone → Outcome) (o : Maybe Standing) where
    -- nothing is written
    only : (x : Said) → ((z : Zone) (n : Name) (b : Entry) → Seen z n b o → request n (zone_of z) ≡ says (means x) (zone_of z)) → Decides request o (Stays x)
    only x f = record { decides = λ z n b t y. stay z _ _ _ y (means x) (f z n b t) refl refl }

  module _ (o : Maybe Standing) (h : o ≡ Nothing) where
    nothing_at : {z : Zone} {n : Name} {b : Entry} → Seen z n b o → (zone_of z).at (key (u n).name) ≡ none
    nothing_at {z} {n} t = absent z n t.form (sym t.found_is ∙ ap place_at h)

    pub b_absent : (p : ℕ) → Decides (λ n. request_b (policy_of p) (u n)) o (Stays NxDomain)
    b_absent p = only (λ n. request_b (policy_of p) (u n)) o NxDomain (λ z n b t. B-absent (u n) (zone_of z) (policy_of p) (nothing_at t))

    pub remove_absent : Decides (λ n. remove_address (u n)) o (Stays NxRrset)
    remove_absent = only (λ n. remove_address (u n)) o NxRrset (λ z n b t. remove_address_absent (u n) (zone_of z) (nothing_at t))

    pub name_absent : Decides (λ n. remove_name (u n)) o (Stays NxRrset)
    name_absent = only (λ n. remove_name (u n)) o NxRrset (λ z n b t. remove_name_absent (u n) (zone_of z) (nothing_at t))

  -- ---- the others, on what stands there

  module _ (there : Standing) (s : Maybe Standing) (h : s ≡ Some there) where
    abbrev p : ℕ
    p = there.place

    abbrev e : Records
    e = there.records

    abbrev Held : Bool → Type 0
    Held b = held_by d.octets (cond (eqb e.kind 1) none (some e.dhcid.octets)) ≡ b

    module _ {z : Zone} {n : Name} {b : Entry} (t : Seen z n b s) where
      abbrev it : Entry
      it = get_or z.entries p b

      abbrev old : Entry
      old = place_of it.name e

      held : (x : Bool) → Held x → held_by (u n).dhcid (host_of old).owner ≡ x
      held x o = unfold update_of host_of in o

      at : place_from (named (name_of n)) 0 Nothing z.entries ≡ Some p
      at = sym t.found_is ∙ ap place_at h

      whole : old ≡ it
      whole = ap (place_of it.name) (t.records_is _ h)

      present : (zone_of z).at (key (u n).name) ≡ some (host_of old)
      present = stood z n t.form b p at ∙ ap (λ (x : Entry). some (host_of x)) (sym whole)

      order : in_order old ≡ true
      order = ap in_order whole ∙ found_order z t.form (name_of n) b p at

      good : GoodHost (host_of old)
      good = good_host old order

      -- the zone is another exactly when what is written at the name is
      same : (x : Host) → x ≡ host_of old → put (u n).name (some x) (zone_of z) ≡ zone_of z
      same x q = put_same (u n).name x (zone_of z) (present ∙ ap some (sym q))

      other : (x : Host) → ¬ (x ≡ host_of old) → ¬ (put (u n).name (some x) (zone_of z) ≡ zone_of z)
      other x q k = q (inside (put_stood (u n).name (some x) (zone_of z) k ∙ present))
        where
          inside : ◌≡◌ {A = Option Host} (some x) (some (host_of old)) → x ≡ host_of old
          inside q = cc

      rewritten : (f : Records) (x : Host) → Stands it.name e.kind x f
          → (formed (written z p (place_of it.name f)) ≡ true) × (zone_of (written z p (place_of it.name f)) ≡ put (u n).name (some x) (zone_of z)) × Spells (name_of n) z (written z p (place_of it.name f))
      unfolding update_of
      rewritten f x k =
          let w = found_changed z t.form (name_of n) b p at (place_of it.name f) (k.kind_is ∙ ap (λ (y : Entry). y.kind) whole) refl k.order_is in
          (w.0, w.1 ∙ ap (λ (y : Host). put (name_of n) (some y) (zone_of z)) k.host_is, w.2)

    module _ (request : Name → rules.Zone → Outcome) where
      -- another host is written
      changes : (f : Records) (x : Name → Name → Host)
          → ((z : Zone) (n : Name) (b : Entry) (t : Seen z n b s) → (request n (zone_of z) ≡ says success (put (u n).name (some (x n (it t).name)) (zone_of z)))
          × Stands (it t).name e.kind (x n (it t).name) f × ¬ (x n (it t).name ≡ host_of (old t)))
          → Decides request s (Writes p f)
      unfolding number_of
      changes f x c = record {
        decides = λ z n b t. let w = c z n b t in (ap place_at h, write z _ _ _ _ _ w.0 refl (found_below z t.form (name_of n) b p (at t)) (rewritten t f _ w.1) (other t _ w.2));
      }

    -- ---- request B

    module _ (policy : ℕ) where
      abbrev asks_b : Name → rules.Zone → Outcome
      asks_b n = request_b (policy_of policy) (u n)

      pub b_other : Held false → Decides asks_b s (Stays NxRrset)
      b_other o = only asks_b s NxRrset (λ z n b t. B-other (u n) (zone_of z) _ (present t) (policy_of policy) (held t false o))

      module _ (o : Held true) (x : Bool) (c : AlreadyAdded family policy a e x) where
        pub b_added : x ≡ true → Decides asks_b s (Stays Success)
        b_added y = only asks_b s Success (λ z n b t.
            let k = added_same (u n) _ (good t) (policy_of policy) (sym (c.added_is _ _ (about n d family a)) ∙ y) in
            B-done (u n) (zone_of z) _ (present t) (policy_of policy) (held t true o) k.room ∙ ap (says success) (same t _ k.same))

        module _ (k : Records) (l : Makes (left (family_of family) (policy_of policy)) e k) (y : Bool) (w : HasRoom family a k y) where
          left_stands : {z : Zone} {n : Name} {b : Entry} (t : Seen z n b s) → Stands (it t).name e.kind (left (u n).family (policy_of policy) (host_of (old t))) k
          unfolding update_of
          left_stands t = l.makes _ (order t)

          left_room : {z : Zone} {n : Name} {b : Entry} (t : Seen z n b s) → fits (u n) (left (u n).family (policy_of policy) (host_of (old t))) ≡ y
          left_room {n = n} t = ap (fits (u n)) (sym (left_stands t).host_is) ∙ sym (w.room_is _ _ (about n d family a))

          pub b_full : y ≡ false → Decides asks_b s (Stays NoRoom)
          b_full q = only asks_b s NoRoom (λ z n b t. B-full (u n) (zone_of z) _ (present t) (policy_of policy) (held t true o) (left_room t ∙ q))

          pub b_done : (f : Records) → x ≡ false → y ≡ true → Joined family a k f → Decides asks_b s (Writes p f)
          b_done f v q j =
              changes asks_b f (λ n m. address (u n) true (left (u n).family (policy_of policy) (host_of (place_of m e)))) (λ z n b t.
              let m = left_stands t in
              let r = j.joins _ (u n) (about n d family a) m.order_is (sym (w.room_is _ _ (about n d family a)) ∙ q) in (
                B-done (u n) (zone_of z) _ (present t) (policy_of policy) (held t true o) (left_room t ∙ q),
                record { kind_is = r.kind_is ∙ m.kind_is; order_is = r.order_is; host_is = r.host_is ∙ ap (address (u n) true) m.host_is },
                added_other (u n) _ (good t) (policy_of policy) (sym (c.added_is _ _ (about n d family a)) ∙ v),
              ))

    -- ---- the first remove request

    abbrev asks_first : Name → rules.Zone → Outcome
    asks_first n = remove_address (u n)

    pub remove_other : Held false → Decides asks_first s (Stays NxRrset)
    remove_other o = only asks_first s NxRrset (λ z n b t. remove_address_other (u n) (zone_of z) _ (present t) (held t false o))

    module _ (o : Held true) (x : Bool) (c : HasAddress family a e x) where
      pub remove_none : x ≡ false → Decides asks_first s (Stays Success)
      remove_none y = only asks_first s Success (λ z n b t.
          remove_address_own (u n) (zone_of z) _ (present t) (held t true o)
          ∙ ap (says success) (same t _ (removed_same (u n) _ (good t) (sym (c.has_is _ _ (about n d family a)) ∙ y))))

      pub remove_own : (f : Records) → x ≡ true → Parted family a e f → Decides asks_first s (Writes p f)
      remove_own f y k =
          changes asks_first f (λ n m. address (u n) false (host_of (place_of m e))) (λ z n b t. (
            remove_address_own (u n) (zone_of z) _ (present t) (held t true o),
            (k.parts (u n) (about n d family a)).makes _ (order t),
            removed_other (u n) _ (good t) (sym (c.has_is _ _ (about n d family a)) ∙ y),
          ))

    -- ---- the second

    abbrev asks_second : Name → rules.Zone → Outcome
    asks_second n = remove_name (u n)

    -- without an address, or not
    abbrev Bare : Bool → Type 0
    Bare x = (n : Name) → empty (host_of (place_of n e)) ≡ x

    pub name_other : Held false → Decides asks_second s (Stays NxRrset)
    name_other o = only asks_second s NxRrset (λ z n b t. remove_name_other (u n) (zone_of z) _ (present t) (held t false o))

    pub name_kept : Held true → Bare false → Decides asks_second s (Stays YxRrset)
    name_kept o v = only asks_second s YxRrset (λ z n b t. remove_name_kept (u n) (zone_of z) _ (present t) (held t true o) (v (it t).name))

    pub name_gone : (f : Records) → Held true → Bare true → f.kind ≡ 0 → Decides asks_second s (Writes p f)
    unfolding number_of
    name_gone f o v k = record {
      decides = λ z n b t. (
        ap place_at h,
        write z _ _ _ _ (put (u n).name none (zone_of z)) (remove_name_gone (u n) (zone_of z) _ (present t) (held t true o) (v (it t).name)) refl (found_below z t.form (name_of n) b p (at t))
            (unfold update_of in found_freed z t.form (name_of n) blank p (at t) (place_of (it t).name f) k)
            (λ q. some≢none (sym (put_stood (u n).name none (zone_of z) q ∙ present t))),
      );
    }
