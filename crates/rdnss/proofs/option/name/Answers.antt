use Rattle.std.proofs.Common.{◌≡◌, ◌+◌, ◌<◌, ℕ, List, [], ◌∷◌, false, refl, map, length, drop, get_or, sym, ap, ◌∙◌, arith, add-one, drop-cons}
use mathlib.Core.List.{foldl}
use lib.ListN.{drop_of_length-le}
use Rattle.entries.specs.Entries.{Marked, is_about, named, named_all}
use Rattle.entries.specs.Places.{Holds, marked, place, replace_at}
use Rattle.entries.specs.declared.Moments.{Moments}
use Rattle.entries.proofs.LibraryLaws.{found_place, no_place}
use Rattle.entries.proofs.MarkLaws.{marked_items, marked_none}
use Rattle.entries.proofs.PackLaws.{set_packed, held_at, held_length, full_length}
use Rattle.entries.proofs.InsertLaws.{found, missing}
use Rattle.serverlist.specs.Servers.{servers, held, packed}
use Rattle.serverlist.specs.Places.{server_places}
use Rattle.serverlist.specs.declared.Server.{Server}
use Rattle.serverlist.specs.declared.ServerList.{ServerList}
use Rattle.rdnss.specs.Places.{address}
use Rattle.rdnss.proofs.option.name.Goals as goal
use Rattle.rdnss.proofs.option.name.Goals.{in-Some, in_default}

-- one address more, renewed or inserted
again : (l m : ServerList) (names : List (List ℕ)) (i own : ℕ) (d : List ℕ) (x : Moments) → i < length names → m.clock ≡ l.clock
    → foldl (named servers false x) (marked 0 (held l)) (map address names) ≡ foldl (named servers false x) (marked own (held m)) (map address (drop i names))
    → (r : ServerList) (more : ℕ) → Holds server_places m.clock (named servers false x (marked own (held m)) (address (get_or names i d))) r more
    → (r.clock ≡ l.clock)
    × (foldl (named servers false x) (marked 0 (held l)) (map address names) ≡ foldl (named servers false x) (marked more (held r)) (map address (drop (i + 1) names)))
again l m names i own d x h k f r more e =
    let q : map address (drop i names) ≡ address (get_or names i d) ∷ map address (drop (i + 1) names) = rw (add-one, drop-cons names i d h) in (
      e.rested ∙ k,
      f ∙ ap (foldl (named servers false x) (marked own (held m))) q
          ∙ ap (λ (t : List (Marked Server)). foldl (named servers false x) t (map address (drop (i + 1) names))) (sym e.holds),
    )

pub loop-octets-preserved : goal.loop-octets-preserved
loop-octets-preserved c =
    let s = c.args in
    let l = c.loop-octets in
    let h = l.invariant in
    let i = h.ready.list in
    let n = held_length server_places i in
    elim c.match-find.branch [
      | in-Some w ↦
          let k = w.in-Some.k in
          let f = found_place _ (held l.l) k (sym w.in-Some.ensures) in
          let t : k < l.l.count = omega (arith, f.1, n) in
          let e =
          found servers server_places l.l l.own h.ready _ s.x k f.0 t
          (w.l-is ∙ set_packed server_places i k _ t ∙ ap (λ (e : Server). packed l.l.clock (replace_at k e (held l.l))) (w.renew.ensures ∙ ap (servers.renew s.x) (held_at server_places l.l k _ t (omega (arith, full_length server_places i, i.within)))))
          in
          let a = again s.l.now l.l c.args.addresses.now l.octets-index l.own _ s.x c.loop-octets-test.true h.clock h.left _ _ e in
          rw w.own-is (record { ready = e.ready; clock = a.0; left = a.1 })
      | in_default w ↦
          let f = no_place _ (held l.l) (sym w.in_default.ensures) in
          let k = address (get_or c.args.addresses.now l.octets-index []) in
          let e = missing servers server_places l.l l.own h.ready k s.x (place (is_about servers k) (held l.l)) refl (omega (arith, f, n)) w.insert-own.ensures in
          let a = again s.l.now l.l c.args.addresses.now l.octets-index l.own _ s.x c.loop-octets-test.true h.clock h.left _ _ e in
          rw (w.l-is, w.own-is) (record { ready = e.ready; clock = a.0; left = a.1 })
    ]

pub returns : goal.returns
unfolding named_all
returns c =
    let s = c.args in
    let l = c.loop-octets in
    let h = l.invariant in
    let items = c.args.addresses.now in
    let k = held s.l.now in
    let d : drop l.octets-index items ≡ [] = drop_of_length-le items (omega arith) in
    h.ready.list.packs
    ∙ rw h.clock
    (ap (packed s.l.now.clock)
    (sym (marked_items l.own (held l.l))
    ∙ ap (map (λ m. m.item)) (sym (h.left ∙ ap (λ (x : List (List ℕ)). foldl (named servers false s.x) (marked l.own (held l.l)) (map address x)) d)
    ∙ ap (λ (t : List (Marked Server)). foldl (named servers false s.x) t (map address items)) (marked_none k))))
