use Rattle.std.proofs.Common.{◌≡◌, ◌+◌, ◌<◌, ℕ, List, [], ◌∷◌, refl, map, length, drop, get_or, sym, ap, ◌∙◌, arith, add-one, drop-cons}
use mathlib.Core.List.{foldl}
use lib.ListN.{drop_of_length-le}
use Rattle.entries.specs.Entries.{removed, is_about}
use Rattle.entries.specs.Places.{InPlaces, place}
use Rattle.entries.proofs.LibraryLaws.{found_place, no_place}
use Rattle.entries.proofs.PackLaws.{without_packed, held_length}
use Rattle.entries.proofs.InsertLaws.{withdrawn, nothing_to_withdraw, withdrawn_places, withdrawn_held, withdrawn_rest}
use Rattle.serverlist.specs.Servers.{servers, held, packed}
use Rattle.serverlist.specs.Places.{server_places}
use Rattle.serverlist.specs.declared.Server.{Server}
use Rattle.serverlist.specs.declared.ServerList.{ServerList}
use Rattle.rdnss.specs.Places.{address}
use Rattle.rdnss.proofs.option.withdraw.Goals as goal
use Rattle.rdnss.proofs.option.withdraw.Goals.{in-Some, in_default}

-- one address more, whatever was done about it
again : (l m : ServerList) (named : List (List ℕ)) (i : ℕ) (d : List ℕ) → i < length named → InPlaces server_places m → m.clock ≡ l.clock
    → foldl (λ h a. removed servers a h) (held l) (map address named) ≡ foldl (λ h a. removed servers a h) (held m) (map address (drop i named))
    → (r : ServerList) → r ≡ packed m.clock (removed servers (address (get_or named i d)) (held m))
    → InPlaces server_places r × (r.clock ≡ l.clock)
    × (foldl (λ h a. removed servers a h) (held l) (map address named) ≡ foldl (λ h a. removed servers a h) (held r) (map address (drop (i + 1) named)))
again l m named i d h p k f r e =
    let q : map address (drop i named) ≡ address (get_or named i d) ∷ map address (drop (i + 1) named) = rw (add-one, drop-cons named i d h) in (
      withdrawn_places servers server_places p _ e,
      withdrawn_rest servers server_places p _ e ∙ k,
      f ∙ ap (foldl (λ h a. removed servers a h) (held m)) q
          ∙ ap (λ (t : List Server). foldl (λ h a. removed servers a h) t (map address (drop (i + 1) named))) (sym (withdrawn_held servers server_places p _ e)),
    )

pub loop-octets-preserved : goal.loop-octets-preserved
loop-octets-preserved c =
    let l = c.loop-octets in
    let h = l.invariant in
    let n = held_length server_places h.list in
    elim c.match-find.branch [
      | in-Some w ↦
          let f = found_place _ (held l.l) w.in-Some.k (sym w.in-Some.ensures) in
          let e = withdrawn servers server_places l.l h.list _ w.in-Some.k f.0 (w.remove.ensures ∙ without_packed server_places h.list w.in-Some.k (omega (arith, f.1, n))) in
          let a = again c.args.l.now l.l c.args.addresses.now l.octets-index _ c.loop-octets-test.true h.list h.clock h.left _ (w.l-is ∙ e) in
          record { list = a.0; clock = a.1; left = a.2 }
      | in_default w ↦
          let f = no_place _ (held l.l) (sym w.in_default.ensures) in
          let k = address (get_or c.args.addresses.now l.octets-index []) in
          let e = nothing_to_withdraw servers server_places l.l h.list k (place (is_about servers k) (held l.l)) refl (omega (arith, f, n)) in
          let a = again c.args.l.now l.l c.args.addresses.now l.octets-index _ c.loop-octets-test.true h.list h.clock h.left _ (w.l-is ∙ e) in
          record { list = a.0; clock = a.1; left = a.2 }
    ]

pub returns : goal.returns
returns c =
    let l = c.loop-octets in
    let h = l.invariant in
    let items = c.args.addresses.now in
    let d : drop l.octets-index items ≡ [] = drop_of_length-le items (omega arith) in
    h.list.packs
    ∙ rw h.clock (ap (packed c.args.l.now.clock) (sym (h.left ∙ ap (λ (x : List (List ℕ)). foldl (λ h a. removed servers a h) (held l.l) (map address x)) d)))
