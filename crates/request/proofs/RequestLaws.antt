-- The theorems beyond the promises: what every request leaves alone, what it leaves behind, and when it says no room. Assumes nothing.
use mathlib.Core.Path.{◌≡◌, refl, sym, ◌∙◌, ap, subst, fun_ext}
use mathlib.Core.Bool.{true, false}
use mathlib.Core.List.{List, [], ◌∷◌}
use mathlib.Core.Option.{Option, none, some}
use Prim.Native.Nat.{ℕ, ◌≤◌}
use native.Mathlib.Omega.{arith}
use lib.Dec.{ltb}
use lib.ListN.{length}
use borrow.Author.Tests.{ltb-true, ltb-false}
use borrow.Table.Steps.{cases}
use Rattle.dname.specs.Name.{key}
use Rattle.octets.specs.Count.{Octets, distinct}
use Rattle.octets.proofs.CountLaws.{distinct_nil}
use Rattle.zone.specs.declared.entry.Entry.{Entry}
use Rattle.zone.specs.declared.Zone as place
use Rattle.update.specs.Rules.{Host, Zone, Form, Update, Policy, Answer, success, YXDOMAIN, NXDOMAIN, YXRRSET, NXRRSET, no_room, Outcome, says, at_name, held_by, empty, new_host, left, fits, request_a, request_b, remove_address, remove_name}
use Rattle.zone.specs.Meaning.{used, keys, with_key, all_in_order, formed}
use Rattle.update.specs.Meaning.{host_of, zone_of}
use Rattle.update.proofs.ZoneLaws.{put, address, option_case, put_at, put_off, good_add, good_remove, good_left, good_new, form_new, form_change, form_delete, A-new, A-full, A-there, B-absent, B-other, B-full, B-done, remove_address_absent, remove_address_other, remove_address_own, remove_name_absent, remove_name_other, remove_name_kept, remove_name_gone}
use Rattle.request.proofs.PlaceLaws.{None, formed_all}

-- ---- every request either succeeds and writes at its name, or changes nothing

pub data Effect (u : Update) (z : Zone) (o : Outcome) : Type 0 where
  unchanged : (a : Answer) → ¬ (a ≡ success) → o ≡ says a z → Effect u z o
  wrote : (v : Option Host) → (Form z → Form (put u.name v z)) → o ≡ says success (put u.name v z) → Effect u z o

module _ {u : Update} {z : Zone} {o : Outcome} where
  -- no request touches another name
  pub elsewhere : Effect u z o → (k : Octets) → ¬ (key u.name ≡ k) → o.zone.at k ≡ z.at k
  elsewhere (unchanged a n e) k q = ap (λ (x : Outcome). x.zone.at k) e
  elsewhere (wrote v f e) k q = ap (λ (x : Outcome). x.zone.at k) e ∙ put_off u.name v z k q

  -- a request that doesn't succeed changes nothing
  pub unless_success : Effect u z o → ¬ (o.answer ≡ success) → o.zone ≡ z
  unless_success (unchanged a n e) q = ap (λ (x : Outcome). x.zone) e
  unless_success (wrote v f e) q = absurd (q (ap (λ (x : Outcome). x.answer) e))

  -- the form lasts
  pub form_lasts : Effect u z o → Form z → Form o.zone
  form_lasts (unchanged a n e) g = subst Form (ap (λ (x : Outcome). x.zone) (sym e)) g
  form_lasts (wrote v f e) g = subst Form (ap (λ (x : Outcome). x.zone) (sym e)) (f g)

yx : ¬ (YXDOMAIN ≡ success)
yx e = let z : ◌≡◌ {A = ℕ} 0 1 = cc in omega arith

nx : ¬ (NXDOMAIN ≡ success)
nx e = let z : ◌≡◌ {A = ℕ} 0 1 = cc in omega arith

nxrr : ¬ (NXRRSET ≡ success)
nxrr e = let z : ◌≡◌ {A = ℕ} 0 1 = cc in omega arith

yxrr : ¬ (YXRRSET ≡ success)
yxrr e = let z : ◌≡◌ {A = ℕ} 0 1 = cc in omega arith

full : ¬ (no_room ≡ success)
full e = let z : ◌≡◌ {A = ℕ} 0 1 = cc in omega arith

module _ (u : Update) (z : Zone) where
  pub A-effect : Effect u z (request_a u z)
  A-effect =
      option_case (at_name u z)
      (λ e. cases (ltb z.size 64)
      (λ r. let l = ltb-true z.size 64 r in wrote (some (new_host u)) (λ g. form_new u.name (new_host u) z g (good_new u) e l) (A-new u z e l))
      (λ r. unchanged no_room full (A-full u z e (ltb-false z.size 64 r))))
      (λ h e. unchanged YXDOMAIN yx (A-there u z h e))

  pub B-effect : (p : Policy) → Effect u z (request_b p u z)
  B-effect p =
      option_case (at_name u z) (λ e. unchanged NXDOMAIN nx (B-absent u z p e))
      (λ h e. cases (held_by u.dhcid h.owner)
      (λ o. cases (fits u (left u.family p h))
      (λ r. wrote (some (address u true (left u.family p h)))
      (λ g. form_change u.name (address u true (left u.family p h)) h z g (good_add u (left u.family p h) (good_left u.family p h (g.hosts (key u.name) h e)) r) e)
      (B-done u z h e p o r))
      (λ r. unchanged no_room full (B-full u z h e p o r)))
      (λ o. unchanged NXRRSET nxrr (B-other u z h e p o)))

  pub remove_address_effect : Effect u z (remove_address u z)
  remove_address_effect =
      option_case (at_name u z) (λ e. unchanged NXRRSET nxrr (remove_address_absent u z e))
      (λ h e. cases (held_by u.dhcid h.owner)
      (λ o. wrote (some (address u false h)) (λ g. form_change u.name (address u false h) h z g (good_remove u h (g.hosts (key u.name) h e)) e) (remove_address_own u z h e o))
      (λ o. unchanged NXRRSET nxrr (remove_address_other u z h e o)))

  pub remove_name_effect : Effect u z (remove_name u z)
  remove_name_effect =
      option_case (at_name u z) (λ e. unchanged NXRRSET nxrr (remove_name_absent u z e))
      (λ h e. cases (held_by u.dhcid h.owner)
      (λ o. cases (empty h)
      (λ v. wrote none (λ g. form_delete u.name h z g e) (remove_name_gone u z h e o v))
      (λ v. unchanged YXRRSET yxrr (remove_name_kept u z h e o v)))
      (λ o. unchanged NXRRSET nxrr (remove_name_other u z h e o)))

-- ---- what stands at the name after a success

abbrev answer_of_lem : Outcome → Answer
answer_of_lem o = o.answer

abbrev at_of : Octets → Outcome → Option Host
at_of k o = o.zone.at k

module _ (u : Update) (z : Zone) where
  pub A-after : (request_a u z).answer ≡ success → (at_name u z ≡ none) × ((request_a u z).zone.at (key u.name) ≡ some (new_host u))
  A-after t =
      option_case (at_name u z)
      (λ e. cases (ltb z.size 64)
      (λ r. (e, ap (at_of (key u.name)) (A-new u z e (ltb-true z.size 64 r)) ∙ put_at u.name (some (new_host u)) z))
      (λ r. absurd (full (ap answer_of_lem (sym (A-full u z e (ltb-false z.size 64 r))) ∙ t))))
      (λ h e. absurd (yx (ap answer_of_lem (sym (A-there u z h e)) ∙ t)))

  pub B-after : (p : Policy) → (request_b p u z).answer ≡ success
      → (h : Host) × (at_name u z ≡ some h) × (held_by u.dhcid h.owner ≡ true) × ((request_b p u z).zone.at (key u.name) ≡ some (address u true (left u.family p h)))
  B-after p t =
      option_case (at_name u z) (λ e. absurd (nx (ap answer_of_lem (sym (B-absent u z p e)) ∙ t)))
      (λ h e. cases (held_by u.dhcid h.owner)
      (λ o. cases (fits u (left u.family p h))
      (λ r. (h, e, o, ap (at_of (key u.name)) (B-done u z h e p o r) ∙ put_at u.name (some (address u true (left u.family p h))) z))
      (λ r. absurd (full (ap answer_of_lem (sym (B-full u z h e p o r)) ∙ t))))
      (λ o. absurd (nxrr (ap answer_of_lem (sym (B-other u z h e p o)) ∙ t))))

  pub remove_address_after : (remove_address u z).answer ≡ success
      → (h : Host) × (at_name u z ≡ some h) × (held_by u.dhcid h.owner ≡ true) × ((remove_address u z).zone.at (key u.name) ≡ some (address u false h))
  remove_address_after t =
      option_case (at_name u z) (λ e. absurd (nxrr (ap answer_of_lem (sym (remove_address_absent u z e)) ∙ t)))
      (λ h e. cases (held_by u.dhcid h.owner)
      (λ o. (h, e, o, ap (at_of (key u.name)) (remove_address_own u z h e o) ∙ put_at u.name (some (address u false h)) z))
      (λ o. absurd (nxrr (ap answer_of_lem (sym (remove_address_other u z h e o)) ∙ t))))

  pub remove_name_after : (remove_name u z).answer ≡ success
      → (h : Host) × (at_name u z ≡ some h) × (held_by u.dhcid h.owner ≡ true) × (empty h ≡ true) × ((remove_name u z).zone.at (key u.name) ≡ none)
  remove_name_after t =
      option_case (at_name u z) (λ e. absurd (nxrr (ap answer_of_lem (sym (remove_name_absent u z e)) ∙ t)))
      (λ h e. cases (held_by u.dhcid h.owner)
      (λ o. cases (empty h)
      (λ v. (h, e, o, v, ap (at_of (key u.name)) (remove_name_gone u z h e o v) ∙ put_at u.name none z))
      (λ v. absurd (yxrr (ap answer_of_lem (sym (remove_name_kept u z h e o v)) ∙ t))))
      (λ o. absurd (nxrr (ap answer_of_lem (sym (remove_name_other u z h e o)) ∙ t))))

  -- no room: only where A needs a 65th name, or B, after its deletes, a fifth address of the family
  pub A-no-room : (request_a u z).answer ≡ no_room → (at_name u z ≡ none) × (64 ≤ z.size)
  A-no-room t =
      option_case (at_name u z)
      (λ e. cases (ltb z.size 64)
      (λ r. absurd (full (sym (ap answer_of_lem (sym (A-new u z e (ltb-true z.size 64 r))) ∙ t))))
      (λ r. (e, ltb-false z.size 64 r)))
      (λ h e. absurd (apart (ap answer_of_lem (sym (A-there u z h e)) ∙ t)))
    where
      apart : YXDOMAIN ≡ no_room → ⊥
      apart e = let z : ◌≡◌ {A = ℕ} 0 1 = cc in omega arith

  pub B-no-room : (p : Policy) → (request_b p u z).answer ≡ no_room
      → (h : Host) × (at_name u z ≡ some h) × (held_by u.dhcid h.owner ≡ true) × (fits u (left u.family p h) ≡ false)
  B-no-room p t =
      option_case (at_name u z) (λ e. absurd (apart (ap answer_of_lem (sym (B-absent u z p e)) ∙ t)))
      (λ h e. cases (held_by u.dhcid h.owner)
      (λ o. cases (fits u (left u.family p h))
      (λ r. absurd (full (sym (ap answer_of_lem (sym (B-done u z h e p o r)) ∙ t))))
      (λ r. (h, e, o, r)))
      (λ o. absurd (apart2 (ap answer_of_lem (sym (B-other u z h e p o)) ∙ t))))
    where
      apart : NXDOMAIN ≡ no_room → ⊥
      apart e = let z : ◌≡◌ {A = ℕ} 0 1 = cc in omega arith

      apart2 : NXRRSET ≡ no_room → ⊥
      apart2 e = let z : ◌≡◌ {A = ℕ} 0 1 = cc in omega arith

-- ---- an empty zone has good form

no_keys : (es : List Entry) → None used es → keys es ≡ []
unfolding keys
no_keys [] h = refl
no_keys (e ∷ es) h = rw h.0 (no_keys es h.1)

no_order : (es : List Entry) → None used es → all_in_order es ≡ true
unfolding all_in_order
no_order [] h = refl
no_order (e ∷ es) h = rw h.0 (no_order es h.1)

none_with : (es : List Entry) → None used es → (k : Octets) → with_key host_of es k ≡ none
unfolding with_key
none_with [] h k = refl
none_with (e ∷ es) h k = rw h.0 (none_with es h.1 k)

pub empty_formed : (z : place.Zone) → length z.entries ≡ 64 → None used z.entries → formed z ≡ true
empty_formed z l h = formed_all z l (no_order z.entries h) (ap distinct (no_keys z.entries h) ∙ distinct_nil)

pub empty_zone : (z : place.Zone) → None used z.entries → zone_of z ≡ record { size = 0; at = λ k. none }
unfolding zone_of
empty_zone z h =
    let n : length (keys z.entries) ≡ 0 = ap length (no_keys z.entries h) in
    let f : with_key host_of z.entries ≡ (λ (k : Octets). none) = fun_ext (none_with z.entries h) in
    λ i. record { size = n i; at = f i }
