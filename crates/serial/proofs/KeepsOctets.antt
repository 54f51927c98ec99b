-- What a request does to the octets of each name. Assumes nothing.
use mathlib.Core.Path.{◌≡◌, refl, sym, ◌∙◌, ap, subst}
use mathlib.Core.Bool.{Bool, true, false, cond, ◌&&◌, true≢false}
use mathlib.Core.List.{List, [], ◌∷◌}
use mathlib.Core.Option.{Option, none, some}
use Rattle.octets.specs.Compare.{same_octets}
use Rattle.octets.specs.Count.{Octets}
use Rattle.octets.proofs.BoolLaws.{and_right}
use Rattle.octets.proofs.CompareLaws.{same_true}
use Rattle.dname.specs.Name.{key, name_of}
use Rattle.zone.specs.declared.entry.Entry.{Entry}
use Rattle.zone.specs.declared.Zone as place
use Rattle.zone.specs.Meaning.{used, key_of, with_key}
use Rattle.update.specs.Rules.{Zone, there, Update, Outcome, success, request_a, remove_name}
use Rattle.update.specs.Spelling.{Spelling, spelling_of, kept, respelled}
use Rattle.update.proofs.ZoneLaws.{some≢none}
use Rattle.request.proofs.PlaceLaws.{spells_as}
use Rattle.request.proofs.RequestLaws as effects
use Rattle.request.proofs.RequestLaws.{Effect, A-effect, B-effect, remove_address_effect, remove_name_effect, A-after}
use Rattle.request.proofs.SpellingLaws.{spelled_there}
use Rattle.serial.specs.Spelling.{SpellingFor, Asked, asks_a, asks_b, asks_first, asks_second, KeepsOctets, SpellsZone}

pub respelled_there : (n : Octets) (z : Zone) (sp : Spelling) (k : Octets) → there (respelled n z sp k) ≡ there (z.at k)
unfolding respelled
respelled_there n z sp k = go (there (z.at k))
  where
    go : (b : Bool) → there (cond b (some (kept n (sp k))) none) ≡ b
    go true = refl
    go false = refl

pub respelled_idle : (n : Octets) (z : Zone) (sp : Spelling) (k : Octets) → there (sp k) ≡ there (z.at k) → respelled n z sp k ≡ sp k
unfolding respelled
respelled_idle n z sp k e = go (sp k) (there (z.at k)) e
  where
    go : (o : Option Octets) (b : Bool) → there o ≡ b → cond b (some (kept n o)) none ≡ o
    go none true q = absurd (true≢false (sym q))
    go none false q = refl
    go (some x) true q = refl
    go (some x) false q = absurd (true≢false q)

effect : {u : Update} {z : Zone} {o : Outcome} → Asked u z o → Effect u z o
effect {u} {z} asks_a = A-effect u z
effect {u} {z} (asks_b p) = B-effect u z p
effect {u} {z} asks_first = remove_address_effect u z
effect {u} {z} asks_second = remove_name_effect u z

new : (u : Update) (z : Zone) (sp : Spelling) → SpellingFor sp z → (request_a u z).answer ≡ success
    → respelled u.name (request_a u z).zone sp (key u.name) ≡ some u.name
unfolding respelled
new u z sp f t =
    let a = A-after u z t in
    ap (λ (b : Bool). cond b (some (kept u.name (sp (key u.name)))) none) (ap there a.1)
    ∙ absent (sp (key u.name)) (f (key u.name) ∙ ap there a.0)
  where
    absent : (o : Option Octets) → there o ≡ false → ◌≡◌ {A = Option Octets} (some (kept u.name o)) (some u.name)
    absent none q = refl
    absent (some x) q = absurd (true≢false q)

again : (u v : Update) (z : Zone) (sp : Spelling) → (remove_name u z).answer ≡ success → key v.name ≡ key u.name
    → (request_a v (remove_name u z).zone).answer ≡ success
    → respelled v.name (request_a v (remove_name u z).zone).zone (respelled u.name (remove_name u z).zone sp) (key u.name) ≡ some v.name
again u v z sp t e w =
    subst (λ (k : Octets). respelled v.name (request_a v (remove_name u z).zone).zone (respelled u.name (remove_name u z).zone sp) k ≡ some v.name) e
    (new v (remove_name u z).zone (respelled u.name (remove_name u z).zone sp) (respelled_there u.name (remove_name u z).zone sp) w)

-- Theorem: names keep their octets.
pub keeps_octets : KeepsOctets
keeps_octets = record {
  stood = λ u z o sp a f k p q. respelled_idle u.name o.zone sp k (f k ∙ p ∙ sym q);
  new = new;
  again = again;
  elsewhere = λ u z o sp a f k n. respelled_idle u.name o.zone sp k (f k ∙ ap there (sym (effects.elsewhere (effect a) k n)));
  spells_again = respelled_there;
}

-- ---- a zone by value

keyed : (es : List Entry) (k octets : Octets) → with_key spells_as es k ≡ some octets → key octets ≡ k
unfolding with_key
keyed [] k octets e = absurd (some≢none (sym e))
keyed (x ∷ es) k octets e = go (used x && same_octets (key_of x) k) refl e (keyed es k octets)
  where
    go : (b : Bool) → (used x && same_octets (key_of x) k) ≡ b → cond b (some (spells_as x)) (with_key spells_as es k) ≡ some octets
        → (with_key spells_as es k ≡ some octets → key octets ≡ k) → key octets ≡ k
    go true q t f =
        let i : name_of x.name ≡ octets = cc in
        ap key (sym i) ∙ same_true (key_of x) k (and_right (used x) (same_octets (key_of x) k) q)
    go false q t f = f t

-- Theorem: how a zone is spelled.
pub spells_zone : (z : place.Zone) → SpellsZone z
spells_zone z = record { spells = spelled_there z; keyed = λ k octets e. keyed z.entries k octets (unfold spelling_of in e) }
