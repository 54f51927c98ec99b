use Rattle.std.proofs.Common.{◌≡◌, ℕ, true, not, List, ap, ◌∙◌, ne_eqb}
use Rattle.dname.specs.Name.{is_full, same_name}
use Rattle.zone.specs.Meaning.{used}
use Rattle.zone.specs.Survey.{fingerprint_words}
use Rattle.lentzone.specs.Decode.{entry_in}
use Rattle.lentzone.proofs.DecodeLaws.{order_of, named_of}
use Rattle.lentzone.proofs.look.look_at.Goals as goal

pub returns : goal.returns
returns c =
    let e = c.args.e.now in
    let n = c.name_in-octets.ensures in
    let u : used (entry_in e) ≡ true = unfold used in ap not (ne_eqb _ _ c.requires.1) in
    record {
      fingerprint_is = c.fingerprint-own.ensures ∙ ap fingerprint_words n;
      order_is = order_of (entry_in e) _ _ _ c.is_in_order.ensures (c.is_full_name-full.ensures ∙ ap is_full n) c.are_sets_sound-sets.ensures;
      named_is = named_of (entry_in e) u c.args.n.now _ (c.is_same.ensures ∙ ap (λ (l : List ℕ). same_name l c.args.n.now) n);
    }
