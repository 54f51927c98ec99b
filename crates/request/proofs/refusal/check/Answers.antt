use Rattle.std.proofs.Common.{◌≡◌, ◌&&◌, true, false, true≢false, refl, arith, sym, ◌∙◌, ap}
use Rattle.dname.specs.Name.{is_full}
use Rattle.std.proofs.lemmas.Grind.{common_steps}
use Rattle.octets.proofs.BoolLaws.{and_left}
use Rattle.request.proofs.PromiseLaws.{refused_form, refused_number, refused_name, refused_nothing}
use Rattle.request.proofs.refusal.check.Goals as goal

pub returns-then-not-s : goal.returns-then-not-s
returns-then-not-s c =
    let f : (c.args.s.inorder && c.args.s.distinct) ≡ false = grind (arith, common_steps) in
    record { refuses = λ z v. refused_form z _ _ _ _ v f; broken = λ b. refl }

pub returns-then-not-is_listed : goal.returns-then-not-is_listed
returns-then-not-is_listed c =
    let f : (c.args.s.inorder && c.args.s.distinct) ≡ true = grind (arith, common_steps) in
    record { refuses = λ z v. refused_number z _ _ _ _ v f (sym c.is_listed.ensures ∙ c.if-not-is_listed.true); broken = λ b. absurd (true≢false (sym (and_left _ _ f) ∙ b)) }

pub returns-then-not-is_full_name : goal.returns-then-not-is_full_name
returns-then-not-is_full_name c =
    let f : (c.args.s.inorder && c.args.s.distinct) ≡ true = grind (arith, common_steps) in
    record {
      refuses = λ z v. refused_name z _ _ _ _ v f (sym c.is_listed.ensures ∙ c.if-not-is_listed.false) (ap is_full (sym c.spelled.ensures) ∙ sym c.is_full_name.ensures ∙ c.if-not-is_full_name.true);
      broken = λ b. absurd (true≢false (sym (and_left _ _ f) ∙ b));
    }

pub returns : goal.returns
returns c =
    let f : (c.args.s.inorder && c.args.s.distinct) ≡ true = grind (arith, common_steps) in
    record {
      refuses = λ z v. refused_nothing z _ _ _ _ v f (sym c.is_listed.ensures ∙ c.if-not-is_listed.false) (ap is_full (sym c.spelled.ensures) ∙ sym c.is_full_name.ensures ∙ c.if-not-is_full_name.false);
      broken = λ b. absurd (true≢false (sym (and_left _ _ f) ∙ b));
    }
