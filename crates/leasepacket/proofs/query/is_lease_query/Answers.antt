use Rattle.std.proofs.Common.{sym, ◌∙◌, subst}
use borrow.Author.Tests.{ne_eqb}
use Rattle.leasepacket.specs.Places.{ReadAs}
use Rattle.leasepacket.proofs.ReadingLaws.{type_absent, type_of_many, type_inside, type_is_octet}
use Rattle.leasepacket.proofs.query.is_lease_query.Goals as goal

pub bounds-p-kind : goal.bounds-p-kind
bounds-p-kind c = type_inside _ _ (subst (ReadAs 53 c.args.p.now) c.in-Some.is c.requires) c.if-kind-eq1.true

pub returns-then-kind-eq1 : goal.returns-then-kind-eq1
returns-then-kind-eq1 c = sym (type_is_octet _ _ (subst (ReadAs 53 c.args.p.now) c.in-Some.is c.requires) c.if-kind-eq1.true)

pub returns-else-kind-eq1 : goal.returns-else-kind-eq1
returns-else-kind-eq1 c =
    ne_eqb _ _ c.if-kind-eq1.false ∙ sym (type_of_many _ _ (subst (ReadAs 53 c.args.p.now) c.in-Some.is c.requires) c.if-kind-eq1.false)

pub returns-in-None : goal.returns-in-None
returns-in-None c = sym (type_absent _ (subst (ReadAs 53 c.args.p.now) c.in-None.is c.requires))
