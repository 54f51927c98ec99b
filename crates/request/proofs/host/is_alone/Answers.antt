use Rattle.std.proofs.Common.{arith, ℕ, ◌+◌, ◌≡◌, ap, ◌∙◌}
use Rattle.std.proofs.Math.Dec.{eqb}
use Rattle.addresses.specs.Addresses.{four, six}
use Rattle.update.specs.Meaning.{family_of}
use Rattle.request.specs.Inner.{host_at}
use Rattle.request.proofs.HostLaws.{alone_keep, alone_family, alone_name}
use Rattle.request.proofs.host.is_alone.Goals as goal

pub returns-in-0 : goal.returns-in-0
returns-in-0 c = λ n. alone_keep _ _ _ c.in-0.is

pub returns-in-1 : goal.returns-in-1
returns-in-1 c = λ n. ap (λ (m : ℕ). eqb m 1) (c.count_of.ensures.0 n) ∙ alone_family _ _ _ c.in-1.is

pub returns-in_default : goal.returns-in_default
unfolding family_of
returns-in_default c =
    let e = c.args.e.now in
    let a = c.count_of-in_default in
    let b = c.count_of-in_default-2 in
    λ n.
    let p : a.result ≡ ((host_at n e).addresses four).count = a.ensures.0 n in
    let q : b.result ≡ ((host_at n e).addresses six).count = b.ensures.0 n in
    ap (λ (m : ℕ). eqb (m + b.result) 1) p ∙ ap (λ (m : ℕ). eqb (((host_at n e).addresses four).count + m) 1) q
    ∙ alone_name _ _ _ (λ e. omega arith) (λ e. omega arith)
