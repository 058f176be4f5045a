use Rattle.std.proofs.Common.{arith, subst, ◌<◌}
use Rattle.std.specs.Prelude.{IfSome}
use Rattle.complements.proofs.Gathering.{combination_left}
use Rattle.complements.specs.Combining.{AreTermsOfSums}
use Rattle.complements.proofs.numbered.gathered_vector.Goals as goal

pub returns-in_ok-from_terms-in-Some-clause-sum : goal.returns-in_ok-from_terms-in-Some-clause-sum
returns-in_ok-from_terms-in-Some-clause-sum c =
    let ring = c.args.ring.now in
    let a = c.args.accumulator.now in
    let terms : AreTermsOfSums ring a.numbers a.sums.items c.in-Some.terms.items =
    subst (λ o. IfSome o (λ x. AreTermsOfSums ring a.numbers a.sums.items x.items)) c.in-Some.is c.in_ok-made.ensures.terms in
    let domain = (c.lawful_setting.ensures 0).domain in
    let positive : 0 < ring.modulus.value = omega (arith, domain.above_one) in
    combination_left ring c.args.columns.now a.numbers a.sums.items a.touched.items c.in-Some.terms.items c.in_ok-from_terms-in-Some.field-0
    c.requires.taken terms positive c.in_ok-from_terms-in-Some.ensures.same
