use Rattle.std.proofs.Common.{arith, subst, sym}
use Rattle.term_lists.proofs.Gathers.{Each_permutation}
use Rattle.term_lists.proofs.Scaling.{Each_at}
use Rattle.term_lists.specs.Vectors.{AreTermsOver}
use Rattle.complements.proofs.factors.terms_at.Goals as goal

pub push_copy-requires-clause-monomial : goal.push_copy-requires-clause-monomial
push_copy-requires-clause-monomial c =
    let items = c.terms-term-items.result.now in
    (Each_at _ items c.loop-term.term-index c.term-item.result (subst (AreTermsOver c.args.ring.now) (sym c.terms-term-items.ensures) c.requires) (omega arith) c.term-item.is).0

pub push_copy-requires-clause-residue : goal.push_copy-requires-clause-residue
push_copy-requires-clause-residue c =
    let items = c.terms-term-items.result.now in
    (Each_at _ items c.loop-term.term-index c.term-item.result (subst (AreTermsOver c.args.ring.now) (sym c.terms-term-items.ensures) c.requires) (omega arith) c.term-item.is).1

pub returns : goal.returns
returns c = Each_permutation _ c.loop-term.terms.items c.sort_unstable_by.new.self.items c.sort_unstable_by.ensures.permutation c.loop-term.invariant
