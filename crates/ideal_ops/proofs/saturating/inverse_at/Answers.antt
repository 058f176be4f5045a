use Rattle.std.proofs.Common.{arith, subst, sym}
use Rattle.term_lists.specs.Vectors.{AreTermsOver}
use Rattle.ideal_ops.proofs.OneMoreVariable.{inverse_front}
use Rattle.ideal_ops.proofs.saturating.inverse_at.Goals as goal

pub inverse_terms-requires : goal.inverse_terms-requires
inverse_terms-requires c = subst (λ r. AreTermsOver r c.args.w.now) (sym c.requires.front) c.requires.w

pub returns : goal.returns
returns c = λ f h.
    let above = c.domain.ensures.domain.above_one in
    inverse_front c.args.ring.now c.args.front.now c.args.w.now c.in_ok-terms.terms.items c.in_ok-from_terms.field-0 c.args.position f (omega (arith, above)) c.requires.front h
    c.in_ok-terms.ensures.sum c.in_ok-from_terms.ensures.vector c.in_ok-from_terms.ensures.same
