use Rattle.std.proofs.Common.{ap, arith, subst, take_all}
use Rattle.term_lists.proofs.Scaling.{Each_more, multiples_step, multiples_vector}
use Rattle.term_lists.specs.Multiples.{AreMultiples}
use Rattle.term_lists.specs.Rings.{variables}
use Rattle.term_lists.proofs.scaled.scale_into.Goals as goal

pub loop-term-preserved : goal.loop-term-preserved
loop-term-preserved g c = record {
  multiples = rw c.push_reserved.ensures.items
      (multiples_step _ _ _ _ _ c.args.v.now c.loop-term.out.items c.loop-term.term-index c.term-item.result c.in_ok-scaled_term.field-0 _ _ c.requires.variables.variables (ap (λ r. r.modulus.value) c.ring.ensures) c.requires.variables c.domain.ensures.domain c.requires.nonzero c.requires.factor c.requires.vector.each (omega arith) c.term-item.is c.in_ok-scaled_term.ensures.term c.loop-term.invariant.multiples);
  fits = Each_more _ c.args.v.now c.loop-term.term-index c.term-item.result c.loop-term.invariant.fits (omega arith) c.term-item.is c.in_ok-scaled_term.ensures.fits;
  len = omega arith;
  room = omega arith;
}

pub returns-clause-vector : goal.returns-clause-vector
returns-clause-vector g c =
    let n = variables (g.F.Frame.over c.args.frame.now) in
    let ws = (g.F.Frame.over c.args.frame.now).weights in
    let p = (g.F.Frame.over c.args.frame.now).modulus.value in
    multiples_vector n ws p c.args.c c.args.m.now (g.F.Frame.compare c.args.frame.now n) (g.met.F.Frame.laws c.args.frame.now n 0).kept c.args.v.now c.loop-term.out.items c.requires.vector
    (subst (λ v. AreMultiples n ws p c.args.c c.args.m.now v c.loop-term.out.items) (take_all c.loop-term.term-index c.args.v.now (omega arith)) c.loop-term.invariant.multiples)
