use Rattle.std.proofs.Common.{ap, arith, take_all, ◌∙◌}
use Rattle.term_lists.specs.FrontVariables.{with_front}
use Rattle.module_vectors.proofs.Fronting.{fronted_more}
use Rattle.module_vectors.proofs.front_variable.terms_with_front.Goals as goal

pub push_reserved-requires : goal.push_reserved-requires
push_reserved-requires c = omega arith

pub loop-term-preserved : goal.loop-term-preserved
loop-term-preserved c = record {
  items =
      c.push_reserved.ensures.items
      ∙ fronted_more c.args.terms.now c.loop-term.more.items c.loop-term.term-index c.term-item.result c.in_ok-monomial.monomial
      (omega arith) c.term-item.is c.in_ok-monomial.ensures.ok c.in_ok-monomial.ensures.degree c.loop-term.invariant.items;
  len = omega arith;
  room = omega arith;
}

pub returns : goal.returns
returns c = c.loop-term.invariant.items ∙ ap with_front (take_all c.loop-term.term-index c.args.terms.now (omega arith))
