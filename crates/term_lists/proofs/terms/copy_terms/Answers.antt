use Rattle.std.proofs.Common.{arith, take_all, ◌∙◌}
use Rattle.term_lists.proofs.Copying.{copied_more}
use Rattle.term_lists.proofs.terms.copy_terms.Goals as goal

pub push_reserved-requires : goal.push_reserved-requires
push_reserved-requires c = omega arith

pub loop-term-preserved : goal.loop-term-preserved
loop-term-preserved c = record {
  items =
      c.push_reserved.ensures.items
      ∙ copied_more c.args.terms.now c.loop-term.copy.items c.loop-term.term-index c.term-item.result c.in_ok-try_copy.field-0
      (omega arith) c.term-item.is c.in_ok-try_copy.ensures.ok c.loop-term.invariant.items;
  len = omega arith;
  room = omega arith;
}

pub returns : goal.returns
returns c = c.loop-term.invariant.items ∙ take_all c.loop-term.term-index c.args.terms.now (omega arith)
