use Rattle.std.proofs.Common.{ap, arith, map, ◌+◌, ◌∙◌}
use Rattle.std.proofs.lemmas.List.{take_all}
use Rattle.vector_division.specs.Reductions.{term_of}
use Rattle.basis_core.proofs.Quotients.{terms_more}
use Rattle.basis_core.proofs.products.quotient_terms.Goals as goal

pub loop-quotient-init : goal.loop-quotient-init
loop-quotient-init c = record {
  items = c.in_ok-terms.ensures.items;
  len = c.in_ok-terms.ensures.len;
  room = c.in_ok-terms.ensures.capacity;
}

pub push_reserved-requires : goal.push_reserved-requires
push_reserved-requires c = omega (arith, c.loop-quotient.invariant.len, c.loop-quotient.invariant.room, c.loop-quotient-test.true)

pub loop-quotient-preserved : goal.loop-quotient-preserved
loop-quotient-preserved c = record {
  items = terms_more c.args.quotients.now c.loop-quotient.quotient-index c.quotient-item.result c.in_ok-try_copy.field-0 c.loop-quotient.terms.items _
      c.loop-quotient-test.true c.quotient-item.is c.in_ok-try_copy.ensures.ok c.loop-quotient.invariant.items c.push_reserved.ensures.items;
  len = c.push_reserved.ensures.len ∙ ap (λ k. k + 1) c.loop-quotient.invariant.len;
  room = omega (arith, c.push_reserved.ensures.capacity, c.loop-quotient.invariant.room);
}

pub returns : goal.returns
returns c = c.loop-quotient.invariant.items ∙ ap (map term_of)
    (take_all c.loop-quotient.quotient-index c.args.quotients.now (omega (arith, c.loop-quotient-test.false)))
