use Rattle.std.proofs.Common.{ap, arith, subst, sym, ◌<◌, ◌∙◌}
use Rattle.term_lists.specs.Rings.{ring_comparison, variables}
use Rattle.term_lists.specs.Vectors.{IsVectorOver, sum_of}
use Rattle.degree_engine.proofs.LastVariable.{raised_vector_is}
use Rattle.degree_engine.proofs.last_variable.raised_vector.Goals as goal

pub raised_terms-requires : goal.raised_terms-requires
raised_terms-requires c =
    let ring = c.args.ring.now in
    record { more = c.requires.more; vector = subst (IsVectorOver ring (ring_comparison ring)) (sym c.terms.ensures) c.requires.vector }

pub from_terms-requires : goal.from_terms-requires
from_terms-requires c = c.in_ok-terms.ensures.terms

pub returns : goal.returns
returns c =
    let ring = c.args.ring.now in
    let above : 1 < ring.modulus.value = c.domain.ensures.above_one in
    record {
      vector = c.in_ok-from_terms.ensures.vector;
      at_one = raised_vector_is ring c.args.more.now c.in_ok-terms.terms.items c.in_ok-from_terms.field-0 c.args.v.now c.requires.more (omega (arith, above))
          c.in_ok-from_terms.ensures.same (c.in_ok-terms.ensures.at_one ∙ ap (sum_of (variables ring)) c.terms.ensures);
    }
