use Rattle.std.proofs.Common.{ap, subst, suc, sym, ◌∙◌}
use Rattle.homogeneous_laws.specs.Homogeneous.{dehomogenised}
use Rattle.term_lists.specs.Rings.{ring_comparison, variables}
use Rattle.term_lists.specs.Vectors.{IsVectorOver, sum_of}
use Rattle.degree_engine.proofs.LastVariable.{lowered_vector_is}
use Rattle.degree_engine.proofs.last_variable.lowered_vector.Goals as goal

pub lowered_terms-requires : goal.lowered_terms-requires
lowered_terms-requires c =
    let more = c.args.more.now in
    record { more = c.requires.more; vector = subst (IsVectorOver more (ring_comparison more)) (sym c.terms.ensures) c.requires.vector }

pub from_terms-requires : goal.from_terms-requires
from_terms-requires c = c.in_ok-terms.ensures.terms

pub returns : goal.returns
returns c =
    let ring = c.args.ring.now in
    record {
      vector = c.in_ok-from_terms.ensures.vector;
      at_one = lowered_vector_is ring c.in_ok-terms.terms.items c.in_ok-from_terms.field-0 c.args.v.now c.in_ok-from_terms.ensures.same
          (c.in_ok-terms.ensures.at_one ∙ ap (λ l. dehomogenised (sum_of (suc (variables ring)) l)) c.terms.ensures);
    }
