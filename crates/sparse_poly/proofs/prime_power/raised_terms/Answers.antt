use Rattle.std.proofs.Common.{[], ap, arith, length, subst, sym, take_all, ◌*◌, ◌<◌, ◌∙◌, ◌∷◌, ◌≤◌}
use Rattle.std.proofs.Math.Nat.{mul-le-mul_left}
use Rattle.formal_sums.proofs.WeightedSums.{Each_append}
use Rattle.term_lists.proofs.Scaling.{Each_at}
use Rattle.term_lists.specs.Rings.{variables}
use Rattle.term_lists.specs.Vectors.{AreTermsOver, IsMonomialOver, sum_of}
use Rattle.sparse_poly.proofs.TermPowers.{raised_next}
use Rattle.sparse_poly.specs.TermPowers.{IsTermWithin, raised_monomials}
use Rattle.sparse_poly.proofs.prime_power.raised_terms.Goals as goal

pub loop-term-init : goal.loop-term-init
loop-term-init c = record {
  over = subst (AreTermsOver c.args.ring.now) (sym c.in_ok-raised.ensures.items) tt;
  raised = ap (sum_of (variables c.args.ring.now)) c.in_ok-raised.ensures.items;
}

pub raised_term-requires-clause-weighed : goal.raised_term-requires-clause-weighed
raised_term-requires-clause-weighed c =
    let lt : c.loop-term.term-index < length c.args.terms.now = omega arith in
    (Each_at (IsTermWithin c.args.ring.now c.args._d) c.args.terms.now c.loop-term.term-index c.term-item.result c.requires.terms lt c.term-item.is).term.weighed

pub raised_term-requires-clause-reduced : goal.raised_term-requires-clause-reduced
raised_term-requires-clause-reduced c =
    let lt : c.loop-term.term-index < length c.args.terms.now = omega arith in
    (Each_at (IsTermWithin c.args.ring.now c.args._d) c.args.terms.now c.loop-term.term-index c.term-item.result c.requires.terms lt c.term-item.is).term.reduced

pub raised_term-requires-clause-small : goal.raised_term-requires-clause-small
raised_term-requires-clause-small c =
    let lt : c.loop-term.term-index < length c.args.terms.now = omega arith in
    let within = (Each_at (IsTermWithin c.args.ring.now c.args._d) c.args.terms.now c.loop-term.term-index c.term-item.result c.requires.terms lt c.term-item.is).within in
    let le : c.args.ring.now.modulus.value * c.term-item.result.0.monomial.degree ≤ c.args.ring.now.modulus.value * c.args._d = mul-le-mul_left c.args.ring.now.modulus.value within in
    omega arith

pub loop-term-preserved : goal.loop-term-preserved
loop-term-preserved c =
    let ring = c.args.ring.now in
    let lt : c.loop-term.term-index < length c.args.terms.now = omega arith in
    record {
      over = subst (AreTermsOver ring) (sym c.in_ok-push.ensures.items)
          (Each_append (λ t. IsMonomialOver ring t.0.monomial × (t.1 < ring.modulus.value)) c.loop-term.raised.items (c.in_ok-power.power ∷ []) c.loop-term.invariant.over ((c.in_ok-power.ensures.weighed, c.in_ok-power.ensures.reduced), tt));
      raised = ap (sum_of (variables ring)) c.in_ok-push.ensures.items
          ∙ raised_next ring c.args.terms.now c.loop-term.raised.items c.loop-term.term-index c.term-item.result c.in_ok-power.power lt c.term-item.is c.in_ok-power.ensures c.loop-term.invariant.raised;
    }

pub returns-clause-raised : goal.returns-clause-raised
returns-clause-raised c =
    let m = variables c.args.ring.now in
    c.loop-term.invariant.raised ∙ ap (λ xs. raised_monomials c.args.ring.now.modulus.value (sum_of m xs)) (take_all c.loop-term.term-index c.args.terms.now (omega arith))
