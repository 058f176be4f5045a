use Rattle.std.proofs.Common.{[], ap, arith, subst, suc, sym, take_all, ◌∙◌, ◌∷◌, ◌≡◌, ◌<◌, length}
use Rattle.formal_sums.proofs.WeightedSums.{Each_append}
use Rattle.formal_sums.specs.FormalSums.{Each}
use Rattle.homogeneous_laws.specs.Homogeneous.{dehomogenised}
use Rattle.term_lists.proofs.Scaling.{Each_at}
use Rattle.term_lists.specs.Rings.{variables}
use Rattle.term_lists.specs.Vectors.{AreTermsOver, IsTerm, sum_of}
use Rattle.degree_engine.proofs.LastVariable.{over_more, raised_more, residue_over}
use Rattle.degree_engine.proofs.last_variable.raised_terms.Goals as goal

pub loop-term-init : goal.loop-term-init
loop-term-init c = record {
  over = subst (AreTermsOver c.args.more.now) (sym c.in_ok-raised.ensures.items) tt;
  at_one = ap (λ l. dehomogenised (sum_of (suc (variables c.args.ring.now)) l)) c.in_ok-raised.ensures.items;
  degree = subst (Each (λ t. t.0.monomial.degree ≡ c.top_degree-degree.result)) (sym c.in_ok-raised.ensures.items) tt;
  len = c.in_ok-raised.ensures.len;
  room = c.in_ok-raised.ensures.capacity;
}

pub raised_monomial-requires : goal.raised_monomial-requires
raised_monomial-requires c =
    let ring = c.args.ring.now in
    let i = c.loop-term.term-index in
    let xs = c.args.terms.now in
    let lt : i < length xs = omega arith in
    let is = Each_at (IsTerm (variables ring) ring.weights ring.modulus.value) xs i c.term-item.result c.requires.vector.each lt c.term-item.is in
    record { more = c.requires.more; monomial = is.weighed }

pub push_reserved-requires : goal.push_reserved-requires
push_reserved-requires c = omega arith

pub loop-term-preserved : goal.loop-term-preserved
loop-term-preserved c =
    let ring = c.args.ring.now in
    let more = c.args.more.now in
    let n = variables ring in
    let xs = c.args.terms.now in
    let ys = c.loop-term.raised.items in
    let i = c.loop-term.term-index in
    let t = c.term-item.result in
    let m = c.in_ok-monomial.monomial in
    let lt : i < length xs = omega arith in
    let is = Each_at (IsTerm n ring.weights ring.modulus.value) xs i t c.requires.vector.each lt c.term-item.is in
    record {
      over = subst (AreTermsOver more) (sym c.push_reserved.ensures.items)
          (over_more more ys (record { position = t.0.position; monomial = m }, t.1) c.loop-term.invariant.over c.in_ok-monomial.ensures.monomial
          (residue_over ring more t c.requires.more.modulus is));
      at_one = ap (λ l. dehomogenised (sum_of (suc n) l)) c.push_reserved.ensures.items
          ∙ raised_more n xs ys i t m lt c.term-item.is c.in_ok-monomial.ensures.at_one c.loop-term.invariant.at_one;
      degree = subst (Each (λ s. s.0.monomial.degree ≡ c.top_degree-degree.result)) (sym c.push_reserved.ensures.items)
          (Each_append (λ s. s.0.monomial.degree ≡ c.top_degree-degree.result) ys ((record { position = t.0.position; monomial = m }, t.1) ∷ [])
          c.loop-term.invariant.degree (c.in_ok-monomial.ensures.degree, tt));
      len = omega arith;
      room = omega arith;
    }

pub returns : goal.returns
returns c = record {
  terms = c.loop-term.invariant.over;
  at_one = c.loop-term.invariant.at_one ∙ ap (sum_of (variables c.args.ring.now)) (take_all c.loop-term.term-index c.args.terms.now (omega arith));
  degree = record { degree = c.top_degree-degree.result; each = c.loop-term.invariant.degree };
}
