use Rattle.std.proofs.Common.{ap, arith, length, subst, suc, sym, take_all, ◌<◌, ◌∙◌}
use Rattle.homogeneous_laws.specs.Homogeneous.{dehomogenised}
use Rattle.term_lists.proofs.Scaling.{Each_at}
use Rattle.term_lists.specs.Rings.{variables}
use Rattle.term_lists.specs.Vectors.{AreTermsOver, IsTerm, sum_of}
use Rattle.degree_engine.proofs.LastVariable.{lowered_more, over_more, residue_over}
use Rattle.degree_engine.proofs.last_variable.lowered_terms.Goals as goal

pub loop-term-init : goal.loop-term-init
loop-term-init c = record {
  over = subst (AreTermsOver c.args.ring.now) (sym c.in_ok-lowered.ensures.items) tt;
  at_one = ap (sum_of (variables c.args.ring.now)) c.in_ok-lowered.ensures.items;
  len = c.in_ok-lowered.ensures.len;
  room = c.in_ok-lowered.ensures.capacity;
}

pub lowered_monomial-requires : goal.lowered_monomial-requires
lowered_monomial-requires c =
    let more = c.args.more.now in
    let i = c.loop-term.term-index in
    let xs = c.args.terms.now in
    let lt : i < length xs = omega arith in
    let is = Each_at (IsTerm (variables more) more.weights more.modulus.value) xs i c.term-item.result c.requires.vector.each lt c.term-item.is in
    record { more = c.requires.more; monomial = is.weighed }

pub push_reserved-requires : goal.push_reserved-requires
push_reserved-requires c = omega arith

pub loop-term-preserved : goal.loop-term-preserved
loop-term-preserved c =
    let ring = c.args.ring.now in
    let more = c.args.more.now in
    let n = variables ring in
    let xs = c.args.terms.now in
    let ys = c.loop-term.lowered.items in
    let i = c.loop-term.term-index in
    let t = c.term-item.result in
    let m = c.in_ok-monomial.monomial in
    let lt : i < length xs = omega arith in
    let is = Each_at (IsTerm (variables more) more.weights more.modulus.value) xs i t c.requires.vector.each lt c.term-item.is in
    record {
      over = subst (AreTermsOver ring) (sym c.push_reserved.ensures.items)
          (over_more ring ys (record { position = t.0.position; monomial = m }, t.1) c.loop-term.invariant.over c.in_ok-monomial.ensures.monomial
          (residue_over more ring t (sym c.requires.more.modulus) is));
      at_one = ap (sum_of n) c.push_reserved.ensures.items
          ∙ lowered_more n xs ys i t m lt c.term-item.is c.in_ok-monomial.ensures.at_one c.loop-term.invariant.at_one;
      len = omega arith;
      room = omega arith;
    }

pub returns : goal.returns
returns c = record {
  terms = c.loop-term.invariant.over;
  at_one = c.loop-term.invariant.at_one
      ∙ ap (λ l. dehomogenised (sum_of (suc (variables c.args.ring.now)) l)) (take_all c.loop-term.term-index c.args.terms.now (omega arith));
}
