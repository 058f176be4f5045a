use Rattle.std.proofs.Common.{None, [], arith, get_or, length, subst, sym, ◌<◌}
use Rattle.std.proofs.lemmas.List.{get_or_default}
use Rattle.formal_sums.specs.FormalSums.{Each}
use Rattle.monomial_orders.specs.Kept.{IsWeighed}
use Rattle.term_lists.proofs.Parts.{Each_member}
use Rattle.term_lists.proofs.Scaling.{Each_at}
use Rattle.term_lists.specs.Rings.{variables}
use Rattle.term_lists.specs.Vectors.{IsMonomialOver, key_of}
use Rattle.vector_division.specs.Progress.{IsTried}
use Rattle.symbolic_prep.specs.Divisors.{AreGreaterFrom, IsDivisorOf}
use Rattle.symbolic_prep.specs.Unary.{HasUnaryBits}
use Rattle.symbolic_prep.proofs.Dividing.{no_divisor, passed, tried_before, tried_behind, tried_more}
use Rattle.symbolic_prep.proofs.divisors.find_among.Goals as goal

pub returns : goal.returns
returns g c =
    let ring = c.args.ring.now in
    let ds = c.args.sorted.now in
    let least = c.args.least.now in
    let key = c.args.key.now in
    let end = c.count_possible-end.result in
    tried_behind (variables ring) ring.weights (g.L.Vectors.listed c.args.list.now) ds c.args.bits.now least key end c.loop-at.at
    c.requires.divisors c.requires.list c.requires.key
    (subst (λ z. AreGreaterFrom ds least key.position z end) c.degree_of.ensures c.count_possible-end.ensures.behind)
    (omega arith) c.loop-at.invariant

pub returns-then-at-end : goal.returns-then-at-end
returns-then-at-end g c =
    let ring = c.args.ring.now in
    let n = variables ring in
    let list = g.L.Vectors.listed c.args.list.now in
    let ds = c.args.sorted.now in
    let bits = c.args.bits.now in
    let key = c.args.key.now in
    let least = c.args.least.now in
    let at = c.next_candidate-at.result in
    let end = c.count_possible-end.result in
    let word = c.unary_word-missing.result in
    tried_behind n ring.weights list ds bits least key end at c.requires.divisors c.requires.list c.requires.key
    (subst (λ z. AreGreaterFrom ds least key.position z end) c.degree_of.ensures c.count_possible-end.ensures.behind) (omega arith)
    (passed n ring.weights list ds bits least key c.loop-at.at at word c.requires.divisors c.requires.list c.requires.key.variables
    (subst (λ es. HasUnaryBits es word) c.exponents.ensures.value c.unary_word-missing.ensures) c.unary_word-missing.type_inv
    c.next_candidate-at.ensures.others c.loop-at.invariant)

pub loop-at-init : goal.loop-at-init
loop-at-init g c =
    let list = g.L.Vectors.listed c.args.list.now in
    tried_before (variables c.args.ring.now) list c.args.sorted.now c.args.bits.now c.args.least.now c.args.key.now c.count_before-at.result
    c.requires.divisors c.count_before-at.ensures.point

pub quotient_by_marked-requires-clause-vector : goal.quotient_by_marked-requires-clause-vector
quotient_by_marked-requires-clause-vector g c =
    let ring = c.args.ring.now in
    let n = variables ring in
    let list = g.L.Vectors.listed c.args.list.now in
    let ds = c.args.sorted.now in
    let at = c.next_candidate-at.result in
    let d = get_or ds at no_divisor in
    let within : at < length ds = omega arith in
    let good = Each_at (IsDivisorOf list) ds at d c.requires.divisors.each within (get_or_default ds at no_divisor d within) in
    subst (Each (λ t. IsMonomialOver ring t.0.monomial)) (sym c.at-v.ensures)
    (Each_member (λ v. Each (λ t. IsWeighed n ring.weights t.0.monomial) v) list d.member [] c.requires.list good.within)

pub loop-at-preserved : goal.loop-at-preserved
loop-at-preserved g c =
    let ring = c.args.ring.now in
    let n = variables ring in
    let list = g.L.Vectors.listed c.args.list.now in
    let ds = c.args.sorted.now in
    let bits = c.args.bits.now in
    let key = c.args.key.now in
    let at = c.next_candidate-at.result in
    let d = get_or ds at no_divisor in
    let within : at < length ds = omega arith in
    let word = c.unary_word-missing.result in
    tried_more n list ds (key_of n key) at d
    (passed n ring.weights list ds bits c.args.least.now key c.loop-at.at at word c.requires.divisors c.requires.list c.requires.key.variables
    (subst (λ es. HasUnaryBits es word) c.exponents.ensures.value c.unary_word-missing.ensures) c.unary_word-missing.type_inv
    c.next_candidate-at.ensures.others c.loop-at.invariant)
    (get_or_default ds at no_divisor d within) within
    (subst (λ v. IsTried n ring.weights v (key_of n key) None) c.at-v.ensures
    (subst (IsTried n ring.weights c.at-v.result.now (key_of n key)) c.in_default.is c.in_ok-monomial.ensures))
