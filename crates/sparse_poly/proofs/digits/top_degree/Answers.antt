use Rattle.std.proofs.Common.{arith, length, subst, take, take_all, ℕ, ◌<◌, ◌≤◌}
use Rattle.formal_sums.proofs.Combining.{Each_map}
use Rattle.term_lists.proofs.Scaling.{Each_more}
use Rattle.sparse_poly.specs.Degrees.{IsWithinDegree}
use Rattle.sparse_poly.proofs.digits.top_degree.Goals as goal

pub loop-term-init : goal.loop-term-init
loop-term-init c = tt

pub loop-term-preserved : goal.loop-term-preserved
loop-term-preserved c =
    let i : ℕ = c.loop-term.term-index in
    let xs = c.args.terms.now in
    let lt : i < length xs = omega arith in
    let top : ℕ = c.greater-top.result in
    let more : c.loop-term.top ≤ top = c.greater-top.ensures.left in
    let here : c.term-item.result.0.monomial.degree ≤ top = (let right : c.degree.result ≤ top = c.greater-top.ensures.right in omega arith) in
    Each_more (λ t. t.0.monomial.degree ≤ top) xs i c.term-item.result
    (Each_map (λ t. t.0.monomial.degree ≤ c.loop-term.top) (λ t. t.0.monomial.degree ≤ top) (take i xs) (λ t h. (let le : t.0.monomial.degree ≤ c.loop-term.top = h in omega arith)) c.loop-term.invariant)
    lt c.term-item.is here

pub returns : goal.returns
returns c = subst (IsWithinDegree c.loop-term.top) (take_all c.loop-term.term-index c.args.terms.now (omega arith)) c.loop-term.invariant
