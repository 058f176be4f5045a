use Rattle.std.proofs.Common.{ap, arith, length, subst, sym, ◌≡◌}
use Rattle.monomials.specs.Exponents.{exponents_of}
use Rattle.monomial_orders.proofs.Filling.{same_monomial, same_places}
use Rattle.monomial_orders.proofs.Over.{weighed_exact}
use Rattle.monomial_orders.specs.Kept.{Monomial}
use Rattle.monomial_orders.specs.Storage.{IsFilled}
use Rattle.monomial_orders.proofs.mono.Mono.equal.Goals as goal

pub equal-requires-clause-left : goal.equal-requires-clause-left
equal-requires-clause-left c = subst (λ n. IsFilled n c.kept.result.now) (sym c.variables-n.ensures) c.kept.ensures.kept.filled

pub equal-requires-clause-right : goal.equal-requires-clause-right
equal-requires-clause-right c =
    let e : length c.args.b.now.exponents ≡ c.variables-n.result = omega arith in
    subst (λ n. IsFilled n c.kept-2.result.now) e c.kept-2.ensures.kept.filled

pub returns-clause-value : goal.returns-clause-value
returns-clause-value c =
    let a = c.args.self.now in
    let b = c.args.b.now in
    let d : a.degree ≡ b.degree = omega arith in
    let l : length a.exponents ≡ length b.exponents = omega arith in (
      λ t. same_monomial a b c.kept.result.now c.kept-2.result.now c.kept.ensures c.kept-2.ensures d l (c.equal.ensures.0 t),
      λ e. c.equal.ensures.1 (same_places a b c.kept.result.now c.kept-2.result.now c.kept.ensures c.kept-2.ensures e),
    )

pub returns-clause-exponents : goal.returns-clause-exponents
returns-clause-exponents c = λ ws h k.
    let v = returns-clause-value c in
    let n = length c.args.self.now.exponents in
    (λ t. ap (λ (m : Monomial). exponents_of n m.exponents) (v.0 t), λ q. v.1 (weighed_exact n ws c.args.self.now c.args.b.now h k q))
