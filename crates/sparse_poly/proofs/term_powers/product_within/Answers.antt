use Rattle.std.proofs.Common.{arith, length, subst, sym, ℕ, ◌+◌, ◌<◌, ◌≡◌, ◌≤◌}
use Rattle.monomials.specs.Exponents.{exponents_of, times}
use Rattle.monomial_orders.specs.Kept.{IsWeighed}
use Rattle.sparse_poly.proofs.term_powers.product_within.Goals as goal

pub returns-in-Ok-clause-weighed : goal.returns-in-Ok-clause-weighed
returns-in-Ok-clause-weighed c =
    let e : length c.args.a.now.exponents ≡ length c.args._weights.now = c.requires.left.variables in
    let P : ℕ → Type 0 = λ n. IsWeighed n c.args._weights.now c.in-Ok.product in
    subst P e (c.in-Ok.ensures.weighed c.args._weights.now
    (subst (λ n. IsWeighed n c.args._weights.now c.args.a.now) (sym e) c.requires.left)
    (subst (λ n. IsWeighed n c.args._weights.now c.args.b.now) (sym e) c.requires.right))

pub returns-in-Ok-clause-exponents : goal.returns-in-Ok-clause-exponents
returns-in-Ok-clause-exponents c =
    subst (λ n. exponents_of n c.in-Ok.product.exponents ≡ times (exponents_of n c.args.a.now.exponents) (exponents_of n c.args.b.now.exponents)) c.requires.left.variables c.in-Ok.ensures.ok.exponents

pub unreachable-requires : goal.unreachable-requires
unreachable-requires c =
    let great : 65535 < c.args.a.now.degree + c.args.b.now.degree = rw c.in-Err-Degree.field-0-is at c.in-Err-Degree.ensures.stop in
    let small : c.args.a.now.degree + c.args.b.now.degree ≤ 65535 = c.requires.small in
    omega arith
