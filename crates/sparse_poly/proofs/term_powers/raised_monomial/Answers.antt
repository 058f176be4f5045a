use Rattle.std.proofs.Common.{List, ap, arith, length, ℕ, ◌*◌, ◌<◌, ◌∙◌, ◌≡◌, ◌≤◌}
use Rattle.monomials.specs.Exponents.{exponents_of}
use Rattle.monomials.specs.Weights.{weighted_degree}
use Rattle.sparse_poly.proofs.TermPowers.{exponents_multiplied, raised_degree}
use Rattle.sparse_poly.proofs.term_powers.raised_monomial.Goals as goal

pub returns-in-Ok-clause-exponents : goal.returns-in-Ok-clause-exponents
returns-in-Ok-clause-exponents c =
    let n : ℕ = length c.args.weights.now in
    ap (exponents_of n) (c.in-Ok.ensures.ok ∙ c.deref.ensures.value ∙ c.in_ok-raised.ensures) ∙ exponents_multiplied n c.args.k c.args.m.now.exponents

pub returns-in-Ok-clause-degree : goal.returns-in-Ok-clause-degree
returns-in-Ok-clause-degree c =
    let ws : List ℕ = c.args.weights.now in
    let xs : List ℕ = c.deref.result.now in
    c.in-Ok.ensures.weighed.degree ∙ ap (λ l. weighted_degree ws (exponents_of (length xs) l)) c.in-Ok.ensures.ok
    ∙ raised_degree (length ws) c.args.k ws c.args.m.now xs c.requires.weighed (c.deref.ensures.value ∙ c.in_ok-raised.ensures)

pub unreachable-requires : goal.unreachable-requires
unreachable-requires c =
    let ws : List ℕ = c.args.weights.now in
    let xs : List ℕ = c.deref.result.now in
    let great : 65535 < weighted_degree ws (exponents_of (length xs) xs) = rw c.in-Err-Degree.field-0-is at c.in-Err-Degree.ensures.stop in
    let e : weighted_degree ws (exponents_of (length xs) xs) ≡ c.args.k * c.args.m.now.degree = raised_degree (length ws) c.args.k ws c.args.m.now xs c.requires.weighed (c.deref.ensures.value ∙ c.in_ok-raised.ensures) in
    let small : c.args.k * c.args.m.now.degree ≤ 65535 = c.requires.small in
    omega arith
