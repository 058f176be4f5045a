use Rattle.std.proofs.Common.{[], arith, ap, mod-eq_of_lt, subst, sym, ◌%◌, ◌*◌, ◌∷◌, ◌≡◌, ◌≤◌, ◌∙◌}
use Rattle.term_lists.specs.Rings.{variables}
use Rattle.term_lists.specs.Vectors.{AreTermsOver, StandsFor, sum_of}
use Rattle.sparse_poly.proofs.MixedTerms.{single_same}
use Rattle.sparse_poly.specs.Powers.{polynomial_power}
use Rattle.sparse_poly.proofs.binomial.single_terms.Goals as goal
use Rattle.std.proofs.Math.Nat.{mul-le-mul_left}
use Rattle.std.proofs.Common.{◌++◌}

pub mixed_term-requires-clause-small : goal.mixed_term-requires-clause-small
mixed_term-requires-clause-small c =
    let le : c.args.n * c.args.a.now.0.monomial.degree ≤ c.args.n * c.args.d = mul-le-mul_left c.args.n c.requires.term.within in
    let small : c.args.n * c.args.d ≤ 65535 = c.requires.small in
    omega arith

pub returns-clause-terms : goal.returns-clause-terms
returns-clause-terms c =
    let ring = c.args.ring.now in
    let items : c.push.new.self.items ≡ c.in_ok-term.term ∷ [] = c.in_ok-push.ensures.items ∙ ap (λ xs. xs ++ c.in_ok-term.term ∷ []) c.in_ok-terms.ensures.items in
    subst (AreTermsOver ring) (sym items) ((c.in_ok-term.ensures.weighed, c.in_ok-term.ensures.reduced), tt)

pub returns-clause-power : goal.returns-clause-power
returns-clause-power c =
    let ring = c.args.ring.now in
    let items : c.push.new.self.items ≡ c.in_ok-term.term ∷ [] = c.in_ok-push.ensures.items ∙ ap (λ xs. xs ++ c.in_ok-term.term ∷ []) c.in_ok-terms.ensures.items in
    let one : 1 ≡ 1 % ring.modulus.value = sym (mod-eq_of_lt c.domain.ensures.above_one) in
    subst (λ xs. StandsFor ring xs (polynomial_power (sum_of (variables ring) (c.args.a.now ∷ [])) c.args.n)) (sym items)
    (single_same ring c.args.n 1 c.args.a.now c.in_ok-term.term one c.requires.term.position c.in_ok-term.ensures)
