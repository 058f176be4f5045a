use Rattle.std.proofs.Common.{IfSome, List, None, Option, Some, ap, ap₂, arith, length, subst, sym, ℕ, ◌<◌, ◌∙◌, ◌∷◌, ◌≡◌}
use Rattle.monomials.specs.Exponents.{exponents_of, times}
use Rattle.formal_sums.specs.FormalSums.{Each, shift}
use Rattle.orders.specs.KeyOrders.{KeyDivides}
use Rattle.bases.specs.Leads.{head_key}
use Rattle.monomial_orders.proofs.Over.{weighed_at}
use Rattle.monomial_orders.specs.Kept.{IsWeighed, Monomial}
use Rattle.monomial_orders.specs.Monomials.{IsQuotient}
use Rattle.term_lists.specs.Rings.{variables}
use Rattle.term_lists.specs.Vectors.{IsMonomialOver, key_of, sum_of}
use Rattle.term_lists.specs.declared.key.Key.{Key as CodeKey}
use Rattle.vector_division.specs.Progress.{IsTried}
use Rattle.vector_division.proofs.divisors.quotient_by_lead.Goals as goal

-- the key and the lead are monomials of the ring
pub quotient-requires-clause-weights : goal.quotient-requires-clause-weights
quotient-requires-clause-weights g c =
    let ring = g.F.Frame.over c.args._frame.now in
    let key = c.args.key.now.monomial in
    let lead = (subst (Each (λ t. IsMonomialOver ring t.0.monomial)) c.in-Some.ensures.1 c.requires.vector).0 in (
      ring.weights,
      weighed_at (variables ring) ring.weights key c.requires.key,
      subst (λ k. IsWeighed k ring.weights c.in-Some.lead.key.now.monomial) (sym c.requires.key.variables) lead,
    )

-- the quotient by the lead of a vector
tried :
    (n : ℕ) (ws : List ℕ) (key lead : CodeKey) (r : ℕ) (v rest : List (CodeKey × ℕ)) (answer : Option Monomial)
    → v ≡ (lead, r) ∷ rest → lead.position ≡ key.position → IsWeighed n ws key.monomial → IsWeighed n ws lead.monomial
    → IsQuotient n key.monomial lead.monomial answer
    → IfSome answer (λ m. (us : List ℕ) → IsWeighed n us key.monomial → IsWeighed n us lead.monomial → IsWeighed n us m)
    → IsTried n ws v (key_of n key) answer
tried n ws key lead r v rest None e p hk hl q w = λ some d.
    let divides = subst (λ v. KeyDivides (head_key (sum_of n v)) (key_of n key)) e d in
    q (divides.0, ap (λ k. k.1) divides.1)
tried n ws key lead r v rest (Some t) e p hk hl q w =
    let by = exponents_of n t.exponents in
    let same : (lead.position, times by (exponents_of n lead.monomial.exponents)) ≡ key_of n key = ap₂ (λ i m. (i, m)) p q.0.product in
    (subst (λ v. 0 < length v) (sym e) (omega arith), w ws hk hl, ap (λ v. shift by (head_key (sum_of n v))) e ∙ same)

pub returns-in_ok-quotient-in-Some : goal.returns-in_ok-quotient-in-Some
returns-in_ok-quotient-in-Some g c =
    let ring = g.F.Frame.over c.args._frame.now in
    let key = c.args.key.now in
    let lead = c.in-Some.lead.key.now in
    let answer = c.in_ok-quotient-in-Some.field-0 in
    let over = (subst (Each (λ t. IsMonomialOver ring t.0.monomial)) c.in-Some.ensures.1 c.requires.vector).0 in
    let e = c.requires.key.variables in
    let p : lead.position ≡ key.position = omega arith in
    tried (variables ring) ring.weights key lead c.in-Some.lead.residue c.args.v.now c.in-Some.ensures.0 answer c.in-Some.ensures.1 p
    c.requires.key over (subst (λ n. IsQuotient n key.monomial lead.monomial answer) e c.in_ok-quotient-in-Some.ensures.ok)
    (subst (λ n. IfSome answer (λ m. (us : List ℕ) → IsWeighed n us key.monomial → IsWeighed n us lead.monomial → IsWeighed n us m)) e
    c.in_ok-quotient-in-Some.ensures.weighed)
