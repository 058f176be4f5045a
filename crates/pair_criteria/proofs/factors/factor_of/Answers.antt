use Rattle.std.proofs.Common.{IfSome, List, None, Some, subst, sym, ℕ, ◌∷◌, ◌≡◌}
use Rattle.formal_sums.specs.FormalSums.{Each}
use Rattle.bases.specs.Leads.{head_key}
use Rattle.monomials.specs.Exponents.{Divides, exponents_of}
use Rattle.monomial_orders.proofs.Over.{weighed_at}
use Rattle.monomial_orders.specs.Kept.{IsWeighed, Monomial}
use Rattle.monomial_orders.specs.Monomials.{IsCofactor, IsQuotient}
use Rattle.term_lists.specs.Rings.{variables}
use Rattle.term_lists.specs.Vectors.{IsMonomialOver, sum_of}
use Rattle.term_lists.specs.declared.key.Key.{Key as CodeKey}
use Rattle.pair_criteria.specs.Pairs.{IsFactorOf}
use Rattle.pair_criteria.proofs.factors.factor_of.Goals as goal

-- the lcm and the lead are monomials of the ring
pub quotient-requires-clause-weights : goal.quotient-requires-clause-weights
quotient-requires-clause-weights c =
    let ring = c.args._ring.now in
    let lead = (subst (Each (λ t. IsMonomialOver ring t.0.monomial)) c.in-Some.ensures.1 c.requires.vector).0 in (
      ring.weights,
      weighed_at (variables ring) ring.weights c.args.lcm.now.monomial c.requires.lcm,
      subst (λ k. IsWeighed k ring.weights c.in-Some.lead.key.now.monomial) (sym c.requires.lcm.variables) lead,
    )

-- the quotient by the lead of a vector
factor :
    (n : ℕ) (ws : List ℕ) (lcm lead : CodeKey) (r : ℕ) (v rest : List (CodeKey × ℕ)) (t : Monomial)
    → v ≡ (lead, r) ∷ rest → IsCofactor n lcm.monomial.exponents lead.monomial.exponents t.exponents → IsWeighed n ws t
    → IsFactorOf n ws lcm v t
factor n ws lcm lead r v rest t e q w = subst (λ u. IsFactorOf n ws lcm u t) (sym e) (record { weighed = w; exponents = q.exponents; product = q.product })

-- the lead of the vector divides the lcm, so that there is a quotient
no_quotient :
    (n : ℕ) (lcm lead : CodeKey) (r : ℕ) (v rest : List (CodeKey × ℕ))
    → v ≡ (lead, r) ∷ rest → Divides (head_key (sum_of n v)).1 (exponents_of n lcm.monomial.exponents)
    → IsQuotient n lcm.monomial lead.monomial None → ⊥
no_quotient n lcm lead r v rest e d q = q (subst (λ u. Divides (head_key (sum_of n u)).1 (exponents_of n lcm.monomial.exponents)) e d)

pub unreachable-requires-in-None-2 : goal.unreachable-requires-in-None-2
unreachable-requires-in-None-2 c =
    let n = variables c.args._ring.now in
    let lcm = c.args.lcm.now in
    let lead = c.in-Some.lead.key.now in
    no_quotient n lcm lead c.in-Some.lead.residue c.args.v.now c.in-Some.ensures.0 c.in-Some.ensures.1 c.requires.divides
    (subst (IsQuotient n lcm.monomial lead.monomial) c.in-None-2.is
    (subst (λ k. IsQuotient k lcm.monomial lead.monomial c.in_ok-monomial-in-Some.field-0) c.requires.lcm.variables c.in_ok-monomial-in-Some.ensures.ok))

pub returns : goal.returns
returns c =
    let ring = c.args._ring.now in
    let n = variables ring in
    let lcm = c.args.lcm.now in
    let lead = c.in-Some.lead.key.now in
    let t = c.in-Some-2.monomial in
    let over = (subst (Each (λ t. IsMonomialOver ring t.0.monomial)) c.in-Some.ensures.1 c.requires.vector).0 in
    let q : IsQuotient n lcm.monomial lead.monomial (Some t) =
    subst (IsQuotient n lcm.monomial lead.monomial) c.in-Some-2.is
    (subst (λ k. IsQuotient k lcm.monomial lead.monomial c.in_ok-monomial-in-Some.field-0) c.requires.lcm.variables c.in_ok-monomial-in-Some.ensures.ok) in
    let weighed : (us : List ℕ) → IsWeighed n us lcm.monomial → IsWeighed n us lead.monomial → IsWeighed n us t =
    subst (λ answer. IfSome answer (λ m. (us : List ℕ) → IsWeighed n us lcm.monomial → IsWeighed n us lead.monomial → IsWeighed n us m)) c.in-Some-2.is
    (subst (λ k. IfSome c.in_ok-monomial-in-Some.field-0 (λ m. (us : List ℕ) → IsWeighed k us lcm.monomial → IsWeighed k us lead.monomial → IsWeighed k us m))
    c.requires.lcm.variables c.in_ok-monomial-in-Some.ensures.weighed) in
    factor n ring.weights lcm lead c.in-Some.lead.residue c.args.v.now c.in-Some.ensures.0 t c.in-Some.ensures.1 q.0 (weighed ring.weights c.requires.lcm over)
