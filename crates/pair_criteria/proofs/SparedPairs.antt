-- The criteria spare pairs
use Rattle.std.proofs.Common.{ap, ap₂, arith, subst, sym, ℕ, ◌<◌, ◌∙◌, ◌≡◌}
use Rattle.monomials.specs.Exponents.{Divides, lcm, times}
use Rattle.formal_sums.proofs.Combining.{Each_map}
use Rattle.formal_sums.specs.FormalSums.{FormalSum, HasRank, IsPolynomial, Key, Term}
use Rattle.orders.specs.KeyOrders.{KeyDivides}
use Rattle.bases.specs.Leads.{leads}
use Rattle.bases.specs.Representations.{key_lcm}
use Rattle.buchberger_criterion.proofs.ChainCriterion.{HasLcmRepresentation_chain}
use Rattle.buchberger_criterion.proofs.ProductCriterion.{HasLcmRepresentation_product}
use Rattle.pair_criteria.specs.Sparing.{ProductCriterionApplies, SparesByChain, SparesByProduct}

-- vectors of rank 1 are polynomials
polynomial : {n : ℕ} (rank : ℕ) → rank ≡ 1 → (v : FormalSum n) → HasRank rank v → IsPolynomial v
polynomial {n} rank e v h = Each_map (λ (t : Term n). t.0.0 < rank) (λ (t : Term n). t.0.0 ≡ 0) v (λ t lt. omega arith) h

pub product_spares : {n : ℕ} (rank : ℕ) (k l : Key n) → ProductCriterionApplies rank k l → SparesByProduct rank k l
product_spares {n} rank k l h = λ S G i j m.
    let zi : k.0 ≡ 0 = let lt = m.monic.ranked i m.known_left in let e = ap (λ (z : Key n). z.0) m.lead_left in let r = m.rank_is in let one = h.0 in omega arith in
    let zj : l.0 ≡ 0 = let e = h.1 in omega arith in
    HasLcmRepresentation_product S m.lawful G i j m.known_left m.known_right
    (ap (λ (z : Key n). z.0) m.lead_left ∙ zi)
    (ap (λ (z : Key n). z.0) m.lead_right ∙ zj)
    (polynomial rank h.0 _ m.rank_left)
    (polynomial rank h.0 _ m.rank_right)
    (m.monic.monic i m.known_left)
    (m.monic.monic j m.known_right)
    (subst (λ (z : Key n). times z.1 (leads G j).1 ≡ lcm z.1 (leads G j).1) (sym m.lead_left) (subst (λ (z : Key n). times k.1 z.1 ≡ lcm k.1 z.1) (sym m.lead_right) h.2))

pub chain_spares : {n : ℕ} (k l : Key n) → KeyDivides k l → SparesByChain k l
chain_spares {n} k l h = λ S G i j m c.
    HasLcmRepresentation_chain S c.lawful G i j m c.together
    (subst (λ (z : Key n). KeyDivides z (key_lcm (leads G i) (leads G j))) (sym c.lead) (subst (λ (z : Key n). KeyDivides k z) (sym c.lcm) h))
    c.left c.right

-- keys at one position divide as their monomials do
pub key_divides : {n : ℕ} (k l : Key n) → k.0 ≡ l.0 → Divides k.1 l.1 → KeyDivides k l
key_divides k l e d = (d.0, ap₂ (λ x y. (x, y)) e d.1)
