-- The criteria, as code tests them
use Rattle.std.proofs.Common.{Bool, ap, false, subst, sym, ℕ, ◌∙◌, ◌≡◌}
use Rattle.std.specs.Prelude.{IsTrue, ◌↔◌}
use Rattle.std.proofs.lemmas.Bool.{false≢true}
use Rattle.formal_sums.specs.FormalSums.{Key}
use Rattle.monomials.specs.Exponents.{Divides, exponents_of, lcm, times}
use Rattle.orders.specs.KeyOrders.{KeyDivides}
use Rattle.bases.specs.Representations.{key_lcm}
use Rattle.term_lists.specs.Vectors.{key_of}
use Rattle.term_lists.specs.declared.key.Key.{Key as CodeKey}
use Rattle.pair_criteria.specs.Sparing as leads_spared

pub not_true : (b : Bool) → b ≡ false → IsTrue b → ⊥
not_true b e t = false≢true (sym e ∙ t)

pub product_is :
    {n : ℕ} (m : ℕ) (left right : CodeKey) (k l : Key n) (rank : ℕ) (r : Bool)
    → m ≡ n → key_of n left ≡ k → key_of n right ≡ l → k.0 ≡ l.0
    → IsTrue r ↔ leads_spared.ProductCriterionApplies rank (key_of m left) (key_of m right)
    → IsTrue r ↔ ((rank ≡ 1) × (times k.1 l.1 ≡ lcm k.1 l.1))
product_is {n = n} m left right k l rank r e a b p h =
    let g = subst (λ (z : Key n × Key n). IsTrue r ↔ leads_spared.ProductCriterionApplies rank z.0 z.1) (λ i. (a i, b i))
    (subst (λ (z : ℕ). IsTrue r ↔ leads_spared.ProductCriterionApplies rank (key_of z left) (key_of z right)) e h) in
    ((λ t. ((g.0 t).0, (g.0 t).2)), (λ q. g.1 (q.0, p, q.1)))

-- a lead divides the lcm of two others
abbrev JoinDivided : ℕ → CodeKey → CodeKey → CodeKey → Type 0
JoinDivided m lead left right =
    Divides (exponents_of m lead.monomial.exponents) (lcm (exponents_of m left.monomial.exponents) (exponents_of m right.monomial.exponents))

pub join_is :
    (n m : ℕ) (lead left right : CodeKey) (k p q : Key n) (r : Bool)
    → m ≡ n → key_of n lead ≡ k → key_of n left ≡ p → key_of n right ≡ q → lead.position ≡ left.position
    → IsTrue r ↔ JoinDivided m lead left right → IsTrue r ↔ KeyDivides k (key_lcm p q)
join_is n m lead left right k p q r e a b d same h =
    subst (λ (z : Key n × Key n × Key n). IsTrue r ↔ KeyDivides z.0 (key_lcm z.1 z.2)) (λ i. (a i, b i, d i))
    (plain (subst (λ (z : ℕ). IsTrue r ↔ JoinDivided z lead left right) e h))
  where
    plain : IsTrue r ↔ JoinDivided n lead left right → IsTrue r ↔ KeyDivides (key_of n lead) (key_lcm (key_of n left) (key_of n right))
    plain g = ((λ t. let x = g.0 t in (x.0, λ i. (same i, x.1 i))), (λ x. g.1 (x.0, ap (λ z. z.1) x.1)))
