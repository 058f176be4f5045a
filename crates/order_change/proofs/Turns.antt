-- The least of the products whose turn it is
use Rattle.std.proofs.Common.{IfSome, Less, List, MatchOption, None, Option, Ordering, Some, ap, ap₂, arith, inl, inr, length, subst, sym, ℕ, ◌+◌, ◌<◌, ◌∙◌, ◌≡◌, ◌≤◌, ◌⊎◌}
use Rattle.monomials.specs.Exponents.{Exponents, exponents_of}
use Rattle.orders.specs.MonomialOrders.{IsMonomialOrder}
use Rattle.monomial_orders.specs.Kept.{Monomial, monomials}
use Rattle.order_change.proofs.Items.{length_monomials, one_more}
use Rattle.order_change.proofs.Orders.{not_less_trans}
use Rattle.order_change.specs.Products.{HadAllItems, IsCandidate, IsLeast, variable_product_at}
use Rattle.order_change.specs.declared.products.Candidate.{Candidate}

module _ (n : ℕ) (ws : List ℕ) (compare : Exponents n → Exponents n → Ordering) (o : IsMonomialOrder compare) (list : List Monomial) (turn : ℕ → ℕ) where
  -- the least product of the first i variables, where there is one
  abbrev pub IsLeastOf : (i : ℕ) → Option Candidate → Type 0
  IsLeastOf i found =
      MatchOption found (HadAllItems turn i (length list))
      (λ c. IsCandidate n ws list turn c × IsLeast n compare (monomials n list) turn i (exponents_of n c.monomial.exponents))

  -- the product of one more variable is put beside it
  pub least_taken :
      (i : ℕ) (old : Option Candidate) (d r : Candidate) → IsLeastOf i old → IsCandidate n ws list turn d → d.variable ≡ i
      → (r ≡ d) ⊎ (old ≡ Some r)
      → IfSome old (λ c. compare (exponents_of n c.monomial.exponents) (exponents_of n r.monomial.exponents) ≡ Less → ⊥)
      → (compare (exponents_of n d.monomial.exponents) (exponents_of n r.monomial.exponents) ≡ Less → ⊥)
      → IsCandidate n ws list turn r × IsLeast n compare (monomials n list) turn (i + 1) (exponents_of n r.monomial.exponents)
  least_taken i None d r h new at (inl e) first second = (
    subst (IsCandidate n ws list turn) (sym e) new,
    one_more (λ v. turn v < length (monomials n list) → compare (variable_product_at n (monomials n list) v (turn v)) (exponents_of n r.monomial.exponents) ≡ Less → ⊥) i
        (λ v vi lt. absurd (let over = h v vi in omega (arith, over, lt, length_monomials n list)))
        (λ lt below. second (ap (λ z. compare z (exponents_of n r.monomial.exponents)) (here i d new at) ∙ below)),
  )
    where
      here : (i : ℕ) (d : Candidate) → IsCandidate n ws list turn d → d.variable ≡ i → exponents_of n d.monomial.exponents ≡ variable_product_at n (monomials n list) i (turn i)
      here i d new at = new.product ∙ ap₂ (variable_product_at n (monomials n list)) at (sym new.turns ∙ ap turn at)
  least_taken i None d r h new at (inr e) first second = cc
  least_taken i (Some c) d r h new at either first second = (
    candidate either,
    one_more (λ v. turn v < length (monomials n list) → compare (variable_product_at n (monomials n list) v (turn v)) (exponents_of n r.monomial.exponents) ≡ Less → ⊥) i
        (λ v vi lt. not_less_trans compare o (exponents_of n r.monomial.exponents) (exponents_of n c.monomial.exponents) (variable_product_at n (monomials n list) v (turn v)) first (h.1 v vi lt))
        (λ lt below. second (ap (λ z. compare z (exponents_of n r.monomial.exponents)) here ∙ below)),
  )
    where
      here : exponents_of n d.monomial.exponents ≡ variable_product_at n (monomials n list) i (turn i)
      here = new.product ∙ ap₂ (variable_product_at n (monomials n list)) at (sym new.turns ∙ ap turn at)

      candidate : (r ≡ d) ⊎ (◌≡◌ {A = Option Candidate} (Some c) (Some r)) → IsCandidate n ws list turn r
      candidate (inl e) = subst (IsCandidate n ws list turn) (sym e) new
      candidate (inr e) = let same : c ≡ r = cc in subst (IsCandidate n ws list turn) same h.0

  -- or the variable has had all items
  pub least_passed : (i : ℕ) (found : Option Candidate) → IsLeastOf i found → length list ≤ turn i → IsLeastOf (i + 1) found
  least_passed i None h over = one_more (λ v. length list ≤ turn v) i h over
  least_passed i (Some c) h over = (
    h.0,
    one_more (λ v. turn v < length (monomials n list) → compare (variable_product_at n (monomials n list) v (turn v)) (exponents_of n c.monomial.exponents) ≡ Less → ⊥) i h.1
        (λ lt. absurd (omega (arith, lt, over, length_monomials n list))),
  )
