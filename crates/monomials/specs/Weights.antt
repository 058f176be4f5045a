-- The degree by weights of the variables (UAG chapter 1, section 2: weight orders)
use Rattle.std.specs.Prelude.{List, [], max, ℕ, ◌*◌, ◌+◌, ◌∷◌}
use Rattle.monomials.specs.Exponents.{Exponents, cons, nil}

-- the degree by weights: the sum of weight times exponent. A variable whose weight is missing or 0 has weight 1
abbrev pub weighted_degree : {n : ℕ} → List ℕ → Exponents n → ℕ
weighted_degree ws nil = 0
weighted_degree [] (cons a v) = a + weighted_degree [] v
weighted_degree (w ∷ ws) (cons a v) = max 1 w * a + weighted_degree ws v

-- the weight of the first variable
abbrev pub first_weight : List ℕ → ℕ
first_weight [] = 1
first_weight (w ∷ ws) = max 1 w

-- the weights of the other variables
abbrev pub other_weights : List ℕ → List ℕ
other_weights [] = []
other_weights (w ∷ ws) = ws
