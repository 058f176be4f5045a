-- Degrees by weights, place by place from the front, and the degree of the product that a trail leads to
use Rattle.std.proofs.Common.{◌≡◌, ℕ, zero, suc, ◌+◌, ◌*◌, ◌<◌, ◌≤◌, List, [], ◌∷◌, ◌++◌, drop, get_or, length, mul-le-mul, refl, sym, ap, ◌∙◌, arith}
use Rattle.std.proofs.lemmas.List.{drop_all}
use Rattle.monomials.specs.Weights.{first_weight}
use Rattle.monomial_orders.specs.Kept.{Monomial}
use Rattle.monomial_orders.proofs.Totals.{weighted_sum}
use Rattle.module_vectors.specs.Trails.{KeptProduct, last_product}
use Rattle.session_top.specs.Stops.{degree_by, product_degree}

drop_nil : (k : ℕ) → ◌≡◌ {A = List ℕ} [] (drop k [])
drop_nil zero = refl
drop_nil (suc k) = refl

-- the weight at a place of a list of weights, none of which is 0
pub weight_there : (ws : List ℕ) (k w : ℕ) → k < length ws → 0 < get_or ws k 0 → w ≡ get_or ws k w → w ≡ first_weight (drop k ws)
weight_there [] k w lt some is = absurd (omega arith)
weight_there (v ∷ ws) zero w lt some is = omega (arith, is)
weight_there (v ∷ ws) (suc k) w lt some is = weight_there ws k w (omega arith) some is

-- and behind its end
pub weight_behind : (ws : List ℕ) (k : ℕ) → length ws ≤ k → 1 ≡ first_weight (drop k ws)
weight_behind ws k le = sym (ap first_weight (drop_all k ws le))

-- the sum from a place on
abbrev pub sum_from : List ℕ → List ℕ → ℕ → ℕ
sum_from ws xs k = weighted_sum (drop k ws) (drop k xs)

-- its first place, and the rest
sum_first : (ws xs : List ℕ) (k : ℕ) → k < length xs → sum_from ws xs k ≡ first_weight (drop k ws) * get_or xs k 0 + sum_from ws xs (suc k)
sum_first ws [] k lt = absurd (omega arith)
sum_first [] (x ∷ xs) zero lt = omega arith
sum_first (w ∷ ws) (x ∷ xs) zero lt = refl
sum_first (w ∷ ws) (x ∷ xs) (suc k) lt = sum_first ws xs k (omega arith)
sum_first [] (x ∷ xs) (suc k) lt =
    ap (λ us. weighted_sum us (drop k xs)) (drop_nil k) ∙ sum_first [] xs k (omega arith)
    ∙ ap (λ us. first_weight us * get_or xs k 0 + weighted_sum [] (drop (suc k) xs)) (sym (drop_nil k))

-- what the loop over the places keeps: one place goes over from the sum that is left
pub total_step :
    (ws xs : List ℕ) (k d t : ℕ) → k < length xs → d + sum_from ws xs k ≡ t
    → d + first_weight (drop k ws) * get_or xs k 0 + sum_from ws xs (k + 1) ≡ t
total_step ws xs k d t lt h =
    let s : suc k ≡ k + 1 = omega arith in
    omega (arith, h, sum_first ws xs k lt, ap (sum_from ws xs) s)

-- behind the last place nothing is left
pub total_end : (ws xs : List ℕ) (k d : ℕ) → length xs ≤ k → d + sum_from ws xs k ≡ weighted_sum ws xs → d ≡ weighted_sum ws xs
total_end ws xs k d le h = omega (arith, h, ap (weighted_sum (drop k ws)) (drop_all k xs le))

-- a weight of 8 bits times an exponent of 16
pub product_small : (w x : ℕ) → w < 256 → x < 65536 → w * x ≤ 16711425
product_small w x small short =
    let a : w ≤ 255 = omega arith in
    let b : x ≤ 65535 = omega arith in
    mul-le-mul a b

last_behind : (first : KeptProduct) (rest : List KeptProduct) (step : KeptProduct) → last_product first (rest ++ step ∷ []) ≡ step
last_behind first [] step = refl
last_behind first (next ∷ rest) step = last_behind next rest step

degree_behind :
    (ws : List ℕ) (rest : List KeptProduct) (step : KeptProduct) (last : Monomial)
    → product_degree ws (rest ++ step ∷ []) last ≡ degree_by ws step.1 + degree_by ws last
degree_behind ws [] step last = refl
degree_behind ws (first ∷ rest) step last = ap (λ s. degree_by ws s.1 + degree_by ws last) (last_behind first rest step)

-- the last of the products and the last monomial
pub degree_at :
    (ws : List ℕ) (products rest : List KeptProduct) (step : KeptProduct) (last : Monomial) → products ≡ rest ++ step ∷ []
    → degree_by ws step.1 + degree_by ws last ≡ product_degree ws products last
degree_at ws products rest step last parts = sym (ap (λ s. product_degree ws s last) parts ∙ degree_behind ws rest step last)
