-- Each exponent times its weight: an embedding of monomials under which weighted degrees are degrees
use Rattle.std.proofs.Common.{List, [], ap, ap₂, arith, inl, inr, max, refl, suc, sym, zero, ℕ, ◌*◌, ◌+◌, ◌<◌, ◌∙◌, ◌∷◌, ◌≡◌, ◌≤◌, ◌⊎◌}
use Rattle.std.proofs.lemmas.Bool.{cases_lt}
use Rattle.std.proofs.Math.Nat.{mul-le-mul_left}
use Rattle.monomials.proofs.Monomials.{degree-times, degree-unit, degree_zero}
use Rattle.monomials.specs.Exponents.{Exponents, IsWithin, cons, degree, head, nil, tail, times, unit}
use Rattle.monomials.specs.Weights.{first_weight, other_weights, weighted_degree}

-- each exponent times its weight
abbrev pub weigh : {n : ℕ} → List ℕ → Exponents n → Exponents n
weigh ws nil = nil
weigh [] (cons a v) = cons a (weigh [] v)
weigh (w ∷ ws) (cons a v) = cons (max 1 w * a) (weigh ws v)

pub degree-weigh : {n : ℕ} (ws : List ℕ) (v : Exponents n) → degree (weigh ws v) ≡ weighted_degree ws v
degree-weigh ws nil = refl
degree-weigh [] (cons a v) = ap (λ d. a + d) (degree-weigh [] v)
degree-weigh (w ∷ ws) (cons a v) = ap (λ d. max 1 w * a + d) (degree-weigh ws v)

pub weigh-times : {n : ℕ} (ws : List ℕ) (v u : Exponents n) → weigh ws (times v u) ≡ times (weigh ws v) (weigh ws u)
weigh-times ws nil nil = refl
weigh-times [] (cons a v) (cons b u) = ap (cons (a + b)) (weigh-times [] v u)
weigh-times (w ∷ ws) (cons a v) (cons b u) = ap₂ cons (omega arith) (weigh-times ws v u)

pub weigh-unit : (n : ℕ) (ws : List ℕ) → weigh ws (unit n) ≡ unit n
weigh-unit zero ws = refl
weigh-unit (suc n) [] = ap (cons 0) (weigh-unit n [])
weigh-unit (suc n) (w ∷ ws) = ap₂ cons (omega arith) (weigh-unit n ws)

-- a multiple by a number above 0 grows
pub mul_less : (c a b : ℕ) → 0 < c → a < b → c * a < c * b
mul_less c a b pos lt = let m : c * suc a ≤ c * b = mul-le-mul_left c lt in omega arith

-- equal multiples by a number above 0 are of equal numbers
pub mul_cancel : (c a b : ℕ) → 0 < c → c * a ≡ c * b → a ≡ b
mul_cancel c a b pos e = go (cases_lt a b) (cases_lt b a)
  where
    go : (a < b) ⊎ (b ≤ a) → (b < a) ⊎ (a ≤ b) → a ≡ b
    go (inl lt) k = absurd (omega (arith, mul_less c a b pos lt))
    go (inr le) (inl lt) = absurd (omega (arith, mul_less c b a pos lt))
    go (inr le) (inr ge) = omega arith

pub weight_positive : (w : ℕ) → 0 < max 1 w
weight_positive w = omega arith

pub weigh_exact : {n : ℕ} (ws : List ℕ) (v u : Exponents n) → weigh ws v ≡ weigh ws u → v ≡ u
weigh_exact ws nil nil e = refl
weigh_exact [] (cons a v) (cons b u) e = ap₂ cons (ap head e) (weigh_exact [] v u (ap tail e))
weigh_exact (w ∷ ws) (cons a v) (cons b u) e =
    ap₂ cons (mul_cancel (max 1 w) a b (weight_positive w) (ap head e)) (weigh_exact ws v u (ap tail e))

pub weighted_degree-times :
    {n : ℕ} (ws : List ℕ) (v u : Exponents n)
    → weighted_degree ws (times v u) ≡ weighted_degree ws v + weighted_degree ws u
weighted_degree-times ws v u =
    sym (degree-weigh ws (times v u)) ∙ ap degree (weigh-times ws v u) ∙ degree-times (weigh ws v) (weigh ws u)
    ∙ ap₂ ◌+◌ (degree-weigh ws v) (degree-weigh ws u)

-- without weights it is the total degree
pub weighted_degree-none : {n : ℕ} (v : Exponents n) → weighted_degree [] v ≡ degree v
weighted_degree-none nil = refl
weighted_degree-none (cons a v) = ap (λ d. a + d) (weighted_degree-none v)

pub weighted_degree-unit : (n : ℕ) (ws : List ℕ) → weighted_degree ws (unit n) ≡ 0
weighted_degree-unit n ws = sym (degree-weigh ws (unit n)) ∙ ap degree (weigh-unit n ws) ∙ degree-unit n

pub weighted_degree_zero : {n : ℕ} (ws : List ℕ) (v : Exponents n) → weighted_degree ws v ≡ 0 → v ≡ unit n
weighted_degree_zero {n} ws v e =
    weigh_exact ws v (unit n) (degree_zero (weigh ws v) (degree-weigh ws v ∙ e) ∙ sym (weigh-unit n ws))

pub weighted_degree-cons :
    {n : ℕ} (ws : List ℕ) (a : ℕ) (v : Exponents n)
    → weighted_degree ws (cons a v) ≡ first_weight ws * a + weighted_degree (other_weights ws) v
weighted_degree-cons [] a v = omega arith
weighted_degree-cons (w ∷ ws) a v = refl

-- what is within a bound is within a greater one
pub IsWithin_more : {n : ℕ} (b c : ℕ) (v : Exponents n) → b ≤ c → IsWithin b v → IsWithin c v
IsWithin_more b c nil le h = tt
IsWithin_more b c (cons a v) le h = (let k = h.0 in omega (arith, k, le), IsWithin_more b c v le h.1)

-- a multiple by a number above 0 is no less
pub mul_least : (c a : ℕ) → 0 < c → a ≤ c * a
mul_least c a pos = let m : a * suc 0 ≤ a * c = mul-le-mul_left a pos in omega (arith, m)

-- the exponents are within the weighted degree
pub weighted_degree_within : {n : ℕ} (ws : List ℕ) (v : Exponents n) → IsWithin (weighted_degree ws v) v
weighted_degree_within ws nil = tt
weighted_degree_within [] (cons a v) =
    (omega arith, IsWithin_more (weighted_degree [] v) (a + weighted_degree [] v) v (omega arith) (weighted_degree_within [] v))
weighted_degree_within (w ∷ ws) (cons a v) = (
  let m = mul_least (max 1 w) a (weight_positive w) in omega (arith, m),
  IsWithin_more (weighted_degree ws v) (max 1 w * a + weighted_degree ws v) v (omega arith) (weighted_degree_within ws v),
)
