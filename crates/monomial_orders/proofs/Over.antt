-- Monomials over weights: products, quotients, maxima
use Rattle.std.proofs.Common.{List, ap, ap₂, arith, get_or, inl, inr, length, subst, sym, ℕ, ◌+◌, ◌-◌, ◌<◌, ◌∙◌, ◌≡◌, ◌≤◌, ◌⊎◌}
use Rattle.std.proofs.lemmas.Bool.{cases_lt}
use Rattle.std.proofs.lemmas.List.{get_or_past}
use Rattle.monomials.proofs.Weighing.{weighted_degree-times, weighted_degree-unit}
use Rattle.monomials.specs.Exponents.{exponents_of, times, unit}
use Rattle.monomials.specs.Weights.{weighted_degree}
use Rattle.monomial_orders.proofs.PlaceByPlace.{exponents_exact}
use Rattle.monomial_orders.proofs.Totals.{held_by_degree, variable_degree}
use Rattle.monomial_orders.specs.Kept.{HaveCommonWeights, IsWeighed, Monomial}
use Rattle.monomial_orders.specs.Monomials.{IsCofactor, IsMonomial, IsPlaceByPlace, variable}

-- the degrees of a product's factors add up to its own
pub over_times :
    (n : ℕ) (ws : List ℕ) (a b c : Monomial) → IsMonomial n (times (exponents_of n a.exponents) (exponents_of n b.exponents)) c.exponents
    → c.degree ≡ a.degree + b.degree → IsWeighed n ws a → IsWeighed n ws b → IsWeighed n ws c
over_times n ws a b c m d h k = record {
  variables = m.variables;
  degree =
      d ∙ ap₂ ◌+◌ h.degree k.degree
      ∙ sym (weighted_degree-times ws (exponents_of n a.exponents) (exponents_of n b.exponents)) ∙ ap (weighted_degree ws) (sym m.exponents);
}

-- the degree of a divisor and of the quotient add up
degrees_add :
    (n : ℕ) (ws : List ℕ) (a b : Monomial) (c : List ℕ) → IsCofactor n a.exponents b.exponents c → IsWeighed n ws a → IsWeighed n ws b
    → a.degree ≡ weighted_degree ws (exponents_of n c) + b.degree
degrees_add n ws a b c m h k =
    h.degree ∙ ap (weighted_degree ws) (sym m.product) ∙ weighted_degree-times ws (exponents_of n c) (exponents_of n b.exponents)
    ∙ ap (λ d. weighted_degree ws (exponents_of n c) + d) (sym k.degree)

pub over_quotient :
    (n : ℕ) (ws : List ℕ) (a b c : Monomial) → IsCofactor n a.exponents b.exponents c.exponents → c.degree ≡ a.degree - b.degree
    → IsWeighed n ws a → IsWeighed n ws b → IsWeighed n ws c
over_quotient n ws a b c m d h k = record {
  variables = m.variables;
  degree = omega (arith, d, degrees_add n ws a b c.exponents m h k);
}

-- so the difference of the degrees has room
pub divisor_degree :
    (n : ℕ) (a b : Monomial) (c : List ℕ) → IsCofactor n a.exponents b.exponents c → HaveCommonWeights n a b → b.degree ≤ a.degree
divisor_degree n a b c m h = omega (arith, degrees_add n h.0 a b c m h.1 h.2)

pub quotient_held :
    (n : ℕ) (a b : Monomial) (c : List ℕ) → IsCofactor n a.exponents b.exponents c → HaveCommonWeights n a b → (k : ℕ)
    → get_or c k 0 ≤ a.degree - b.degree
quotient_held n a b c m h k =
    let e = degrees_add n h.0 a b c m h.1 h.2 in
    let l = subst (λ j. get_or c k 0 ≤ weighted_degree h.0 (exponents_of j c)) m.variables (held_by_degree h.0 c k) in
    omega (arith, e, l)

-- a monomial of these exponents whose degree was computed by the weights
pub over_total :
    (n : ℕ) (ws xs c : List ℕ) (d : ℕ) → length c ≡ n → c ≡ xs → d ≡ weighted_degree ws (exponents_of (length xs) xs)
    → IsWeighed n ws (record { exponents = c; degree = d })
over_total n ws xs c d l e h = record {
  variables = l;
  degree = h ∙ ap (λ ys. weighted_degree ws (exponents_of (length ys) ys)) (sym e) ∙ ap (λ j. weighted_degree ws (exponents_of j c)) l;
}

pub over_unit :
    (n : ℕ) (c : List ℕ) (d : ℕ) → IsMonomial n (unit n) c → d ≡ 0 → (ws : List ℕ)
    → IsWeighed n ws (record { exponents = c; degree = d })
over_unit n c d m e ws = record {
  variables = m.variables;
  degree = e ∙ sym (weighted_degree-unit n ws) ∙ ap (weighted_degree ws) (sym m.exponents);
}

pub kept_total : (ws c : List ℕ) (d : ℕ) → d ≡ weighted_degree ws (exponents_of (length c) c) → (k : ℕ) → get_or c k 0 ≤ d
kept_total ws c d h k = subst (λ e. get_or c k 0 ≤ e) (sym h) (held_by_degree ws c k)

-- each sum is at most the sum of the degrees
pub sums_held :
    (xs ys zs : List ℕ) (d e : ℕ) → IsPlaceByPlace ◌+◌ xs ys zs → ((k : ℕ) → get_or xs k 0 ≤ d)
    → ((k : ℕ) → get_or ys k 0 ≤ e) → (k : ℕ) → get_or zs k 0 ≤ d + e
sums_held xs ys zs d e p h g k = go (cases_lt k (length xs))
  where
    go : (k < length xs) ⊎ (length xs ≤ k) → get_or zs k 0 ≤ d + e
    go (inl lt) = omega (arith, p.places k lt, h k, g k)
    go (inr le) = omega (arith, get_or_past zs k 0 (omega (arith, p.variables)))

pub over_variable :
    (n : ℕ) (ws c : List ℕ) (i d : ℕ) → IsMonomial n (variable n i) c → i < n → i < length ws → 0 < get_or ws i 0
    → d ≡ get_or ws i 0 → IsWeighed n ws (record { exponents = c; degree = d })
over_variable n ws c i d m lt le pos e = record {
  variables = m.variables;
  degree = e ∙ sym (variable_degree ws n i lt le pos) ∙ ap (weighted_degree ws) (sym m.exponents);
}

-- over the same weights the exponents say all
pub weighed_exact :
    (n : ℕ) (ws : List ℕ) (a b : Monomial) → IsWeighed n ws a → IsWeighed n ws b → exponents_of n a.exponents ≡ exponents_of n b.exponents
    → a ≡ b
weighed_exact n ws a b h k e =
    same a b (exponents_exact n a.exponents b.exponents h.variables k.variables e) (h.degree ∙ ap (weighted_degree ws) e ∙ sym k.degree)
  where
    same : (a b : Monomial) → a.exponents ≡ b.exponents → a.degree ≡ b.degree → a ≡ b
    same a b x d = let f : List ℕ → ℕ → Monomial = λ x d. record { exponents = x; degree = d } in ap₂ f x d

-- whatever the number of variables is called
pub weighed_at : (n : ℕ) (ws : List ℕ) (m : Monomial) → IsWeighed n ws m → IsWeighed (length m.exponents) ws m
weighed_at n ws m h = subst (λ k. IsWeighed k ws m) (sym h.variables) h
