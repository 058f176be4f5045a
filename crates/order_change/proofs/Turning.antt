-- One more product had its turn
use Rattle.std.proofs.Common.{Less, List, ap, ap₂, arith, get_or, inl, inr, length, subst, suc, sym, ℕ, ◌+◌, ◌<◌, ◌∙◌, ◌∷◌, ◌≡◌, ◌≤◌, ◌⊎◌}
use Rattle.std.proofs.lemmas.Bool.{cases_lt}
use Rattle.std.specs.Prelude.{slice_index}
use Rattle.monomials.proofs.Monomials.{times-unit}
use Rattle.monomials.specs.Exponents.{Exponents, times, unit}
use Rattle.monomial_orders.specs.Comparisons.{comparison}
use Rattle.monomial_orders.specs.Laws.{comparison_order}
use Rattle.term_lists.specs.declared.ring.Ring.{Ring}
use Rattle.change_laws.specs.Standard.{Has, power}
use Rattle.order_change.proofs.Filling.{eq_or}
use Rattle.order_change.proofs.Orders.{less_not_back, less_times, not_less_trans, variable_above}
use Rattle.order_change.specs.Changing.{AreTurns, HasDivisor}
use Rattle.order_change.specs.Products.{IsAscending, IsLeast, variable_product_at}

-- a divisor of one more list, or none
pub divisor_more : {n : ℕ} (H : List (Exponents n)) (y m : Exponents n) → HasDivisor H m → HasDivisor (y ∷ H) m
divisor_more H y m (k, kl, d) = (suc k, omega (arith, kl), d)

pub divisor_new : {n : ℕ} (H : List (Exponents n)) (y : Exponents n) → HasDivisor (y ∷ H) y
divisor_new {n} H y = (0, omega arith, (unit n, times-unit y))

module _ (n : ℕ) (ring : Ring) (N : List (Exponents n)) (rise : IsAscending (comparison ring.order ring.weights n) N) (H N' H' : List (Exponents n)) (turns turns' : List ℕ) (v k : ℕ) (y : Exponents n) (old : AreTurns n ring N H turns) (vn : v < n) (kl : k < length N) (turn : slice_index turns v ≡ k) (is : y ≡ variable_product_at n N v k) (least : IsLeast n (comparison ring.order ring.weights n) N (slice_index turns) n y) (long : length turns' ≡ length turns) (passed : slice_index turns' v ≡ slice_index turns v + 1) (others : (w : ℕ) → (w ≡ v → ⊥) → slice_index turns' w ≡ slice_index turns w) where
  most : (w : ℕ) → w < n → slice_index turns' w ≤ length N
  most w wn = go (eq_or w v)
    where
      go : (w ≡ v) ⊎ (w ≡ v → ⊥) → slice_index turns' w ≤ length N
      go (inl e) = subst (λ z. slice_index turns' z ≤ length N) (sym e) (omega (arith, passed, turn, kl))
      go (inr ne) = subst (λ z. z ≤ length N) (sym (others w ne)) (old.most w wn)

  -- an old product whose turn it is now is not below y
  waiting : (w : ℕ) → w < n → slice_index turns' w < length N → comparison ring.order ring.weights n (variable_product_at n N w (slice_index turns' w)) y ≡ Less → ⊥
  waiting w wn lt = go (eq_or w v)
    where
      go : (w ≡ v) ⊎ (w ≡ v → ⊥) → comparison ring.order ring.weights n (variable_product_at n N w (slice_index turns' w)) y ≡ Less → ⊥
      go (inr ne) below =
          least w wn (subst (λ z. z < length N) (others w ne) lt) (subst (λ z. comparison ring.order ring.weights n (variable_product_at n N w z) y ≡ Less) (others w ne) below)
      go (inl e) below =
          let next : slice_index turns' w ≡ k + 1 = ap (slice_index turns') e ∙ passed ∙ ap (λ z. z + 1) turn in
          let lt' : k + 1 < length N = omega (arith, lt, next) in
          let up : comparison ring.order ring.weights n y (variable_product_at n N v (k + 1)) ≡ Less =
          ap (λ z. comparison ring.order ring.weights n z (variable_product_at n N v (k + 1))) is
          ∙ less_times (comparison ring.order ring.weights n) (comparison_order ring.order ring.weights n) (power n v 1) (get_or N k (unit n)) (get_or N (k + 1) (unit n)) (rise k (k + 1) (omega arith) lt') in
          less_not_back (comparison ring.order ring.weights n) (comparison_order ring.order ring.weights n) y (variable_product_at n N v (k + 1)) up
          (subst (λ z. comparison ring.order ring.weights n z y ≡ Less) (ap₂ (variable_product_at n N) e next) below)

  module _ (inside : (x : Exponents n) → Has N x → Has N' x) (divisors : (x : Exponents n) → HasDivisor H x → HasDivisor H' x) (resolved : Has N' y ⊎ HasDivisor H' y) (kept : (i : ℕ) → i < length N → get_or N' i (unit n) ≡ get_or N i (unit n)) (longer : length N ≤ length N') (standard_low : (i : ℕ) → i < length N' → comparison ring.order ring.weights n y (get_or N' i (unit n)) ≡ Less → ⊥) (leads_low : (i : ℕ) → i < length H' → comparison ring.order ring.weights n y (get_or H' i (unit n)) ≡ Less → ⊥) (beyond : (i : ℕ) → length N ≤ i → i < length N' → get_or N' i (unit n) ≡ y) where
    -- so each product whose turn it is
    waiting_all : (w : ℕ) → w < n → slice_index turns' w < length N' → comparison ring.order ring.weights n (variable_product_at n N' w (slice_index turns' w)) y ≡ Less → ⊥
    waiting_all w wn lt = go (cases_lt (slice_index turns' w) (length N))
      where
        go : (slice_index turns' w < length N) ⊎ (length N ≤ slice_index turns' w) → comparison ring.order ring.weights n (variable_product_at n N' w (slice_index turns' w)) y ≡ Less → ⊥
        go (inl l) below = waiting w wn l (subst (λ z. comparison ring.order ring.weights n (times (power n w 1) z) y ≡ Less) (kept (slice_index turns' w) l) below)
        go (inr g) below =
            less_not_back (comparison ring.order ring.weights n) (comparison_order ring.order ring.weights n) y (times (power n w 1) y)
            (variable_above (comparison ring.order ring.weights n) (comparison_order ring.order ring.weights n) w y wn)
            (subst (λ z. comparison ring.order ring.weights n (times (power n w 1) z) y ≡ Less) (beyond (slice_index turns' w) g lt) below)

    old_had : (w j : ℕ) → w < n → j < length N → Has N (variable_product_at n N w j) ⊎ HasDivisor H (variable_product_at n N w j) → Has N' (variable_product_at n N' w j) ⊎ HasDivisor H' (variable_product_at n N' w j)
    old_had w j wn jl (inl has) = inl (subst (λ z. Has N' (times (power n w 1) z)) (sym (kept j jl)) (inside (variable_product_at n N w j) has))
    old_had w j wn jl (inr d) = inr (subst (λ z. HasDivisor H' (times (power n w 1) z)) (sym (kept j jl)) (divisors (variable_product_at n N w j) d))

    had : (w j : ℕ) → w < n → j < slice_index turns' w → Has N' (variable_product_at n N' w j) ⊎ HasDivisor H' (variable_product_at n N' w j)
    had w j wn jt = go (cases_lt j (slice_index turns w)) (eq_or w v)
      where
        within : slice_index turns w ≤ length N
        within = old.most w wn

        go : (j < slice_index turns w) ⊎ (slice_index turns w ≤ j) → (w ≡ v) ⊎ (w ≡ v → ⊥) → Has N' (variable_product_at n N' w j) ⊎ HasDivisor H' (variable_product_at n N' w j)
        go (inl l) q = old_had w j wn (omega (arith, l, within)) (old.had w j wn l)
        go (inr g) (inr ne) = absurd (let e = others w ne in omega (arith, g, jt, e))
        go (inr g) (inl e) =
            let tw : slice_index turns' w ≡ k + 1 = ap (slice_index turns') e ∙ passed ∙ ap (λ z. z + 1) turn in
            let ow : slice_index turns w ≡ k = ap (slice_index turns) e ∙ turn in
            let same : j ≡ k = omega (arith, g, jt, tw, ow) in
            let here : variable_product_at n N' w j ≡ y = ap₂ (variable_product_at n N') e same ∙ ap (times (power n v 1)) (kept k kl) ∙ sym is in
            subst (λ z. Has N' z ⊎ HasDivisor H' z) (sym here) resolved

    first : Has N (unit n) ⊎ HasDivisor H (unit n) → Has N' (unit n) ⊎ HasDivisor H' (unit n)
    first (inl has) = inl (inside (unit n) has)
    first (inr d) = inr (divisors (unit n) d)

    pub turns_passed : AreTurns n ring N' H' turns'
    turns_passed = record {
      long = long ∙ old.long;
      most = λ w wn. let le = most w wn in omega (arith, le, longer);
      had = had;
      above_standard = λ w i wn lt il. not_less_trans (comparison ring.order ring.weights n) (comparison_order ring.order ring.weights n) (get_or N' i (unit n)) y (variable_product_at n N' w (slice_index turns' w)) (standard_low i il) (waiting_all w wn lt);
      above_leads = λ w i wn lt il. not_less_trans (comparison ring.order ring.weights n) (comparison_order ring.order ring.weights n) (get_or H' i (unit n)) y (variable_product_at n N' w (slice_index turns' w)) (leads_low i il) (waiting_all w wn lt);
      first = first old.first;
    }
