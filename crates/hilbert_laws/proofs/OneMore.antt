-- The numerator with one more generator m: K(I + m) = K(I) - t^deg(m) K(I : m); so each list of monomials has a numerator
use Rattle.std.proofs.Common.{List, [], ap, arith, inl, inr, length, map, refl, suc, sym, zero, ℕ, ◌+◌, ◌-◌, ◌<◌, ◌∙◌, ◌∷◌, ◌≡◌, ◌≤◌, ◌⊎◌}
use Rattle.std.proofs.lemmas.Bool.{cases_lt}
use Rattle.std.proofs.lemmas.Int.{ints}
use Rattle.std.specs.Prelude.{pos, ℤ, ◌+ℤ◌}
use Rattle.monomials.specs.Exponents.{Exponents, quotient}
use Rattle.monomials.specs.Weights.{weighted_degree}
use Rattle.monomial_counts.proofs.Counting.{standard_count_below}
use Rattle.monomial_counts.specs.Counts.{standard_count}
use Rattle.hilbert_laws.proofs.Recurrence.{IsNumerator_one, IsNumerator_position, count_split, series-minus, series-plus, series-shifted, series-shifted_below, series_nothing}
use Rattle.hilbert_laws.specs.Numerators.{IsNumerator, leads_at, module_count, plus, series}
use Rattle.hilbert_laws.specs.Shifting.{minus, shifted}

-- what m and its multiples add to the count of degree d, as a series
pub count_parts :
    {n : ℕ} (ws : List ℕ) (ms : List (Exponents n)) (m : Exponents n) (L : List ℤ)
    → IsNumerator ws n L (standard_count ws (map (λ s. quotient s m) ms)) → (d : ℕ)
    → pos (standard_count ws ms d) ≡ pos (standard_count ws (m ∷ ms) d) +ℤ series ws (shifted (weighted_degree ws m) L) n d
count_parts {n} ws ms m L hl d = go (cases_lt d (weighted_degree ws m))
  where
    go :
        (d < weighted_degree ws m) ⊎ (weighted_degree ws m ≤ d)
        → pos (standard_count ws ms d) ≡ pos (standard_count ws (m ∷ ms) d) +ℤ series ws (shifted (weighted_degree ws m) L) n d
    go (inl lt) =
        let b = series-shifted_below ws n (weighted_degree ws m) L d lt in
        let c = standard_count_below n ws ms m d lt in
        omega (arith, ints, b, c)
    go (inr le) = at (d - weighted_degree ws m) (omega (arith, le))
      where
        at :
            (e : ℕ) → d ≡ weighted_degree ws m + e
            → pos (standard_count ws ms d) ≡ pos (standard_count ws (m ∷ ms) d) +ℤ series ws (shifted (weighted_degree ws m) L) n d
        at e q =
            let b : series ws (shifted (weighted_degree ws m) L) n d ≡ series ws L n e =
            ap (series ws (shifted (weighted_degree ws m) L) n) q ∙ series-shifted ws n (weighted_degree ws m) L e in
            let c = hl e in
            let s : standard_count ws ms d ≡ standard_count ws (m ∷ ms) d + standard_count ws (map (λ s. quotient s m) ms) e =
            ap (standard_count ws ms) q ∙ count_split ws ms m e
            ∙ ap (λ z. standard_count ws (m ∷ ms) z + standard_count ws (map (λ s. quotient s m) ms) e) (sym q) in
            omega (arith, ints, b, c, s)

pub IsNumerator_more :
    {n : ℕ} (ws : List ℕ) (ms : List (Exponents n)) (m : Exponents n) (K L : List ℤ) → IsNumerator ws n K (standard_count ws ms)
    → IsNumerator ws n L (standard_count ws (map (λ s. quotient s m) ms))
    → IsNumerator ws n (minus K (shifted (weighted_degree ws m) L)) (standard_count ws (m ∷ ms))
IsNumerator_more {n} ws ms m K L hk hl d =
    let a = series-minus ws n K (shifted (weighted_degree ws m) L) d in
    let b = hk d in
    let c = count_parts ws ms m L hl d in
    omega (arith, ints, a, b, c)

-- the recurrence, for any monomial x
pub IsNumerator_split :
    {n : ℕ} (ws : List ℕ) (ms : List (Exponents n)) (x : Exponents n) (K L : List ℤ)
    → IsNumerator ws n K (standard_count ws (x ∷ ms)) → IsNumerator ws n L (standard_count ws (map (λ s. quotient s x) ms))
    → IsNumerator ws n (plus K (shifted (weighted_degree ws x) L)) (standard_count ws ms)
IsNumerator_split {n} ws ms x K L hk hl d =
    let a = series-plus ws n K (shifted (weighted_degree ws x) L) d in
    let b = hk d in
    let c = count_parts ws ms x L hl d in
    omega (arith, ints, a, b, c)

pub length-quotients : {n : ℕ} (m : Exponents n) (ms : List (Exponents n)) → length (map (λ s. quotient s m) ms) ≡ length ms
length-quotients m [] = refl
length-quotients m (s ∷ ms) = ap suc (length-quotients m ms)

-- the quotients are as many as the generators
with_fuel :
    {n : ℕ} (ws : List ℕ) (fuel : ℕ) (ms : List (Exponents n)) → length ms < fuel
    → (K : List ℤ) × IsNumerator ws n K (standard_count ws ms)
with_fuel ws zero ms lt = absurd (omega (arith, lt))
with_fuel {n} ws (suc fuel) [] lt = (pos 1 ∷ [], IsNumerator_one n ws)
with_fuel ws (suc fuel) (m ∷ ms) lt =
    let a = with_fuel ws fuel ms (omega (arith, lt)) in
    let b = with_fuel ws fuel (map (λ s. quotient s m) ms) (let q = length-quotients m ms in omega (arith, lt, q)) in
    (minus a.0 (shifted (weighted_degree ws m) b.0), IsNumerator_more ws ms m a.0 b.0 a.1 b.1)

pub numerator_exists : {n : ℕ} (ws : List ℕ) (ms : List (Exponents n)) → (K : List ℤ) × IsNumerator ws n K (standard_count ws ms)
numerator_exists ws ms = with_fuel ws (suc (length ms)) ms (omega arith)

pub module_numerator_exists :
    {n : ℕ} (ws : List ℕ) (m : ℕ) (ks : List (ℕ × Exponents n)) → (K : List ℤ) × IsNumerator ws n K (module_count ws m ks)
module_numerator_exists {n} ws zero ks = ([], λ d. series_nothing ws n d)
module_numerator_exists {n} ws (suc m) ks =
    let a = module_numerator_exists ws m ks in
    let b = numerator_exists ws (leads_at m ks) in
    (plus a.0 b.0, IsNumerator_position n m ws ks a.0 b.0 a.1 b.1)
