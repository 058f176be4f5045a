-- A numerator that is divided by 1 - t, again and again, as the code does it
use Rattle.std.specs.Prelude.{List, [], get_or, length, nat_abs, pos, suc, zero, ℕ, ℤ, ◌<◌, ◌^◌, ◌≡◌, ◌≤◌, ⊤}
use Rattle.hilbert_laws.specs.Numerators.{divided_by, partial_sums, series, value_at_one}
use Rattle.hilbert_series.specs.declared.stop.HilbertStop.{HilbertStop}
use Rattle.hilbert_series.specs.declared.stop.HilbertStop.TheVariants.{Memory, Leads, Large}

-- `rest` is K / (1 - t)^z, up to zeros at its end, and no coefficient of K / (1 - t)^j is large for j up to z
pub record IsDividedByPowers (K rest : List ℤ) (z : ℕ) : Type 0 where
  pub vanishes : (i : ℕ) → i < z → value_at_one (divided_by i K) ≡ pos 0
  pub quotient : (d : ℕ) → get_or rest d (pos 0) ≡ series [] K z d
  pub narrow : (j d : ℕ) → j ≤ z → nat_abs (series [] K j d) < 2 ^ 127

-- `sums` are the sums of the coefficients of `rest`, none large
pub record AreSums (rest sums : List ℤ) : Type 0 where
  pub long : length sums ≡ length rest
  pub each : (d : ℕ) → d < length rest → get_or sums d (pos 0) ≡ partial_sums (λ e. get_or rest e (pos 0)) d
  pub narrow : (d : ℕ) → nat_abs (get_or sums d (pos 0)) < 2 ^ 127

-- why there are no sums: want of memory, or a sum that is large
abbrev pub SumStops : List ℤ → HilbertStop → Type 0
SumStops rest Memory = ⊤
SumStops rest (Leads k) = ⊥
SumStops rest Large = (d : ℕ) × (2 ^ 127 ≤ nat_abs (partial_sums (λ e. get_or rest e (pos 0)) d))

-- the sum of the first d coefficients
abbrev pub sum_before : List ℤ → ℕ → ℤ
sum_before rest zero = pos 0
sum_before rest (suc d) = partial_sums (λ x. get_or rest x (pos 0)) d

-- `sums` are the first d sums of the coefficients of `rest`, none large, and `sum` is the last of them, or 0
pub record IsSummed (rest sums : List ℤ) (sum : ℤ) (d : ℕ) : Type 0 where
  pub long : length sums ≡ d
  pub each : (e : ℕ) → e < d → get_or sums e (pos 0) ≡ partial_sums (λ x. get_or rest x (pos 0)) e
  pub narrow : (e : ℕ) → nat_abs (get_or sums e (pos 0)) < 2 ^ 127
  pub last : sum ≡ sum_before rest d
