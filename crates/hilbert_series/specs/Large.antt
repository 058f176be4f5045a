-- Numerators whose series leave the signed numbers of 128 bits
use Rattle.std.specs.Prelude.{List, [], nat_abs, suc, ℕ, ℤ, ◌^◌, ◌≤◌, ⊤}
use Rattle.hilbert_laws.specs.Dimensions.{HasOrderAtOne}
use Rattle.hilbert_laws.specs.Numerators.{series}
use Rattle.hilbert_series.specs.declared.stop.HilbertStop.{HilbertStop}
use Rattle.hilbert_series.specs.declared.stop.HilbertStop.TheVariants.{Memory, Leads, Large}

-- K is not 0, z is its order at 1, and a coefficient of K / (1 - t)^j is 2^127 or more, or -2^127 or less, for a j from 0 to z + 1
pub record IsLarge (K : List ℤ) : Type 0 where
  pub order : ℕ
  pub value : ℤ
  pub at_one : HasOrderAtOne K order value
  pub factors : ℕ
  pub few : factors ≤ suc order
  pub place : ℕ
  pub large : 2 ^ 127 ≤ nat_abs (series [] K factors place)

-- why there is no dimension: want of memory, or a coefficient that is too large
abbrev pub DimensionStops : List ℤ → HilbertStop → Type 0
DimensionStops K Memory = ⊤
DimensionStops K (Leads k) = ⊥
DimensionStops K Large = IsLarge K
