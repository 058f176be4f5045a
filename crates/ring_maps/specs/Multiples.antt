-- Weights that are one multiple of others: both give one order
use Rattle.std.specs.Prelude.{List, length, slice_index, ℕ, ◌*◌, ◌<◌, ◌≡◌}

-- none of `us` is 0, and `vs` are the same multiple of them, one by one
pub record AreWeightMultiples (us vs : List ℕ) : Type 0 where
  pub factor : ℕ
  pub positive : 0 < factor
  pub each : (k : ℕ) → k < length us → (0 < slice_index us k) × (slice_index vs k ≡ factor * slice_index us k)
