-- Where two lists of exponents differ. No public clause cites this module.
use Rattle.std.specs.Prelude.{List, slice_index, ℕ, ◌-◌, ◌<◌, ◌≡◌, ◌≢◌, ◌≤◌}

-- of the first m places, the first n are those up to and with the last at which xs and ys differ: none where they differ nowhere
pub record EndsDifferences (m : ℕ) (xs ys : List ℕ) (n : ℕ) : Type 0 where
  pub inside : n ≤ m
  pub same : (k : ℕ) → n ≤ k → k < m → slice_index xs k ≡ slice_index ys k
  pub differ : 0 < n → slice_index xs (n - 1) ≢ slice_index ys (n - 1)
