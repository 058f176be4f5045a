-- Raised and lowered vectors
use Rattle.std.proofs.Common.{[], arith, refl, true, ℕ, ◌+◌, ◌-◌, ◌<◌, ◌∷◌, ◌≡◌}
use Rattle.std.proofs.lemmas.Bool.Decides.{nat_tests}
use Rattle.std.specs.Prelude.{nat_le}
use Rattle.std.specs.Cmp.Derive.{both_true}
use Rattle.monomials.proofs.Monomials.{and_left, and_right}
use Rattle.formal_sums.specs.FormalSums.{FormalSum, HasRank}
use Rattle.division_laws.specs.Elimination.{is_from_position}
use Rattle.syzygy_laws.specs.Syzygies.{raised}
use Rattle.syzygy_laws.specs.Kernels.{all_kept, lowered}

pub all_kept_raised : {n : ℕ} (q : ℕ) (a : FormalSum n) → all_kept (is_from_position q) (raised q a) ≡ true
all_kept_raised q [] = refl
all_kept_raised q (t ∷ a) = both_true (le q t.0.0) (all_kept_raised q a)
  where
    le : (a b : ℕ) → nat_le a (a + b) ≡ true
    le a b = grind (arith, nat_tests)

pub lowered_rank : {n : ℕ} (q m : ℕ) (v : FormalSum n) → HasRank (q + m) v → all_kept (is_from_position q) v ≡ true → HasRank m (lowered q v)
lowered_rank q m [] h e = tt
lowered_rank q m (t ∷ v) h e = (lt q t.0.0 m (and_left _ _ e) h.0, lowered_rank q m v h.1 (and_right _ _ e))
  where
    lt : (q a m : ℕ) → nat_le q a ≡ true → a < q + m → a - q < m
    lt q a m e h = grind (arith, nat_tests)
