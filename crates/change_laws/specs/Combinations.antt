-- Combinations of monomials, and vectors modulo a module (IVA chapter 5, section 2)
use Rattle.std.specs.Prelude.{List, [], get_or, length, suc, zero, ⊤, ℕ, ◌*◌, ◌++◌, ◌+◌, ◌<◌, ◌∷◌}
use Rattle.residues.specs.Residues.{IsCongruent}
use Rattle.monomials.specs.Exponents.{Exponents, unit}
use Rattle.formal_sums.specs.Combinations.{IsMember}
use Rattle.formal_sums.specs.FormalSums.{FormalSum, IsSame}

-- the sum of f k times the monomial k
abbrev pub expansion : {n : ℕ} → List (Exponents n) → (ℕ → ℕ) → FormalSum n
expansion [] f = []
expansion (b ∷ B) f = ((0, b), f 0) ∷ expansion B (λ k. f (suc k))

-- v and w differ by a member of the module of F, modulo p: each with a member added, they are the same
pub record IsSameModulo {n : ℕ} (p : ℕ) (F : List (FormalSum n)) (v w : FormalSum n) : Type 0 where
  pub left : FormalSum n
  pub right : FormalSum n
  pub left_member : IsMember p F left
  pub right_member : IsMember p F right
  pub sums : IsSame p (v ++ left) (w ++ right)

-- no combination of the monomials is in the module of F but that by multiples of p: they are independent modulo F
abbrev pub AreIndependent : {n : ℕ} → ℕ → List (FormalSum n) → List (Exponents n) → Type 0
AreIndependent p F ms = (f : ℕ → ℕ) → IsMember p F (expansion ms f) → (k : ℕ) → k < length ms → IsCongruent p (f k) 0
