-- Combinations, modules and syzygies (UAG chapter 5, section 1; IVA chapter 1, section 4)
use Rattle.std.specs.Prelude.{List, [], flat_map, get_or, length, ℕ, ◌<◌}
use Rattle.formal_sums.specs.FormalSums.{FormalSum, HasRank, IsOfRank, IsSame, scale}

-- the combination of the members of F by the components of a: the component at position i is the cofactor of member i
abbrev pub combination : {n : ℕ} → List (FormalSum n) → FormalSum n → FormalSum n
combination F a = flat_map (λ t. scale t.1 t.0.1 (get_or F t.0.0 [])) a

-- v is in the module that F generates, modulo p (UAG chapter 5, section 1)
pub record IsMember {n : ℕ} (p : ℕ) (F : List (FormalSum n)) (v : FormalSum n) : Type 0 where
  pub cofactors : FormalSum n
  pub positions : HasRank (length F) cofactors
  pub sums : IsSame p (combination F cofactors) v

-- a is a relation among the members of F, modulo p (UAG chapter 5, section 1)
pub record IsSyzygy {n : ℕ} (p : ℕ) (F : List (FormalSum n)) (a : FormalSum n) : Type 0 where
  pub rank : IsOfRank p (length F) a
  pub vanishes : IsSame p (combination F a) []

-- F and H generate one module: each member of the one list is in the module of the other (IVA chapter 1, section 4)
pub record IsSameModule {n : ℕ} (p : ℕ) (F H : List (FormalSum n)) : Type 0 where
  pub inside : (i : ℕ) → i < length F → IsMember p H (get_or F i [])
  pub outside : (i : ℕ) → i < length H → IsMember p F (get_or H i [])
