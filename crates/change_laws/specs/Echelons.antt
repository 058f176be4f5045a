-- Normal forms of monomials in echelon form (Faugère, Gianni, Lazard, Mora 1993)
use Rattle.std.specs.Prelude.{List, length, ℕ, ◌<◌}
use Rattle.residues.specs.Residues.{IsCongruent}
use Rattle.monomials.specs.Exponents.{Exponents}
use Rattle.formal_sums.specs.FormalSums.{FormalSum}
use Rattle.change_laws.specs.Combinations.{IsSameModulo, expansion}

-- rows of residues over the monomials B, and for each its residues over the monomials N, in echelon form: row l is 1 at its
-- pivot, at which later rows vanish; the other part has its last residue at l
pub record AreEchelonRows {n : ℕ} (p : ℕ) (F : List (FormalSum n)) (B N : List (Exponents n)) (r c : ℕ → ℕ → ℕ) (q : ℕ → ℕ) : Type 0 where
  pub same : (l : ℕ) → l < length N → IsSameModulo p F (expansion B (r l)) (expansion N (c l))
  pub pivots : (l : ℕ) → l < length N → q l < length B
  pub one : (l : ℕ) → l < length N → IsCongruent p (r l (q l)) 1
  pub later : (l i : ℕ) → l < i → i < length N → IsCongruent p (r i (q l)) 0
  pub diagonal : (l : ℕ) → l < length N → IsCongruent p (c l l) 0 → ⊥
  pub beyond : (l k : ℕ) → l < length N → l < k → IsCongruent p (c l k) 0
