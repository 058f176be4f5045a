-- The matrix of a job of pairs (Faugère 1999, section 2)
use Rattle.std.specs.Prelude.{List, [], length, map, ℕ, ◌<◌, ◌∷◌, ◌≡◌}
use Rattle.formal_sums.specs.FormalSums.{Each}
use Rattle.bases.specs.Leads.{head_coefficient}
use Rattle.bases.specs.Settings.{Setting}
use Rattle.term_lists.specs.Vectors.{sum_of, sums_of}
use Rattle.term_lists.specs.declared.key.Key.{Key as CodeKey}
use Rattle.module_vectors.specs.Trails.{KeptProduct, kept_at}
use Rattle.pair_criteria.specs.declared.pair.Pair.{Pair as CodePair}
use Rattle.row_laws.specs.Jobs.{AreProductRows, HasPairRows, HasReducers}
use Rattle.row_matrix.specs.Rows.{IsMatrix, MatrixShown, shown_row_at, vectors_of}
use Rattle.symbolic_prep.specs.Counts.{HasFewRows}
use Rattle.symbolic_prep.specs.Plans.{IsMemberProduct, product_sum}
use Rattle.pair_criteria.specs.Traces.{AreTraced}

-- the vector is not zero, and its first coefficient is 1
abbrev pub IsMonicVector : ℕ → List (CodeKey × ℕ) → Type 0
IsMonicVector n v = (0 < length v) × (head_coefficient (sum_of n v) ≡ 1)

-- the rows are these products of members, each its own source; each product's lead is the least common multiple of a pair or a key of
-- an earlier product; the rows are fewer than leads and twice the pairs; among them are both products of each pair's S-vector, and for
-- each key of a row that a member's lead divides a row with that lead
pub record IsPrepared (n : ℕ) (S : Setting n) (list : List (List (CodeKey × ℕ))) (pairs : List CodePair) (m : MatrixShown)
    (made : List KeptProduct) : Type 0 where
  pub matrix : IsMatrix n S.weights S.modulus S.compare m
  pub inputs : m.inputs ≡ length m.rows
  pub sources : (i : ℕ) → i < length m.rows → (shown_row_at m.rows i).sources ≡ (i, 1) ∷ []
  pub each_product : (i : ℕ) → i < length made → IsMemberProduct n S.weights list (kept_at made i)
  pub traced : AreTraced n list pairs made
  pub vectors : vectors_of n m.columns m.rows ≡ map (λ s. product_sum n list s) made
  pub products : AreProductRows S.modulus (sums_of n list) (vectors_of n m.columns m.rows)
  pub pair_rows : Each (λ x. HasPairRows S.modulus (sums_of n list) (vectors_of n m.columns m.rows) x.i x.j) pairs
  pub few : 0 < length pairs → HasFewRows (vectors_of n m.columns m.rows) (length pairs)
  pub reducers : HasReducers S (sums_of n list) (vectors_of n m.columns m.rows)
