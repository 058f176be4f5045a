-- What the new rows of a job are
use Rattle.std.specs.Prelude.{Contains, List, [], get_or, length, map, ℕ, ◌*◌, ◌++◌, ◌<◌, ◌≡◌}
use Rattle.std.specs.declared.cmp.Ordering.TheVariants.{Less}
use Rattle.formal_sums.specs.FormalSums.{Each, IsOfRank, Key}
use Rattle.bases.specs.Leads.{head_key}
use Rattle.bases.specs.Representations.{HasLcmRepresentation}
use Rattle.bases.specs.Settings.{Setting}
use Rattle.term_lists.specs.Vectors.{key_of, sums_of}
use Rattle.term_lists.specs.declared.key.Key.{Key as CodeKey}
use Rattle.module_vectors.specs.Trails.{KeptProduct, kept_at}
use Rattle.pair_criteria.specs.declared.pair.Pair.{Pair as CodePair}
use Rattle.row_matrix.specs.Rows.{AreKeys, Descend, IsFromSources, IsRow, RowShown, vector_of, vectors_of}
use Rattle.symbolic_prep.specs.Plans.{IsMemberProduct, product_sum}
use Rattle.pair_criteria.specs.Traces.{AreTraced}

-- the key is below the least common multiple of one of the pairs
abbrev pub IsBelowPairs : {n : ℕ} → Setting n → List CodePair → Key n → Type 0
IsBelowPairs {n} S pairs k = (x : CodePair) × Contains pairs x × (S.compare k (key_of n x.lcm) ≡ Less)

-- monic rows over descending columns, fewer than twice the pairs and with leads below an lcm of these, each a combination of these products
-- of members; over the members and the rows each pair has an lcm representation (Faugère 1999, section 2)
pub record AreNewRows (n : ℕ) (S : Setting n) (list : List (List (CodeKey × ℕ))) (pairs : List CodePair) (products : List KeptProduct) (columns : List CodeKey)
    (rows : List RowShown) : Type 0 where
  pub monomials : AreKeys n S.weights columns
  pub descend : Descend n S.compare columns
  pub each_product : (i : ℕ) → i < length products → IsMemberProduct n S.weights list (kept_at products i)
  pub traced : AreTraced n list pairs products
  pub rows_good : Each (IsRow S.modulus (length columns) (length products)) rows
  pub combined : Each (IsFromSources n S.modulus (map (λ s. product_sum n list s) products) columns) rows
  pub few : 0 < length pairs → length rows < 2 * length pairs
  pub low : Each (λ r. IsBelowPairs S pairs (head_key (vector_of n columns r))) rows
  pub represented :
      ((i : ℕ) → i < length (sums_of n list) → IsOfRank S.modulus S.rank (get_or (sums_of n list) i []))
      → Each (λ x. HasLcmRepresentation S (sums_of n list ++ vectors_of n columns rows) x.i x.j) pairs
