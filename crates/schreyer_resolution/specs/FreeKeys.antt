-- Keys that no lead of the columns divides, and rows without entries of such keys
use Rattle.std.specs.Prelude.{Bool, List, [], false, get_or, length, true, ℕ, ◌++◌, ◌≡◌, ◌≤◌}
use Rattle.formal_sums.specs.Combinations.{IsMember}
use Rattle.formal_sums.specs.FormalSums.{FormalSum, IsSame}
use Rattle.monomial_orders.specs.Kept.{Monomial}
use Rattle.term_lists.specs.Rings.{variables}
use Rattle.term_lists.specs.Vectors.{sums_of}
use Rattle.term_lists.specs.declared.key.Key.{Key as CodeKey}
use Rattle.term_lists.specs.declared.ring.Ring.{Ring}
use Rattle.vector_division.specs.Divisions.{IsFreeOfLeads, IsUncovered}
use Rattle.row_matrix.specs.Rows.{Entry, column_key, row_sum}
use Rattle.numbered_sums.specs.KeySums.{AreEntriesWithin}
use Rattle.numbered_sums.specs.ProductEntries.{multiple_at}

-- a member of the columns' module is zero where no lead of theirs divides a key of it
abbrev pub AreFreeMembersZero : Ring → List (List (CodeKey × ℕ)) → Type 0
AreFreeMembersZero ring columns =
    let F = sums_of (variables ring) columns in
    (v : FormalSum (variables ring)) → IsMember ring.modulus.value F v → IsFreeOfLeads F v → IsSame ring.modulus.value v []

-- no lead of the columns divides a key whose number has a flag
pub record AreFreeNumbers (n : ℕ) (columns : List (List (CodeKey × ℕ))) (keys : List CodeKey) (flags : List Bool) : Type 0 where
  pub within : length flags ≤ length keys
  pub free : (i : ℕ) → get_or flags i false ≡ true → IsUncovered (sums_of n columns) (column_key n keys i)

-- new has the items of old and behind them others
pub record HasMore {X : Type 0} (old new : List X) : Type 0 where
  pub added : List X
  pub is : new ≡ old ++ added

-- the entries, by numbers of these keys, are those of the vector, but for terms whose keys no lead of the columns divides
pub record IsUpToFree (ring : Ring) (columns : List (List (CodeKey × ℕ))) (keys : List CodeKey) (v : FormalSum (variables ring))
    (entries : List Entry) : Type 0 where
  pub within : AreEntriesWithin ring.modulus.value (length keys) entries
  pub rest : FormalSum (variables ring)
  pub free :
      let n = variables ring in
      IsFreeOfLeads (sums_of n columns) rest
  pub sum :
      let n = variables ring in
      IsSame ring.modulus.value v (row_sum (column_key n keys) entries ++ rest)

-- they are so those of the product of the monomial and the column with this index
abbrev pub IsProductUpToFree : Ring → List (List (CodeKey × ℕ)) → List CodeKey → ℕ → Monomial → List Entry → Type 0
IsProductUpToFree ring columns keys index m entries = IsUpToFree ring columns keys (multiple_at ring columns index m) entries
