-- Products by numbers of keys, and what they leave
use Rattle.std.specs.Prelude.{Bool, List, [], false, get_or, length, true, ℕ, ◌++◌, ◌<◌, ◌∷◌, ◌≡◌, ◌≤◌}
use Rattle.formal_sums.specs.Combinations.{combination}
use Rattle.formal_sums.specs.FormalSums.{FormalSum, HasRank, IsSame}
use Rattle.monomial_orders.specs.Kept.{Monomial}
use Rattle.term_lists.specs.Rings.{variables}
use Rattle.term_lists.specs.Vectors.{AreTermsOver, IsMonomialOver, sum_of, sums_of}
use Rattle.term_lists.specs.declared.key.Key.{Key as CodeKey}
use Rattle.term_lists.specs.declared.ring.Ring.{Ring}
use Rattle.module_vectors.specs.Trails.{KeptProduct}
use Rattle.vector_division.specs.Divisions.{IsFreeOfLeads, IsUncovered}
use Rattle.row_matrix.specs.Rows.{Entry, column_key, row_sum}
use Rattle.numbered_sums.specs.KeySums.{AreEntriesWithin, AreSmall, AreTouched, numbered_sum}
use Rattle.numbered_sums.specs.ProductEntries.{IsProductEntries}

-- new has the keys of old and behind them others
pub record IsLonger (old new : List CodeKey) : Type 0 where
  pub added : List CodeKey
  pub is : new ≡ old ++ added

-- the entries, by numbers of these keys, are those of the vector
pub record AreEntriesOf (ring : Ring) (keys : List CodeKey) (v : List (CodeKey × ℕ)) (entries : List Entry) : Type 0 where
  pub within : AreEntriesWithin ring.modulus.value (length keys) entries
  pub sum : row_sum (column_key (variables ring) keys) entries ≡ sum_of (variables ring) v

-- a vector of the list by its index, and a monomial of the ring
pub record AreFactors (ring : Ring) (list : List (List (CodeKey × ℕ))) (s : KeptProduct) : Type 0 where
  pub index : s.0 < length list
  pub monomial : IsMonomialOver ring s.1

-- the product of a monomial and a vector of the list, by numbers of these keys
pub record IsRowOfList (ring : Ring) (list : List (List (CodeKey × ℕ))) (keys : List CodeKey) (entries : List Entry) : Type 0 where
  pub index : ℕ
  pub monomial : Monomial
  pub within : index < length list
  pub row : IsProductEntries ring list keys index monomial entries

-- no lead of the list divides a key whose number has a flag
pub record AreFreeFlags (n : ℕ) (list : List (List (CodeKey × ℕ))) (keys : List CodeKey) (flags : List Bool) : Type 0 where
  pub within : length flags ≤ length keys
  pub free : (i : ℕ) → get_or flags i false ≡ true → IsUncovered (sums_of n list) (column_key n keys i)

-- a combination of the list was taken away of v, and the sums are left, with the numbers that were touched
pub record AreTakenAway (ring : Ring) (list : List (List (CodeKey × ℕ))) (keys : List CodeKey) (v : List (CodeKey × ℕ)) (sums touched : List ℕ) : Type 0 where
  pub cofactors : FormalSum (variables ring)
  pub ranks : HasRank (length list) cofactors
  pub count : length sums ≡ length keys
  pub small : AreSmall sums
  pub marked : AreTouched touched sums
  pub sum :
      let n = variables ring in
      IsSame ring.modulus.value (sum_of n v) (combination (sums_of n list) cofactors ++ numbered_sum (column_key n keys) 0 sums)

-- old and the term with this number and residue are new; where no lead of the list divides a key of old, none does one of new
pub record IsTermKept (ring : Ring) (list : List (List (CodeKey × ℕ))) (keys : List CodeKey) (number residue : ℕ) (old new : List (CodeKey × ℕ)) :
    Type 0 where
  pub terms : AreTermsOver ring old → AreTermsOver ring new
  pub sum :
      let n = variables ring in
      IsSame ring.modulus.value (sum_of n new) (sum_of n old ++ (column_key n keys number, residue) ∷ [])
  pub free :
      let n = variables ring in
      IsFreeOfLeads (sums_of n list) (sum_of n old) → IsFreeOfLeads (sums_of n list) (sum_of n new)

-- these terms are what the sums stand for, and no lead of the list divides a key of theirs
pub record AreLeft (ring : Ring) (list : List (List (CodeKey × ℕ))) (keys : List CodeKey) (sums : List ℕ) (left : List (CodeKey × ℕ)) : Type 0 where
  pub terms : AreTermsOver ring left
  pub sum :
      let n = variables ring in
      IsSame ring.modulus.value (numbered_sum (column_key n keys) 0 sums) (sum_of n left)
  pub free :
      let n = variables ring in
      IsFreeOfLeads (sums_of n list) (sum_of n left)
