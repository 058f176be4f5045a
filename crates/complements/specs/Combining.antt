-- Combinations of columns by numbers of keys (Faugère 1999, section 2)
use Rattle.std.specs.Prelude.{List, [], get_or, length, set, ℕ, ◌++◌, ◌<◌, ◌∷◌, ◌≡◌}
use Rattle.residues.specs.Residues.{IsCongruent}
use Rattle.formal_sums.specs.FormalSums.{IsSame}
use Rattle.term_lists.specs.Rings.{variables}
use Rattle.term_lists.specs.Vectors.{AreTermsOver, sum_of}
use Rattle.term_lists.specs.declared.key.Key.{Key as CodeKey}
use Rattle.term_lists.specs.declared.ring.Ring.{Ring}
use Rattle.row_matrix.specs.Rows.{AreKeys, column_key}
use Rattle.numbered_sums.specs.ColumnHashes.{AreColumnHashes}
use Rattle.numbered_sums.specs.KeySums.{AreZeroSums, numbered_sum}
use Rattle.remainders.specs.Leaving.{AreTakenAway}
use Rattle.complements.specs.declared.accumulator.Accumulator.{Accumulator}

-- all sums are 0; the hashes are those of the columns' keys once they are as many
pub record HasZeroSums (ring : Ring) (columns : List (List (CodeKey × ℕ))) (a : Accumulator) : Type 0 where
  pub keys : AreKeys (variables ring) ring.weights a.numbers
  pub count : length a.sums.items ≡ length a.numbers
  pub zero : AreZeroSums a.sums.items
  pub untouched : a.touched.items ≡ []
  pub hashes : length a.hashes.items ≡ length columns → AreColumnHashes columns a.hashes.items

-- the sums are a combination of the columns with the other sign: that was taken away of 0
pub record AreGathered (ring : Ring) (columns : List (List (CodeKey × ℕ))) (a : Accumulator) : Type 0 where
  pub keys : AreKeys (variables ring) ring.weights a.numbers
  pub hashes : AreColumnHashes columns a.hashes.items
  pub taken : AreTakenAway ring columns a.numbers [] a.sums.items a.touched.items

-- old and the term with this number and residue are new
pub record IsTermTaken (ring : Ring) (keys : List CodeKey) (number residue : ℕ) (old new : List (CodeKey × ℕ)) : Type 0 where
  pub terms : AreTermsOver ring old → AreTermsOver ring new
  pub sum :
      let n = variables ring in
      IsSame ring.modulus.value (sum_of n new) (sum_of n old ++ (column_key n keys number, residue) ∷ [])

-- the sum with this number is 0 now, and its residue stands with its key among the terms
pub record IsSumTaken (ring : Ring) (keys : List CodeKey) (number : ℕ) (sums left : List ℕ) (old new : List (CodeKey × ℕ)) : Type 0 where
  pub within : number < length sums
  pub residue : ℕ
  pub congruent : IsCongruent ring.modulus.value (get_or sums number 0) residue
  pub zero : left ≡ set sums number 0
  pub term : IsTermTaken ring keys number residue old new

-- what the sums stood for are these terms and what is left of the sums
pub record AreTermsBeside (ring : Ring) (keys : List CodeKey) (sums left : List ℕ) (terms : List (CodeKey × ℕ)) : Type 0 where
  pub count : length left ≡ length sums
  pub over : AreTermsOver ring terms
  pub sum :
      let n = variables ring in
      let K = column_key n keys in
      IsSame ring.modulus.value (numbered_sum K 0 sums) (sum_of n terms ++ numbered_sum K 0 left)

-- these terms are what the sums stand for
pub record AreTermsOfSums (ring : Ring) (keys : List CodeKey) (sums : List ℕ) (terms : List (CodeKey × ℕ)) : Type 0 where
  pub over : AreTermsOver ring terms
  pub sum :
      let n = variables ring in
      IsSame ring.modulus.value (numbered_sum (column_key n keys) 0 sums) (sum_of n terms)
