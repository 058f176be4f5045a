-- Products of vectors by numbers of their keys
use Rattle.std.specs.Prelude.{List, [], get_or, length, ℕ, ◌<◌, ◌≡◌}
use Rattle.monomials.specs.Exponents.{exponents_of}
use Rattle.formal_sums.specs.FormalSums.{Each, FormalSum, scale}
use Rattle.monomial_orders.specs.Kept.{Monomial}
use Rattle.term_lists.specs.Rings.{variables}
use Rattle.term_lists.specs.Vectors.{sum_of}
use Rattle.term_lists.specs.declared.key.Key.{Key as CodeKey}
use Rattle.term_lists.specs.declared.ring.Ring.{Ring}
use Rattle.row_matrix.specs.Rows.{Entry, column_key, row_sum}
use Rattle.numbered_sums.specs.KeySums.{AreEntriesWithin}

-- the product of the monomial and the vector with this index
abbrev pub multiple_at : (ring : Ring) → List (List (CodeKey × ℕ)) → ℕ → Monomial → FormalSum (variables ring)
multiple_at ring list index m = let n = variables ring in scale 1 (exponents_of n m.exponents) (sum_of n (get_or list index []))

-- the entries, by numbers of these keys, are those of this product
pub record IsProductEntries (ring : Ring) (list : List (List (CodeKey × ℕ))) (keys : List CodeKey) (index : ℕ) (m : Monomial)
    (entries : List Entry) : Type 0 where
  pub within : AreEntriesWithin ring.modulus.value (length keys) entries
  pub sum : row_sum (column_key (variables ring) keys) entries ≡ multiple_at ring list index m

-- the residues of the vectors are below p
abbrev pub AreReduced : ℕ → List (List (CodeKey × ℕ)) → Type 0
AreReduced p list = Each (λ v. Each (λ t. t.1 < p) v) list
