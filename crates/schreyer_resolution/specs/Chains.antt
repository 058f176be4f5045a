-- The products of a column that lead to one of too great a degree
use Rattle.std.specs.Prelude.{List, [], length, ℕ, ◌+◌, ◌<◌, ◌∷◌}
use Rattle.std.specs.declared.cmp.Ordering.{Ordering}
use Rattle.formal_sums.specs.FormalSums.{Each, Key}
use Rattle.monomial_orders.specs.Kept.{IsWeighed, Monomial}
use Rattle.term_lists.specs.Rings.{variables}
use Rattle.term_lists.specs.Vectors.{sum_of}
use Rattle.term_lists.specs.declared.key.Key.{Key as CodeKey}
use Rattle.term_lists.specs.declared.ring.Ring.{Ring}
use Rattle.module_vectors.specs.Trails.{AreMet, IsOfProduct, KeptProduct, last_product}
use Rattle.vector_division.specs.Progress.{IsFailingProduct}
use Rattle.vector_division.specs.Reductions.{AreMetFrom, IsScaledProduct}
use Rattle.vector_division.specs.declared.reduction.ScaledProduct.{ScaledProduct}
use Rattle.schreyer_resolution.specs.Columns.{IsProductOf}

-- products of these columns, each behind the first met by the products before it, and the last one too great for a monomial of its column
pub record IsColumnChain (n : ℕ) (ws : List ℕ) (columns : List (List (CodeKey × ℕ)))
    (first : KeptProduct) (later : List KeptProduct) (last : Monomial) : Type 0 where
  pub known : Each (λ s. s.0 < length columns) (first ∷ later)
  pub weighed : Each (λ s. IsWeighed n ws s.1) (first ∷ later)
  pub met : AreMet n [] columns (first ∷ []) later
  pub of_product : IsOfProduct columns (last_product first later) last
  pub last_weighed : IsWeighed n ws last
  pub too_great : 65535 < (last_product first later).1.degree + last.degree

-- after these quotients of the key's product this product is due, which is too great for a monomial of its column
pub record IsFailing (ring : Ring) (compare : (n : ℕ) → Key n → Key n → Ordering) (columns : List (List (CodeKey × ℕ))) (k : CodeKey)
    (qs : List ScaledProduct) (s : KeptProduct) (last : Monomial) : Type 0 where
  pub product : List (CodeKey × ℕ)
  pub of_column : IsProductOf ring compare columns k product
  pub quotients : Each (IsScaledProduct (variables ring) ring.weights ring.modulus.value columns) qs
  pub met : AreMetFrom (variables ring) (sum_of (variables ring) product) columns [] qs
  pub due : IsFailingProduct (variables ring) ring.weights product columns qs s last
