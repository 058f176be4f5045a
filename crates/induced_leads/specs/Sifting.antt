-- The terms of a vector that leads of columns divide, without those that none divides
use Rattle.std.specs.Prelude.{List, [], ℕ, ◌++◌, ◌∷◌, ◌≡◌, ◌⊎◌}
use Rattle.std.specs.declared.cmp.Ordering.{Ordering}
use Rattle.formal_sums.specs.FormalSums.{Each, IsSame, Key}
use Rattle.term_lists.specs.Rings.{variables}
use Rattle.term_lists.specs.Vectors.{IsTerm, IsVectorOver, key_of, sum_of, sums_of}
use Rattle.term_lists.specs.declared.key.Key.{Key as CodeKey}
use Rattle.term_lists.specs.declared.ring.Ring.{Ring}
use Rattle.vector_division.specs.Divisions.{IsFreeOfLeads, IsUncovered}
use Rattle.vector_division.specs.Runs.{IsOver}

-- of v the first terms were sifted: of those `kept` is left, and the others are still to come
pub record IsSifting (ring : Ring) (compare : (n : ℕ) → Key n → Key n → Ordering) (columns : List (List (CodeKey × ℕ)))
    (v kept rest : List (CodeKey × ℕ)) : Type 0 where
  pub dropped : List (CodeKey × ℕ)
  pub vector : IsVectorOver ring compare (kept ++ rest)
  pub terms : Each (IsTerm (variables ring) ring.weights ring.modulus.value) dropped
  pub same :
      let n = variables ring in
      IsSame ring.modulus.value (sum_of n v) (sum_of n (kept ++ rest) ++ sum_of n dropped)
  pub free :
      let n = variables ring in
      IsFreeOfLeads (sums_of n columns) (sum_of n dropped)
  pub covered :
      let n = variables ring in
      Each (λ t. IsUncovered (sums_of n columns) t.0 → ⊥) (sum_of n kept)
  pub over :
      let n = variables ring in
      (k : Key n) → IsOver (compare n) k (sum_of n v) → IsOver (compare n) k (sum_of n (kept ++ rest))

-- the term was put behind the others, unless no lead of the columns divides it
abbrev pub IsTermSifted : (n : ℕ) → List (List (CodeKey × ℕ)) → CodeKey × ℕ → List (CodeKey × ℕ) → List (CodeKey × ℕ) → Type 0
IsTermSifted n columns t old new =
    (IsUncovered (sums_of n columns) (key_of n t.0) × (new ≡ old))
    ⊎ ((IsUncovered (sums_of n columns) (key_of n t.0) → ⊥) × (new ≡ old ++ t ∷ []))
