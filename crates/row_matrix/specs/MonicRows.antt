-- A row for each vector of a list that is not zero, divided by its first residue (Faugère 1999, section 2)
use Rattle.std.specs.Prelude.{List, [], get_or, length, map, ℕ, ◌+◌, ◌<◌, ◌∷◌, ◌≡◌}
use Rattle.formal_sums.specs.FormalSums.{Each}
use Rattle.bases.specs.Leads.{head_coefficient}
use Rattle.term_lists.specs.Multiples.{rescaled}
use Rattle.term_lists.specs.Vectors.{sum_of}
use Rattle.term_lists.specs.declared.key.Key.{Key as CodeKey}
use Rattle.zp_field.specs.Moduli.{IsInverse}
use Rattle.row_matrix.specs.Naming.{AreNamed}
use Rattle.row_matrix.specs.Rows.{AreKeys, RowShown, first_column}

-- the indices of the vectors that are not zero, in their order, where the first vector has index i
abbrev pub nonzero_from : {X : Type 0} → ℕ → List (List X) → List ℕ
nonzero_from i [] = []
nonzero_from i ([] ∷ list) = nonzero_from (i + 1) list
nonzero_from i ((t ∷ v) ∷ list) = i ∷ nonzero_from (i + 1) list

-- the first input row of which a row is made
abbrev pub first_source : RowShown → ℕ
first_source r = first_column r.sources

-- the row is one vector of the list times the inverse of its first residue
pub record IsMadeMonic (n p : ℕ) (list : List (List (CodeKey × ℕ))) (r : RowShown) : Type 0 where
  pub number : ℕ
  pub within : number < length list
  pub factor : ℕ
  pub inverse : IsInverse p (head_coefficient (sum_of n (get_or list number []))) factor
  pub sources : r.sources ≡ (number, factor) ∷ []

-- the rows are those of the vectors that are not zero, in their order
pub record AreDivided (n p : ℕ) (list : List (List (CodeKey × ℕ))) (rows : List RowShown) : Type 0 where
  pub each : Each (IsMadeMonic n p list) rows
  pub order : map first_source rows ≡ nonzero_from 0 list

-- the row is so, and its entries have numbers of these keys
abbrev pub IsNamedRow : (n p : ℕ) → List (List (CodeKey × ℕ)) → List CodeKey → RowShown → Type 0
IsNamedRow n p list keys r =
    (h : IsMadeMonic n p list r) × AreNamed n keys r.entries (sum_of n (rescaled p h.factor (get_or list h.number [])))

-- the rows of the vectors that are not zero, over numbers of keys
pub record AreNamedRows (n : ℕ) (ws : List ℕ) (p : ℕ) (list : List (List (CodeKey × ℕ))) (keys : List CodeKey)
    (rows : List RowShown) : Type 0 where
  pub monomials : AreKeys n ws keys
  pub each : Each (IsNamedRow n p list keys) rows
  pub order : map first_source rows ≡ nonzero_from 0 list
