-- A constant, its row and its column leave the maps in the code
use Rattle.std.specs.Prelude.{List, [], get_or, map, reverse, ℕ, ⊤, ◌*◌, ◌++◌, ◌∷◌, ◌≡◌, ◌⊎◌}
use Rattle.residues.specs.Residues.{IsCongruent}
use Rattle.monomials.specs.Exponents.{unit}
use Rattle.formal_sums.specs.FormalSums.{Each, FormalSum, coefficient}
use Rattle.minimal_laws.specs.Cancellation.{AreSameColumns, cleared, remove_at, without_row}
use Rattle.minimal_laws.specs.Gradings.{AreGraded}
use Rattle.term_lists.specs.Rings.{ring_comparison, variables}
use Rattle.term_lists.specs.Vectors.{AreVectorsOver, IsVectorOver, StandsFor, sum_of, sums_of}
use Rattle.term_lists.specs.declared.key.Key.{Key as CodeKey}
use Rattle.term_lists.specs.declared.ring.Ring.{Ring}
use Rattle.module_vectors.specs.declared.trail.WorkStop.{WorkStop}
use Rattle.module_vectors.specs.declared.trail.WorkStop.TheVariants.{Degree, Memory}
use Rattle.column_passes.specs.Constants.{HasNoConstants}
use Rattle.column_passes.specs.Placing.{AreWithout, all_removed}
use Rattle.column_passes.specs.declared.constants.Constant.{Constant}
use Rattle.minimal_betti.specs.Carried.{AreOrdered, graded_map}
use Rattle.minimal_betti.specs.Minimising.{IsClearingTrail}
use Rattle.minimal_betti.specs.declared.carried.Carried.{Carried}

-- v cleared by the constant's column, without its row; s is the inverse of the constant
abbrev pub split_of : (ring : Ring) → ℕ → Constant → List (List (CodeKey × ℕ)) → FormalSum (variables ring) → FormalSum (variables ring)
split_of ring s at columns v =
    without_row at.row (cleared ring.modulus.value at.row s (get_or (sums_of (variables ring) columns) at.column []) v)

-- the column with this index was put behind the others so, unless it is the constant's own
abbrev pub IsOtherPut : Ring → ℕ → Constant → List (List (CodeKey × ℕ)) → ℕ → List (List (CodeKey × ℕ)) → List (List (CodeKey × ℕ)) → Type 0
IsOtherPut ring s at columns i old new =
    ((i ≡ at.column) × (new ≡ old))
    ⊎ ((i ≡ at.column → ⊥) × ((w : List (CodeKey × ℕ)) × (new ≡ old ++ w ∷ []) × IsVectorOver ring (ring_comparison ring) w
    × StandsFor ring w (split_of ring s at columns (sum_of (variables ring) (get_or columns i [])))))

-- Degree comes with the trail of one product alone, of these columns and at this constant
abbrev pub SplittingStops : Ring → List (List (CodeKey × ℕ)) → Constant → WorkStop → Type 0
SplittingStops ring columns at Memory = ⊤
SplittingStops ring columns at (Degree t) = IsClearingTrail ring at.column at.row t × (t.members ≡ columns)

-- the other columns, cleared by the constant's column, without its row
pub record AreSplit (ring : Ring) (s : ℕ) (at : Constant) (old new : List (List (CodeKey × ℕ))) : Type 0 where
  pub same :
      let n = variables ring in
      AreSameColumns ring.modulus.value (map (split_of ring s at old) (remove_at at.column (sums_of n old))) (sums_of n new)
  pub vectors : AreVectorsOver ring (ring_comparison ring) new

-- the map is split at the constant
pub record IsMapSplit (ring : Ring) (at : Constant) (old new : Carried) : Type 0 where
  pub inverse : ℕ
  pub is_inverse :
      let n = variables ring in
      IsCongruent ring.modulus.value (inverse * coefficient (get_or (sums_of n old.columns) at.column []) (at.row, unit n)) 1
  pub columns : AreSplit ring inverse at old.columns new.columns
  pub degrees : new.degrees.items ≡ remove_at at.column old.degrees.items

-- columns of the map leave in turn, with their degrees
pub record IsFewer (rows : List ℕ) (old new : Carried) : Type 0 where
  pub columns : new.columns ≡ all_removed rows old.columns
  pub degrees : new.degrees.items ≡ all_removed rows old.degrees.items

-- columns of the last map leave in turn, or where there is no map the positions
abbrev pub IsFormerLeft : List ℕ → List ℕ → List ℕ → List Carried → List Carried → Type 0
IsFormerLeft rows places places' done done' =
    ((done ≡ []) × (done' ≡ []) × (places' ≡ all_removed rows places))
    ⊎ ((before : List Carried) × (last : Carried) × (last' : Carried) × (done ≡ before ++ last ∷ []) × (done' ≡ before ++ last' ∷ [])
    × IsFewer rows last last' × (places' ≡ places))

-- rows of the next map leave in turn, where there is one; the maps stand in the other order
abbrev pub IsNextLeft : Ring → List ℕ → List Carried → List Carried → Type 0
IsNextLeft ring rows rest rest' =
    ((rest ≡ []) × (rest' ≡ []))
    ⊎ ((before : List Carried) × (next : Carried) × (next' : Carried) × (rest ≡ before ++ next ∷ []) × (rest' ≡ before ++ next' ∷ [])
    × AreWithout ring rows next.columns next'.columns × (next'.degrees ≡ next.degrees))

-- the maps that are done, the one at hand and those to come, which stand in the other order
abbrev pub in_turn : List Carried → Carried → List Carried → List Carried
in_turn done current rest = done ++ current ∷ reverse rest

-- graded maps of vectors, where those that are done have no constant
pub record IsCancellationUnderway (ring : Ring) (rows : List ℕ) (done maps : List Carried) : Type 0 where
  pub ordered : AreOrdered ring maps
  pub graded : AreGraded ring.weights ring.modulus.value rows (map (graded_map (variables ring)) maps)
  pub none : Each (λ m. HasNoConstants ring.modulus.value (sums_of (variables ring) m.columns)) done
