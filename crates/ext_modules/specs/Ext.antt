-- Ext modules of the cokernel of a resolution, against the ring (UAG chapter 6, section 1; Eisenbud, Commutative Algebra, appendix
-- A3.11)
use Rattle.std.specs.Prelude.{List, get_or, length, suc, true, zero, [], ⊤, ℕ, ◌↔◌, ◌∷◌, ◌≡◌, ◌⊎◌, ◌<◌}
use Rattle.formal_sums.specs.Combinations.{IsMember}
use Rattle.formal_sums.specs.FormalSums.{Each, FormalSum}
use Rattle.operation_laws.specs.Operations.{IsSyzygyModulo}
use Rattle.ext_laws.specs.Transposes.{IsInTransposedKernel, rank_at, rows_of}
use Rattle.term_lists.specs.Rings.{variables}
use Rattle.term_lists.specs.Vectors.{AreTermsOver, HasPositions, sums_of}
use Rattle.term_lists.specs.declared.key.Key.{Key as CodeKey}
use Rattle.term_lists.specs.declared.ring.Ring.{Ring}
use Rattle.syzygy_engine.specs.Answers.{IsBasisOfThose}
use Rattle.syzygy_engine.specs.Kernels.{IsSyzygyRun}
use Rattle.syzygy_engine.specs.Marking.{position_ring}
use Rattle.syzygy_engine.specs.Modulo.{AreModuloRuns}
use Rattle.syzygy_engine.specs.Runs.{AreVectorsFor, OfRuns}
use Rattle.resolution_maps.specs.Inducing.{Columns}
use Rattle.ext_modules.specs.declared.presentation.Ext.{Ext}

-- the columns of each map stand at the positions of its rows, of which the first map has so many, and each later one as many as
-- the map before has columns
abbrev pub AreLinked : Ring → ℕ → Columns → Type 0
AreLinked ring rank [] = ⊤
AreLinked ring rank (C ∷ maps) = Each (AreTermsOver ring) C × Each (HasPositions rank) C × AreLinked ring (length C) maps

-- the columns of the map out of step k+1, into step k; none behind the last map
abbrev pub columns_at : (ring : Ring) → Columns → ℕ → List (FormalSum (variables ring))
columns_at ring maps k = sums_of (variables ring) (get_or maps k [])

-- the vectors that generate the image of the transposed map into step k: none at step 0, else the rows of map k
abbrev pub image_of : (ring : Ring) → ℕ → Columns → ℕ → List (FormalSum (variables ring))
image_of ring rank maps zero = []
image_of ring rank maps (suc k) = rows_of (rank_at rank maps k) (columns_at ring maps k)

-- the reduced basis of the kernel of the transposed map out of step k
abbrev pub IsExtKernel : Ring → ℕ → Columns → ℕ → List (List (CodeKey × ℕ)) → Type 0
IsExtKernel ring rank maps k =
    IsBasisOfThose ring (rank_at rank maps k) (IsInTransposedKernel ring.modulus.value (rank_at rank maps k) (columns_at ring maps k))

-- the reduced basis of the relations of Z modulo the image of the transposed map into step k
abbrev pub AreExtRelations : Ring → ℕ → Columns → ℕ → (Z relations : List (List (CodeKey × ℕ))) → Type 0
AreExtRelations ring rank maps k Z =
    IsBasisOfThose ring (length Z) (IsSyzygyModulo ring.modulus.value (sums_of (variables ring) Z) (image_of ring rank maps k))

-- Ext at step k: generators Z of the kernel of the transposed map out of step k, the relations of these modulo the image of the
-- one into it, and whether each of Z is in that image, so that the module is zero
pub record IsExt (ring : Ring) (rank : ℕ) (maps : Columns) (k : ℕ) (answer : Ext) : Type 0 where
  pub kernel : IsExtKernel ring rank maps k answer.kernel
  pub relations : AreExtRelations ring rank maps k answer.kernel answer.relations
  pub zero : (answer.zero ≡ true) ↔ Each (IsMember ring.modulus.value (image_of ring rank maps k)) (sums_of (variables ring) answer.kernel)

-- ---- the runs of Ext at step k
-- those of the syzygies of the rows of a map with these columns and so many rows
pub record IsTransposedRun (ring : Ring) (count : ℕ) (columns : List (List (CodeKey × ℕ))) (over : Ring) (m : ℕ) (l : List (List (CodeKey × ℕ))) : Type 0 where
  pub rows : List (List (CodeKey × ℕ))
  pub stand : AreVectorsFor ring (rows_of count (sums_of (variables ring) columns)) rows
  pub run : IsSyzygyRun ring (length columns) rows over m l

-- where a map comes out of the step, those of the syzygies of its rows
abbrev pub IsRowsRun : Ring → ℕ → Columns → ℕ → OfRuns
IsRowsRun ring rank maps k over m l = (k < length maps) × IsTransposedRun ring (rank_at rank maps k) (get_or maps k []) over m l

-- where the kernel is not zero, those of the syzygies of its generators modulo the image
pub record IsRelationsRun (ring : Ring) (rank : ℕ) (maps : Columns) (k : ℕ) (over : Ring) (m : ℕ) (l : List (List (CodeKey × ℕ))) : Type 0 where
  pub kernel : List (List (CodeKey × ℕ))
  pub basis : IsExtKernel ring rank maps k kernel
  pub nonzero : 0 < length kernel
  pub members : List (List (CodeKey × ℕ))
  pub stand : AreVectorsFor (position_ring ring) (image_of ring rank maps k) members
  pub run : AreModuloRuns ring (rank_at rank maps k) (sums_of (variables ring) kernel) (sums_of (variables ring) members) over m l

abbrev pub AreExtRuns : Ring → ℕ → Columns → ℕ → OfRuns
AreExtRuns ring rank maps k over m l = IsRowsRun ring rank maps k over m l ⊎ IsRelationsRun ring rank maps k over m l
