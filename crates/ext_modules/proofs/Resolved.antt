-- The maps of a canonical resolution
use Rattle.std.proofs.Common.{List, [], ap, ap₂, arith, get_or, length, map, refl, subst, subst₂, suc, sym, take, true, zero, ℕ, ◌++◌, ◌<◌, ◌∙◌, ◌∷◌, ◌≡◌}
use Rattle.std.specs.Prelude.{◌↔◌}
use Rattle.std.proofs.lemmas.List.{length-map}
use Rattle.formal_sums.proofs.Combining.{Each_map}
use Rattle.formal_sums.specs.Combinations.{IsMember}
use Rattle.formal_sums.specs.FormalSums.{Each, FormalSum}
use Rattle.bases.proofs.Leading.{positive}
use Rattle.bases.specs.Settings.{IsLawful}
use Rattle.operation_laws.specs.Operations.{IsSyzygyModulo}
use Rattle.resolution_laws.proofs.Starts.{start_whole}
use Rattle.resolution_laws.specs.Resolutions.{IsCanonical, IsCanonicalStart}
use Rattle.ext_laws.proofs.Images.{columns_taken, rank_taken, start_images}
use Rattle.ext_laws.specs.Transposes.{HaveRanks, IsInTransposedKernel, image_at, rank_at, rows_of}
use Rattle.term_lists.specs.Rings.{ring_comparison, setting, variables}
use Rattle.term_lists.specs.Vectors.{AreTermsOver, sum_of, sums_of}
use Rattle.term_lists.specs.declared.ring.Ring.{Ring}
use Rattle.syzygy_engine.specs.Answers.{IsBasisOfThose}
use Rattle.syzygy_engine.proofs.Marks.{loose}
use Rattle.syzygy_engine.proofs.Standing.{ranks_of_positions}
use Rattle.resolution_maps.proofs.Joining.{length-degrees}
use Rattle.resolution_maps.specs.Inducing.{Columns, maps_of}
use Rattle.resolution_maps.specs.Resolved.{AreJoined, AreVectorsThrough, degrees_of}
use Rattle.resolution_maps.specs.declared.maps.Map.{Map}
use Rattle.ext_modules.specs.Ext.{AreLinked, IsExt, columns_at, image_of}
use Rattle.ext_modules.specs.declared.presentation.Ext.{Ext}

pub linked_maps :
    (ring : Ring) (rows : List ℕ) (below : Columns) (maps : List Map) → AreVectorsThrough ring below (map (λ m. m.columns) maps) → AreJoined ring rows maps
    → AreLinked ring (length rows) (map (λ m. m.columns) maps)
linked_maps ring rows below [] vectors joined = tt
linked_maps ring rows below (m ∷ maps) vectors joined = (
  Each_map _ (AreTermsOver ring) m.columns (λ v h. loose ring v h.each) vectors.0,
  joined.0.positions,
  subst (λ r. AreLinked ring r (map (λ m. m.columns) maps)) (length-degrees ring rows m.columns)
      (linked_maps ring (degrees_of ring rows m.columns) (below ++ m.columns ∷ []) maps vectors.1 joined.1),
)

-- ---- images
have_ranks : (ring : Ring) (rank : ℕ) (maps : Columns) → AreLinked ring rank maps → HaveRanks rank (maps_of (variables ring) maps)
have_ranks ring rank [] h = tt
have_ranks ring rank (C ∷ maps) h = (
  ranks_of_positions (variables ring) rank C h.1,
  subst (λ r. HaveRanks r (maps_of (variables ring) maps)) (sym (length-map C (λ v. sum_of (variables ring) v))) (have_ranks ring (length C) maps h.2),
)

columns_are : (ring : Ring) (maps : Columns) (k : ℕ) → get_or (maps_of (variables ring) maps) k [] ≡ columns_at ring maps k
columns_are ring [] k = refl
columns_are ring (C ∷ maps) zero = refl
columns_are ring (C ∷ maps) (suc k) = columns_are ring maps k

ranks_are : (n rank : ℕ) (maps : Columns) (k : ℕ) → rank_at rank (maps_of n maps) k ≡ rank_at rank maps k
ranks_are n rank [] zero = refl
ranks_are n rank [] (suc k) = refl
ranks_are n rank (C ∷ maps) zero = refl
ranks_are n rank (C ∷ maps) (suc k) = ap (λ r. rank_at r (maps_of n maps) k) (length-map C (λ v. sum_of n v)) ∙ ranks_are n (length C) maps k

image_is : (ring : Ring) (rank : ℕ) (maps : Columns) (k : ℕ) → image_at rank (maps_of (variables ring) maps) k ≡ image_of ring rank maps k
image_is ring rank maps zero = refl
image_is ring rank maps (suc k) =
    ap (λ r. rows_of r (get_or (maps_of (variables ring) maps) k [])) (ranks_are (variables ring) rank maps k) ∙ ap (λ C. rows_of (rank_at rank maps k) C) (columns_are ring maps k)

pub images_in_start :
    (ring : Ring) (rank k count : ℕ) (A : List (FormalSum (variables ring))) (maps : Columns) (v : FormalSum (variables ring))
    → IsLawful (setting ring (variables ring) (ring_comparison ring (variables ring)) rank) → AreLinked ring rank maps
    → IsCanonicalStart (setting ring (variables ring) (ring_comparison ring (variables ring)) rank) A count (maps_of (variables ring) maps)
    → IsMember ring.modulus.value (image_of ring rank maps k) v → IsInTransposedKernel ring.modulus.value (rank_at rank maps k) (columns_at ring maps k) v
images_in_start ring rank k count A maps v lawful linked start inside =
    let n = variables ring in
    let p = ring.modulus.value in
    let S = setting ring n (ring_comparison ring n) rank in
    let there = start_images S (positive S lawful) A count (maps_of n maps) (have_ranks ring rank maps linked) start k v (subst (λ I. IsMember p I v) (sym (image_is ring rank maps k)) inside) in
    subst (λ C. IsInTransposedKernel p (rank_at rank maps k) C v) (columns_are ring maps k)
    (subst (λ r. IsInTransposedKernel p r (get_or (maps_of n maps) k []) v) (ranks_are n rank maps k) there)

-- the whole is a start
pub images_in :
    (ring : Ring) (rank k : ℕ) (A : List (FormalSum (variables ring))) (maps : Columns) (v : FormalSum (variables ring))
    → IsLawful (setting ring (variables ring) (ring_comparison ring (variables ring)) rank) → AreLinked ring rank maps
    → IsCanonical (setting ring (variables ring) (ring_comparison ring (variables ring)) rank) A (maps_of (variables ring) maps)
    → IsMember ring.modulus.value (image_of ring rank maps k) v → IsInTransposedKernel ring.modulus.value (rank_at rank maps k) (columns_at ring maps k) v
images_in ring rank k A maps v lawful linked canonical inside =
    let n = variables ring in
    let S = setting ring n (ring_comparison ring n) rank in
    let count = length (maps_of n maps) in
    images_in_start ring rank k count A maps v lawful linked (start_whole S A count (maps_of n maps) canonical (omega arith)) inside

-- ---- Ext of the first maps
image_of_taken : (ring : Ring) (rank : ℕ) (maps : Columns) (k count : ℕ) → k < count → image_of ring rank (take count maps) k ≡ image_of ring rank maps k
image_of_taken ring rank maps zero count lt = refl
image_of_taken ring rank maps (suc k) count lt =
    ap₂ rows_of (rank_taken rank maps k count (omega (arith, lt))) (ap (λ C. sums_of (variables ring) C) (columns_taken maps k count (omega (arith, lt))))

-- Ext at a step is that of what it reads of the maps
ext_along :
    (ring : Ring) (rank : ℕ) (maps others : Columns) (k : ℕ) (answer : Ext)
    → rank_at rank maps k ≡ rank_at rank others k → get_or maps k [] ≡ get_or others k [] → image_of ring rank maps k ≡ image_of ring rank others k
    → IsExt ring rank maps k answer → IsExt ring rank others k answer
ext_along ring rank maps others k answer ranks columns image h = record {
  kernel = subst₂ (λ m C. IsBasisOfThose ring m (IsInTransposedKernel ring.modulus.value m (sums_of (variables ring) C)) answer.kernel) ranks columns h.kernel;
  relations = subst (λ I. IsBasisOfThose ring (length answer.kernel) (IsSyzygyModulo ring.modulus.value (sums_of (variables ring) answer.kernel) I) answer.relations) image h.relations;
  zero = subst (λ I. (answer.zero ≡ true) ↔ Each (IsMember ring.modulus.value I) (sums_of (variables ring) answer.kernel)) image h.zero;
}

pub ext_taken :
    (ring : Ring) (rank : ℕ) (maps : Columns) (k count : ℕ) (answer : Ext) → k < count
    → IsExt ring rank (take count maps) k answer ↔ IsExt ring rank maps k answer
ext_taken ring rank maps k count answer lt =
    let ranks = rank_taken rank maps k count (omega (arith, lt)) in
    let columns = columns_taken maps k count lt in
    let image = image_of_taken ring rank maps k count lt in (
      ext_along ring rank (take count maps) maps k answer ranks columns image,
      ext_along ring rank maps (take count maps) k answer (sym ranks) (sym columns) (sym image),
    )
