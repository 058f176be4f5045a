-- The steps of linked maps: ranks, columns and images
use Rattle.std.proofs.Common.{List, [], ap, arith, get_or, inl, inr, length, map, refl, subst, suc, zero, ℕ, ◌-◌, ◌<◌, ◌∙◌, ◌∷◌, ◌≡◌, ◌≤◌, ◌⊎◌}
use Rattle.std.proofs.lemmas.Bool.{cases_lt}
use Rattle.std.proofs.lemmas.List.{get_or-map, get_or_past, length-map}
use Rattle.residues.specs.Residues.{IsCongruent}
use Rattle.residues.proofs.Congruences.{IsCongruent_nonzero, IsCongruent_sym}
use Rattle.formal_sums.specs.FormalSums.{Each}
use Rattle.bases.specs.Settings.{IsLawful}
use Rattle.ext_laws.proofs.Images.{rank_next}
use Rattle.ext_laws.specs.Transposes.{rank_at, rows_of}
use Rattle.term_lists.specs.Rings.{ring_comparison, setting, variables}
use Rattle.term_lists.specs.Vectors.{AreTermsOver, HasPositions}
use Rattle.term_lists.specs.declared.ring.Ring.{Ring}
use Rattle.groebner_iface.specs.Runs.{IsReducedBasisOf}
use Rattle.resolution_maps.specs.Inducing.{Columns}
use Rattle.resolution_maps.specs.declared.maps.Map.{Map}
use Rattle.ext_modules.specs.Ext.{AreLinked, IsExtKernel, columns_at, image_of}
use Rattle.ext_modules.proofs.Putting.{Terms}

pub columns_there : (maps : List Map) (k : ℕ) (m : Map) → k < length maps → get_or (map (λ m. m.columns) maps) k [] ≡ (get_or maps k m).columns
columns_there maps k m lt = get_or-map (λ m. m.columns) maps k m [] lt

pub maps_count : (maps : List Map) (k : ℕ) → k < length maps → k < length (map (λ m. m.columns) maps)
maps_count maps k lt = let e = length-map maps (λ m. m.columns) in omega (arith, e, lt)

pub columns_past : (maps : List Map) (k : ℕ) → length maps ≤ k → get_or (map (λ m. m.columns) maps) k [] ≡ []
columns_past maps k le = get_or_past (map (λ m. m.columns) maps) k [] (let e = length-map maps (λ m. m.columns) in omega (arith, e, le))

pub rank_before : (rank : ℕ) (maps : Columns) (k : ℕ) → 0 < k → rank_at rank maps k ≡ length (get_or maps (k - 1) [])
rank_before rank maps zero pos = absurd (omega (arith, pos))
rank_before rank maps (suc k) pos = rank_next rank maps k ∙ (let q : k ≡ suc k - 1 = omega arith in ap (λ z. length (get_or maps z [])) q)

pub rank_first : (rank : ℕ) (maps : Columns) (k : ℕ) → k ≡ 0 → rank_at rank maps k ≡ rank
rank_first rank maps k e = ap (rank_at rank maps) e

pub image_before : (ring : Ring) (rank : ℕ) (maps : Columns) (k : ℕ) → 0 < k → image_of ring rank maps k ≡ rows_of (rank_at rank maps (k - 1)) (columns_at ring maps (k - 1))
image_before ring rank maps zero pos = absurd (omega (arith, pos))
image_before ring rank maps (suc k) pos = let q : k ≡ suc k - 1 = omega arith in ap (λ z. rows_of (rank_at rank maps z) (columns_at ring maps z)) q

-- the columns into a step
pub terms_at : (ring : Ring) (rank : ℕ) (maps : Columns) (k : ℕ) → AreLinked ring rank maps → Each (AreTermsOver ring) (get_or maps k [])
terms_at ring rank [] k h = tt
terms_at ring rank (C ∷ maps) zero h = h.0
terms_at ring rank (C ∷ maps) (suc k) h = terms_at ring (length C) maps k h.2

pub positions_at : (ring : Ring) (rank : ℕ) (maps : Columns) (k : ℕ) → AreLinked ring rank maps → Each (HasPositions (rank_at rank maps k)) (get_or maps k [])
positions_at ring rank [] k h = tt
positions_at ring rank (C ∷ maps) zero h = h.1
positions_at ring rank (C ∷ maps) (suc k) h = positions_at ring (length C) maps k h.2

-- a basis of vectors of rank 0 has no members
no_members : (ring : Ring) (list : List Terms) → IsLawful (setting ring (variables ring) (ring_comparison ring (variables ring)) 0) → IsReducedBasisOf ring 0 list list → length list ≡ 0
no_members ring [] lawful basis = refl
no_members ring ([] ∷ list) lawful basis =
    let one : IsCongruent ring.modulus.value 0 1 = (basis.basis.reduced.monic 0 (omega arith)).one in
    absurd (IsCongruent_nonzero ring.modulus.value 1 (omega arith) lawful.domain.above_one (IsCongruent_sym one))
no_members ring ((t ∷ v) ∷ list) lawful basis = let lt = basis.positions.0.0 in absurd (omega (arith, lt))

-- so above the last step the kernel is zero
pub steps_of_kernel :
    (ring : Ring) (rank : ℕ) (maps : List Map) (k : ℕ) (kernel : List Terms) → IsLawful (setting ring (variables ring) (ring_comparison ring (variables ring)) 0)
    → IsExtKernel ring rank (map (λ m. m.columns) maps) k kernel → 0 < length kernel → k ≤ length maps
steps_of_kernel ring rank maps k kernel lawful h some = go (cases_lt (length maps) k)
  where
    go : (length maps < k) ⊎ (k ≤ length maps) → k ≤ length maps
    go (inr le) = le
    go (inl lt) =
        let e : rank_at rank (map (λ m. m.columns) maps) k ≡ 0 = rank_before rank (map (λ m. m.columns) maps) k (omega (arith, lt)) ∙ ap length (columns_past maps (k - 1) (omega (arith, lt))) in
        let none = no_members ring kernel lawful (subst (λ m. IsReducedBasisOf ring m kernel kernel) e h.basis) in
        absurd (omega (arith, none, some))
