-- A minimal list of maps has no column that is zero, so the degrees that are carried are those of the leads
use Rattle.std.proofs.Common.{List, [], ap, ap₂, append-nil, arith, get_or, length, map, refl, subst, suc, ℕ, ◌+◌, ◌<◌, ◌∙◌, ◌∷◌, ◌≡◌}
use Rattle.residues.proofs.Congruences.{IsCongruent_nonzero}
use Rattle.residues.specs.Residues.{IsCongruent}
use Rattle.monomials.specs.Exponents.{unit}
use Rattle.monomials.specs.Weights.{weighted_degree}
use Rattle.formal_sums.proofs.Combining.{scale-one}
use Rattle.formal_sums.proofs.OfRank.{IsOfRank_of}
use Rattle.formal_sums.proofs.Sameness.{IsSame_of, IsSame_refl, IsSame_trans}
use Rattle.formal_sums.proofs.WeightedSums.{indicator_same}
use Rattle.formal_sums.specs.Combinations.{IsMember, IsSyzygy}
use Rattle.formal_sums.specs.FormalSums.{Each, FormalSum, IsSame, coefficient}
use Rattle.bases.specs.Leads.{head_key}
use Rattle.bases.specs.Settings.{IsLawful}
use Rattle.minimal_laws.specs.Gradings.{AreExact, AreGraded, AreHomogeneous, GradedMap, IsHomogeneous, first_columns, graded_by_leads, lead_degrees}
use Rattle.minimal_laws.specs.Minimal.{HasConstant}
use Rattle.betti_laws.proofs.Constants.{HasNoConstant, no_constant_combination, no_constant_same}
use Rattle.betti_laws.proofs.Lifting.{first_no_constant}
use Rattle.term_lists.proofs.NormalVectors.{vector_lead, vector_positions}
use Rattle.term_lists.specs.Rings.{ring_comparison, setting, variables}
use Rattle.term_lists.specs.Vectors.{AreVectorsOver, HasPositions, IsVectorOver, key_of, sum_of, sums_of}
use Rattle.term_lists.specs.declared.key.Key.{Key as CodeKey}
use Rattle.term_lists.specs.declared.ring.Ring.{Ring}
use Rattle.resolution_maps.specs.Resolved.{HavePositions}
use Rattle.minimal_betti.specs.Carried.{AreOrdered, graded_map}
use Rattle.minimal_betti.specs.declared.carried.Carried.{Carried}

abbrev Terms : Type 0
Terms = List (CodeKey × ℕ)

unit_coefficient : (n c : ℕ) → coefficient {n = n} (((c, unit n), 1) ∷ []) (c, unit n) ≡ 1
unit_coefficient n c = let i = indicator_same (c, unit n) (c, unit n) refl in omega (arith, i)

pub no_zero_column :
    {n : ℕ} (p : ℕ) → 1 < p → (ws rows : List ℕ) (M : GradedMap n) (maps : List (GradedMap n)) → AreGraded ws p rows (M ∷ maps) → AreExact p (M ∷ maps)
    → ((k c r : ℕ) → HasConstant p (M ∷ maps) k c r → ⊥) → (c : ℕ) → c < length M.columns
    → IsSame p (get_or M.columns c []) [] → ⊥
no_zero_column {n} p one ws rows M maps graded exact none c lt z =
    let u : FormalSum n = ((c, unit n), 1) ∷ [] in
    let syzygy : IsSyzygy p M.columns u = record {
      rank = IsOfRank_of p (length M.columns) u (lt, tt);
      vanishes = IsSame_trans (IsSame_of p _ (get_or M.columns c []) (append-nil _ ∙ scale-one (get_or M.columns c []))) z;
    } in
    let member : IsMember p (first_columns maps) u = exact.0.generated u syzygy in
    let free : HasNoConstant p u =
    no_constant_same member.sums
    (no_constant_combination (first_columns maps)
    (λ j. first_no_constant p (omega (arith, one)) ws M.degrees maps graded.1 (λ k b r q. none (suc k) b r q) j) member.cofactors) in
    IsCongruent_nonzero p 1 (omega arith) one (subst (λ x. IsCongruent p x 0) (unit_coefficient n c) (free.by_row c))

module _ (ring : Ring) (lawful : IsLawful (setting ring (variables ring) (ring_comparison ring (variables ring)) 0)) where
  -- the degree of a homogeneous vector is that of its lead
  lead_degree :
      (rows : List ℕ) (d : ℕ) (v : Terms) → IsVectorOver ring (ring_comparison ring) v
      → IsHomogeneous ring.weights ring.modulus.value rows d (sum_of (variables ring) v)
      → (IsSame ring.modulus.value (sum_of (variables ring) v) [] → ⊥)
      → get_or rows (head_key (sum_of (variables ring) v)).0 0 + weighted_degree ring.weights (head_key (sum_of (variables ring) v)).1 ≡ d
  lead_degree rows d [] vector h nz = absurd (nz (IsSame_refl ring.modulus.value []))
  lead_degree rows d (t ∷ v) vector h nz = h.degrees (key_of (variables ring) t.0) (vector_lead ring (ring_comparison ring) 0 t v lawful vector).nonzero

  degrees_are :
      (rows degrees : List ℕ) (F : List Terms) → AreVectorsOver ring (ring_comparison ring) F
      → AreHomogeneous ring.weights ring.modulus.value rows degrees (sums_of (variables ring) F)
      → ((c : ℕ) → c < length (sums_of (variables ring) F) → IsSame ring.modulus.value (get_or (sums_of (variables ring) F) c []) [] → ⊥)
      → lead_degrees ring.weights rows (sums_of (variables ring) F) ≡ degrees
  degrees_are rows [] [] vectors h nz = refl
  degrees_are rows (d ∷ degrees) [] vectors h nz = absurd (let e = h.count in omega (arith, e))
  degrees_are rows [] (v ∷ F) vectors h nz = absurd (let e = h.count in omega (arith, e))
  degrees_are rows (d ∷ degrees) (v ∷ F) vectors h nz =
      ap₂ ◌∷◌ (lead_degree rows d v vectors.0 (h.each 0 (omega arith)) (nz 0 (omega arith)))
      (degrees_are rows degrees F vectors.1 (record { count = (let e = h.count in omega (arith, e)); each = λ i lt. h.each (suc i) (omega (arith, lt)) })
      (λ c lt z. nz (suc c) (omega (arith, lt)) z))

  -- so the maps are graded by their leads
  pub leads_are :
      (rows : List ℕ) (ms : List Carried) → AreOrdered ring ms
      → AreGraded ring.weights ring.modulus.value rows (map (graded_map (variables ring)) ms)
      → AreExact ring.modulus.value (map (graded_map (variables ring)) ms)
      → ((k c r : ℕ) → HasConstant ring.modulus.value (map (graded_map (variables ring)) ms) k c r → ⊥)
      → graded_by_leads ring.weights rows (map (λ (F : List Terms). sums_of (variables ring) F) (map (λ (m : Carried). m.columns) ms)) ≡ map
      (graded_map (variables ring)) ms
  leads_are rows [] ordered graded exact none = refl
  leads_are rows (m ∷ ms) ordered graded exact none =
      let n = variables ring in
      let one : 1 < ring.modulus.value = lawful.domain.above_one in
      let F = sums_of n m.columns in
      let d : lead_degrees ring.weights rows F ≡ m.degrees.items =
      degrees_are rows m.degrees.items m.columns ordered.0 graded.0
      (no_zero_column ring.modulus.value one ring.weights rows (graded_map n m) (map (graded_map n) ms) graded exact none) in
      ap (λ (z : List ℕ). record { columns = F; degrees = z } ∷ graded_by_leads ring.weights z
      (map (λ (H : List Terms). sums_of n H) (map (λ (c : Carried). c.columns) ms))) d
      ∙ ap (λ (z : List (GradedMap n)). graded_map n m ∷ z) (leads_are m.degrees.items ms ordered.1 graded.1 exact.1 (λ k c r h. none (suc k) c r h))

  -- and each column stands at the rows
  vectors_positions :
      (rows : List ℕ) (F : List Terms) → AreVectorsOver ring (ring_comparison ring) F
      → ((i : ℕ) → i < length (sums_of (variables ring) F)
      → (d : ℕ) × IsHomogeneous ring.weights ring.modulus.value rows d (get_or (sums_of (variables ring) F) i []))
      → Each (HasPositions (length rows)) F
  vectors_positions rows [] vectors h = tt
  vectors_positions rows (v ∷ F) vectors h = (
    vector_positions ring (ring_comparison ring) 0 (length rows) v (sum_of (variables ring) v) lawful vectors.0 (IsSame_refl ring.modulus.value _)
        (h 0 (omega arith)).1.rank,
    vectors_positions rows F vectors.1 (λ i lt. h (suc i) (omega (arith, lt))),
  )

  pub positions_are :
      (rows : List ℕ) (ms : List Carried) → AreOrdered ring ms
      → AreGraded ring.weights ring.modulus.value rows (map (graded_map (variables ring)) ms)
      → HavePositions (length rows) (map (λ (m : Carried). m.columns) ms)
  positions_are rows [] ordered graded = tt
  positions_are rows (m ∷ ms) ordered graded = (
    vectors_positions rows m.columns ordered.0 (λ i lt. (get_or m.degrees.items i 0, graded.0.each i lt)),
    subst (λ z. HavePositions z (map (λ (c : Carried). c.columns) ms)) (graded.0.count ∙ length_sums m.columns)
        (positions_are m.degrees.items ms ordered.1 graded.1),
  )
    where
      length_sums : (F : List Terms) → length (sums_of (variables ring) F) ≡ length F
      length_sums [] = refl
      length_sums (v ∷ F) = ap suc (length_sums F)
