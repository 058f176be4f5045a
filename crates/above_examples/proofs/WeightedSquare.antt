-- x^2, x y and y^2 by the weights 1 and 2 of x and y
use Rattle.std.proofs.Common.{Bool, List, [], ap, arith, cond, false, get_or, inl, inr, length, map, refl, suc, true, zero, ℕ, ◌+◌, ◌<◌, ◌∙◌, ◌∷◌, ◌≡◌, ◌⊎◌}
use Rattle.std.proofs.lemmas.Int.{ints}
use Rattle.std.specs.Prelude.{nat_eq, negsuc, pos, ℤ}
use Rattle.residues.proofs.Congruences.{IsCongruent_nonzero, IsCongruent_of}
use Rattle.residues.specs.Residues.{IsCongruent}
use Rattle.monomials.specs.Weights.{weighted_degree}
use Rattle.formal_sums.proofs.OfRank.{IsOfRank_of}
use Rattle.formal_sums.specs.FormalSums.{Each, FormalSum, HasRank, Key, coefficient}
use Rattle.monomial_counts.specs.Counts.{standard_count}
use Rattle.bases.specs.Leads.{head_key}
use Rattle.hilbert_laws.proofs.OneMore.{IsNumerator_more}
use Rattle.hilbert_laws.proofs.Orders.{order_of_division, series_same}
use Rattle.hilbert_laws.proofs.Recurrence.{IsNumerator_one, IsNumerator_position, series_nothing}
use Rattle.hilbert_laws.specs.Dimensions.{HasDimension, of_order}
use Rattle.hilbert_laws.specs.Numerators.{IsNumerator, divided_by, module_count, value_at_one}
use Rattle.betti_laws.specs.Tables.{step_count}
use Rattle.minimal_laws.specs.Gradings.{AreHomogeneous, GradedMap, IsHomogeneous, graded_by_leads}
use Rattle.minimal_laws.proofs.CanonicalPresenting.{canonical_cancelled}
use Rattle.minimal_laws.proofs.OneCancellation.{no_step}
use Rattle.minimal_laws.specs.Minimal.{IsMinimal, Presents}
use Rattle.above_examples.proofs.SquareBasis.{plane_lawful}
use Rattle.above_examples.proofs.SquareMaps.{square_canonical}
use Rattle.above_examples.proofs.SquareTable.{no_constants, square_no_unit}
use Rattle.above_examples.proofs.Terms.{at_key}
use Rattle.above_examples.specs.Square.{monomial, resolution, square_generators, square_setting, weighted_numerator, weighted_table, weights}

-- a vector each of whose terms has the degree d
homogeneous :
    (rows : List ℕ) (d : ℕ) (v : FormalSum 2) → HasRank (length rows) v
    → Each (λ t. get_or rows t.0.0 0 + weighted_degree weights t.0.1 ≡ d) v → IsHomogeneous weights 101 rows d v
homogeneous rows d v r h = record {
  rank = IsOfRank_of 101 (length rows) v r;
  degrees = λ k nz. go k nz (at_key (λ k. get_or rows k.0 0 + weighted_degree weights k.1 ≡ d) k v h);
}
  where
    go :
        (k : Key 2) → (IsCongruent 101 (coefficient v k) 0 → ⊥)
        → (get_or rows k.0 0 + weighted_degree weights k.1 ≡ d) ⊎ (coefficient v k ≡ 0) → get_or rows k.0 0 + weighted_degree weights k.1 ≡ d
    go k nz (inl e) = e
    go k nz (inr z) = absurd (nz (IsCongruent_of 101 _ 0 z))

generators_graded : AreHomogeneous weights 101 (0 ∷ []) (2 ∷ (3 ∷ (4 ∷ []))) square_generators
generators_graded = record { count = refl; each = each }
  where
    each : (i : ℕ) → i < 3 → IsHomogeneous weights 101 (0 ∷ []) (get_or (2 ∷ (3 ∷ (4 ∷ []))) i 0) (get_or square_generators i [])
    each zero h = homogeneous (0 ∷ []) 2 (((0, monomial 2 0), 1) ∷ []) (omega arith, tt) (refl, tt)
    each (suc zero) h = homogeneous (0 ∷ []) 3 (((0, monomial 1 1), 1) ∷ []) (omega arith, tt) (refl, tt)
    each (suc (suc zero)) h = homogeneous (0 ∷ []) 4 (((0, monomial 0 2), 1) ∷ []) (omega arith, tt) (refl, tt)
    each (suc (suc (suc i))) h = absurd (omega (arith, h))

abbrev weighted_maps : List (GradedMap 2)
weighted_maps = graded_by_leads weights (0 ∷ []) resolution

pub weighted_minimal :
    IsMinimal weights 101 (record { positions = 0 ∷ []; maps = graded_by_leads weights (0 ∷ []) resolution })
    × Presents weights 101 (record { positions = 0 ∷ []; maps = graded_by_leads weights (0 ∷ []) resolution }) (0 ∷ []) square_generators
weighted_minimal =
    canonical_cancelled square_setting plane_lawful weights (0 ∷ []) (2 ∷ (3 ∷ (4 ∷ []))) square_generators refl generators_graded resolution square_canonical
    (record { positions = 0 ∷ []; maps = weighted_maps })
    (no_step 101 (omega arith) (record { positions = 0 ∷ []; maps = weighted_maps }) (no_constants 101 weighted_maps square_no_unit) (omega arith, (omega arith, tt)))

one : (b : Bool) → ◌≡◌ {A = ℕ} (cond b 1 0 + 0) (cond b 1 0)
one true = refl
one false = refl

two : (b c : Bool) → ◌≡◌ {A = ℕ} (cond b 1 0 + (cond c 1 0 + 0)) (cond b 1 0 + cond c 1 0)
two b c = ap (λ x. cond b 1 0 + x) (one c)

three : (b c e : Bool) → ◌≡◌ {A = ℕ} (cond b 1 0 + (cond c 1 0 + (cond e 1 0 + 0))) (cond b 1 0 + (cond c 1 0 + cond e 1 0))
three b c e = ap (λ x. cond b 1 0 + x) (two c e)

pub weighted_counts : (k d : ℕ) → step_count (0 ∷ []) weighted_maps k d ≡ weighted_table k d
weighted_counts zero d = one (nat_eq d 0)
weighted_counts (suc zero) d = three (nat_eq d 2) (nat_eq d 3) (nat_eq d 4)
weighted_counts (suc (suc zero)) d = two (nat_eq d 4) (nat_eq d 5)
weighted_counts (suc (suc (suc k))) d = refl

-- ---- the numerator, one generator after the other
-- y: 1 - t^2
of_y : IsNumerator weights 2 (pos 1 ∷ (pos 0 ∷ (negsuc 0 ∷ []))) (standard_count weights (monomial 0 1 ∷ []))
of_y = IsNumerator_more weights [] (monomial 0 1) (pos 1 ∷ []) (pos 1 ∷ []) (IsNumerator_one 2 weights) (IsNumerator_one 2 weights)

-- y^2: 1 - t^4
of_y2 : IsNumerator weights 2 (pos 1 ∷ (pos 0 ∷ (pos 0 ∷ (pos 0 ∷ (negsuc 0 ∷ []))))) (standard_count weights (monomial 0 2 ∷ []))
of_y2 = IsNumerator_more weights [] (monomial 0 2) (pos 1 ∷ []) (pos 1 ∷ []) (IsNumerator_one 2 weights) (IsNumerator_one 2 weights)

-- x y and y^2: 1 - t^3 - t^4 + t^5
of_two :
    IsNumerator weights 2 (pos 1 ∷ (pos 0 ∷ (pos 0 ∷ (negsuc 0 ∷ (negsuc 0 ∷ (pos 1 ∷ []))))))
    (standard_count weights (monomial 1 1 ∷ (monomial 0 2 ∷ [])))
of_two =
    IsNumerator_more weights (monomial 0 2 ∷ []) (monomial 1 1) (pos 1 ∷ (pos 0 ∷ (pos 0 ∷ (pos 0 ∷ (negsuc 0 ∷ [])))))
    (pos 1 ∷ (pos 0 ∷ (negsuc 0 ∷ []))) of_y2 of_y

-- y and y^2: 1 - t^2, with zeros behind
of_line :
    IsNumerator weights 2 (pos 1 ∷ (pos 0 ∷ (negsuc 0 ∷ (pos 0 ∷ (pos 0 ∷ [])))))
    (standard_count weights (monomial 0 1 ∷ (monomial 0 2 ∷ [])))
of_line =
    IsNumerator_more weights (monomial 0 2 ∷ []) (monomial 0 1) (pos 1 ∷ (pos 0 ∷ (pos 0 ∷ (pos 0 ∷ (negsuc 0 ∷ [])))))
    (pos 1 ∷ (pos 0 ∷ (negsuc 0 ∷ []))) of_y2 of_y

abbrev with_zero : List ℤ
with_zero = pos 1 ∷ (pos 0 ∷ (negsuc 0 ∷ (negsuc 0 ∷ (pos 0 ∷ (pos 1 ∷ (pos 0 ∷ []))))))

of_three : IsNumerator weights 2 with_zero (standard_count weights (monomial 2 0 ∷ (monomial 1 1 ∷ (monomial 0 2 ∷ []))))
of_three =
    IsNumerator_more weights (monomial 1 1 ∷ (monomial 0 2 ∷ [])) (monomial 2 0)
    (pos 1 ∷ (pos 0 ∷ (pos 0 ∷ (negsuc 0 ∷ (negsuc 0 ∷ (pos 1 ∷ [])))))) (pos 1 ∷ (pos 0 ∷ (negsuc 0 ∷ (pos 0 ∷ (pos 0 ∷ []))))) of_two of_line

same : (i : ℕ) → get_or weighted_numerator i (pos 0) ≡ get_or with_zero i (pos 0)
same zero = refl
same (suc zero) = refl
same (suc (suc zero)) = refl
same (suc (suc (suc zero))) = refl
same (suc (suc (suc (suc zero)))) = refl
same (suc (suc (suc (suc (suc zero))))) = refl
same (suc (suc (suc (suc (suc (suc zero)))))) = refl
same (suc (suc (suc (suc (suc (suc (suc i))))))) = refl

pub weighted_square_numerator : IsNumerator weights 2 weighted_numerator (module_count weights 1 (map head_key square_generators))
weighted_square_numerator =
    IsNumerator_position 2 0 weights (map head_key square_generators) [] weighted_numerator (λ d. series_nothing weights 2 d)
    (λ d. series_same weights 2 weighted_numerator with_zero same d ∙ of_three d)

pub weighted_dimension : HasDimension 2 weighted_numerator (pos 0) (pos 6)
weighted_dimension =
    of_order 2 (pos 6)
    (order_of_division weighted_numerator 2 (pos 6) (record { vanishes = vanishes; value = refl; nonzero = λ e. absurd (omega (arith, ints, e)) }))
  where
    vanishes : (j : ℕ) → j < 2 → value_at_one (divided_by j weighted_numerator) ≡ pos 0
    vanishes zero h = refl
    vanishes (suc zero) h = refl
    vanishes (suc (suc j)) h = absurd (omega (arith, h))

-- ---- x^2 + y
pub by_weights : IsHomogeneous weights 101 (0 ∷ []) 2 (((0, monomial 2 0), 1) ∷ (((0, monomial 0 1), 1) ∷ []))
by_weights =
    homogeneous (0 ∷ []) 2 (((0, monomial 2 0), 1) ∷ (((0, monomial 0 1), 1) ∷ [])) (omega arith, (omega arith, tt)) (refl, (refl, tt))

pub by_none : (d : ℕ) → IsHomogeneous [] 101 (0 ∷ []) d (((0, monomial 2 0), 1) ∷ (((0, monomial 0 1), 1) ∷ [])) → ⊥
by_none d h =
    let a : 2 ≡ d = h.degrees (0, monomial 2 0) (IsCongruent_nonzero 101 1 (omega arith) (omega arith)) in
    let b : 1 ≡ d = h.degrees (0, monomial 0 1) (IsCongruent_nonzero 101 1 (omega arith) (omega arith)) in
    absurd (omega (arith, a, b))
