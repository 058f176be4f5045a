-- The numerator of x^2, x y and y^2, one generator after the other
use Rattle.std.proofs.Common.{[], arith, get_or, map, refl, suc, zero, ℕ, ◌<◌, ◌∙◌, ◌∷◌, ◌≡◌}
use Rattle.std.proofs.lemmas.Int.{ints}
use Rattle.std.specs.Prelude.{negsuc, pos}
use Rattle.monomials.specs.Exponents.{Exponents}
use Rattle.monomial_counts.specs.Counts.{standard_count}
use Rattle.bases.specs.Leads.{head_key}
use Rattle.hilbert_laws.proofs.OneMore.{IsNumerator_more}
use Rattle.hilbert_laws.proofs.Orders.{order_of_division, series_same}
use Rattle.hilbert_laws.proofs.Recurrence.{IsNumerator_one, IsNumerator_position, series_nothing}
use Rattle.hilbert_laws.specs.Dimensions.{HasDimension, of_order}
use Rattle.hilbert_laws.specs.Numerators.{IsNumerator, divided_by, module_count, value_at_one}
use Rattle.above_examples.specs.Square.{monomial, numerator, square_generators}

abbrev mono : ℕ → ℕ → Exponents 2
mono a b = monomial a b

-- y: 1 - t
of_y : IsNumerator [] 2 (pos 1 ∷ (negsuc 0 ∷ [])) (standard_count [] (mono 0 1 ∷ []))
of_y = IsNumerator_more [] [] (mono 0 1) (pos 1 ∷ []) (pos 1 ∷ []) (IsNumerator_one 2 []) (IsNumerator_one 2 [])

-- y^2: 1 - t^2
of_y2 : IsNumerator [] 2 (pos 1 ∷ (pos 0 ∷ (negsuc 0 ∷ []))) (standard_count [] (mono 0 2 ∷ []))
of_y2 = IsNumerator_more [] [] (mono 0 2) (pos 1 ∷ []) (pos 1 ∷ []) (IsNumerator_one 2 []) (IsNumerator_one 2 [])

-- x y and y^2: 1 - 2 t^2 + t^3
of_two : IsNumerator [] 2 (pos 1 ∷ (pos 0 ∷ (negsuc 1 ∷ (pos 1 ∷ [])))) (standard_count [] (mono 1 1 ∷ (mono 0 2 ∷ [])))
of_two = IsNumerator_more [] (mono 0 2 ∷ []) (mono 1 1) (pos 1 ∷ (pos 0 ∷ (negsuc 0 ∷ []))) (pos 1 ∷ (negsuc 0 ∷ [])) of_y2 of_y

-- y and y^2: 1 - t, with a zero behind
of_line : IsNumerator [] 2 (pos 1 ∷ (negsuc 0 ∷ (pos 0 ∷ []))) (standard_count [] (mono 0 1 ∷ (mono 0 2 ∷ [])))
of_line = IsNumerator_more [] (mono 0 2 ∷ []) (mono 0 1) (pos 1 ∷ (pos 0 ∷ (negsuc 0 ∷ []))) (pos 1 ∷ (negsuc 0 ∷ [])) of_y2 of_y

of_three : IsNumerator [] 2 (pos 1 ∷ (pos 0 ∷ (negsuc 2 ∷ (pos 2 ∷ (pos 0 ∷ []))))) (standard_count [] (mono 2 0 ∷ (mono 1 1 ∷ (mono 0 2 ∷ []))))
of_three = IsNumerator_more [] (mono 1 1 ∷ (mono 0 2 ∷ [])) (mono 2 0) (pos 1 ∷ (pos 0 ∷ (negsuc 1 ∷ (pos 1 ∷ [])))) (pos 1 ∷ (negsuc 0 ∷ (pos 0 ∷ []))) of_two of_line

same : (i : ℕ) → get_or numerator i (pos 0) ≡ get_or (pos 1 ∷ (pos 0 ∷ (negsuc 2 ∷ (pos 2 ∷ (pos 0 ∷ []))))) i (pos 0)
same zero = refl
same (suc zero) = refl
same (suc (suc zero)) = refl
same (suc (suc (suc zero))) = refl
same (suc (suc (suc (suc zero)))) = refl
same (suc (suc (suc (suc (suc i))))) = refl

pub square_numerator : IsNumerator [] 2 numerator (module_count [] 1 (map head_key square_generators))
square_numerator = IsNumerator_position 2 0 [] (map head_key square_generators) [] numerator (λ d. series_nothing [] 2 d) (λ d. series_same [] 2 numerator (pos 1 ∷ (pos 0 ∷ (negsuc 2 ∷ (pos 2 ∷ (pos 0 ∷ []))))) same d ∙ of_three d)

pub square_dimension : HasDimension 2 numerator (pos 0) (pos 3)
square_dimension = of_order 2 (pos 3) (order_of_division numerator 2 (pos 3) (record { vanishes = vanishes; value = refl; nonzero = λ e. absurd (omega (arith, ints, e)) }))
  where
    vanishes : (j : ℕ) → j < 2 → value_at_one (divided_by j numerator) ≡ pos 0
    vanishes zero h = refl
    vanishes (suc zero) h = refl
    vanishes (suc (suc j)) h = absurd (omega (arith, h))

pub line_dimension : HasDimension 2 (pos 1 ∷ (negsuc 0 ∷ [])) (pos 1) (pos 1)
line_dimension = of_order 1 (pos 1) (order_of_division (pos 1 ∷ (negsuc 0 ∷ [])) 1 (pos 1) (record { vanishes = vanishes; value = refl; nonzero = λ e. absurd (omega (arith, ints, e)) }))
  where
    vanishes : (j : ℕ) → j < 1 → value_at_one (divided_by j (pos 1 ∷ (negsuc 0 ∷ []))) ≡ pos 0
    vanishes zero h = refl
    vanishes (suc j) h = absurd (omega (arith, h))
