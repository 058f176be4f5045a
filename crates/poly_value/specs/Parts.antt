-- Sums of terms that stand on the stack while a polynomial is worked out
use Rattle.std.specs.Prelude.{List, Some, [], ◌*◌, ◌+◌, ◌<◌, ◌^◌, ◌∷◌, ◌≡◌, ◌≤◌, ℕ}
use Rattle.std.specs.List.{AllByRecursion}
use Rattle.poly_grammar.specs.Algebras.{worth_step}
use Rattle.poly_grammar.specs.Numerals.{numeral_value}
use Rattle.poly_grammar.specs.Steps.{numbers_of_steps}
use Rattle.poly_grammar.specs.declared.step.PolyStep.{PolyStep}
use Rattle.formal_sums.specs.FormalSums.{FormalSum}
use Rattle.term_lists.specs.Rings.{variables}
use Rattle.term_lists.specs.Vectors.{AreTermsOver, HasPositions, StandsFor, sum_of}
use Rattle.term_lists.specs.declared.key.Key.{Key}
use Rattle.term_lists.specs.declared.ring.Ring.{Ring}
use Rattle.sparse_poly.specs.Degrees.{HasDegreeWithin}
use Rattle.poly_value.specs.declared.operands.Operand.{Operand}
use Rattle.poly_value.specs.Values.{line_degrees, polynomials_of}

-- terms of the ring at position 0, in any order and with repeats
pub record IsSum (ring : Ring) (terms : List (Key × ℕ)) : Type 0 where
  pub over : AreTermsOver ring terms
  pub positions : HasPositions 1 terms

-- such terms that stand for v
pub record IsOperandPart (ring : Ring) (v : FormalSum (variables ring)) (terms : List (Key × ℕ)) : Type 0 where
  pub sum : IsSum ring terms
  pub stands : StandsFor ring terms v

-- the product of the sums has a degree of at most 65,535, by bounds on theirs
abbrev pub ProductFitsBounds : Ring → List (Key × ℕ) → List (Key × ℕ) → Type 0
ProductFitsBounds ring left right = (d e : ℕ) × HasDegreeWithin ring.weights ring.modulus.value d (sum_of (variables ring) left)
    × HasDegreeWithin ring.weights ring.modulus.value e (sum_of (variables ring) right) × (d + e ≤ 65535)

-- the power of the sum has a degree of at most 65,535, by a bound on that of the sum
abbrev pub PowerFits : Ring → List (Key × ℕ) → ℕ → Type 0
PowerFits ring base n = (d : ℕ) × HasDegreeWithin ring.weights ring.modulus.value d (sum_of (variables ring) base) × (n * d ≤ 65535)

-- the sums of a stack, the top first, are parts of these values
abbrev pub AreParts : (ring : Ring) → List (Operand) → List (FormalSum (variables ring)) → Type 0
AreParts ring [] [] = Unit {0}
AreParts ring (operand ∷ stack) (v ∷ vs) = IsOperandPart ring v operand.terms.items × AreParts ring stack vs
AreParts ring _ _ = ⊥

-- the values have degrees of at most these
abbrev pub HaveDegreesWithin : {n : ℕ} → List ℕ → ℕ → List (FormalSum n) → List ℕ → Type 0
HaveDegreesWithin ws p [] [] = Unit {0}
HaveDegreesWithin ws p (v ∷ vs) (d ∷ ds) = HasDegreeWithin ws p d v × HaveDegreesWithin ws p vs ds
HaveDegreesWithin ws p _ _ = ⊥

-- the step can be done on a stack of sums, the top first: it has a worth for their values, a formal degree for theirs, and
-- its number is below 2^128
pub record IsStepReady (ring : Ring) (line : List ℕ) (step : PolyStep) (stack : List (Operand)) : Type 0 where
  pub values : List (FormalSum (variables ring))
  pub parts : AreParts ring stack values
  pub worth : (left : List (FormalSum (variables ring))) × (worth_step (polynomials_of ring line) step values ≡ Some left)
  pub bounds : List ℕ
  pub within : HaveDegreesWithin ring.weights ring.modulus.value values bounds
  pub degree : (left : List ℕ) × (worth_step (line_degrees ring line) step bounds ≡ Some left)
  pub numerals : AllByRecursion (λ t. numeral_value line t < 2 ^ 128) (numbers_of_steps (step ∷ []))

-- the step leads from one stack of sums, the top first, to the other
abbrev pub Advances : Ring → List ℕ → PolyStep → List (Operand) → List (Operand) → Type 0
Advances ring line step old new = (vs left : List (FormalSum (variables ring)))
    → AreParts ring old vs → worth_step (polynomials_of ring line) step vs ≡ Some left → AreParts ring new left
