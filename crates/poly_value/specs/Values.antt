-- What a POLY is worth in a ring: a polynomial as a formal sum of terms
use Rattle.std.specs.Prelude.{List, None, Option, Some, [], get_or, if◌then◌else◌, max, nat_eq, ℕ, ◌++◌, ◌+◌, ◌-◌, ◌∷◌, ◌≡◌}
use Rattle.std.specs.Cmp.Lexicographic.{pointwise}
use Rattle.std.specs.Option.{option_map}
use Rattle.script_tokens.specs.declared.token.Token.{Token}
use Rattle.poly_grammar.specs.Algebras.{Algebra, worth}
use Rattle.poly_grammar.specs.Degrees.{degrees}
use Rattle.poly_grammar.specs.Numerals.{numeral_value, text_of}
use Rattle.poly_grammar.specs.Trees.{Poly}
use Rattle.monomials.specs.Exponents.{unit}
use Rattle.formal_sums.specs.FormalSums.{FormalSum, product, scale}
use Rattle.monomial_orders.specs.Monomials.{variable}
use Rattle.term_lists.specs.Rings.{variables}
use Rattle.term_lists.specs.Vectors.{StandsFor}
use Rattle.term_lists.specs.declared.key.Key.{Key}
use Rattle.term_lists.specs.declared.ring.Ring.{Ring}
use Rattle.sparse_poly.specs.Powers.{constant, polynomial_power}

-- the place, from 0, at which a name stands first among names
abbrev pub place_of : List (List ℕ) → List ℕ → Option ℕ
place_of [] text = None
place_of (v ∷ vars) text = if pointwise nat_eq v text then Some 0 else option_map (λ i. i + 1) (place_of vars text)

-- the weight of a variable at a place: a weight that is missing or 0 is read as 1
abbrev pub weight_at : List ℕ → Option ℕ → ℕ
weight_at ws None = 1
weight_at ws (Some i) = max 1 (get_or ws i 1)

-- the weight of the variable with this name
abbrev pub name_weight : Ring → List ℕ → ℕ
name_weight ring text = weight_at ring.weights (place_of ring.vars text)

-- the formal degrees of a line by the ring's weights
abbrev pub line_degrees : Ring → List ℕ → Algebra ℕ
line_degrees ring line = degrees (λ t. name_weight ring (text_of line t)) (numeral_value line)

-- the variable with this index
abbrev pub variable_sum : (n i : ℕ) → FormalSum n
variable_sum n i = ((0, variable n i), 1) ∷ []

-- the polynomials in variables with these names, modulo p, where tokens have these texts and numbers: a name stands for
-- its variable, and minus is times p - 1
abbrev pub polynomials : (n p : ℕ) → List (List ℕ) → (Token → List ℕ) → (Token → ℕ) → Algebra (FormalSum n)
polynomials n p vars text value = record {
  number = λ token. Some (constant n (value token));
  name = λ token. option_map (variable_sum n) (place_of vars (text token));
  raised = λ v exponent. Some (polynomial_power v (value exponent));
  product = λ v w. Some (product v w);
  sum = λ v w. Some (v ++ w);
  difference = λ v w. Some (v ++ scale (p - 1) (unit n) w);
  opposite = λ v. Some (scale (p - 1) (unit n) v);
}

-- the polynomials of a ring, where tokens are those of the line
abbrev pub polynomials_of : (ring : Ring) → List ℕ → Algebra (FormalSum (variables ring))
polynomials_of ring line = polynomials (variables ring) ring.modulus.value ring.vars (text_of line) (numeral_value line)

-- terms stand for the value of the line's POLY
pub record IsValue (ring : Ring) (line : List ℕ) (p : Poly) (terms : List (Key × ℕ)) : Type 0 where
  pub value : FormalSum (variables ring)
  pub worth_is : worth (polynomials_of ring line) p ≡ Some value
  pub stands : StandsFor ring terms value
