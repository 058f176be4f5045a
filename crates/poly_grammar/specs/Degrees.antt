-- The formal degree of a POLY
use Rattle.std.specs.Prelude.{None, Option, Some, if◌then◌else◌, max, nat_le, ℕ, ◌*◌, ◌+◌}
use Rattle.script_tokens.specs.declared.token.Token.{Token}
use Rattle.poly_grammar.specs.Algebras.{Algebra, worth}
use Rattle.poly_grammar.specs.Trees.{Poly}

-- a degree of at most 1,000
abbrev pub bounded : ℕ → Option ℕ
bounded n = if nat_le n 1000 then Some n else None

-- a number has degree 0 and a name its weight; a power has its base's times the exponent, a product the sum, a sum the greatest
abbrev pub degrees : (Token → ℕ) → (Token → ℕ) → Algebra ℕ
degrees weight value = record {
  number = λ token. Some 0;
  name = λ token. bounded (weight token);
  raised = λ d exponent. bounded (d * value exponent);
  product = λ d e. bounded (d + e);
  sum = λ d e. Some (max d e);
  difference = λ d e. Some (max d e);
  opposite = λ d. Some d;
}

-- the formal degree, where names have these weights and exponents these values; None where that of some part is above 1,000
abbrev pub formal_degree : (Token → ℕ) → (Token → ℕ) → Poly → Option ℕ
formal_degree weight value p = worth (degrees weight value) p
