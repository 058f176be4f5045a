-- Exponents in unary: a word that lies within that of each multiple
use Rattle.std.specs.Prelude.{List, [], ℕ, ◌-◌, ◌∷◌}
use Rattle.vector_division.specs.Marks.{HasBits}

-- each exponent e as e, e - 1, e - 2 and e - 3, of which those above 0 are as many as e, and at most four
abbrev pub in_fours : List ℕ → List ℕ
in_fours [] = []
in_fours (e ∷ exponents) = e ∷ (e - 1) ∷ (e - 2) ∷ (e - 3) ∷ in_fours exponents

-- bit 4 i + t is set just where exponent i is greater than t, for the first sixteen exponents and t below 4
abbrev pub HasUnaryBits : List ℕ → ℕ → Type 0
HasUnaryBits exponents word = HasBits (in_fours exponents) word
