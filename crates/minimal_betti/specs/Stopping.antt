-- The entry of a vector in a row, as a polynomial
use Rattle.std.specs.Prelude.{List, [], ℕ, ◌++◌, ◌∷◌, ◌≡◌, ◌⊎◌}
use Rattle.term_lists.specs.declared.key.Key.{Key as CodeKey}

-- the term at position 0
abbrev pub at_zero : CodeKey × ℕ → CodeKey × ℕ
at_zero t = (record { position = 0; monomial = t.0.monomial }, t.1)

-- the term was put behind the others, at position 0, where it stands in row r
abbrev pub IsKeptInRow : ℕ → CodeKey × ℕ → List (CodeKey × ℕ) → List (CodeKey × ℕ) → Type 0
IsKeptInRow r t old new = ((t.0.position ≡ r) × (new ≡ old ++ at_zero t ∷ [])) ⊎ ((t.0.position ≡ r → ⊥) × (new ≡ old))
