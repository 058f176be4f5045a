-- Tables of coefficients, one place for each monomial
use Rattle.std.specs.Prelude.{List, [], get_or, length, map, ℕ, ◌+◌, ◌<◌, ◌∷◌, ◌≡◌, ◌⊎◌}
use Rattle.formal_sums.specs.FormalSums.{FormalSum}
use Rattle.monomial_orders.specs.Kept.{IsWeighed}
use Rattle.term_lists.specs.declared.key.Key.{Key as CodeKey}
use Rattle.term_tables.specs.Digits.{digits, monomial_at}

-- the polynomial whose coefficients at the monomials k, k + 1 and so on are these
abbrev pub table_sum : (n : ℕ) → List (ℕ × ℕ) → ℕ → List ℕ → FormalSum n
table_sum n bs k [] = []
table_sum n bs k (c ∷ cs) = ((0, monomial_at n bs k), c) ∷ table_sum n bs (k + 1) cs

-- the polynomial of terms that are ranked: a rank, the number of the monomial, the coefficient
abbrev pub ranked_sum : (n : ℕ) → List (ℕ × ℕ) → List (ℕ × ℕ × ℕ) → FormalSum n
ranked_sum n bs terms = map (λ t. ((0, monomial_at n bs t.1), t.2)) terms

-- u is a ranked term t of polynomials whose variables have these weights
pub record IsUnpackedTerm (ws : List ℕ) (bs : List (ℕ × ℕ)) (t : ℕ × ℕ × ℕ) (u : CodeKey × ℕ) : Type 0 where
  pub weighed : IsWeighed (length ws) ws u.0.monomial
  pub position : u.0.position ≡ 0
  pub exponents : u.0.monomial.exponents ≡ digits bs t.1
  pub residue : u.1 ≡ t.2

-- what stands past the end of a list of slots
abbrev pub no_slot : ℕ × ℕ
no_slot = (0, 0)

-- slot i has the number, or the sum 0
pub record IsOpen (slots : List (ℕ × ℕ)) (key i : ℕ) : Type 0 where
  pub below : i < length slots
  pub takes : ((get_or slots i no_slot).0 ≡ key) ⊎ ((get_or slots i no_slot).1 ≡ 0)
