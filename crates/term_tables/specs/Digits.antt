-- Monomials as numbers (Kronecker substitution: Modern Computer Algebra, section 8.4)
use Rattle.std.specs.Prelude.{Bool, List, [], cond, map, ℕ, ◌%◌, ◌+◌, ◌/◌, ◌<◌, ◌∷◌, ◌≡◌, ◌≤◌}
use Rattle.monomials.specs.Exponents.{Exponents, exponents_of}
use Rattle.formal_sums.specs.FormalSums.{Each, FormalSum}
use Rattle.term_lists.specs.declared.key.Key.{Key as CodeKey}

-- the base of a variable: its greatest exponents in two factors are at most these, so their sum is below it
abbrev pub base_of : ℕ × ℕ → ℕ
base_of b = b.0 + b.1 + 1

-- the digits of k to the bases, the lowest first
abbrev pub digits : List (ℕ × ℕ) → ℕ → List ℕ
digits [] k = []
digits (b ∷ bs) k = (k % base_of b) ∷ digits bs (k / base_of b)

-- the monomial that k stands for: its exponents are the digits
abbrev pub monomial_at : (n : ℕ) → List (ℕ × ℕ) → ℕ → Exponents n
monomial_at n bs k = exponents_of n (digits bs k)

-- the polynomial of terms whose monomials are numbers
abbrev pub packed_sum : (n : ℕ) → List (ℕ × ℕ) → List (ℕ × ℕ) → FormalSum n
packed_sum n bs terms = map (λ t. ((0, monomial_at n bs t.0), t.1)) terms

-- each digit of k is at most the limit of its base
abbrev pub HasDigitsWithin : (ℕ × ℕ → ℕ) → List (ℕ × ℕ) → ℕ → Type 0
HasDigitsWithin limit [] k = Unit {0}
HasDigitsWithin limit (b ∷ bs) k = (k % base_of b ≤ limit b) × HasDigitsWithin limit bs (k / base_of b)

-- the limit of a factor
abbrev pub limit_of : Bool → ℕ × ℕ → ℕ
limit_of is_left b = cond is_left b.0 b.1

-- the number and residue s are a packed term t of a polynomial, of the left or the right factor
pub record IsPackedTerm (is_left : Bool) (bs : List (ℕ × ℕ)) (t : CodeKey × ℕ) (s : ℕ × ℕ) : Type 0 where
  pub position : t.0.position ≡ 0
  pub exponents : digits bs s.0 ≡ t.0.monomial.exponents
  pub within : HasDigitsWithin (limit_of is_left) bs s.0
  pub residue : s.1 ≡ t.1

-- packed terms of a factor: digits within its limits, and residues of p
abbrev pub ArePacked : Bool → List (ℕ × ℕ) → ℕ → List (ℕ × ℕ) → Type 0
ArePacked is_left bs p terms = Each (λ t. HasDigitsWithin (limit_of is_left) bs t.0 × (t.1 < p)) terms

-- no two digits of a and b sum to their base or more
abbrev pub HaveNoCarry : List (ℕ × ℕ) → ℕ → ℕ → Type 0
HaveNoCarry [] a b = Unit {0}
HaveNoCarry (c ∷ bs) a b = (a % base_of c + b % base_of c < base_of c) × HaveNoCarry bs (a / base_of c) (b / base_of c)

-- the relation holds between each term of a and each of b
abbrev pub EachPair : (ℕ × ℕ → ℕ × ℕ → Type 0) → List (ℕ × ℕ) → List (ℕ × ℕ) → Type 0
EachPair P a b = Each (λ s. Each (λ t. P s t) b) a
