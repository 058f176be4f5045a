-- Lists of generators and of coefficients, as the code has them
use Rattle.std.specs.Prelude.{List, get_or, length, map, pos, ℕ, ℤ, ◌++◌, ◌+◌, ◌≡◌, ◌≤◌, ◌||◌}
use Rattle.monomials.specs.Exponents.{Exponents, exponents_of, quotient}
use Rattle.monomial_counts.specs.Counts.{has_divisor, standard_count}
use Rattle.formal_sums.specs.FormalSums.{Each}
use Rattle.hilbert_laws.specs.Numerators.{IsNumerator, plus}
use Rattle.hilbert_laws.specs.Shifting.{shifted}
use Rattle.monomial_orders.specs.Kept.{IsWeighed, Monomial, monomials}

-- each generator is a monomial in n variables of these weights
abbrev pub AreMonomialGenerators : ℕ → List ℕ → List Monomial → Type 0
AreMonomialGenerators n ws gs = Each (IsWeighed n ws) gs

-- the lists have the same multiples
abbrev pub HaveSameMultiples : {n : ℕ} → List (Exponents n) → List (Exponents n) → Type 0
HaveSameMultiples {n} ms ks = (v : Exponents n) → has_divisor ms v ≡ has_divisor ks v

-- K and L have the same coefficients, whatever zeros stand at their ends
abbrev pub HaveSameCoefficients : List ℤ → List ℤ → Type 0
HaveSameCoefficients K L = (d : ℕ) → get_or K d (pos 0) ≡ get_or L d (pos 0)

-- K is the numerator of the generators
abbrev pub IsNumeratorOf : ℕ → List ℕ → List Monomial → List ℤ → Type 0
IsNumeratorOf n ws gs K = IsNumerator ws n K (standard_count ws (monomials n gs))

-- K is the numerator of ms and the generators
abbrev pub IsNumeratorWith : (n : ℕ) → List ℕ → List (Exponents n) → List Monomial → List ℤ → Type 0
IsNumeratorWith n ws ms gs K = IsNumerator ws n K (standard_count ws (ms ++ monomials n gs))

-- m has no variable in common with the monomials: dividing by it leaves each as it is
abbrev pub IsCoprimeToAll : {n : ℕ} → List (Exponents n) → Exponents n → Type 0
IsCoprimeToAll ms m = map (λ s. quotient s m) ms ≡ ms

-- no generator has a variable in common with the monomials
abbrev pub AreCoprimeToAll : (n : ℕ) → List (Exponents n) → List Monomial → Type 0
AreCoprimeToAll n ms gs = Each (λ g. IsCoprimeToAll ms (exponents_of n g.exponents)) gs

-- `small` has the same multiples, and not more generators; what has no variable in common with these has none with those
pub record IsShorter (n : ℕ) (ws : List ℕ) (gs small : List Monomial) : Type 0 where
  pub generators : AreMonomialGenerators n ws small
  pub fewer : length small ≤ length gs
  pub same : HaveSameMultiples (monomials n small) (monomials n gs)
  pub apart : (ms : List (Exponents n)) → AreCoprimeToAll n ms gs → AreCoprimeToAll n ms small

-- with ms, the numerator of the generators is that of `left` and t^d times that of `right`, which have not more generators
pub record IsNumeratorSplit (n : ℕ) (ws : List ℕ) (ms : List (Exponents n)) (gs left right : List Monomial) (d : ℕ) : Type 0 where
  pub left_generators : AreMonomialGenerators n ws left
  pub right_generators : AreMonomialGenerators n ws right
  pub left_fewer : length left ≤ length gs
  pub right_fewer : length right ≤ length gs
  pub left_apart : AreCoprimeToAll n ms left
  pub right_apart : AreCoprimeToAll n ms right
  pub sum : (K L : List ℤ) → IsNumeratorWith n ws ms left K → IsNumeratorWith n ws ms right L → IsNumeratorWith n ws ms gs (plus K (shifted d L))

-- the generators are those of `first` and of `other`, which have no variable in common; `both` are ms and those of `first`
pub record IsParted (n : ℕ) (ws : List ℕ) (ms : List (Exponents n)) (gs first both other : List Monomial) : Type 0 where
  pub first_generators : AreMonomialGenerators n ws first
  pub both_generators : AreMonomialGenerators n ws both
  pub other_generators : AreMonomialGenerators n ws other
  pub long : length first + length other ≡ length gs
  pub both_long : length both ≡ length ms + length first
  pub both_items : monomials n both ≡ ms ++ monomials n first
  pub first_apart : AreCoprimeToAll n ms first
  pub other_apart : AreCoprimeToAll n (monomials n both) other
  pub same : HaveSameMultiples (monomials n both ++ monomials n other) (ms ++ monomials n gs)

-- the generators are those of `first` and of `other`
pub record IsSieved (n : ℕ) (ws : List ℕ) (gs first other : List Monomial) : Type 0 where
  pub first_generators : AreMonomialGenerators n ws first
  pub other_generators : AreMonomialGenerators n ws other
  pub long : length first + length other ≡ length gs
  pub first_apart : (ms : List (Exponents n)) → AreCoprimeToAll n ms gs → AreCoprimeToAll n ms first
  pub other_apart : (ms : List (Exponents n)) → AreCoprimeToAll n ms gs → AreCoprimeToAll n ms other
  pub same : (v : Exponents n) → has_divisor (monomials n first) v || has_divisor (monomials n other) v ≡ has_divisor (monomials n gs) v
