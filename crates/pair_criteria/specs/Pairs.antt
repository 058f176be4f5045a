-- Pairs of leads
use Rattle.std.specs.Prelude.{Contains, List, None, Option, Some, [], get_or, length, ℕ, ◌≡◌}
use Rattle.monomials.specs.Exponents.{exponents_of, quotient, times}
use Rattle.formal_sums.specs.FormalSums.{Key}
use Rattle.bases.specs.Leads.{head_key}
use Rattle.bases.specs.Representations.{key_lcm}
use Rattle.monomial_orders.specs.Kept.{IsWeighed, Monomial}
use Rattle.term_lists.specs.Vectors.{key_of, sum_of}
use Rattle.term_lists.specs.declared.key.Key.{Key as CodeKey}
use Rattle.pair_criteria.specs.declared.pair.Pair.{Pair}

-- the lead with this index; the monomial 1 of no variables past the end
abbrev pub lead_with_index : List CodeKey → ℕ → CodeKey
lead_with_index leads i = get_or leads i (record { position = 0; monomial = record { exponents = []; degree = 0 } })

-- the number of variables of a key
abbrev pub key_variables : CodeKey → ℕ
key_variables k = length k.monomial.exponents

-- the pair of the leads i and j, at one position, with their least common multiple
pub record IsPairOfLeads (leads : List CodeKey) (i j : ℕ) (pair : Pair) : Type 0 where
  pub left : pair.i ≡ i
  pub right : pair.j ≡ j
  pub together : (lead_with_index leads i).position ≡ (lead_with_index leads j).position
  pub variables : key_variables pair.lcm ≡ key_variables (lead_with_index leads i)
  pub lcm :
      key_of (key_variables (lead_with_index leads i)) pair.lcm
      ≡ key_lcm (key_of (key_variables (lead_with_index leads i)) (lead_with_index leads i))
      (key_of (key_variables (lead_with_index leads i)) (lead_with_index leads j))

-- the pair of the leads i and j, or none exactly where their positions differ
abbrev pub IsPairOf : List CodeKey → ℕ → ℕ → Option Pair → Type 0
IsPairOf leads i j None = (lead_with_index leads i).position ≡ (lead_with_index leads j).position → ⊥
IsPairOf leads i j (Some pair) = IsPairOfLeads leads i j pair

-- k is the least common multiple of this pair of the list
abbrev pub IsLcmOf : (n : ℕ) → List Pair → Key n → Pair → Type 0
IsLcmOf n pairs k x = Contains pairs x × (k ≡ key_of n x.lcm)

-- t times the lead of v is the lcm
pub record IsFactorOf (n : ℕ) (ws : List ℕ) (lcm : CodeKey) (v : List (CodeKey × ℕ)) (t : Monomial) : Type 0 where
  pub weighed : IsWeighed n ws t
  pub exponents : exponents_of n t.exponents ≡ quotient (exponents_of n lcm.monomial.exponents) (head_key (sum_of n v)).1
  pub product : times (exponents_of n t.exponents) (head_key (sum_of n v)).1 ≡ exponents_of n lcm.monomial.exponents
