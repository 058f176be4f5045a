-- The leads of a module, as the code has them
use Rattle.std.specs.Prelude.{List, get_or, length, map, pos, suc, ℕ, ℤ, ◌<◌, ◌≡◌, ◌≤◌, ⊤}
use Rattle.formal_sums.specs.FormalSums.{Each, Key}
use Rattle.hilbert_laws.specs.Numerators.{leads_at}
use Rattle.monomial_orders.specs.Kept.{IsWeighed}
use Rattle.term_lists.specs.Vectors.{key_of}
use Rattle.term_lists.specs.declared.key.Key.{Key as CodeKey}
use Rattle.hilbert_series.specs.declared.stop.HilbertStop.{HilbertStop}
use Rattle.hilbert_series.specs.declared.stop.HilbertStop.TheVariants.{Memory, Leads, Large}

-- the keys of n variables that the code's keys are
abbrev pub keys_of : (n : ℕ) → List CodeKey → List (Key n)
keys_of n ks = map (key_of n) ks

-- the keys' monomials are of n variables of these weights
abbrev pub AreLeads : ℕ → List ℕ → List CodeKey → Type 0
AreLeads n ws ks = Each (λ k. IsWeighed n ws k.monomial) ks

-- the first position below the rank with more than b leads has k
pub record IsFirstOver {n : ℕ} (b rank : ℕ) (ks : List (Key n)) (k : ℕ) : Type 0 where
  pub position : ℕ
  pub below : position < rank
  pub leads : length (leads_at position ks) ≡ k
  pub over : b < k
  pub first : (j : ℕ) → j < position → length (leads_at j ks) ≤ b

-- why there is no numerator: want of memory, or the number of leads of the first position with more than 120
abbrev pub NumeratorStops : {n : ℕ} → ℕ → List (Key n) → HilbertStop → Type 0
NumeratorStops rank ks Memory = ⊤
NumeratorStops rank ks (Leads k) = IsFirstOver 120 rank ks k
NumeratorStops rank ks Large = ⊥

-- the last coefficient, where there is one, is not 0
abbrev pub EndsInNonzero : List ℤ → Type 0
EndsInNonzero K = (k : ℕ) → length K ≡ suc k → get_or K k (pos 0) ≡ pos 0 → ⊥
