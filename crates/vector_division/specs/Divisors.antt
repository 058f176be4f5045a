-- The vectors of a list that a division tries as divisors
use Rattle.std.specs.Prelude.{Contains, List, [], get_or, length, ⊤, ℕ, ◌<◌, ◌∷◌, ◌≡◌, ◌≤◌}
use Rattle.formal_sums.specs.FormalSums.{Each, Key}
use Rattle.orders.specs.KeyOrders.{KeyDivides}
use Rattle.bases.specs.Leads.{head_key}
use Rattle.term_lists.specs.Vectors.{key_of, sum_of, sums_of}
use Rattle.term_lists.specs.declared.key.Key.{Key as CodeKey}
use Rattle.module_vectors.specs.Trails.{lead_at}
use Rattle.vector_division.specs.Divisions.{IsUncovered}
use Rattle.vector_division.specs.Marks.{IsMarkOf}
use Rattle.vector_division.specs.declared.divisors.Divisor.{Divisor}
use Rattle.vector_division.specs.declared.marks.Mark.{Mark}

-- vector i has a lead, which divides that of vector j
pub record IsDividedAt (n : ℕ) (list : List (List (CodeKey × ℕ))) (j i : ℕ) : Type 0 where
  pub some : 0 < length (get_or list i [])
  pub divides : KeyDivides (lead_at n list i) (lead_at n list j)

-- the lead of each vector of the list is divisible by that of one with these indices
abbrev pub AreEnough : ℕ → List (List (CodeKey × ℕ)) → List ℕ → Type 0
AreEnough n list indices =
    (j : ℕ) → j < length list → 0 < length (get_or list j []) → (i : ℕ) × Contains indices i × IsDividedAt n list j i

-- the divisor is a vector of the list, with its mark
pub record IsOf (list : List (List (CodeKey × ℕ))) (d : Divisor) : Type 0 where
  pub within : d.index < length list
  pub mark : IsMarkOf (get_or list d.index []) d.mark

-- the index of a divisor, with its mark
abbrev pub indexed : Divisor → ℕ × Mark
indexed d = (d.index, d.mark)

-- v is zero, or its lead has no degree below this one
abbrev pub IsNoHigher : ℕ → List (CodeKey × ℕ) → Type 0
IsNoHigher least [] = ⊤
IsNoHigher least (t ∷ v) = least ≤ t.0.monomial.degree

-- each divisor keeps a degree that no lead of it and of those behind it is below
abbrev pub AreLeast : List (List (CodeKey × ℕ)) → List Divisor → Type 0
AreLeast list [] = ⊤
AreLeast list (d ∷ divisors) = Each (λ e. IsNoHigher d.least (get_or list e.index [])) (d ∷ divisors) × AreLeast list divisors

-- no lead of the divisors from place i on has a degree below this one
abbrev pub IsLeastFrom : List (List (CodeKey × ℕ)) → List Divisor → ℕ → ℕ → Type 0
IsLeastFrom list divisors i least =
    (j : ℕ) (d : Divisor) → i ≤ j → j < length divisors → d ≡ get_or divisors j d → IsNoHigher least (get_or list d.index [])

-- each divisor from this place on keeps such a degree
abbrev pub AreLeastFrom : List (List (CodeKey × ℕ)) → List Divisor → ℕ → Type 0
AreLeastFrom list divisors from =
    (i : ℕ) (d : Divisor) → from ≤ i → i < length divisors → d ≡ get_or divisors i d → IsLeastFrom list divisors i d.least

-- vectors of the list with their marks and least degrees, and the lead of each vector of the list is divisible by that of one of them
pub record AreDivisors (n : ℕ) (list : List (List (CodeKey × ℕ))) (divisors : List Divisor) : Type 0 where
  pub each : (k : ℕ) (d : Divisor) → k < length divisors → d ≡ get_or divisors k d → IsOf list d
  pub least : AreLeast list divisors
  pub enough :
      (j : ℕ) → j < length list → 0 < length (get_or list j []) → (d : Divisor) × Contains divisors d × IsDividedAt n list j d.index

-- the leads of the first i divisors do not divide k
abbrev pub AreTriedTo : (n : ℕ) → List (List (CodeKey × ℕ)) → Key n → List Divisor → ℕ → Type 0
AreTriedTo n list k divisors i =
    (m : ℕ) (d : Divisor) → m < i → d ≡ get_or divisors m d → 0 < length (get_or list d.index [])
    → KeyDivides (head_key (sum_of n (get_or list d.index []))) k → ⊥

-- divisor m is vector f m of the list, for m below this count
pub record AreBy (f : ℕ → ℕ) (total : ℕ) (list : List (List (CodeKey × ℕ))) (divisors : List Divisor) : Type 0 where
  pub count : length divisors ≡ total
  pub each : (m : ℕ) (d : Divisor) → m < total → d ≡ get_or divisors m d → (d.index ≡ f m) × IsMarkOf (get_or list (f m) []) d.mark

-- no lead of the list divides any of these keys
abbrev pub AreFreeKeys : ℕ → List (List (CodeKey × ℕ)) → List CodeKey → Type 0
AreFreeKeys n list keys = Each (λ k. IsUncovered (sums_of n list) (key_of n k)) keys

-- each slot has the number of one of so many keys, from 1, or 0
abbrev pub HaveNumbers : ℕ → List ℕ → Type 0
HaveNumbers count slots = (i : ℕ) → get_or slots i 0 ≤ count
