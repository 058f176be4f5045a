-- A table of Betti numbers as a list, and what is read off it (UAG chapter 6, section 3; Eisenbud, The Geometry of Syzygies, section 4A)
use Rattle.std.specs.Prelude.{Contains, List, [], pos, ⊤, ℕ, ℤ, ◌-ℤ◌, ◌<◌, ◌≤◌, ◌≤ℤ◌, ◌∷◌, ◌≡◌, ◌⊎◌}
use Rattle.formal_sums.specs.FormalSums.{Each}
use Rattle.minimal_betti.specs.declared.tables.BettiEntry.{BettiEntry}

-- an entry comes before another: by step, and then by degree
abbrev pub ComesBefore : BettiEntry → BettiEntry → Type 0
ComesBefore e f = (e.step < f.step) ⊎ ((e.step ≡ f.step) × (e.degree < f.degree))

-- each entry comes before all later ones
abbrev pub Ascends : List BettiEntry → Type 0
Ascends [] = ⊤
Ascends (e ∷ es) = Each (ComesBefore e) es × Ascends es

-- the entry of a step and a degree
abbrev pub entry_at : (ℕ → ℕ → ℕ) → ℕ → ℕ → BettiEntry
entry_at counts k d = record { step = k; degree = d; count = counts k d }

-- an entry has its count, and that is not 0
abbrev pub IsCountedEntry : (ℕ → ℕ → ℕ) → BettiEntry → Type 0
IsCountedEntry counts e = (0 < e.count) × (e.count ≡ counts e.step e.degree)

-- the entries ascend by step and then degree, and are the counts that are not 0
pub record IsBettiTable (counts : ℕ → ℕ → ℕ) (entries : List BettiEntry) : Type 0 where
  pub ascends : Ascends entries
  pub counted : Each (IsCountedEntry counts) entries
  pub complete : (k d : ℕ) → 0 < counts k d → Contains entries (entry_at counts k d)

-- no count is there
abbrev pub IsNone : (ℕ → ℕ → ℕ) → Type 0
IsNone counts = (k d : ℕ) → counts k d ≡ 0

-- the greatest step with a count
pub record IsLastStep (counts : ℕ → ℕ → ℕ) (s : ℕ) : Type 0 where
  pub degree : ℕ
  pub some : 0 < counts s degree
  pub greatest : (k d : ℕ) → 0 < counts k d → k ≤ s

-- the greatest degree less step with a count
pub record IsRegularity (counts : ℕ → ℕ → ℕ) (g : ℤ) : Type 0 where
  pub step : ℕ
  pub degree : ℕ
  pub some : 0 < counts step degree
  pub is : g ≡ pos degree -ℤ pos step
  pub greatest : (k d : ℕ) → 0 < counts k d → (pos d -ℤ pos k) ≤ℤ g
