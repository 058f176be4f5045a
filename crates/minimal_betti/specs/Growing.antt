-- A table that grows step by step and degree by degree
use Rattle.std.specs.Prelude.{Contains, List, pos, ℕ, ◌-ℤ◌, ◌<◌, ◌≤◌, ◌≤ℤ◌, ◌≡◌, ◌⊎◌}
use Rattle.formal_sums.specs.FormalSums.{Each}
use Rattle.betti_laws.specs.Tables.{occurrences}
use Rattle.minimal_betti.specs.Tables.{Ascends, IsCountedEntry, entry_at}
use Rattle.minimal_betti.specs.declared.tables.BettiEntry.{BettiEntry}
use Rattle.minimal_betti.specs.declared.tables.TableInvariants.{TableInvariants}

-- a step and a degree come before these
abbrev pub IsDone : (step degree : ℕ) → ℕ → ℕ → Type 0
IsDone step degree k d = (k < step) ⊎ ((k ≡ step) × (d < degree))

-- the entries before a step and a degree
pub record IsTableTo (counts : ℕ → ℕ → ℕ) (entries : List BettiEntry) (step degree : ℕ) : Type 0 where
  pub ascends : Ascends entries
  pub before : Each (λ e. IsDone step degree e.step e.degree) entries
  pub counted : Each (IsCountedEntry counts) entries
  pub complete : (k d : ℕ) → IsDone step degree k d → 0 < counts k d → Contains entries (entry_at counts k d)

-- the degree is before these, or not below the least
abbrev pub IsOutsideDegrees : (from least : ℕ) → ℕ → Type 0
IsOutsideDegrees from least d = (d < from) ⊎ ((least ≤ d) × (d < 4294967296))

-- the least degree of the list from here on, or 2 ^ 32 where there is none
pub record IsLeastDegree (from least : ℕ) (degrees : List ℕ) : Type 0 where
  pub outside : Each (IsOutsideDegrees from least) degrees
  pub found : (least ≡ 4294967296) ⊎ ((from ≤ least) × (least < 4294967296) × (0 < occurrences least degrees))

-- the last step and the regularity of these entries
pub record AreRead (entries : List BettiEntry) (found : TableInvariants) : Type 0 where
  pub of_step : (e : BettiEntry) × Contains entries e × (e.step ≡ found.last_step)
  pub steps : Each (λ e. e.step ≤ found.last_step) entries
  pub of_excess : (e : BettiEntry) × Contains entries e × ((pos e.degree -ℤ pos e.step) ≡ found.regularity)
  pub excesses : Each (λ e. (pos e.degree -ℤ pos e.step) ≤ℤ found.regularity) entries
