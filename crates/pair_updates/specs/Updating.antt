-- How new members come one after another: what leaves the queue, and what joins it
use Rattle.std.specs.Prelude.{List, ℕ, ◌++◌, ◌+◌, ◌-◌, ◌<◌, ◌≡◌, ◌≤◌, ◌⊎◌}
use Rattle.formal_sums.specs.FormalSums.{Each}
use Rattle.basis_steps.specs.Criteria.{IsPair}
use Rattle.basis_steps.specs.Drops.{LeavesFor}
use Rattle.basis_steps.specs.Pairs.{Drop, Pair, count, pairs_dropped}
use Rattle.basis_steps.specs.Queues.{IsSorted}
use Rattle.basis_steps.specs.Updates.{BecomesNew, IsNewDrop, UpdatesInTurn}
use Rattle.pair_criteria.specs.declared.pair.Pair.{Pair as CodePair}
use Rattle.pair_updates.specs.Leads.{LeadsShown, setting_of_leads, sums_shown}
use Rattle.pair_updates.specs.Pairs.{IsRealPair, pairs_of, AreIndices}

-- a queued pair that left for member h
abbrev pub HasLeft : LeadsShown → ℕ → Drop → Type 0
HasLeft m h d = LeavesFor (sums_shown m) h d.0 × (d.1 ≡ h)

-- of these pairs some stay as member h comes, others left for it, and the rest is still to be looked at
pub record Staying (m : LeadsShown) (h : ℕ) (whole : List Pair) (drops : List Drop) (kept rest : List CodePair) (later : List Drop) : Type 0 where
  pub added : List Drop
  pub appended : later ≡ drops ++ added
  pub left : Each (HasLeft m h) added
  pub stay : Each (λ x. LeavesFor (sums_shown m) h x → ⊥) (pairs_of kept)
  pub kept_real : Each (IsRealPair m) kept
  pub rest_real : Each (IsRealPair m) rest
  pub within : Each (AreIndices h) (pairs_of rest)
  pub same : (x : Pair) → count x (pairs_of kept) + (count x (pairs_dropped added) + count x (pairs_of rest)) ≡ count x whole
  pub sorted :
      IsSorted (setting_of_leads m.variables m) (sums_shown m) whole
      → IsSorted (setting_of_leads m.variables m) (sums_shown m) (pairs_of kept ++ pairs_of rest)

-- a new pair of one of the first k members and member h, dropped by a rule
abbrev pub IsDropBefore : LeadsShown → (h k : ℕ) → Drop → Type 0
IsDropBefore m h k d =
    (i : ℕ) × (i < k) × (d.0 ≡ (i, h)) × IsPair (sums_shown m) (i, h) × IsNewDrop (setting_of_leads m.variables m) (sums_shown m) h i d.1

-- the new pairs of member h with the first k members joined those that were queued, or were dropped or spared
pub record Joining (m : LeadsShown) (h k : ℕ) (start : List Pair) (drops : List Drop) (queued : List CodePair) (later : List Drop) : Type 0 where
  pub added : List Drop
  pub appended : later ≡ drops ++ added
  pub by_rule : Each (IsDropBefore m h k) added
  pub real : Each (IsRealPair m) queued
  pub new_pairs :
      (i : ℕ) → i < k → IsPair (sums_shown m) (i, h)
      → BecomesNew (setting_of_leads m.variables m) (sums_shown m) h added (count (i, h) (pairs_of queued)) i
  pub others : (x : Pair) → ((x.1 ≡ h) × (x.0 < k) → ⊥) → count x (pairs_of queued) ≡ count x start
  pub few : (x : Pair) → count x (pairs_of queued) ≤ count x start + 1
  pub once : (x : Pair) → count x (pairs_dropped added) ≤ 1
  pub no_others : (x : Pair) → 0 < count x (pairs_of queued) → (0 < count x start) ⊎ ((x.1 ≡ h) × IsPair (sums_shown m) x)

-- the updates with the members from number `first` on were done up to member h: these of the old queue stay, and these of the new pairs are queued
pub record Updating (m : LeadsShown) (first h : ℕ) (old : List Pair) (drops : List Drop) (kept queued : List CodePair) (later : List Drop) : Type 0 where
  pub in_turn :
      UpdatesInTurn (setting_of_leads m.variables m) (sums_shown m) first (h - first) old drops (pairs_of kept ++ pairs_of queued) later
  pub kept_real : Each (IsRealPair m) kept
  pub queued_real : Each (IsRealPair m) queued
  pub within : Each (AreIndices h) (pairs_of kept ++ pairs_of queued)
  pub once : (x : Pair) → count x (pairs_of kept) + count x (pairs_of queued) ≤ 1
  pub sorted : IsSorted (setting_of_leads m.variables m) (sums_shown m) (pairs_of kept)
