-- Which queued pairs are skipped, by the flags of the pairs that wait, and of those that are due: to which no criterion applies
use Rattle.std.specs.Prelude.{Bool, List, false, true, ℕ, ◌≡◌}
use Rattle.basis_steps.specs.Criteria.{ChainApplies, CriterionApplies, NoCriterionApplies, Skips}
use Rattle.basis_steps.specs.Pairs.{Pair}
use Rattle.pair_updates.specs.Leads.{LeadsShown, setting_of_leads, sums_shown}
use Rattle.pair_queue.specs.Tables.{IsFlagTable, flagged}

-- the chain criterion applies to the pair by member k, where these pairs wait
abbrev pub ChainSpares : LeadsShown → (Pair → Bool) → Pair → ℕ → Type 0
ChainSpares m waits x k = ChainApplies (sums_shown m) (flagged waits) x k

-- a criterion applies to the pair
abbrev pub IsSpared : LeadsShown → (Pair → Bool) → Pair → Type 0
IsSpared m waits x = CriterionApplies (setting_of_leads m.variables m) (sums_shown m) (flagged waits) x

-- none applies to a pair of the list
abbrev pub NoneIsSpared : LeadsShown → (Pair → Bool) → List Pair → Type 0
NoneIsSpared m waits xs = NoCriterionApplies (setting_of_leads m.variables m) (sums_shown m) (flagged waits) xs

-- the pair is due exactly where no criterion applies
pub record IsKnown (m : LeadsShown) (waits due : Pair → Bool) (x : Pair) : Type 0 where
  pub shut : due x ≡ false → IsSpared m waits x
  pub free : due x ≡ true → IsSpared m waits x → ⊥

-- the pairs were skipped from the queue, each the first to which a criterion applied, and these are left, with their flags
pub record AreSkipped (m : LeadsShown) (out : List (Pair × ℕ)) (queue skipped left : List Pair) (waits : Pair → Bool) : Type 0 where
  pub skips : Skips (setting_of_leads m.variables m) (sums_shown m) out queue skipped left
  pub table : IsFlagTable waits left out
