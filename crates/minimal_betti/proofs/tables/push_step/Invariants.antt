use Rattle.std.proofs.Common.{ℕ, ◌-◌, ◌≡◌, ◌≤◌}
use Rattle.betti_laws.specs.Tables.{occurrences}
use Rattle.minimal_betti.specs.Growing.{IsTableTo}
use Rattle.minimal_betti.proofs.tables.push_step.Given as goal

abbrev pub invariant-loop-step : goal.invariant-loop-step
invariant-loop-step l = record {
  bound : l.from ≤ 4294967296;
  table : (counts : ℕ → ℕ → ℕ) → ((d : ℕ) → counts l.step d ≡ occurrences d l.degrees) → IsTableTo counts l.fn.entries.items l.step 0
      → IsTableTo counts l.entries.items l.step l.from;
}

abbrev pub decreases-loop-step : goal.decreases-loop-step
decreases-loop-step l = 4294967296 - l.from
