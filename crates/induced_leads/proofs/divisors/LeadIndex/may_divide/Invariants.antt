use Rattle.std.proofs.Common.{get_or, ℕ, ◌<◌, ◌≡◌, ◌≤◌}
use Rattle.std.specs.Prelude.{bit_and}
use Rattle.induced_leads.proofs.divisors.LeadIndex.may_divide.Given as goal

abbrev pub invariant-loop-i : goal.invariant-loop-i
invariant-loop-i l = (j : ℕ) → l.initial.i ≤ j → j < l.i → bit_and (get_or l.self.variables.items j 0) l.variables ≡ get_or l.self.variables.items j 0 → ⊥
