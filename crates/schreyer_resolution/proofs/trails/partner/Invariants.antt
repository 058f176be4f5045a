use Rattle.std.proofs.Common.{ℕ, ◌<◌}
use Rattle.term_lists.specs.Rings.{variables}
use Rattle.schreyer_resolution.specs.Columns.{IsPartner}
use Rattle.schreyer_resolution.proofs.trails.partner.Given as goal

abbrev pub invariant-loop-j : goal.invariant-loop-j
invariant-loop-j l = (i : ℕ) → i < l.j → IsPartner (variables l.ring) l.columns l.key i → ⊥
