use Rattle.std.proofs.Common.{take, ◌≡◌}
use Rattle.betti_laws.specs.Tables.{occurrences}
use Rattle.minimal_betti.proofs.counting.count_of.Given as goal

abbrev pub invariant-loop-d : goal.invariant-loop-d
invariant-loop-d l = l.count ≡ occurrences l.degree (take l.d-index l.degrees)
