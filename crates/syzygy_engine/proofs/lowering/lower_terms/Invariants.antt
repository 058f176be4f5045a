use Rattle.std.proofs.Common.{drop, take, ◌++◌, ◌≡◌}
use Rattle.syzygy_engine.specs.Marking.{lowered_terms}
use Rattle.syzygy_engine.proofs.lowering.lower_terms.Given as goal

abbrev pub invariant-loop-i : goal.invariant-loop-i
invariant-loop-i l = l.terms.items ≡ lowered_terms l.by (take l.i l.fn.terms.items) ++ drop l.i l.fn.terms.items
