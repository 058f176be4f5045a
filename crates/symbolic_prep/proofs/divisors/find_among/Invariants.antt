use Rattle.std.proofs.Common.{◌-◌}
use Rattle.term_lists.specs.Rings.{variables}
use Rattle.term_lists.specs.Vectors.{key_of}
use Rattle.symbolic_prep.proofs.Dividing.{AreTriedTo}
use Rattle.symbolic_prep.proofs.divisors.find_among.Given as goal

abbrev pub invariant-loop-at : goal.invariant-loop-at
invariant-loop-at g l =
    let n = variables l.ring in
    AreTriedTo n (g.L.Vectors.listed l.list) l.sorted (key_of n l.key) l.at

abbrev pub decreases-loop-at : goal.decreases-loop-at
decreases-loop-at g l = l.end - l.at
