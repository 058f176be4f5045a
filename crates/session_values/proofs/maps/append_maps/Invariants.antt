use Rattle.std.proofs.Common.{drop, ◌+◌, ◌++◌, ◌≡◌}
use Rattle.poly_text.specs.Writing.{IsFront}
use Rattle.session_values.specs.Writing.{written_maps}
use Rattle.session_values.proofs.maps.append_maps.Given as goal

abbrev pub invariant-loop-k : goal.invariant-loop-k
invariant-loop-k l =
    IsFront l.initial.out l.out
    × (l.out ++ written_maps l.ring (l.k + 1) (drop l.k l.maps) ≡ l.initial.out ++ written_maps l.ring 1 l.maps)
