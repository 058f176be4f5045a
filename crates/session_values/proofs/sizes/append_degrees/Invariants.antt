use Rattle.std.proofs.Common.{flat_map, ◌++◌, ◌≡◌}
use Rattle.std.specs.List.{range_with_len}
use Rattle.session_values.specs.Texts.{degree_line}
use Rattle.session_values.proofs.sizes.append_degrees.Given as goal

abbrev pub invariant-loop-degree : goal.invariant-loop-degree
invariant-loop-degree l = l.out ≡ l.initial.out ++ flat_map (degree_line l.list) (range_with_len 0 l.degree)
