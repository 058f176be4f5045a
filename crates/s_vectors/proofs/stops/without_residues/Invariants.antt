use Rattle.std.proofs.Common.{map, ◌++◌, ◌+◌, ◌≡◌, ◌≤◌}
use Rattle.std.specs.Vec.{vec_capacity, vec_len}
use Rattle.std.specs.VecDeque.{deque_len}
use Rattle.vector_division.specs.Reductions.{unscaled}
use Rattle.s_vectors.proofs.stops.without_residues.Given as goal

abbrev pub invariant-loop-part : goal.invariant-loop-part
invariant-loop-part l =
    record {
      items : l.products.items ++ map unscaled l.rest.items ≡ map unscaled l.fn.parts.items;
      room : vec_len l.products + deque_len l.rest ≤ vec_capacity l.products;
    }

abbrev pub decreases-loop-part : goal.decreases-loop-part
decreases-loop-part l = deque_len l.rest
