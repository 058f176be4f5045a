use Rattle.std.proofs.Common.{◌++◌, ◌+◌, ◌≤◌}
use Rattle.std.specs.Vec.{vec_capacity, vec_len}
use Rattle.std.specs.VecDeque.{deque_len}
use Rattle.term_lists.specs.Merging.{Merging}
use Rattle.term_lists.specs.Rings.{variables}
use Rattle.term_lists.specs.Vectors.{sum_of}
use Rattle.term_lists.proofs.merging.merge_into.Given as goal

abbrev pub invariant-loop-right : goal.invariant-loop-right
invariant-loop-right g l =
    let n = variables (g.F.Frame.over l.frame) in
    record {
      merging : Merging n (g.F.Frame.over l.frame).weights (g.F.Frame.over l.frame).modulus.value (g.F.Frame.compare l.frame n) l.out.items l.left.items l.right.items (sum_of n l.fn.left.items ++ sum_of n l.fn.right.items);
      room : vec_len l.out + deque_len l.left + deque_len l.right ≤ vec_capacity l.out;
    }

abbrev pub decreases-loop-right : goal.decreases-loop-right
decreases-loop-right g l = deque_len l.left + deque_len l.right
