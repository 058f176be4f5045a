use Rattle.std.proofs.Common.{length, take, ◌≡◌, ◌≤◌}
use Rattle.std.specs.Vec.{vec_capacity, vec_len}
use Rattle.term_lists.specs.Multiples.{AreMultiples}
use Rattle.term_lists.specs.Rings.{variables}
use Rattle.term_lists.specs.Stops.{Fits}
use Rattle.term_lists.proofs.scaled.scale_into.Given as goal

abbrev pub invariant-loop-term : goal.invariant-loop-term
invariant-loop-term g l =
    let n = variables (g.F.Frame.over l.frame) in
    record {
      multiples : AreMultiples n (g.F.Frame.over l.frame).weights (g.F.Frame.over l.frame).modulus.value l.c l.m (take l.term-index l.v) l.out.items;
      fits : Fits l.m (take l.term-index l.v);
      len : vec_len l.out ≡ l.term-index;
      room : length l.v ≤ vec_capacity l.out;
    }
