use Rattle.std.proofs.Common.{arith, set, ◌+◌, ◌∙◌}
use Rattle.pair_updates.proofs.Swapping.{exchanged_one, rest_one, set_length}
use Rattle.pair_queue.proofs.queue.exchange.Goals as goal

pub loop-k-preserved : goal.loop-k-preserved
loop-k-preserved c =
    let inv = c.loop-k.invariant in
    let k = c.loop-k.k in
    let first = c.args.first in
    let start = c.args.blanks.now.items in
    let old = c.args.pairs.now.items in
    let x = c.index_mut-in-loop-k.result.now in record {
      taken = (λ i. set c.loop-k.blanks.items k (c.swap.ensures.x_after i))
          ∙ exchanged_one start c.loop-k.blanks.items old c.loop-k.pairs.items first k x inv.taken
          (omega (arith, c.loop-k-test.true, c.len-k-end.ensures)) c.requires inv.rest inv.len c.index_mut-in-loop-k.ensures.value;
      many = set_length c.loop-k.blanks.items k c.swap.new.x ∙ inv.many;
      rest = rest_one old c.loop-k.pairs.items (first + k) (first + (k + 1)) c.swap.new.y (omega arith) inv.rest;
      len = set_length c.loop-k.pairs.items (first + k) c.swap.new.y ∙ inv.len;
    }
