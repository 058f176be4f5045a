use Rattle.std.proofs.Common.{ap, arith, drop, length, ◌∙◌}
use Rattle.std.specs.List.{swap as swapped}
use Rattle.std.proofs.lemmas.List.{length-drop}
use Rattle.pair_updates.proofs.Swapping.{drop_both}
use Rattle.pair_queue.specs.Queues.{QueueShown}
use Rattle.pair_queue.proofs.queue.Queue.swap.Goals as goal

pub returns : goal.returns
returns c =
    let blanks = c.self.inside.blanks in
    let pairs = c.self.inside.pairs.items in
    let many = ap (λ (q : QueueShown). length q.items) c.self.view_is in
    ap (drop blanks) c.swap.ensures.items
    ∙ drop_both pairs blanks c.args.i c.args.j (omega (arith, c.requires.first, many, length-drop blanks pairs))
    (omega (arith, c.requires.second, many, length-drop blanks pairs))
    ∙ ap (λ (q : QueueShown). swapped q.items c.args.i c.args.j) c.self.view_is
