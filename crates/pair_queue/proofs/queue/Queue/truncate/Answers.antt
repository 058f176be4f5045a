use Rattle.std.proofs.Common.{ap, drop, take, ◌∙◌}
use Rattle.std.proofs.lemmas.List.{drop-take}
use Rattle.pair_queue.specs.Queues.{QueueShown}
use Rattle.pair_queue.proofs.queue.Queue.truncate.Goals as goal

pub returns : goal.returns
returns c =
    ap (drop c.self.inside.blanks) c.truncate.ensures.items ∙ drop-take c.self.inside.blanks c.args.count c.self.inside.pairs.items
    ∙ ap (λ (q : QueueShown). take c.args.count q.items) c.self.view_is
