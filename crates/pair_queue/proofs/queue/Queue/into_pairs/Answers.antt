use Rattle.std.proofs.Common.{ap, arith, drop, ◌∙◌, ◌≡◌, ℕ}
use Rattle.std.proofs.lemmas.List.{drop-drop}
use Rattle.pair_queue.specs.Queues.{QueueShown}
use Rattle.pair_queue.proofs.queue.Queue.into_pairs.Goals as goal

pub loop-preserved : goal.loop-preserved
loop-preserved c = record {
  rest = c.pop_front.ensures.rest ∙ ap (drop 1) c.loop.invariant.rest ∙ drop-drop 1 c.loop.counter c.from_vec-pairs.result.items;
  low = omega (arith, c.loop-test.true);
}

pub returns : goal.returns
returns c =
    let all : c.loop.counter ≡ c.self.inside.blanks = omega (arith, c.loop.invariant.low, c.loop-test.false) in
    c.loop.invariant.rest ∙ ap (λ (k : ℕ). drop k c.from_vec-pairs.result.items) all ∙ ap (drop c.self.inside.blanks) c.from_vec-pairs.ensures.items
    ∙ ap (λ (q : QueueShown). q.items) c.self.view_is
