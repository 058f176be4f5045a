use Rattle.std.proofs.Common.{List, [], ap, arith, sym, take, ◌++◌, ◌+◌, ◌∙◌, ◌∷◌, ◌≡◌}
use Rattle.basis_steps.specs.Pairs.{Pair}
use Rattle.basis_steps.specs.Steps.{out_with}
use Rattle.pair_queue.proofs.OutPairs.{outs_next, take_next}
use Rattle.pair_queue.specs.Outs.{outs_of}
use Rattle.pair_updates.specs.Pairs.{index_pair_of, pairs_of}
use Rattle.pair_queue.proofs.giving.give.Goals as goal

pub loop-k-preserved : goal.loop-k-preserved
loop-k-preserved c =
    let x = c.index-pairs-k.result in
    let ps = take c.loop-k.k (pairs_of c.args.pairs.now) in
    let next : take (c.loop-k.k + 1) (pairs_of c.args.pairs.now) ≡ ps ++ index_pair_of x ∷ [] =
    take_next c.args.pairs.now c.loop-k.k x c.loop-k-test.true c.index-pairs-k.is in
    record {
      out = ap outs_of c.push_reserved.ensures.items
          ∙ outs_next c.args.out.now.items c.loop-k.out.items (record { i = x.i; j = x.j; worker = c.args.worker }) ps c.loop-k.invariant.out
          ∙ ap (λ (z : List Pair). outs_of c.args.out.now.items ++ out_with c.args.worker z) (sym next);
      given = c.push_reserved-in-loop-k.ensures.items ∙ ap (λ (z : List Pair). z ++ index_pair_of x ∷ []) c.loop-k.invariant.given ∙ sym next;
      out_room = omega (
        arith,
        c.loop-k.invariant.out_room,
        c.push_reserved.ensures.len,
        c.push_reserved.ensures.capacity,
        c.push_reserved.new.self.ok,
        c.loop-k.out.ok,
        c.loop-k-test.true,
      );
      given_room = omega (
        arith,
        c.loop-k.invariant.given_room,
        c.push_reserved-in-loop-k.ensures.len,
        c.push_reserved-in-loop-k.ensures.capacity,
        c.push_reserved-in-loop-k.new.self.ok,
        c.loop-k.given.ok,
        c.loop-k-test.true,
      );
    }
