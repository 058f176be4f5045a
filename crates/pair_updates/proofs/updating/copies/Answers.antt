use Rattle.std.proofs.Common.{List, [], ap, arith, length, ◌++◌, ◌∙◌, ◌∷◌, ◌≤◌}
use Rattle.std.proofs.lemmas.List.{take_all}
use Rattle.pair_criteria.specs.declared.pair.Pair.{Pair as CodePair}
use Rattle.pair_updates.proofs.CopiedPairs.{copy_next}
use Rattle.pair_updates.proofs.updating.copies.Goals as goal

pub loop-k-preserved : goal.loop-k-preserved
loop-k-preserved c =
    let x = c.index-pairs-k.result in
    let y : CodePair = record { i = x.i; j = x.j; lcm = c.in_ok-try_copy.field-0 } in
    record {
      items = c.push_reserved.ensures.items ∙ ap (λ (l : List CodePair). l ++ (y ∷ [])) c.loop-k.invariant.items
          ∙ copy_next c.args.pairs.now c.loop-k.k x y c.loop-k-test.true c.index-pairs-k.is (λ t. record x { lcm = c.in_ok-try_copy.ensures.ok t });
      room = omega (
        arith,
        c.loop-k.invariant.room,
        c.push_reserved.ensures.len,
        c.push_reserved.ensures.capacity,
        c.push_reserved.new.self.ok,
        c.loop-k.copied.ok,
        c.loop-k-test.true,
      );
    }

pub returns : goal.returns
returns c =
    let end : length c.args.pairs.now ≤ c.loop-k.k = omega (arith, c.loop-k-test.false) in
    c.loop-k.invariant.items ∙ take_all c.loop-k.k c.args.pairs.now end
