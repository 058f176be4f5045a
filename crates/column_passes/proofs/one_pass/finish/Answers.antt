use Rattle.std.proofs.Common.{arith, subst, ◌<◌}
use Rattle.formal_sums.proofs.Sameness.{IsSame_of, IsSame_trans}
use Rattle.formal_sums.specs.FormalSums.{Each}
use Rattle.term_lists.specs.Rings.{variables}
use Rattle.column_passes.specs.Passing.{IsMetOver}
use Rattle.column_passes.proofs.Canonical.{without_all_same}
use Rattle.column_passes.proofs.Columns.{vectors_pushed}
use Rattle.column_passes.proofs.Passes.{finish_more}
use Rattle.column_passes.proofs.one_pass.finish.Goals as goal

pub loop-next-preserved-in_ok-push-in-Ok : goal.loop-next-preserved-in_ok-push-in-Ok
loop-next-preserved-in_ok-push-in-Ok c =
    let ring = c.args.ring.now in
    let n = variables ring in
    let p = ring.modulus.value in
    let above : 1 < p = (c.lawful_setting.ensures 0).domain.above_one in
    let steps = c.args.table.now.steps.items in
    let left = subst (Each (IsMetOver ring steps)) c.in-Some.ensures.items c.loop-next.invariant.left in
    record {
      same = λ rows h.
          let stands = IsSame_trans (IsSame_of p _ _ (c.in_ok-placed_vector-in-Ok.ensures.sum n rows h))
          (without_all_same (omega (arith, above)) rows _ _ c.in-Ok.ensures.sum)
          in
          finish_more ring steps rows c.args.met.items c.loop-next.rest.items c.pop_front.new.self.items c.in-Some.next c.loop-next.columns.items
          c.push.new.self.items c.in_ok-placed_vector-in-Ok.field-0 (c.loop-next.invariant.same rows h) c.in-Some.ensures.items c.in-None.is stands
          c.in_ok-push-in-Ok.ensures.items;
      vectors = vectors_pushed ring c.loop-next.columns.items c.push.new.self.items c.in_ok-placed_vector-in-Ok.field-0 c.loop-next.invariant.vectors
          c.in_ok-placed_vector-in-Ok.ensures.vector c.in_ok-push-in-Ok.ensures.items;
      left = left.1;
    }

pub clear_since-requires-clause-steps : goal.clear_since-requires-clause-steps
clear_since-requires-clause-steps c = c.requires.steps

pub clear_since-requires-clause-numbered : goal.clear_since-requires-clause-numbered
clear_since-requires-clause-numbered c = c.requires.numbered

pub placed_vector-requires-clause-leaving : goal.placed_vector-requires-clause-leaving
placed_vector-requires-clause-leaving c = c.requires.leaving

pub clear_since-requires-clause-vector : goal.clear_since-requires-clause-vector
clear_since-requires-clause-vector c =
    (subst (Each (IsMetOver c.args.ring.now c.args.table.now.steps.items)) c.in-Some.ensures.items c.loop-next.invariant.left).0.0

pub placed_vector-requires-clause-vector : goal.placed_vector-requires-clause-vector
placed_vector-requires-clause-vector c = c.in-Ok.ensures.vector
