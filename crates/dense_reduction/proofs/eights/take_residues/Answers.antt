use Rattle.std.proofs.Common.{ap, arith, get_or, refl, replicate, set, ◌∙◌, ◌≡◌}
use Rattle.std.proofs.lemmas.List.{length-set}
use Rattle.dense_reduction.proofs.EightSums.{filled_more, lane_set, zero_at}
use Rattle.dense_reduction.specs.Eights.{lane}
use Rattle.dense_reduction.proofs.eights.take_residues.Goals as goal

pub loop-j-preserved : goal.loop-j-preserved
loop-j-preserved c =
    let left = c.reduce_lanes.new.acc in
    record {
      count = length-set c.loop-j.residues c.loop-j.j (get_or left c.loop-j.j 0) ∙ c.loop-j.invariant.count;
      same = filled_more (λ k x. x ≡ get_or left k 0) c.loop-j.residues c.loop-j.j (get_or left c.loop-j.j 0) (omega arith) c.loop-j.invariant.same refl;
    }

pub returns-clause-taken : goal.returns-clause-taken
returns-clause-taken c =
    let numbers = c.args.numbers.now in
    λ j q. lane_set j c.args.c numbers (replicate 8 0) ∙ ap (set (lane j numbers) c.args.c) (zero_at j q)
