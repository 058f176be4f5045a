use Rattle.std.proofs.Common.{arith, get_or, ◌%◌, ◌-◌, ◌∙◌, ◌≡◌}
use Rattle.std.proofs.lemmas.List.{length-set}
use Rattle.dense_reduction.proofs.EightSums.{filled_more}
use Rattle.dense_reduction.proofs.eights.negate_all.Goals as goal

pub loop-j-preserved : goal.loop-j-preserved
loop-j-preserved c =
    let p = c.args.modulus.now.value in
    record {
      count = length-set c.loop-j.factors c.loop-j.j c.neg.result ∙ c.loop-j.invariant.count;
      negative = filled_more (λ k x. x ≡ (p - get_or c.args.residues.now k 0) % p) c.loop-j.factors c.loop-j.j c.neg.result
          (omega arith) c.loop-j.invariant.negative c.neg.ensures.value;
    }
