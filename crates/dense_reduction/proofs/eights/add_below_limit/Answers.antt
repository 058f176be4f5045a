use Rattle.std.proofs.Common.{arith, get_or, refl, ◌*◌, ◌∙◌, ◌≡◌}
use Rattle.std.proofs.lemmas.List.{length-set}
use Rattle.dense_reduction.proofs.EightSums.{IsSumBelow, filled_more, sum_kept, sum_less}
use Rattle.dense_reduction.proofs.eights.add_below_limit.Goals.{else-more-limit, then-more-limit}
use Rattle.dense_reduction.proofs.eights.add_below_limit.Goals as goal

pub loop-j-preserved : goal.loop-j-preserved
loop-j-preserved c =
    let p = c.args._modulus.now.value in
    let limit = c.args.limit in
    let residue = c.args.residue in
    let numbers = c.args.numbers.now in
    let factors = c.args.factors.now in
    let j = c.loop-j.j in
    let lt = c.loop-j-test.true in
    let old = get_or numbers j 0 in
    let factor = get_or factors j 0 in
    let x = c.if-more-limit.sums in
    let product : c.from.result * c.from-in-loop-j.result ≡ factor * residue = rw (c.from.ensures, c.from-in-loop-j.ensures) refl in
    let sum : IsSumBelow p limit old factor residue x = elim c.if-more-limit.branch [
      | then-more-limit w ↦ sum_kept p limit old factor residue x
          (omega (arith, product, w.sums-is)) (omega (arith, w.sums-is, w.if-more-limit.true))
      | else-more-limit w ↦ sum_less p limit old factor residue x
          c.requires.limit (c.requires.small j lt) (c.requires.factors j lt) c.requires.residue
          (omega (arith, product, w.if-more-limit.false)) (omega (arith, product, w.sums-is))
    ] in
    record {
      count = length-set c.loop-j.sums j x ∙ c.loop-j.invariant.count;
      sums = filled_more (λ k y. IsSumBelow p limit (get_or numbers k 0) (get_or factors k 0) residue y) c.loop-j.sums j x
          (omega arith) c.loop-j.invariant.sums sum;
    }
