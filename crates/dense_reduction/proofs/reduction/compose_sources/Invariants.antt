use Rattle.std.proofs.Common.{length, take, ℕ, ◌++◌, ◌≡◌}
use Rattle.formal_sums.specs.FormalSums.{IsSame, Key}
use Rattle.dense_reduction.specs.Dense.{HasRoom, IsDense, dense_sum}
use Rattle.dense_reduction.specs.Rests.{rows_left}
use Rattle.dense_reduction.specs.Underway.{sources_sum}
use Rattle.dense_reduction.proofs.reduction.compose_sources.Given as goal

abbrev pub invariant-loop-part : goal.invariant-loop-part
invariant-loop-part l =
    let p = l.shared.modulus.now.value in
    record {
      count : length l.sources.items ≡ l.shared.inputs;
      room : HasRoom p l.limit;
      small : IsDense l.limit l.sources.items;
      sum : (n : ℕ) (key : ℕ → Key n) → IsSame p (dense_sum key 0 l.sources.items) (sources_sum key (l.shared.rows.now ++ rows_left l.own.left.items) l.row (take l.part-index l.taken));
    }
