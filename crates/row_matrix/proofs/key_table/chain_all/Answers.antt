use Rattle.std.proofs.Common.{ap, arith, get_or, length, ◌<◌, ◌∙◌, ◌≡◌}
use Rattle.std.proofs.lemmas.List.{get_or_default}
use Rattle.row_matrix.proofs.Chains.{chained_at}
use Rattle.row_matrix.specs.Hashes.{bucket_at, bucket_of}
use Rattle.row_matrix.proofs.key_table.chain_all.Goals as goal

pub loop-i-preserved : goal.loop-i-preserved
loop-i-preserved c =
    let hashes = c.args.hashes.now in
    let earlier = c.loop-i.earlier.items in
    let last = c.loop-i.last.items in
    let count = c.loop-i.last.len in
    let i = c.loop-i.i in
    let at = c.bucket-at.result in
    let is : at ≡ bucket_at count hashes i = c.bucket-at.ensures.value ∙ ap (λ n. bucket_of n (get_or hashes i 0)) c.len.ensures in
    let short : i < length earlier = omega arith in
    let low : at < length last = omega (arith, c.bucket-at.ensures.within, c.len.ensures) in
    let lt : at < count = omega (arith, c.bucket-at.ensures.within, c.len.ensures) in
    record {
      chained = chained_at count i at c.index.result.now hashes earlier last c.loop-i.invariant.chained is lt short low
          (c.index.ensures ∙ get_or_default last at c.index.result.now 0 low);
      count = c.loop-i.invariant.count;
      lengths = c.loop-i.invariant.lengths;
    }
