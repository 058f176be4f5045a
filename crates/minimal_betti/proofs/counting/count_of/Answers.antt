use Rattle.std.proofs.Common.{arith, get_or, length, ◌+◌, ◌<◌}
use Rattle.std.proofs.lemmas.List.{get_or_default}
use Rattle.minimal_betti.proofs.Growing.{occurrences-more, occurrences-take}
use Rattle.minimal_betti.proofs.counting.count_of.Goals as goal

pub loop-d-preserved : goal.loop-d-preserved
loop-d-preserved c =
    let xs = c.args.degrees.now in
    let i = c.loop-d.d-index in
    let lt : i < length xs = omega arith in
    let m = occurrences-more c.args.degree xs i (get_or xs i 0) lt (get_or_default xs i 0 (get_or xs i 0) lt) in
    let h = c.loop-d.invariant in
    let r = c.one_if-count.ensures in
    omega (arith, m, h, r)

pub overflow_add-count : goal.overflow_add-count
overflow_add-count c =
    let xs = c.args.degrees.now in
    let i = c.loop-d.d-index in
    let lt : i < length xs = omega arith in
    let m = occurrences-more c.args.degree xs i (get_or xs i 0) lt (get_or_default xs i 0 (get_or xs i 0) lt) in
    let h = c.loop-d.invariant in
    let r = c.one_if-count.ensures in
    let b = occurrences-take c.args.degree xs (i + 1) in
    grind (arith, m, h, r, b, lt)
