use Rattle.std.proofs.Common.{[], ap, get_or, length, map, subst, subst₂, sym, take, ◌<◌, ◌∙◌, ◌≤◌}
use Rattle.std.proofs.lemmas.List.{get_or_default}
use Rattle.formal_sums.specs.FormalSums.{product}
use Rattle.operation_laws.specs.Operations.{products_of}
use Rattle.term_lists.proofs.Scaling.{Each_at}
use Rattle.term_lists.specs.Rings.{ring_comparison, variables}
use Rattle.term_lists.specs.Vectors.{HasPositions, IsVectorOver, sum_of, sums_of}
use Rattle.ideal_ops.specs.Products.{IsTrailOfProducts, IsTrailOfRow}
use Rattle.syzygy_engine.specs.Runs.{AreVectorsFor}
use Rattle.ideal_ops.proofs.Multiplied.{more_trails, products_next, vectors_after}
use Rattle.ideal_ops.proofs.Shared.{take_next}
use Rattle.std.proofs.lemmas.List.{take_all}
use Rattle.ideal_ops.proofs.multiplying.products.Goals as goal

pub returns-in-Err-clause-stop : goal.returns-in-Err-clause-stop
returns-in-Err-clause-stop c =
    let ring = c.args.ring.now in
    let left = c.args.left.now in
    let right = c.args.right.now in
    let i = c.loop-i.i in
    let x = c.index-as_slice-i.result in
    let lt : i < length left = subst (λ z. i < z) c.len-i-end.ensures c.loop-i-test.true in
    let is = c.index-as_slice-i.is ∙ ap (λ z. get_or z i x) c.as_slice.ensures ∙ get_or_default left i x [] lt in
    more_trails (IsTrailOfRow ring x right) (IsTrailOfProducts ring left right) (λ t h. (i, lt, subst (λ y. IsTrailOfRow ring y right t) is h)) c.in-Err.stop c.in-Err.ensures.stop

pub loop-i-preserved : goal.loop-i-preserved
loop-i-preserved c =
    let ring = c.args.ring.now in
    let n = variables ring in
    let left = c.args.left.now in
    let H = sums_of n c.args.right.now in
    let i = c.loop-i.i in
    let x = c.index-as_slice-i.result in
    let lt : i < length left = subst (λ z. i < z) c.len-i-end.ensures c.loop-i-test.true in
    subst₂ (AreVectorsFor ring)
    (sym (ap (λ F. products_of F H) (take_next n left i x lt (c.index-as_slice-i.is ∙ ap (λ z. get_or z i x) c.as_slice.ensures)) ∙ products_next (sums_of n (take i left)) H (sum_of n x)))
    (sym c.in_ok-list.ensures)
    (vectors_after ring (products_of (sums_of n (take i left)) H) (map (product (sum_of n x)) H) c.loop-i.list c.in-Ok.more c.loop-i.invariant c.in-Ok.ensures.list)

pub row-requires-clause-b : goal.row-requires-clause-b
row-requires-clause-b c =
    let ring = c.args.ring.now in
    let left = c.args.left.now in
    let i = c.loop-i.i in
    let x = c.index-as_slice-i.result in
    let lt : i < length left = subst (λ z. i < z) c.len-i-end.ensures c.loop-i-test.true in
    Each_at (IsVectorOver ring (ring_comparison ring)) left i x c.requires.left lt (c.index-as_slice-i.is ∙ ap (λ z. get_or z i x) c.as_slice.ensures)

pub row-requires-clause-b_positions : goal.row-requires-clause-b_positions
row-requires-clause-b_positions c =
    let left = c.args.left.now in
    let i = c.loop-i.i in
    let x = c.index-as_slice-i.result in
    let lt : i < length left = subst (λ z. i < z) c.len-i-end.ensures c.loop-i-test.true in
    Each_at (HasPositions 1) left i x c.requires.left_positions lt (c.index-as_slice-i.is ∙ ap (λ z. get_or z i x) c.as_slice.ensures)

pub row-requires-clause-right : goal.row-requires-clause-right
row-requires-clause-right c = c.requires.right

pub returns-clause-list : goal.returns-clause-list
returns-clause-list c =
    let ring = c.args.ring.now in
    let n = variables ring in
    let all = take_all c.loop-i.i c.args.left.now (subst (λ z. z ≤ c.loop-i.i) c.len-i-end.ensures c.loop-i-test.false) in
    subst (λ xs. AreVectorsFor ring (products_of (sums_of n xs) (sums_of n c.args.right.now)) c.loop-i.list) all c.loop-i.invariant

pub bounds-as_slice-i : goal.bounds-as_slice-i
bounds-as_slice-i c = subst (λ l. c.loop-i.i < length l) (sym c.as_slice.ensures) (subst (λ z. c.loop-i.i < z) c.len-i-end.ensures c.loop-i-test.true)
