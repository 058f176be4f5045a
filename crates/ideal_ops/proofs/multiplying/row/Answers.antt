use Rattle.std.proofs.Common.{[], ap, get_or, length, map, subst, subst₂, sym, take, ◌<◌, ◌∙◌, ◌∷◌, ◌≤◌}
use Rattle.std.proofs.lemmas.List.{get_or_default}
use Rattle.std.proofs.lemmas.List.{map-append}
use Rattle.formal_sums.specs.FormalSums.{product}
use Rattle.term_lists.specs.Rings.{variables}
use Rattle.term_lists.specs.Vectors.{sum_of, sums_of}
use Rattle.ideal_ops.specs.Products.{IsProductTrail, IsTrailOfRow}
use Rattle.syzygy_engine.specs.Runs.{AreVectorsFor}
use Rattle.syzygy_engine.proofs.VectorLists.{vectors_next, vectors_none}
use Rattle.ideal_ops.proofs.Multiplied.{more_trails}
use Rattle.ideal_ops.proofs.Shared.{take_next}
use Rattle.std.proofs.lemmas.List.{take_all}
use Rattle.ideal_ops.proofs.multiplying.row.Goals as goal

pub returns-in-Err-clause-stop : goal.returns-in-Err-clause-stop
returns-in-Err-clause-stop c =
    let ring = c.args.ring.now in
    let b = c.args.b.now in
    let right = c.args.right.now in
    let j = c.loop-j.j in
    let lt : j < length right = subst (λ z. j < z) c.len-j-end.ensures c.loop-j-test.true in
    more_trails (IsProductTrail ring b right j) (IsTrailOfRow ring b right) (λ t h. (j, lt, h)) c.in-Err.stop c.in-Err.ensures.stop

pub loop-j-preserved : goal.loop-j-preserved
loop-j-preserved c =
    let ring = c.args.ring.now in
    let n = variables ring in
    let right = c.args.right.now in
    let j = c.loop-j.j in
    let x = get_or right j [] in
    let by = product (sum_of n c.args.b.now) in
    let lt : j < length right = subst (λ z. j < z) c.len-j-end.ensures c.loop-j-test.true in
    subst₂ (AreVectorsFor ring)
    (sym (ap (map by) (take_next n right j x lt (sym (get_or_default right j x [] lt))) ∙ map-append by (sums_of n (take j right)) (sum_of n x ∷ [])))
    (sym c.in_ok-push.ensures.items)
    (vectors_next ring c.loop-j.list.items (map by (sums_of n (take j right))) c.in-Ok.v (by (sum_of n x)) c.loop-j.invariant c.in-Ok.ensures.vector c.in-Ok.ensures.product)

pub loop-j-init : goal.loop-j-init
loop-j-init c = subst (AreVectorsFor c.args.ring.now []) (sym c.new-list.ensures.items) (vectors_none c.args.ring.now)

pub times-requires-clause-b : goal.times-requires-clause-b
times-requires-clause-b c = c.requires.b

pub times-requires-clause-b_positions : goal.times-requires-clause-b_positions
times-requires-clause-b_positions c = c.requires.b_positions

pub times-requires-clause-right : goal.times-requires-clause-right
times-requires-clause-right c = c.requires.right

pub times-requires-clause-index : goal.times-requires-clause-index
times-requires-clause-index c = subst (λ z. c.loop-j.j < z) c.len-j-end.ensures c.loop-j-test.true

pub returns-clause-list : goal.returns-clause-list
returns-clause-list c =
    let ring = c.args.ring.now in
    let n = variables ring in
    let all = take_all c.loop-j.j c.args.right.now (subst (λ z. z ≤ c.loop-j.j) c.len-j-end.ensures c.loop-j-test.false) in
    subst₂ (λ xs l. AreVectorsFor ring (map (product (sum_of n c.args.b.now)) (sums_of n xs)) l) all (sym c.from_vec.ensures) c.loop-j.invariant
