use Rattle.std.proofs.Common.{[], ap, get_or, length, map, subst, subst₂, sym, take, ◌<◌, ◌∙◌, ◌∷◌, ◌≤◌, ◌-◌}
use Rattle.std.proofs.lemmas.List.{get_or_default, map-append}
use Rattle.operation_laws.specs.Operations.{times_rest, with_first}
use Rattle.term_lists.specs.FrontVariables.{front_ring}
use Rattle.term_lists.specs.Rings.{ring_comparison, variables}
use Rattle.term_lists.specs.Stops.{ScaledStops}
use Rattle.term_lists.specs.Vectors.{AreVectorsOver, IsVectorOver, sum_of, sums_of}
use Rattle.ideal_ops.specs.FrontVariable.{IsFrontTrail, IsFrontTrailOf, IsFrontVector, rest_polynomial}
use Rattle.syzygy_engine.specs.Runs.{AreVectorsFor}
use Rattle.syzygy_engine.proofs.VectorLists.{vectors_next, vectors_none}
use Rattle.ideal_ops.proofs.Multiplied.{more_trails}
use Rattle.ideal_ops.proofs.OneMoreVariable.{front_at, moved_at, moved_count}
use Rattle.ideal_ops.proofs.Shared.{take_next}
use Rattle.std.proofs.lemmas.List.{take_all}
use Rattle.ideal_ops.proofs.front.rest_multiples.Goals as goal

pub returns-in-Err-clause-stop : goal.returns-in-Err-clause-stop
returns-in-Err-clause-stop c =
    let ring = c.args.ring.now in
    let n = variables ring in
    let b = rest_polynomial n ring.modulus.value in
    let list = c.args.list.now in
    let G = map with_first (sums_of n list) in
    let i = c.loop-i.i in
    let count = c.len-i-end.ensures ∙ moved_count ring list c.in_ok-moved.moved c.in_ok-moved.ensures in
    let lt : i < length list = subst (λ z. i < z) count c.loop-i-test.true in
    more_trails (IsFrontTrail ring b G i) (IsFrontTrailOf ring b list) (λ t h. (i, lt, h)) c.rest_stop.result (c.rest_stop.ensures G c.in_ok-moved.ensures)

pub loop-i-preserved : goal.loop-i-preserved
loop-i-preserved c =
    let ring = c.args.ring.now in
    let n = variables ring in
    let list = c.args.list.now in
    let moved = c.in_ok-moved.moved in
    let G = map with_first (sums_of n list) in
    let i = c.loop-i.i in
    let x = get_or list i [] in
    let u = c.index-as_slice-i.result in
    let by = times_rest {n = n} ring.modulus.value in
    let less : i < length moved = subst (λ z. i < z) c.len-i-end.ensures c.loop-i-test.true in
    let lt : i < length list = subst (λ z. i < z) (moved_count ring list moved c.in_ok-moved.ensures) less in
    let is = c.index-as_slice-i.is ∙ ap (λ z. get_or z i u) c.as_slice.ensures ∙ get_or_default moved i u [] less in
    let front : IsFrontVector ring (with_first (sum_of n x)) u = subst₂ (IsFrontVector ring) (moved_at n list i) (sym is) (front_at ring G moved i c.in_ok-moved.ensures less) in
    let w = c.in-Ok.ensures.vector (with_first (sum_of n x)) front in
    subst₂ (AreVectorsFor (front_ring ring))
    (sym (ap (map by) (take_next n list i x lt (sym (get_or_default list i x [] lt))) ∙ map-append by (sums_of n (take i list)) (sum_of n x ∷ [])))
    (sym c.in_ok-push.ensures.items)
    (vectors_next (front_ring ring) c.loop-i.multiples.items (map by (sums_of n (take i list))) c.in-Ok.w (by (sum_of n x)) c.loop-i.invariant w.vector w.stand)

pub rest_multiple-requires-clause-vector : goal.rest_multiple-requires-clause-vector
rest_multiple-requires-clause-vector c =
    let ring = c.args.ring.now in
    let moved = c.in_ok-moved.moved in
    let i = c.loop-i.i in
    let u = c.index-as_slice-i.result in
    let less : i < length moved = subst (λ z. i < z) c.len-i-end.ensures c.loop-i-test.true in
    let is = c.index-as_slice-i.is ∙ ap (λ z. get_or z i u) c.as_slice.ensures ∙ get_or_default moved i u [] less in
    let front = front_at ring (map with_first (sums_of (variables ring) c.args.list.now)) moved i c.in_ok-moved.ensures less in
    subst₂ (λ r v. IsVectorOver r (ring_comparison r) v) (sym c.requires.front) (sym is) front.vector

pub rest_stop-requires-clause-members : goal.rest_stop-requires-clause-members
rest_stop-requires-clause-members c = subst (λ r. AreVectorsOver r (ring_comparison r) c.in_ok-moved.moved) (sym c.requires.front) c.in_ok-moved.ensures.vectors

pub rest_stop-requires-clause-index : goal.rest_stop-requires-clause-index
rest_stop-requires-clause-index c = subst (λ z. c.loop-i.i < z) c.len-i-end.ensures c.loop-i-test.true

pub rest_stop-requires-clause-stop : goal.rest_stop-requires-clause-stop
rest_stop-requires-clause-stop c =
    let moved = c.in_ok-moved.moved in
    let i = c.loop-i.i in
    let u = c.index-as_slice-i.result in
    let less : i < length moved = subst (λ z. i < z) c.len-i-end.ensures c.loop-i-test.true in
    let is = c.index-as_slice-i.is ∙ ap (λ z. get_or z i u) c.as_slice.ensures ∙ get_or_default moved i u [] less in
    subst (λ v. ScaledStops (c.args.ring.now.modulus.value - 1) c.args.t.now v c.in-Err.stop) is c.in-Err.ensures.stop

pub loop-i-init : goal.loop-i-init
loop-i-init c =
    subst (AreVectorsFor (front_ring c.args.ring.now) []) (sym c.in_ok-multiples.ensures.items) (vectors_none (front_ring c.args.ring.now))

pub all_in_front-requires-clause-front : goal.all_in_front-requires-clause-front
all_in_front-requires-clause-front c = c.requires.front

pub all_in_front-requires-clause-vectors : goal.all_in_front-requires-clause-vectors
all_in_front-requires-clause-vectors c = c.requires.vectors

pub rest_multiple-requires-clause-front : goal.rest_multiple-requires-clause-front
rest_multiple-requires-clause-front c = c.requires.front

pub rest_multiple-requires-clause-variable : goal.rest_multiple-requires-clause-variable
rest_multiple-requires-clause-variable c = c.requires.variable

pub rest_stop-requires-clause-front : goal.rest_stop-requires-clause-front
rest_stop-requires-clause-front c = c.requires.front

pub rest_stop-requires-clause-variable : goal.rest_stop-requires-clause-variable
rest_stop-requires-clause-variable c = c.requires.variable

pub returns-clause-list : goal.returns-clause-list
returns-clause-list c =
    let ring = c.args.ring.now in
    let n = variables ring in
    let list = c.args.list.now in
    let count = c.len-i-end.ensures ∙ moved_count ring list c.in_ok-moved.moved c.in_ok-moved.ensures in
    let all = take_all c.loop-i.i list (subst (λ z. z ≤ c.loop-i.i) count c.loop-i-test.false) in
    subst₂ (λ xs l. AreVectorsFor (front_ring ring) (map (times_rest {n = n} ring.modulus.value) (sums_of n xs)) l) all (sym c.from_vec.ensures) c.loop-i.invariant

pub bounds-as_slice-i : goal.bounds-as_slice-i
bounds-as_slice-i c = subst (λ l. c.loop-i.i < length l) (sym c.as_slice.ensures) (subst (λ z. c.loop-i.i < z) c.len-i-end.ensures c.loop-i-test.true)
