use Rattle.std.proofs.Common.{[], ap, get_or, length, subst, sym, ◌<◌, ◌∙◌, ◌∷◌, ◌≡◌}
use Rattle.std.proofs.lemmas.List.{get_or_default}
use Rattle.formal_sums.specs.Combinations.{combination}
use Rattle.formal_sums.specs.FormalSums.{IsSame}
use Rattle.term_lists.proofs.Scaling.{Each_at}
use Rattle.term_lists.specs.Rings.{ring_comparison, variables}
use Rattle.term_lists.specs.Vectors.{AreVectorsOver, HasPositions, IsVectorOver, sum_of, sums_of}
use Rattle.module_vectors.specs.ProductStops.{CombinationStops}
use Rattle.ideal_ops.proofs.Multiplied.{combination_one}
use Rattle.ideal_ops.proofs.multiplying.times.Goals as goal

pub bounds-as_slice-index : goal.bounds-as_slice-index
bounds-as_slice-index c = subst (λ l. c.args.index < length l) (sym c.as_slice.ensures) c.requires.index

pub returns-in-Ok-clause-product : goal.returns-in-Ok-clause-product
returns-in-Ok-clause-product c =
    let ring = c.args.ring.now in
    let n = variables ring in
    let right = c.args.right.now in
    let i = c.args.index in
    let x = c.index-as_slice-index.result in
    let is = c.index-as_slice-index.is ∙ ap (λ z. get_or z i x) c.as_slice.ensures ∙ get_or_default right i x [] c.requires.index in
    let whole = ap (λ l. combination (sums_of n l) (sum_of n c.args.b.now)) (c.in_ok-one.ensures ∙ ap (λ z. z ∷ []) is)
    ∙ combination_one n c.args.b.now (get_or right i []) c.requires.b_positions in
    subst (IsSame ring.modulus.value (sum_of n c.in-Ok.v)) whole c.in-Ok.ensures.sum

pub stop_in-requires-clause-b : goal.stop_in-requires-clause-b
stop_in-requires-clause-b c = c.requires.b

pub stop_in-requires-clause-b_positions : goal.stop_in-requires-clause-b_positions
stop_in-requires-clause-b_positions c = c.requires.b_positions

pub stop_in-requires-clause-list : goal.stop_in-requires-clause-list
stop_in-requires-clause-list c = c.requires.right

pub stop_in-requires-clause-index : goal.stop_in-requires-clause-index
stop_in-requires-clause-index c = c.requires.index

pub stop_in-requires-clause-stop : goal.stop_in-requires-clause-stop
stop_in-requires-clause-stop c =
    let right = c.args.right.now in
    let i = c.args.index in
    let x = c.index-as_slice-index.result in
    let is = c.index-as_slice-index.is ∙ ap (λ z. get_or z i x) c.as_slice.ensures ∙ get_or_default right i x [] c.requires.index in
    subst (λ l. CombinationStops c.args.b.now l c.in-Err.stop) (c.in_ok-one.ensures ∙ ap (λ z. z ∷ []) is) c.in-Err.ensures.stop

pub returns-in-Ok-clause-vector : goal.returns-in-Ok-clause-vector
returns-in-Ok-clause-vector c = c.in-Ok.ensures.vector

pub returns-clause-stop : goal.returns-clause-stop
returns-clause-stop c = c.stop_in.ensures

pub combine-requires-clause-cofactors : goal.combine-requires-clause-cofactors
combine-requires-clause-cofactors c = c.requires.b.each

pub combine-requires-clause-positions : goal.combine-requires-clause-positions
combine-requires-clause-positions c = subst (λ z. HasPositions (length z) c.args.b.now) (sym c.in_ok-one.ensures) c.requires.b_positions

pub combine-requires-clause-list : goal.combine-requires-clause-list
combine-requires-clause-list c =
    let ring = c.args.ring.now in
    let right = c.args.right.now in
    let x = c.index-as_slice-index.result in
    let of = Each_at (IsVectorOver ring (ring_comparison ring)) right c.args.index x c.requires.right c.requires.index
    (c.index-as_slice-index.is ∙ ap (λ z. get_or z c.args.index x) c.as_slice.ensures) in
    subst (AreVectorsOver ring (ring_comparison ring)) (sym c.in_ok-one.ensures) (of, tt)
