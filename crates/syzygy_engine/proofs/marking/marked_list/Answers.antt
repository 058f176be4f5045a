use Rattle.std.proofs.Common.{[], ap, arith, get_or, length, subst, sym, ◌++◌, ◌+◌, ◌<◌, ◌∙◌, ◌∷◌}
use Rattle.std.proofs.lemmas.List.{get_or_default, length-map, take_all}
use Rattle.monomials.specs.Exponents.{unit}
use Rattle.formal_sums.proofs.WeightedSums.{Each_append}
use Rattle.syzygy_laws.proofs.Marking.{length-marked}
use Rattle.syzygy_laws.specs.Syzygies.{marked}
use Rattle.term_lists.specs.Rings.{ring_comparison, variables}
use Rattle.term_lists.specs.Vectors.{IsVectorOver, StandsFor, sum_of, sums_of}
use Rattle.syzygy_engine.specs.Marking.{AreMarked, StandOneByOne, position_ring}
use Rattle.syzygy_engine.proofs.Marks.{marked_next}
use Rattle.syzygy_engine.proofs.marking.marked_list.Goals as goal

pub loop-i-preserved : goal.loop-i-preserved
loop-i-preserved c =
    let ring = c.args.ring.now in
    let q = c.args.rank in
    let list = c.args.list.now in
    let k = c.loop-i.i in
    let x = c.index-as_slice-i.result in
    let u = c.in_ok-marked_vector.field-0 in
    let lt : k < length list = omega arith in
    let is = c.index-as_slice-i.is ∙ ap (λ z. get_or z k x) c.as_slice.ensures ∙ get_or_default list k x [] lt in
    let vector = subst (λ r. IsVectorOver r (ring_comparison r) u) c.requires.by_position c.in_ok-marked_vector.ensures.vector in
    let sum = subst (λ z. StandsFor ring u (sum_of (variables ring) z ++ ((q + k, unit (variables ring)), 1) ∷ [])) is (subst (λ r. StandsFor r u (sum_of (variables r) x ++ ((q + k, unit (variables r)), 1) ∷ [])) c.requires.by_position c.in_ok-marked_vector.ensures.sum) in
    rw c.in_ok-push.ensures.items (record {
      vectors = Each_append (λ v. IsVectorOver (position_ring ring) (ring_comparison (position_ring ring)) v) c.loop-i.marked.items (u ∷ []) c.loop-i.invariant.vectors (vector, tt);
      stand = marked_next ring q list c.loop-i.marked.items k u c.loop-i.invariant.stand lt sum;
    })

pub returns : goal.returns
returns c =
    let ring = c.args.ring.now in
    let q = c.args.rank in
    let list = c.args.list.now in
    let F = sums_of (variables ring) list in
    let e = length-marked q 0 F ∙ length-map list (λ v. sum_of (variables ring) v) in
    let all = take_all c.loop-i.i (marked q 0 F) (omega (arith, e, c.len.ensures)) in
    subst (AreMarked ring q list) (sym c.from_vec.ensures)
    (record { vectors = c.loop-i.invariant.vectors; marks = subst (StandOneByOne ring c.loop-i.marked.items) all c.loop-i.invariant.stand })
