use Rattle.std.proofs.Common.{arith}
use Rattle.ideal_ops.proofs.Stacked.{block_step}
use Rattle.std.proofs.Common.{append-nil, map, subst, sym, ◌++◌, ◌∙◌}
use Rattle.std.proofs.lemmas.List.{take_all}
use Rattle.formal_sums.specs.FormalSums.{Each}
use Rattle.syzygy_laws.specs.Syzygies.{raised}
use Rattle.term_lists.specs.Rings.{variables}
use Rattle.term_lists.specs.Vectors.{AreTermsOver, HasPositions, sums_of}
use Rattle.term_lists.proofs.Scaling.{Each_at}
use Rattle.syzygy_engine.specs.Runs.{AreVectorsFor}
use Rattle.ideal_ops.proofs.stacking.push_block.Goals as goal

pub loop-v-preserved : goal.loop-v-preserved
loop-v-preserved c = λ G h.
    block_step c.args.ring.now c.args.by c.loop-v.v-index c.as_slice-v-items.result.now c.loop-v.all.items _ c.v-item.result c.in_ok-raised_vector.field-0 G (omega arith) c.v-item.is
    c.in_ok-push.ensures.items (c.loop-v.invariant G h) c.in_ok-raised_vector.ensures.vector c.in_ok-raised_vector.ensures.sum

pub raised_vector-requires-clause-room : goal.raised_vector-requires-clause-room
raised_vector-requires-clause-room c = c.requires.room

pub loop-v-init : goal.loop-v-init
loop-v-init c = λ G h. subst (λ l. AreVectorsFor c.args.ring.now l c.args.all.now.items) (sym (append-nil G)) h

pub returns : goal.returns
returns c = λ G h.
    let ring = c.args.ring.now in
    subst (λ l. AreVectorsFor ring (G ++ map (raised c.args.by) (sums_of (variables ring) l)) c.loop-v.all.items)
    (take_all c.loop-v.v-index c.as_slice-v-items.result.now c.loop-v-test.false ∙ c.as_slice-v-items.ensures) (c.loop-v.invariant G h)

pub raised_vector-requires-clause-terms : goal.raised_vector-requires-clause-terms
raised_vector-requires-clause-terms c =
    let all = subst (Each (AreTermsOver c.args.ring.now)) (sym c.as_slice-v-items.ensures) c.requires.terms in
    Each_at (AreTermsOver c.args.ring.now) c.as_slice-v-items.result.now c.loop-v.v-index c.v-item.result all c.loop-v-test.true c.v-item.is

pub raised_vector-requires-clause-positions : goal.raised_vector-requires-clause-positions
raised_vector-requires-clause-positions c =
    let all = subst (Each (HasPositions c.args.rank)) (sym c.as_slice-v-items.ensures) c.requires.positions in
    Each_at (HasPositions c.args.rank) c.as_slice-v-items.result.now c.loop-v.v-index c.v-item.result all c.loop-v-test.true c.v-item.is
