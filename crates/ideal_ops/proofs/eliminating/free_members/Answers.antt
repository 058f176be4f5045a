use Rattle.std.proofs.Common.{[], subst, sym, take}
use Rattle.formal_sums.specs.FormalSums.{Each}
use Rattle.operation_laws.specs.Operations.{eliminated}
use Rattle.term_lists.proofs.Scaling.{Each_at}
use Rattle.term_lists.specs.Rings.{variables}
use Rattle.term_lists.specs.Vectors.{AreTermsOver, sums_of}
use Rattle.syzygy_engine.specs.Runs.{AreVectorsFor}
use Rattle.syzygy_engine.proofs.VectorLists.{vectors_none}
use Rattle.ideal_ops.proofs.Shared.{take_next}
use Rattle.std.proofs.Common.{subst₂, ◌∙◌}
use Rattle.std.proofs.lemmas.List.{take_all}
use Rattle.ideal_ops.proofs.eliminating.free_members.Goals as goal

pub loop-v-init : goal.loop-v-init
loop-v-init c = subst (AreVectorsFor c.args.ring.now []) (sym c.new-free.ensures.items) (vectors_none c.args.ring.now)

pub take_free-requires : goal.take_free-requires
take_free-requires c =
    let ring = c.args.ring.now in
    let items = c.as_slice-v-items.result.now in
    let all = subst (Each (AreTermsOver ring)) (sym c.as_slice-v-items.ensures) c.requires in
    Each_at (AreTermsOver ring) items c.loop-v.v-index c.v-item.result all c.loop-v-test.true c.v-item.is

pub loop-v-preserved : goal.loop-v-preserved
loop-v-preserved c =
    let ring = c.args.ring.now in
    let n = variables ring in
    let items = c.as_slice-v-items.result.now in
    let i = c.loop-v.v-index in
    subst (λ z. AreVectorsFor ring (eliminated c.args.k z) c.take_free.new.free.items)
    (sym (take_next n items i c.v-item.result c.loop-v-test.true c.v-item.is))
    (c.in_ok-take_free.ensures (sums_of n (take i items)) c.loop-v.invariant)

pub returns : goal.returns
returns c =
    let ring = c.args.ring.now in
    subst₂ (λ items l. AreVectorsFor ring (eliminated c.args.k (sums_of (variables ring) items)) l)
    (take_all c.loop-v.v-index c.as_slice-v-items.result.now c.loop-v-test.false ∙ c.as_slice-v-items.ensures) (sym c.from_vec.ensures) c.loop-v.invariant
