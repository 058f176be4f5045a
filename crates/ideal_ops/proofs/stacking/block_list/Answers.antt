use Rattle.std.proofs.Common.{[], arith, subst, subst₂, sym, ◌≡◌}
use Rattle.operation_laws.specs.Operations.{blocks}
use Rattle.term_lists.specs.Rings.{variables}
use Rattle.term_lists.specs.Vectors.{sums_of}
use Rattle.syzygy_engine.specs.Runs.{AreVectorsFor}
use Rattle.syzygy_engine.proofs.VectorLists.{vectors_none}
use Rattle.ideal_ops.proofs.Stacked.{blocks_step}
use Rattle.ideal_ops.proofs.stacking.block_list.Goals as goal

pub loop-j-preserved : goal.loop-j-preserved
loop-j-preserved c =
    let ring = c.args.ring.now in
    let rank = c.args.rank in
    let j = c.loop-j.j in
    let F = sums_of (variables ring) c.args.list.now in
    blocks_step ring rank j c.first_of_block.result F _ c.first_of_block.ensures.value (c.in_ok-push_block.ensures (blocks rank 0 j F) c.loop-j.invariant)

pub loop-j-init : goal.loop-j-init
loop-j-init c = subst (AreVectorsFor c.args.ring.now []) (sym c.in_ok-all.ensures.items) (vectors_none c.args.ring.now)

pub push_block-requires-clause-room : goal.push_block-requires-clause-room
push_block-requires-clause-room c = omega (arith, c.first_of_block.ensures.low, c.requires.room)

pub returns : goal.returns
returns c =
    let ring = c.args.ring.now in
    let F = sums_of (variables ring) c.args.list.now in
    let all : c.loop-j.j ≡ c.args.s = omega (arith, c.loop-j-test.false) in
    subst₂ (λ m l. AreVectorsFor ring (blocks c.args.rank 0 m F) l) all (sym c.from_vec.ensures) c.loop-j.invariant
