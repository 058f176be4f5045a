use Rattle.std.proofs.Common.{length, subst, sym}
use Rattle.formal_sums.specs.FormalSums.{Each}
use Rattle.operation_laws.specs.Operations.{IsSyzygyModulo}
use Rattle.term_lists.specs.Rings.{ring_comparison, variables}
use Rattle.term_lists.specs.Vectors.{AreVectorsOver, HasPositions, sums_of}
use Rattle.groebner_iface.specs.Calls.{NoTrail}
use Rattle.groebner_iface.proofs.CallingRuns.{more_stops}
use Rattle.syzygy_engine.specs.Answers.{IsBasisOfThose}
use Rattle.syzygy_engine.specs.Kernels.{IsSyzygyRun}
use Rattle.syzygy_engine.specs.Marking.{position_ring}
use Rattle.syzygy_engine.specs.Modulo.{AreModuloRuns}
use Rattle.syzygy_engine.proofs.ModuloNothing.{generates_syzygies, syzygy_runs}
use Rattle.syzygy_engine.proofs.generating.syzygies.Goals as goal

pub kernel_modulo-requires-clause-heads : goal.kernel_modulo-requires-clause-heads
kernel_modulo-requires-clause-heads g c κs within = c.requires.vectors

pub kernel_modulo-requires-clause-members : goal.kernel_modulo-requires-clause-members
kernel_modulo-requires-clause-members g c κs within =
    let over = position_ring c.args.ring.now in
    subst (AreVectorsOver over (ring_comparison over)) (sym c.new-no_members.ensures) tt

pub kernel_modulo-requires-clause-members_positions : goal.kernel_modulo-requires-clause-members_positions
kernel_modulo-requires-clause-members_positions g c κs within = subst (Each (HasPositions c.args.rank)) (sym c.new-no_members.ensures) tt

pub returns-in-Ok-clause-syzygies : goal.returns-in-Ok-clause-syzygies
returns-in-Ok-clause-syzygies g c =
    let ring = c.args.ring.now in
    let n = variables ring in
    let list = c.args.list.now in
    generates_syzygies ring list c.in-Ok.basis
    (subst (λ M. IsBasisOfThose ring (length list) (IsSyzygyModulo ring.modulus.value (sums_of n list) (sums_of n M)) c.in-Ok.basis) c.new-no_members.ensures c.in-Ok.ensures.basis)

pub returns-clause-stop : goal.returns-clause-stop
returns-clause-stop g c =
    let ring = c.args.ring.now in
    let n = variables ring in
    let q = c.args.rank in
    let list = c.args.list.now in
    more_stops _ _ _ _ (AreModuloRuns ring q (sums_of n list) (sums_of n c.new-no_members.result)) (IsSyzygyRun ring q list) NoTrail NoTrail
    (λ r m l h. syzygy_runs ring q list (c.lawful_setting.ensures 0) r m l (subst (λ M. AreModuloRuns ring q (sums_of n list) (sums_of n M) r m l) c.new-no_members.ensures h))
    (λ t h. h) c.in-Err.stop c.in-Err.ensures.stop
