use Rattle.std.proofs.Common.{subst, sym}
use Rattle.formal_sums.specs.FormalSums.{Each}
use Rattle.operation_laws.specs.Operations.{multiples_of}
use Rattle.term_lists.specs.Rings.{variables}
use Rattle.term_lists.specs.Vectors.{AreTermsOver, sum_of, sums_of}
use Rattle.groebner_iface.specs.Calls.{NoTrail}
use Rattle.groebner_iface.proofs.CallingRuns.{more_stops}
use Rattle.syzygy_engine.specs.Modulo.{AreModuloRuns}
use Rattle.syzygy_engine.specs.Runs.{AreVectorsFor}
use Rattle.syzygy_engine.proofs.Marks.{loose, loose_list}
use Rattle.syzygy_engine.proofs.ModuloRuns.{runs_for}
use Rattle.ideal_ops.specs.Components.{AreQuotientRuns}
use Rattle.ideal_ops.proofs.SyzygyAnswers.{basis_of_quotient, members_positions, multiples_positions}
use Rattle.ideal_ops.proofs.quotients.quotient.Goals as goal

pub multiples-requires : goal.multiples-requires
multiples-requires g c = loose c.args.ring.now c.args.f.now c.requires.f.each

pub first_mark-requires : goal.first_mark-requires
first_mark-requires g c = c.requires.room

pub sorted_list-requires : goal.sorted_list-requires
sorted_list-requires g c = subst (λ r. Each (AreTermsOver r) c.args.list.now) (sym c.in_ok-over.ensures) (loose_list c.args.ring.now c.args.list.now c.requires.vectors)

pub kernel_modulo-requires-clause-heads : goal.kernel_modulo-requires-clause-heads
kernel_modulo-requires-clause-heads g c κs within = c.in_ok-heads.ensures.vectors

pub kernel_modulo-requires-clause-members : goal.kernel_modulo-requires-clause-members
kernel_modulo-requires-clause-members g c κs within =
    let ring = c.args.ring.now in
    let rank = c.args.rank in
    let list = c.args.list.now in
    let f = c.args.f.now in
    let heads = c.in_ok-heads.heads in
    let members = c.in_ok-members.members in
    let x = subst (λ m. AreVectorsFor ring (multiples_of m (sum_of (variables ring) f)) heads) c.first_mark.ensures c.in_ok-heads.ensures in
    let y = subst (λ r. AreVectorsFor r (sums_of (variables r) list) members) c.in_ok-over.ensures c.in_ok-members.ensures in
    y.vectors

pub kernel_modulo-requires-clause-heads_positions : goal.kernel_modulo-requires-clause-heads_positions
kernel_modulo-requires-clause-heads_positions g c κs within =
    let ring = c.args.ring.now in
    let rank = c.args.rank in
    let list = c.args.list.now in
    let f = c.args.f.now in
    let heads = c.in_ok-heads.heads in
    let members = c.in_ok-members.members in
    let x = subst (λ m. AreVectorsFor ring (multiples_of m (sum_of (variables ring) f)) heads) c.first_mark.ensures c.in_ok-heads.ensures in
    let y = subst (λ r. AreVectorsFor r (sums_of (variables r) list) members) c.in_ok-over.ensures c.in_ok-members.ensures in
    multiples_positions ring rank f list heads members (c.lawful_setting.ensures 0) x y

pub kernel_modulo-requires-clause-members_positions : goal.kernel_modulo-requires-clause-members_positions
kernel_modulo-requires-clause-members_positions g c κs within =
    let ring = c.args.ring.now in
    let rank = c.args.rank in
    let list = c.args.list.now in
    let f = c.args.f.now in
    let heads = c.in_ok-heads.heads in
    let members = c.in_ok-members.members in
    let x = subst (λ m. AreVectorsFor ring (multiples_of m (sum_of (variables ring) f)) heads) c.first_mark.ensures c.in_ok-heads.ensures in
    let y = subst (λ r. AreVectorsFor r (sums_of (variables r) list) members) c.in_ok-over.ensures c.in_ok-members.ensures in
    members_positions ring rank f list heads members (c.lawful_setting.ensures 0) x y c.requires.positions

pub returns-in-Ok-clause-basis : goal.returns-in-Ok-clause-basis
returns-in-Ok-clause-basis g c =
    let ring = c.args.ring.now in
    let rank = c.args.rank in
    let list = c.args.list.now in
    let f = c.args.f.now in
    let heads = c.in_ok-heads.heads in
    let members = c.in_ok-members.members in
    let x = subst (λ m. AreVectorsFor ring (multiples_of m (sum_of (variables ring) f)) heads) c.first_mark.ensures c.in_ok-heads.ensures in
    let y = subst (λ r. AreVectorsFor r (sums_of (variables r) list) members) c.in_ok-over.ensures c.in_ok-members.ensures in
    basis_of_quotient ring rank f list heads members (c.lawful_setting.ensures 0) x y c.in-Ok.basis c.in-Ok.ensures.basis

pub returns-clause-stop : goal.returns-clause-stop
returns-clause-stop g c =
    let ring = c.args.ring.now in
    let rank = c.args.rank in
    let list = c.args.list.now in
    let f = c.args.f.now in
    let heads = c.in_ok-heads.heads in
    let members = c.in_ok-members.members in
    let x = subst (λ m. AreVectorsFor ring (multiples_of m (sum_of (variables ring) f)) heads) c.first_mark.ensures c.in_ok-heads.ensures in
    let y = subst (λ r. AreVectorsFor r (sums_of (variables r) list) members) c.in_ok-over.ensures c.in_ok-members.ensures in
    let X = multiples_of rank (sum_of (variables ring) f) in
    let Y = sums_of (variables ring) list in
    more_stops _ _ _ _ (AreModuloRuns ring rank (sums_of (variables ring) heads) (sums_of (variables ring) members)) (AreQuotientRuns ring rank list f) NoTrail NoTrail
    (runs_for ring rank heads members X Y x y) (λ t h. h) c.in-Err.stop c.in-Err.ensures.stop
