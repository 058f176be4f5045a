use Rattle.std.proofs.Common.{arith, length, map, subst, sym, ◌<◌, ◌≡◌}
use Rattle.term_lists.specs.Rings.{variables}
use Rattle.term_lists.specs.Vectors.{sums_of}
use Rattle.groebner_iface.specs.Calls.{NoTrail}
use Rattle.groebner_iface.proofs.CallingRuns.{more_stops}
use Rattle.syzygy_engine.specs.Modulo.{AreModuloRuns}
use Rattle.resolution_maps.specs.Inducing.{Columns}
use Rattle.resolution_maps.specs.declared.maps.Map.{Map}
use Rattle.ext_modules.specs.Ext.{AreExtRelations, IsRelationsRun}
use Rattle.ext_modules.proofs.Presenting.{relations_are, relations_none}
use Rattle.ext_modules.proofs.Steps.{steps_of_kernel}
use Rattle.ext_modules.proofs.homology.relations_at.Goals as goal

pub returns-then-len-eq0-clause-relations : goal.returns-then-len-eq0-clause-relations
returns-then-len-eq0-clause-relations g c =
    let ring = c.args.ring.now in
    let kernel = c.args.kernel.now in
    let M : Columns = map (λ (m : Map). m.columns) c.args.maps.now in
    let none : length kernel ≡ 0 = omega (arith, c.len.ensures, c.if-len-eq0.true) in
    subst (AreExtRelations ring c.args.rank M c.args.k kernel) (sym c.new.ensures) (relations_none ring (c.lawful_setting.ensures 0) c.args.rank M c.args.k kernel none)

pub image_list-requires-clause-within : goal.image_list-requires-clause-within
image_list-requires-clause-within g c =
    let kernel = c.args.kernel.now in
    let some : 0 < length kernel = omega (arith, c.len.ensures, c.if-len-eq0.false) in
    steps_of_kernel c.args.ring.now c.args.rank c.args.maps.now c.args.k kernel (c.lawful_setting.ensures 0) c.requires.kernel some

pub returns-in-Ok-clause-relations : goal.returns-in-Ok-clause-relations
returns-in-Ok-clause-relations g c =
    let M : Columns = map (λ (m : Map). m.columns) c.args.maps.now in
    relations_are c.args.ring.now (c.lawful_setting.ensures 0) c.args.rank M c.args.k c.args.kernel.now c.in_ok-members.members c.in-Ok.relations c.in_ok-members.ensures.list
    c.in-Ok.ensures.basis

pub returns-clause-stop : goal.returns-clause-stop
returns-clause-stop g c =
    let ring = c.args.ring.now in
    let n = variables ring in
    let kernel = c.args.kernel.now in
    let members = c.in_ok-members.members in
    let M : Columns = map (λ (m : Map). m.columns) c.args.maps.now in
    let some : 0 < length kernel = omega (arith, c.len.ensures, c.if-len-eq0.false) in
    more_stops _ _ _ _ (AreModuloRuns ring c.in_ok-count.count (sums_of n kernel) (sums_of n members)) (IsRelationsRun ring c.args.rank M c.args.k) NoTrail NoTrail
    (λ r m l h. record {
      kernel = kernel;
      basis = c.requires.kernel;
      nonzero = some;
      members = members;
      stand = c.in_ok-members.ensures.list;
      run = subst (λ q. AreModuloRuns ring q (sums_of n kernel) (sums_of n members) r m l) c.in_ok-count.ensures.value h;
    }) (λ t h. h) c.in-Err.stop c.in-Err.ensures.stop
