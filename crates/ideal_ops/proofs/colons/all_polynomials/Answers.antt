use Rattle.std.proofs.Common.{[], refl, ◌∷◌}
use Rattle.operation_laws.specs.Operations.{basis_vector}
use Rattle.groebner_iface.specs.Calls.{NoTrail}
use Rattle.groebner_iface.proofs.CallingRuns.{run_stops}
use Rattle.syzygy_engine.specs.Runs.{IsRunFor}
use Rattle.ideal_ops.proofs.Stacked.{basis_of_one, one_positions}
use Rattle.ideal_ops.proofs.colons.all_polynomials.Goals as goal

pub reduced-requires-clause-positions : goal.reduced-requires-clause-positions
reduced-requires-clause-positions g c = one_positions c.args.ring.now c.in_ok-list.list (c.lawful_setting.ensures 1) c.in_ok-list.ensures

pub returns-in-Ok-clause-basis : goal.returns-in-Ok-clause-basis
returns-in-Ok-clause-basis g c = basis_of_one c.args.ring.now c.in_ok-list.list c.in-Ok.basis (c.lawful_setting.ensures 1) c.in_ok-list.ensures c.in-Ok.ensures.basis

pub returns-clause-stop : goal.returns-clause-stop
returns-clause-stop g c =
    rw c.from.ensures
    (run_stops _ _ _ _ (IsRunFor c.args.ring.now 1 (basis_vector 0 ∷ [])) NoTrail
    c.args.ring.now 1 c.in_ok-list.list c.in-Err.stop (refl, refl, c.in_ok-list.ensures) c.in-Err.ensures.stop)
