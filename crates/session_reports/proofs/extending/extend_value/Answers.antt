use Rattle.std.proofs.Common.{subst, subst₂, ◌*◌}
use Rattle.std.specs.Prelude.{is_some}
use Rattle.groebner_iface.specs.Runs.{IsReducedBasisOf}
use Rattle.groebner_iface.specs.Calls.{CallStops, NoTrail}
use Rattle.session_reports.proofs.Extended.{kept_stops, value_stops}
use Rattle.session_reports.proofs.KeptValues.{basis_kept}
use Rattle.session_reports.proofs.Stopping.{run_fails}
use Rattle.session_reports.specs.Extensions.{IsRunToExtend}
use Rattle.session_values.specs.Kept.{value_of}
use Rattle.session_values.specs.Runs.{fresh_runs}
use Rattle.syzygy_engine.specs.Kernels.{runs_in_order}
use Rattle.session_values.specs.Resolving.{IsResolvingTrail}
use Rattle.session_reports.proofs.Counted.{ran_at_first, ran_twice}
use Rattle.session_reports.proofs.extending.extend_value.Goals as goal

pub keep_basis-requires-clause-sound : goal.keep_basis-requires-clause-sound
keep_basis-requires-clause-sound g c κs within = c.requires.sound

pub basis-requires : goal.basis-requires
basis-requires g c = c.in-Ok.ensures.kept

pub push_ext_at-requires-clause-rank : goal.push_ext_at-requires-clause-rank
push_ext_at-requires-clause-rank g c κs within = c.requires.sound.ranked.1

pub push_ext_at-requires-clause-basis : goal.push_ext_at-requires-clause-basis
push_ext_at-requires-clause-basis g c κs within = (
  c.keep_basis.new.stored.list,
  c.in-Ok.ensures.sound.positions,
  basis_kept c.args.ring.now c.args.info.now.rank c.keep_basis.new.stored c.basis.result.now c.in-Ok.ensures.sound c.basis.ensures,
)

pub returns-in-Err-clause-stop : goal.returns-in-Err-clause-stop
returns-in-Err-clause-stop g c =
    rw c.from.ensures
    (kept_stops _ _ _ _ c.args.ring.now (value_of c.args.info.now c.args.stored.now) c.args.step _
    (run_fails _ _ _ _ NoTrail c.args.ring.now c.args.info.now c.args.stored.now c.in-Err.stop c.in-Err.ensures.none.0 c.in-Err.ensures.stop))

pub returns-in-Ok-push_ext_at-clause-text : goal.returns-in-Ok-push_ext_at-clause-text
returns-in-Ok-push_ext_at-clause-text g c =
    let reduced =
    subst (λ l. IsReducedBasisOf c.args.ring.now c.args.info.now.rank l c.basis.result.now) c.in-Ok.ensures.list
    (basis_kept c.args.ring.now c.args.info.now.rank c.keep_basis.new.stored c.basis.result.now c.in-Ok.ensures.sound c.basis.ensures) in
    c.in-Ok-push_ext_at.ensures.text c.args.stored.now.list reduced (is_some c.args.stored.now.basis)

pub returns-in-Ok-push_ext_at-clause-sound : goal.returns-in-Ok-push_ext_at-clause-sound
returns-in-Ok-push_ext_at-clause-sound g c = c.in-Ok.ensures.sound

pub returns-in-Ok-push_ext_at-clause-list : goal.returns-in-Ok-push_ext_at-clause-list
returns-in-Ok-push_ext_at-clause-list g c = c.in-Ok.ensures.list

pub returns-in-Err-push_ext_at-clause-stop : goal.returns-in-Err-push_ext_at-clause-stop
returns-in-Err-push_ext_at-clause-stop g c =
    let value = value_of c.args.info.now c.args.stored.now in
    let reduced =
    subst (λ l. IsReducedBasisOf c.args.ring.now c.args.info.now.rank l c.basis.result.now) c.in-Ok.ensures.list
    (basis_kept c.args.ring.now c.args.info.now.rank c.keep_basis.new.stored c.basis.result.now c.in-Ok.ensures.sound c.basis.ensures) in
    subst₂
    (λ a b. CallStops (IsRunToExtend c.args.ring.now value c.args.step) (IsResolvingTrail c.args.ring.now value)
    a (g.B.Groebner.stops c.push_ext_at.new.engine) b (g.B.Groebner.stopped c.push_ext_at.new.engine) c.in-Err-push_ext_at.stop)
    c.in-Ok.ensures.same.0 c.in-Ok.ensures.same.1
    (value_stops _ _ _ _ c.args.ring.now value c.basis.result.now c.args.step c.in-Err-push_ext_at.stop reduced c.in-Err-push_ext_at.ensures.stop)

pub returns-in-Err-clause-runs : goal.returns-in-Err-clause-runs
returns-in-Err-clause-runs g c =
    ran_at_first (fresh_runs c.args.stored.now) (2 * runs_in_order c.args.ring.now) (g.B.Groebner.runs c.args.engine.now)
    (g.B.Groebner.runs c.keep_basis.new.engine) c.in-Err.ensures.runs

pub returns-in-Ok-push_ext_at-clause-runs : goal.returns-in-Ok-push_ext_at-clause-runs
returns-in-Ok-push_ext_at-clause-runs g c =
    ran_twice (fresh_runs c.args.stored.now) (2 * runs_in_order c.args.ring.now) (g.B.Groebner.runs c.args.engine.now)
    (g.B.Groebner.runs c.keep_basis.new.engine) (g.B.Groebner.runs c.push_ext_at.new.engine) c.in-Ok.ensures.runs c.in-Ok-push_ext_at.ensures.runs

pub returns-in-Err-push_ext_at-clause-runs : goal.returns-in-Err-push_ext_at-clause-runs
returns-in-Err-push_ext_at-clause-runs g c =
    ran_twice (fresh_runs c.args.stored.now) (2 * runs_in_order c.args.ring.now) (g.B.Groebner.runs c.args.engine.now)
    (g.B.Groebner.runs c.keep_basis.new.engine) (g.B.Groebner.runs c.push_ext_at.new.engine) c.in-Ok.ensures.runs c.in-Err-push_ext_at.ensures.runs
