use Rattle.std.proofs.Common.{refl, rules}
use Rattle.std.proofs.KnownBytes.{Keeps-refl}
use Rattle.groebner_iface.specs.declared.stop.Stop.TheVariants.{Degree, Pairs}
use Rattle.session_lang.specs.Lines.{RefusesLine}
use Rattle.session_top.specs.Limits.{limits_in}
use Rattle.session_top.proofs.Causes.{division_stopped, run_stopped}
use Rattle.byte_ports.proofs.Risings.{le_self}
use Rattle.session_top.proofs.Risings.{no_write_of_memory, same_error}
use Rattle.session_top.proofs.Shown.{refused_stops}
use Rattle.session_top.proofs.lines.do_line.Goals as goal

pub returns-in-Ok-Refused-clause-stops : goal.returns-in-Ok-Refused-clause-stops
returns-in-Ok-Refused-clause-stops g c =
    let refuses : RefusesLine c.args.desk.now.session c.args.line.now c.in-Ok-Refused.kind = search rules in
    refused_stops _ _ _ _ _ _ _ _ refuses c.refuse.ensures.says

pub returns-in-Err-Pairs-clause-stops : goal.returns-in-Err-Pairs-clause-stops
returns-in-Err-Pairs-clause-stops g c =
    run_stopped _ _ (limits_in c.args.desk.now.engine.direct) (limits_in c.step.new.engine.direct) _ _ _ _ _ Pairs c.step.new.engine.direct.state c.step.new.engine.direct.trail _ c.step.ensures.settings (rw c.in-Err-Pairs.field-0-is at c.in-Err-Pairs.ensures.stop)
    c.stop_at_run.ensures.kept c.stop_at_run.ensures.replays c.stop_at_run.ensures.says

pub returns-in-Err-Degree-clause-stops : goal.returns-in-Err-Degree-clause-stops
returns-in-Err-Degree-clause-stops g c =
    run_stopped _ _ (limits_in c.args.desk.now.engine.direct) (limits_in c.step.new.engine.direct) _ _ _ _ _ Degree c.step.new.engine.direct.state c.step.new.engine.direct.trail _ c.step.ensures.settings (rw c.in-Err-Degree.field-0-is at c.in-Err-Degree.ensures.stop)
    c.stop_at_run-in-Err-Degree.ensures.kept c.stop_at_run-in-Err-Degree.ensures.replays c.stop_at_run-in-Err-Degree.ensures.says

pub returns-in-Err-Trail-clause-stops : goal.returns-in-Err-Trail-clause-stops
returns-in-Err-Trail-clause-stops g c =
    division_stopped _ _ _ _ _ _ _ _ _ _ c.in-Err-Trail.trail _ (rw c.in-Err-Trail.field-0-is at c.in-Err-Trail.ensures.stop) c.stop_at_division.ensures.says

pub returns-in-Ok-Refused-clause-done : goal.returns-in-Ok-Refused-clause-done
returns-in-Ok-Refused-clause-done g c = tt

pub returns-in-Ok-Refused-clause-limits : goal.returns-in-Ok-Refused-clause-limits
returns-in-Ok-Refused-clause-limits g c = tt

pub returns-in-Ok-Refused-clause-write : goal.returns-in-Ok-Refused-clause-write
returns-in-Ok-Refused-clause-write g c fault = c.refuse.ensures.write (same_error _ _ fault)

pub returns-in-Ok-Refused-clause-later : goal.returns-in-Ok-Refused-clause-later
returns-in-Ok-Refused-clause-later g c = c.refuse.ensures.later

pub returns-in-Err-Memory-clause-done : goal.returns-in-Err-Memory-clause-done
returns-in-Err-Memory-clause-done g c = tt

pub returns-in-Err-Memory-clause-limits : goal.returns-in-Err-Memory-clause-limits
returns-in-Err-Memory-clause-limits g c = tt

pub returns-in-Err-Memory-clause-stops : goal.returns-in-Err-Memory-clause-stops
returns-in-Err-Memory-clause-stops g c = (refl, Keeps-refl _)

pub returns-in-Err-Memory-clause-write : goal.returns-in-Err-Memory-clause-write
returns-in-Err-Memory-clause-write g c fault = absurd (no_write_of_memory _ fault)

pub returns-in-Err-Memory-clause-later : goal.returns-in-Err-Memory-clause-later
returns-in-Err-Memory-clause-later g c = le_self _

pub returns-in-Err-Pairs-clause-done : goal.returns-in-Err-Pairs-clause-done
returns-in-Err-Pairs-clause-done g c = tt

pub returns-in-Err-Pairs-clause-limits : goal.returns-in-Err-Pairs-clause-limits
returns-in-Err-Pairs-clause-limits g c = tt

pub returns-in-Err-Pairs-clause-write : goal.returns-in-Err-Pairs-clause-write
returns-in-Err-Pairs-clause-write g c fault = c.stop_at_run.ensures.write (same_error _ _ fault)

pub returns-in-Err-Pairs-clause-later : goal.returns-in-Err-Pairs-clause-later
returns-in-Err-Pairs-clause-later g c = c.stop_at_run.ensures.later

pub returns-in-Err-Degree-clause-done : goal.returns-in-Err-Degree-clause-done
returns-in-Err-Degree-clause-done g c = tt

pub returns-in-Err-Degree-clause-limits : goal.returns-in-Err-Degree-clause-limits
returns-in-Err-Degree-clause-limits g c = tt

pub returns-in-Err-Degree-clause-write : goal.returns-in-Err-Degree-clause-write
returns-in-Err-Degree-clause-write g c fault = c.stop_at_run-in-Err-Degree.ensures.write (same_error _ _ fault)

pub returns-in-Err-Degree-clause-later : goal.returns-in-Err-Degree-clause-later
returns-in-Err-Degree-clause-later g c = c.stop_at_run-in-Err-Degree.ensures.later

pub returns-in-Err-Trail-clause-done : goal.returns-in-Err-Trail-clause-done
returns-in-Err-Trail-clause-done g c = tt

pub returns-in-Err-Trail-clause-limits : goal.returns-in-Err-Trail-clause-limits
returns-in-Err-Trail-clause-limits g c = tt

pub returns-in-Err-Trail-clause-write : goal.returns-in-Err-Trail-clause-write
returns-in-Err-Trail-clause-write g c fault = c.stop_at_division.ensures.write (same_error _ _ fault)

pub returns-in-Err-Trail-clause-later : goal.returns-in-Err-Trail-clause-later
returns-in-Err-Trail-clause-later g c = c.stop_at_division.ensures.later
