use Rattle.std.proofs.Common.{IfErr, [], refl, subst}
use Rattle.std.proofs.KnownBytes.{Consumes-nil, Keeps-refl}
use Rattle.session_top.specs.Run.{ScriptStops}
use Rattle.session_top.proofs.Whole.{nothing_done}
use Rattle.byte_ports.proofs.Risings.{le_self}
use Rattle.session_top.proofs.Risings.{no_read_of_memory, no_write_of_memory}
use Rattle.session_top.proofs.lines.do_lines.Goals as goal

pub returns-in-Err-clause-stops : goal.returns-in-Err-clause-stops
returns-in-Err-clause-stops g c = nothing_done _ _ _ _ [] (Consumes-nil _) (Keeps-refl _)

pub returns-in-Err-with_capacity-clause-stops : goal.returns-in-Err-with_capacity-clause-stops
returns-in-Err-with_capacity-clause-stops g c = nothing_done _ _ _ _ [] (Consumes-nil _) (Keeps-refl _)

pub returns-in-Err-new-clause-stops : goal.returns-in-Err-new-clause-stops
returns-in-Err-new-clause-stops g c = nothing_done _ _ _ _ [] (Consumes-nil _) (Keeps-refl _)

pub returns-clause-stops : goal.returns-clause-stops
returns-clause-stops g c =
    subst
    (λ l. IfErr c.do_all-result.result (ScriptStops (g.S.Source.left c.args.source.now) (g.S.Source.left c.do_all-result.new.source) (g.K.Sink.taken c.args.sink.now)
    (g.K.Sink.taken c.do_all-result.new.sink) l))
    c.set_desk-desk.ensures.limits c.do_all-result.ensures.stops

pub returns-in-Err-clause-done : goal.returns-in-Err-clause-done
returns-in-Err-clause-done g c = tt

pub returns-in-Err-clause-read : goal.returns-in-Err-clause-read
returns-in-Err-clause-read g c fault = absurd (no_read_of_memory _ fault)

pub returns-in-Err-clause-write : goal.returns-in-Err-clause-write
returns-in-Err-clause-write g c fault = absurd (no_write_of_memory _ fault)

pub returns-in-Err-clause-read_later : goal.returns-in-Err-clause-read_later
returns-in-Err-clause-read_later g c = le_self _

pub returns-in-Err-clause-write_later : goal.returns-in-Err-clause-write_later
returns-in-Err-clause-write_later g c = le_self _

pub returns-in-Err-with_capacity-clause-done : goal.returns-in-Err-with_capacity-clause-done
returns-in-Err-with_capacity-clause-done g c = tt

pub returns-in-Err-with_capacity-clause-read : goal.returns-in-Err-with_capacity-clause-read
returns-in-Err-with_capacity-clause-read g c fault = absurd (no_read_of_memory _ fault)

pub returns-in-Err-with_capacity-clause-write : goal.returns-in-Err-with_capacity-clause-write
returns-in-Err-with_capacity-clause-write g c fault = absurd (no_write_of_memory _ fault)

pub returns-in-Err-with_capacity-clause-read_later : goal.returns-in-Err-with_capacity-clause-read_later
returns-in-Err-with_capacity-clause-read_later g c = le_self _

pub returns-in-Err-with_capacity-clause-write_later : goal.returns-in-Err-with_capacity-clause-write_later
returns-in-Err-with_capacity-clause-write_later g c = le_self _

pub returns-clause-done : goal.returns-clause-done
returns-clause-done g c = c.do_all-result.ensures.done

pub returns-clause-read : goal.returns-clause-read
returns-clause-read g c = c.do_all-result.ensures.read

pub returns-clause-write : goal.returns-clause-write
returns-clause-write g c = c.do_all-result.ensures.write

pub returns-clause-read_later : goal.returns-clause-read_later
returns-clause-read_later g c = c.do_all-result.ensures.read_later

pub returns-clause-write_later : goal.returns-clause-write_later
returns-clause-write_later g c = c.do_all-result.ensures.write_later

pub returns-in-Err-clause-begun : goal.returns-in-Err-clause-begun
returns-in-Err-clause-begun g c zero = (refl, refl)

pub returns-in-Err-with_capacity-clause-begun : goal.returns-in-Err-with_capacity-clause-begun
returns-in-Err-with_capacity-clause-begun g c zero = (refl, refl)

pub returns-clause-begun : goal.returns-clause-begun
returns-clause-begun g c zero = absurd (c.do_all-result.ensures.begun zero)
