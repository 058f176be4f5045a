use Rattle.std.proofs.Common.{refl}
use Rattle.session_top.proofs.top.run_script.Goals as goal

pub returns-in-Run-clause-done : goal.returns-in-Run-clause-done
returns-in-Run-clause-done g c = rw c.in-Run.is c.do_lines.ensures.done

pub returns-in-Run-clause-stops : goal.returns-in-Run-clause-stops
returns-in-Run-clause-stops g c = rw c.in-Run.is c.do_lines.ensures.stops

pub returns-in-Run-clause-unread : goal.returns-in-Run-clause-unread
returns-in-Run-clause-unread g c other = absurd (other c.in-Run.is)

pub returns-in-Large-clause-done : goal.returns-in-Large-clause-done
returns-in-Large-clause-done g c = rw c.in-Large.is c.do_generated.ensures.done

pub returns-in-Large-clause-stops : goal.returns-in-Large-clause-stops
returns-in-Large-clause-stops g c = rw c.in-Large.is c.do_generated.ensures.stops

pub returns-in-Large-clause-read : goal.returns-in-Large-clause-read
returns-in-Large-clause-read g c fault = absurd (c.do_generated.ensures.read fault)

pub returns-in-Run-clause-begun : goal.returns-in-Run-clause-begun
returns-in-Run-clause-begun g c = c.do_lines.ensures.begun

pub returns-in-Large-clause-begun : goal.returns-in-Large-clause-begun
returns-in-Large-clause-begun g c zero = (refl, c.do_generated.ensures.begun zero)
