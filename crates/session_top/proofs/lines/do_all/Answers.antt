use Rattle.std.proofs.Common.{◌≡◌, ◌<◌, ◌≤◌, ◌+◌, ℕ, Fits, List, Result, Ok, Err, ap, ◌∙◌, refl, sym, arith, w32}
use Rattle.std.specs.declared.option.Option.{Option}
use Rattle.byte_ports.specs.Lines.{IsNextLine, Reading}
use Rattle.session_values.specs.Names.{ScriptState}
use Rattle.session_top.specs.declared.TheConstants.{SCRIPT_LIMIT}
use Rattle.session_top.specs.declared.early.Early.{Early}
use Rattle.session_top.proofs.Going.{Going}
use Rattle.session_top.proofs.Goings.{going_starts, going_more, going_cut}
use Rattle.byte_ports.proofs.Risings.{le_self, le_then, rose_later}
use Rattle.session_top.proofs.Risings.{no_read_of_memory, no_write_of_memory, same_error}
use Rattle.session_top.proofs.Runs.{end_done, last_result_done, last_result_stops, line_stops, long_stops, no_fault_of_refusal, no_fault_of_result, no_zero_of_refusal, no_zero_of_result}
use Rattle.session_top.proofs.lines.do_all.Goals as goal

-- a line of all room fits
never_full : (a b t u : Option (List ℕ)) (r : Reading) (n : ℕ) (s : ScriptState) (capacity : ℕ)
    → Going a b t u r n s → SCRIPT_LIMIT ≤ capacity → capacity < r.room → ⊥
never_full a b t u r n s capacity so enough full = omega (arith, so.room)

-- the number of the next line fits
number_fits : (a b t u : Option (List ℕ)) (r : Reading) (n : ℕ) (s : ScriptState) → Going a b t u r n s → Fits w32 (n + 1)
number_fits a b t u r n s so = omega (arith, so.room, so.few)

-- a line takes room
takes_room : (b c : Option (List ℕ)) (r q : Reading) (line : List ℕ) → IsNextLine r q b c line → q.room < r.room
takes_room b c r q line next = omega (arith, next.counts)

no_fault_of_end : (early : Early) → ◌≡◌ {A = Result Unit Early} (Ok tt) (Err early) → ⊥
no_fault_of_end early e = cc

pub loop-next-init : goal.loop-next-init
loop-next-init g c = record {
  going = rw c.requires.names (going_starts _ _ _ (ap (λ (r : Reading). r.held) c.requires.lines) (ap (λ (r : Reading). r.room) c.requires.lines));
  is_open = ap (λ (r : Reading). r.is_open) c.requires.lines;
  capacity = c.requires.line;
  limits = refl;
  read_later = le_self _;
  write_later = le_self _;
}

pub loop-next-preserved : goal.loop-next-preserved
loop-next-preserved g c = record {
  going = going_more _ _ _ _ _ _ _ _ _ _ _ _ _ c.loop-next.invariant.going (rw c.in-Line.is at c.in-Ok.ensures.answer)
      (rw c.deref.ensures.value at c.in-Ok-do_line.ensures.done.1) c.in-Ok-do_line.ensures.done.2;
  is_open = rw c.in-Line.is at c.in-Ok.ensures.is_open;
  capacity = le_then _ _ _ c.loop-next.invariant.capacity c.in-Ok.ensures.capacity;
  limits = c.in-Ok-do_line.ensures.limits ∙ c.loop-next.invariant.limits;
  read_later = le_then _ _ _ c.loop-next.invariant.read_later c.in-Ok.ensures.cause.later;
  write_later = le_then _ _ _ c.loop-next.invariant.write_later c.in-Ok-do_line.ensures.later;
}

pub returns-in-Err-clause-stops : goal.returns-in-Err-clause-stops
returns-in-Err-clause-stops g c =
    line_stops _ _ _ _ _ _ _ _ _ _ _ _ _ c.loop-next.invariant.going (rw c.in-Line.is at c.in-Ok.ensures.answer)
    (rw (c.deref.ensures.value, c.loop-next.invariant.limits) at c.in-Err.ensures.stops)

pub returns-in-Last-clause-done : goal.returns-in-Last-clause-done
returns-in-Last-clause-done g c =
    let rest = rw c.in-Last.is at c.in-Ok.ensures.answer in
    last_result_done _ _ _ _ _ _ _ _ _ _ _ c.do_line-in-Last.result c.loop-next.invariant.going rest.0 rest.1 (rw c.deref-in-Last.ensures.value at c.do_line-in-Last.ensures.done)

pub returns-in-Last-clause-stops : goal.returns-in-Last-clause-stops
returns-in-Last-clause-stops g c =
    let rest = rw c.in-Last.is at c.in-Ok.ensures.answer in
    last_result_stops _ _ _ _ _ _ _ _ _ _ _ c.do_line-in-Last.result c.loop-next.invariant.going rest.0 rest.1
    (rw (c.deref-in-Last.ensures.value, c.loop-next.invariant.limits) at c.do_line-in-Last.ensures.stops)

pub returns-in-End-clause-done : goal.returns-in-End-clause-done
returns-in-End-clause-done g c = end_done _ _ _ _ _ _ _ _ c.loop-next.invariant.going (rw c.in-End.is at c.in-Ok.ensures.answer)

pub returns-in-Long-clause-stops : goal.returns-in-Long-clause-stops
returns-in-Long-clause-stops g c =
    long_stops _ _ _ _ _ _ _ _ _ _ _ c.loop-next.invariant.going (rw c.in-Long.is at c.in-Ok.ensures.answer) c.refuse.ensures.says

pub returns-in-Err-Fault-clause-stops : goal.returns-in-Err-Fault-clause-stops
returns-in-Err-Fault-clause-stops g c =
    going_cut _ _ _ _ _ _ _ _ c.loop-next.invariant.going (rw c.in-Err-Fault.field-0-is at c.in-Err-Fault.ensures.answer)

pub returns-in-Err-Memory-clause-stops : goal.returns-in-Err-Memory-clause-stops
returns-in-Err-Memory-clause-stops g c =
    let full = (rw c.in-Err-Memory.field-0-is at c.in-Err-Memory.ensures.memory) refl in
    absurd (never_full _ _ _ _ _ _ _ _ c.loop-next.invariant.going c.loop-next.invariant.capacity full)

pub returns-in-Err-clause-read : goal.returns-in-Err-clause-read
returns-in-Err-clause-read g c fault = absurd (no_fault_of_result _ _ _ _ _ _ (Err c.in-Err.early) c.in-Err.ensures.stops fault)

pub returns-in-Last-clause-read : goal.returns-in-Last-clause-read
returns-in-Last-clause-read g c fault = absurd (no_fault_of_result _ _ _ _ _ _ c.do_line-in-Last.result c.do_line-in-Last.ensures.stops fault)

pub returns-in-Long-clause-read : goal.returns-in-Long-clause-read
returns-in-Long-clause-read g c fault = absurd (no_fault_of_refusal _ _ _ c.refuse.result c.refuse.ensures.says fault)

pub overflow_add-number : goal.overflow_add-number
overflow_add-number g c = number_fits _ _ _ _ _ _ _ c.loop-next.invariant.going

pub overflow_add-number-in-Last : goal.overflow_add-number-in-Last
overflow_add-number-in-Last g c = number_fits _ _ _ _ _ _ _ c.loop-next.invariant.going

pub loop-next-smaller : goal.loop-next-smaller
loop-next-smaller g c = takes_room _ _ _ _ _ (rw c.in-Line.is at c.in-Ok.ensures.answer)

pub returns-in-Err-Fault-clause-read_later : goal.returns-in-Err-Fault-clause-read_later
returns-in-Err-Fault-clause-read_later g c = le_then _ _ _ c.loop-next.invariant.read_later c.in-Err-Fault.ensures.cause.later

pub returns-in-Err-Fault-clause-write_later : goal.returns-in-Err-Fault-clause-write_later
returns-in-Err-Fault-clause-write_later g c = c.loop-next.invariant.write_later

pub returns-in-Err-Memory-clause-done : goal.returns-in-Err-Memory-clause-done
returns-in-Err-Memory-clause-done g c = tt

pub returns-in-Err-Memory-clause-read : goal.returns-in-Err-Memory-clause-read
returns-in-Err-Memory-clause-read g c fault = absurd (no_read_of_memory _ fault)

pub returns-in-Err-Memory-clause-write : goal.returns-in-Err-Memory-clause-write
returns-in-Err-Memory-clause-write g c fault = absurd (no_write_of_memory _ fault)

pub returns-in-Err-Memory-clause-read_later : goal.returns-in-Err-Memory-clause-read_later
returns-in-Err-Memory-clause-read_later g c = le_then _ _ _ c.loop-next.invariant.read_later c.in-Err-Memory.ensures.cause.later

pub returns-in-Err-Memory-clause-write_later : goal.returns-in-Err-Memory-clause-write_later
returns-in-Err-Memory-clause-write_later g c = c.loop-next.invariant.write_later

pub returns-in-Err-clause-done : goal.returns-in-Err-clause-done
returns-in-Err-clause-done g c = tt

pub returns-in-Err-clause-write : goal.returns-in-Err-clause-write
returns-in-Err-clause-write g c fault = rose_later _ _ _ c.loop-next.invariant.write_later (c.in-Err.ensures.write fault)

pub returns-in-Err-clause-read_later : goal.returns-in-Err-clause-read_later
returns-in-Err-clause-read_later g c = le_then _ _ _ c.loop-next.invariant.read_later c.in-Ok.ensures.cause.later

pub returns-in-Err-clause-write_later : goal.returns-in-Err-clause-write_later
returns-in-Err-clause-write_later g c = le_then _ _ _ c.loop-next.invariant.write_later c.in-Err.ensures.later

pub returns-in-Last-clause-write : goal.returns-in-Last-clause-write
returns-in-Last-clause-write g c fault = rose_later _ _ _ c.loop-next.invariant.write_later (c.do_line-in-Last.ensures.write fault)

pub returns-in-Last-clause-read_later : goal.returns-in-Last-clause-read_later
returns-in-Last-clause-read_later g c = le_then _ _ _ c.loop-next.invariant.read_later c.in-Ok.ensures.cause.later

pub returns-in-Last-clause-write_later : goal.returns-in-Last-clause-write_later
returns-in-Last-clause-write_later g c = le_then _ _ _ c.loop-next.invariant.write_later c.do_line-in-Last.ensures.later

pub returns-in-End-clause-stops : goal.returns-in-End-clause-stops
returns-in-End-clause-stops g c = tt

pub returns-in-End-clause-read : goal.returns-in-End-clause-read
returns-in-End-clause-read g c fault = absurd (no_fault_of_end _ fault)

pub returns-in-End-clause-write : goal.returns-in-End-clause-write
returns-in-End-clause-write g c fault = absurd (no_fault_of_end _ fault)

pub returns-in-End-clause-read_later : goal.returns-in-End-clause-read_later
returns-in-End-clause-read_later g c = le_then _ _ _ c.loop-next.invariant.read_later c.in-Ok.ensures.cause.later

pub returns-in-End-clause-write_later : goal.returns-in-End-clause-write_later
returns-in-End-clause-write_later g c = c.loop-next.invariant.write_later

pub returns-in-Long-clause-done : goal.returns-in-Long-clause-done
returns-in-Long-clause-done g c = tt

pub returns-in-Long-clause-write : goal.returns-in-Long-clause-write
returns-in-Long-clause-write g c fault = rose_later _ _ _ c.loop-next.invariant.write_later (c.refuse.ensures.write (same_error _ _ fault))

pub returns-in-Long-clause-read_later : goal.returns-in-Long-clause-read_later
returns-in-Long-clause-read_later g c = le_then _ _ _ c.loop-next.invariant.read_later c.in-Ok.ensures.cause.later

pub returns-in-Long-clause-write_later : goal.returns-in-Long-clause-write_later
returns-in-Long-clause-write_later g c = le_then _ _ _ c.loop-next.invariant.write_later c.refuse.ensures.later

pub returns-in-Err-Fault-clause-begun : goal.returns-in-Err-Fault-clause-begun
returns-in-Err-Fault-clause-begun g c zero = no_read_of_memory _ (sym zero)

pub returns-in-Err-Memory-clause-begun : goal.returns-in-Err-Memory-clause-begun
returns-in-Err-Memory-clause-begun g c zero =
    let full = (rw c.in-Err-Memory.field-0-is at c.in-Err-Memory.ensures.memory) refl in
    never_full _ _ _ _ _ _ _ _ c.loop-next.invariant.going c.loop-next.invariant.capacity full

pub returns-in-Err-clause-begun : goal.returns-in-Err-clause-begun
returns-in-Err-clause-begun g c zero = no_zero_of_result _ _ _ _ _ _ (Err c.in-Err.early) c.in-Err.ensures.stops zero

pub returns-in-Last-clause-begun : goal.returns-in-Last-clause-begun
returns-in-Last-clause-begun g c zero = no_zero_of_result _ _ _ _ _ _ c.do_line-in-Last.result c.do_line-in-Last.ensures.stops zero

pub returns-in-End-clause-begun : goal.returns-in-End-clause-begun
returns-in-End-clause-begun g c zero = no_fault_of_end _ zero

pub returns-in-Long-clause-begun : goal.returns-in-Long-clause-begun
returns-in-Long-clause-begun g c zero = no_zero_of_refusal _ _ _ c.refuse.result c.refuse.ensures.says zero
