use Rattle.std.proofs.Common.{Some, drop, ap, refl, ◌∙◌}
use Rattle.std.proofs.KnownBytes.{Keeps-refl}
use Rattle.large_script.specs.Script.{script_of}
use Rattle.session_top.proofs.GeneratedLines.{not_risen, result_done, result_stops}
use Rattle.session_top.proofs.Whole.{consumed_whole, nothing_done}
use Rattle.session_top.proofs.generated.do_generated.Goals as goal

pub returns-in-Err-clause-stops : goal.returns-in-Err-clause-stops
returns-in-Err-clause-stops g c = nothing_done _ _ _ _ (script_of c.args.seed) (consumed_whole (script_of c.args.seed)) (Keeps-refl _)

pub returns-clause-done : goal.returns-clause-done
returns-clause-done g c =
    result_done (script_of c.args.seed) (drop c.do_lines.new.source.at c.do_lines.new.source.bytes.items) _ _ _ c.do_lines.result
    (c.new-source.ensures.left ∙ ap Some c.in-Ok.ensures) c.do_lines.ensures.done

pub returns-clause-read : goal.returns-clause-read
returns-clause-read g c fault = not_risen (c.do_lines.ensures.read fault)

pub returns-clause-stops : goal.returns-clause-stops
returns-clause-stops g c =
    result_stops (script_of c.args.seed) (drop c.do_lines.new.source.at c.do_lines.new.source.bytes.items) _ _ _ _ c.do_lines.result
    (c.new-source.ensures.left ∙ ap Some c.in-Ok.ensures) c.do_lines.ensures.stops (λ fault. not_risen (c.do_lines.ensures.read fault))

pub returns-in-Err-clause-begun : goal.returns-in-Err-clause-begun
returns-in-Err-clause-begun g c zero = refl

pub returns-clause-begun : goal.returns-clause-begun
returns-clause-begun g c zero = (c.do_lines.ensures.begun zero).1
