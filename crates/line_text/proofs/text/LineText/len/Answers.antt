use Rattle.std.proofs.Common.{arith}
use Rattle.line_text.proofs.Runs.{length_spread}
use Rattle.line_text.proofs.text.LineText.len.Goals as goal

pub overflow_add-result : goal.overflow_add-result
overflow_add-result c = omega (arith, c.len.type_inv)

pub returns : goal.returns
returns c =
    let long = length_spread c.self.inside.bytes.items 0 c.self.inside.runs.items c.self.invariant.0 in
    let kept = c.self.invariant.1 in
    rw (← c.self.view_is) (omega (arith, long, kept, c.len.ensures, c.self.inside.bytes.ok.0))
