use Rattle.script_forms.specs.Written.{polynomial_word, preimage_word}
use Rattle.script_forms.proofs.LetLines.{operands_read}
use Rattle.script_forms.proofs.operands.read_operation.Goals as goal

pub returns-in-Some-by_polynomial_of : goal.returns-in-Some-by_polynomial_of
returns-in-Some-by_polynomial_of c =
    let says = c.in-Some-by_polynomial_of.ensures.found in
    operands_read c.args.line.now (polynomial_word c.in-Some-by_polynomial_of.by) c.args.tokens.now c.in-Some.behind.now c.in-Some.word.now c.polynomial_operands.result says.0 says.1 c.in-Some.ensures.cases.0 c.polynomial_operands.ensures

pub returns-then-is_word-3 : goal.returns-then-is_word-3
returns-then-is_word-3 c =
    let says = c.is_word-3.ensures.name.0 c.if-is_word-3.true in
    operands_read c.args.line.now preimage_word c.args.tokens.now c.in-Some.behind.now c.in-Some.word.now c.preimage_operands.result says.0 says.1 c.in-Some.ensures.cases.0 c.preimage_operands.ensures
