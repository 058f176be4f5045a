use Rattle.std.proofs.Common.{arith}
use Rattle.poly_grammar.proofs.Numbers.{too_large}
use Rattle.poly_grammar.proofs.numeral.number.Goals as goal

pub returns-in_default : goal.returns-in_default
returns-in_default c = too_large c.args.digits.now c.loop-digit.digit-index c.loop-digit.value _ c.loop-digit-test.true c.loop-digit.invariant (omega (arith, c.in_default.ensures))

pub returns-in_default-checked_add : goal.returns-in_default-checked_add
returns-in_default-checked_add c = too_large c.args.digits.now c.loop-digit.digit-index c.loop-digit.value _ c.loop-digit-test.true c.loop-digit.invariant (omega (arith, c.in_default-checked_add.ensures, c.in-Some.ensures, c.saturating_sub.ensures, c.from-low.ensures))
