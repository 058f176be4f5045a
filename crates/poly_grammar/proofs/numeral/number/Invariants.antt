use Rattle.std.proofs.Common.{◌≡◌, drop}
use Rattle.poly_grammar.specs.Numerals.{number_from, number_of}
use Rattle.poly_grammar.proofs.numeral.number.Given as goal

abbrev pub invariant-loop-digit : goal.invariant-loop-digit
invariant-loop-digit l = number_from l.value (drop l.digit-index l.digits) ≡ number_of l.digits
