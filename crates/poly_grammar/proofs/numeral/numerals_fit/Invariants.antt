use Rattle.std.proofs.Common.{take}
use Rattle.std.specs.List.{AllByRecursion}
use Rattle.poly_grammar.specs.Numerals.{NumeralFits}
use Rattle.poly_grammar.proofs.numeral.numerals_fit.Given as goal

abbrev pub invariant-loop-token : goal.invariant-loop-token
invariant-loop-token l = AllByRecursion (NumeralFits l.line) (take l.token-index l.tokens)
