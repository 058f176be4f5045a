use Rattle.std.proofs.Common.{◌≡◌, drop, reverse}
use Rattle.poly_grammar.specs.Algebras.{◌>>=◌, stack_top, worth_of_steps, worths}
use Rattle.poly_grammar.specs.Degrees.{degrees}
use Rattle.poly_grammar.specs.Numerals.{numeral_value, text_of}
use Rattle.poly_grammar.proofs.degree.degree_left.Given as goal

abbrev pub invariant-loop-step : goal.invariant-loop-step
invariant-loop-step g l =
    let by_weight = degrees (λ t. g.N.NameWeights.weight l.names (text_of l.line t)) (numeral_value l.line) in
    (worths by_weight (drop l.step-index l.steps) (reverse l.stack.items) >>= stack_top) ≡ worth_of_steps by_weight l.steps
