use Rattle.poly_grammar.proofs.Names.{steps_have_names}
use Rattle.poly_grammar.proofs.NumbersOfSteps.{steps_have_numbers}
use Rattle.poly_grammar.proofs.grammar_laws.tokens_of_steps.Goals as goal

pub returns-clause-names : goal.returns-clause-names
returns-clause-names c = steps_have_names

pub returns-clause-numbers : goal.returns-clause-numbers
returns-clause-numbers c = steps_have_numbers
