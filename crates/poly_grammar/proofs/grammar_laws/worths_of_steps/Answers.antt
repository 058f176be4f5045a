use Rattle.poly_grammar.proofs.Worths as laws
use Rattle.poly_grammar.proofs.grammar_laws.worths_of_steps.Goals as goal

pub returns : goal.returns
returns g c = λ a p. laws.worth_is_left a p
