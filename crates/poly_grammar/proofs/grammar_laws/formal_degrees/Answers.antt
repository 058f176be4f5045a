use Rattle.poly_grammar.proofs.Degrees as laws
use Rattle.poly_grammar.proofs.grammar_laws.formal_degrees.Goals as goal

pub returns : goal.returns
returns c = laws.degree_is_small
