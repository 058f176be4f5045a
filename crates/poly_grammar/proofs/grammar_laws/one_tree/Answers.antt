use Rattle.poly_grammar.proofs.Unique as laws
use Rattle.poly_grammar.proofs.grammar_laws.one_tree.Goals as goal

pub returns : goal.returns
returns c = laws.one_tree
