use Rattle.std.proofs.Common.{map, sym, ◌∙◌}
use Rattle.poly_grammar.specs.Lexemes.{lexeme}
use Rattle.poly_grammar.proofs.Whole.{is_poly, too_deep}
use Rattle.poly_grammar.proofs.reader.read_polynomial.Goals as goal

pub returns : goal.returns
returns c = is_poly (map lexeme c.args.tokens.now) c.any_depth.result (sym c.nests.ensures ∙ c.if-not-nests.false) c.any_depth.ensures

pub returns-then-not-nests : goal.returns-then-not-nests
returns-then-not-nests c = too_deep (map lexeme c.args.tokens.now) (sym c.nests.ensures ∙ c.if-not-nests.true)
