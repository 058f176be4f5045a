use Rattle.std.proofs.Common.{Ok, map, subst}
use Rattle.poly_grammar.specs.Lexemes.{lexeme}
use Rattle.script_forms.specs.Forms.{IsPolynomialPut}
use Rattle.script_forms.proofs.Pieces.{pushed_one}
use Rattle.script_forms.proofs.polynomials.one_polynomial.Goals as goal

pub returns-in-Ok : goal.returns-in-Ok
returns-in-Ok c = pushed_one (map lexeme c.args.tokens.now) c.push_polynomial.new.found (subst (λ l. IsPolynomialPut (map lexeme c.args.tokens.now) l c.push_polynomial.new.found.items (Ok tt)) c.new-found.ensures.items c.in-Ok.ensures)
