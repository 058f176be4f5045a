use Rattle.std.proofs.Common.{map}
use Rattle.poly_grammar.specs.Lexemes.{lexeme}
use Rattle.script_forms.proofs.LetLines.{polynomial_none, polynomial_read}
use Rattle.script_forms.proofs.operands.polynomial_operands.Goals as goal

pub returns-in-Ok : goal.returns-in-Ok
returns-in-Ok c = polynomial_read (map lexeme c.args.tokens.now) (map lexeme c.in-Some.behind.now) c.in-Some.value c.in-Some.ensures.found c.args.word c.in-Ok.found c.in-Ok.ensures

pub returns-in-Err : goal.returns-in-Err
returns-in-Err c = polynomial_none (map lexeme c.args.tokens.now) (map lexeme c.in-Some.behind.now) c.in-Some.value c.in-Some.ensures.found c.args.word c.in-Err.stop c.in-Err.ensures
