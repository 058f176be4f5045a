use Rattle.std.proofs.Common.{map}
use Rattle.poly_grammar.specs.Lexemes.{lexeme}
use Rattle.script_forms.proofs.Lines.{let_none, let_read}
use Rattle.script_forms.proofs.form.let_form.Goals as goal

pub returns-in-Ok : goal.returns-in-Ok
returns-in-Ok c = let_read c.args.line.now (map lexeme c.args.tokens.now) (map lexeme c.in-Some.behind.now) c.in-Some.given c.in-Some.ensures.found (map lexeme c.in-Some-behind_equals.rest.now) c.in-Ok.found c.in-Some-behind_equals.ensures.found c.in-Ok.ensures

pub returns-in-Err : goal.returns-in-Err
returns-in-Err c = let_none c.args.line.now (map lexeme c.args.tokens.now) (map lexeme c.in-Some.behind.now) c.in-Some.given c.in-Some.ensures.found (map lexeme c.in-Some-behind_equals.rest.now) c.in-Err.stop c.in-Some-behind_equals.ensures.found c.in-Err.ensures
