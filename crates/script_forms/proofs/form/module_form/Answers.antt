use Rattle.std.proofs.Common.{map}
use Rattle.poly_grammar.specs.Lexemes.{lexeme}
use Rattle.script_forms.proofs.Lines.{module_none, module_read}
use Rattle.script_forms.proofs.form.module_form.Goals as goal

pub returns-in-Ok : goal.returns-in-Ok
returns-in-Ok c = λ line.
    module_read line (map lexeme c.args.tokens.now) (map lexeme c.in-Some.behind.now) c.in-Some.given c.in-Some.ensures.found c.in-Some-number_first.rank (map lexeme c.in-Some-number_first.after.now)
    (map lexeme c.in-Some-behind_equals.rest.now) c.in-Ok.found c.in-Some-number_first.ensures.found c.in-Some-behind_equals.ensures.found c.in-Ok.ensures

pub returns-in-Err : goal.returns-in-Err
returns-in-Err c = λ line.
    module_none line (map lexeme c.args.tokens.now) (map lexeme c.in-Some.behind.now) c.in-Some.given c.in-Some.ensures.found c.in-Some-number_first.rank (map lexeme c.in-Some-number_first.after.now)
    (map lexeme c.in-Some-behind_equals.rest.now) c.in-Err.stop c.in-Some-number_first.ensures.found c.in-Some-behind_equals.ensures.found c.in-Err.ensures
