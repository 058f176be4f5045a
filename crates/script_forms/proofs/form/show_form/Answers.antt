use Rattle.std.proofs.Common.{map}
use Rattle.poly_grammar.specs.Lexemes.{lexeme}
use Rattle.script_forms.specs.Written.{IsOnePoly, show_word}
use Rattle.script_forms.specs.declared.form.Head.TheVariants as heads
use Rattle.script_forms.proofs.Lines.{line_none, line_read, show_made, show_split}
use Rattle.script_forms.proofs.form.show_form.Goals as goal

pub returns-in-Ok : goal.returns-in-Ok
returns-in-Ok c = λ line. let xs = map lexeme c.args.tokens.now in line_read show_word line xs heads.Show (IsOnePoly xs) c.in-Ok.found (show_made line xs) c.in-Ok.ensures

pub returns-in-Err : goal.returns-in-Err
returns-in-Err c = λ line. let xs = map lexeme c.args.tokens.now in line_none show_word line xs (IsOnePoly xs) c.in-Err.stop (show_split line xs) c.in-Err.ensures
