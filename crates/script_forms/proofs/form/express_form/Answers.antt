use Rattle.std.proofs.Common.{map}
use Rattle.poly_grammar.specs.Lexemes.{lexeme}
use Rattle.script_forms.specs.Forms.{AreExpressed}
use Rattle.script_forms.specs.Written.{express_word}
use Rattle.script_forms.specs.declared.form.Head.TheVariants as heads
use Rattle.script_forms.proofs.Lines.{express_made, express_split, line_none, line_read}
use Rattle.script_forms.proofs.form.express_form.Goals as goal

pub returns-in-Ok : goal.returns-in-Ok
returns-in-Ok c =
    let line = c.args.line.now in
    let xs = map lexeme c.args.tokens.now in
    line_read express_word line xs heads.Express (AreExpressed line xs) c.in-Ok.found (express_made line xs) c.in-Ok.ensures

pub returns-in-Err : goal.returns-in-Err
returns-in-Err c =
    let line = c.args.line.now in
    let xs = map lexeme c.args.tokens.now in
    line_none express_word line xs (AreExpressed line xs) c.in-Err.stop (express_split line xs) c.in-Err.ensures
