use Rattle.std.proofs.Common.{map}
use Rattle.poly_grammar.specs.Lexemes.{lexeme}
use Rattle.script_forms.specs.Written.{AreVectorEntries, division_word}
use Rattle.script_forms.specs.declared.form.Head.TheVariants as heads
use Rattle.script_forms.proofs.Lines.{divide_made, divide_split, line_none, line_read}
use Rattle.script_forms.proofs.form.divide_form.Goals as goal

pub returns-in-Ok : goal.returns-in-Ok
returns-in-Ok c = λ line.
    let xs = map lexeme c.args.tokens.now in
    let rest = map lexeme c.in-Some.behind.now in
    line_read (division_word c.args.division) line xs (heads.Divide c.args.division c.in-Some.value) (AreVectorEntries rest) c.in-Ok.found (divide_made line xs rest c.in-Some.value c.in-Some.ensures.found c.args.division) c.in-Ok.ensures

pub returns-in-Err : goal.returns-in-Err
returns-in-Err c = λ line.
    let xs = map lexeme c.args.tokens.now in
    let rest = map lexeme c.in-Some.behind.now in
    line_none (division_word c.args.division) line xs (AreVectorEntries rest) c.in-Err.stop (divide_split line xs rest c.in-Some.value c.in-Some.ensures.found c.args.division) c.in-Err.ensures
