use Rattle.std.proofs.Common.{map}
use Rattle.poly_grammar.specs.Lexemes.{lexeme}
use Rattle.script_forms.specs.Written.{ArePolys, ideal_word}
use Rattle.script_forms.specs.declared.form.Head.TheVariants as heads
use Rattle.script_forms.proofs.Lines.{ideal_made, line_read}
use Rattle.script_forms.proofs.Pieces.{equals_first}
use Rattle.script_forms.proofs.form.ideal_form.Goals as goal

pub returns-in-Ok : goal.returns-in-Ok
returns-in-Ok c = λ line.
    let xs = map lexeme c.args.tokens.now in
    let behind = map lexeme c.in-Some.behind.now in
    let rest = map lexeme c.in-Some-split_first.rest.now in
    line_read ideal_word line xs (heads.Ideal c.in-Some.given) (ArePolys rest) c.in-Ok.found
    (ideal_made line xs behind c.in-Some.given c.in-Some.ensures.found rest (equals_first c.in-Some.behind.now c.in-Some-split_first.rest.now c.in-Some-split_first.sign.now c.in-Some-split_first.ensures.cases.0 c.in-Equals.is)) c.in-Ok.ensures
