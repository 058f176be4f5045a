use Rattle.std.proofs.Common.{map}
use Rattle.poly_grammar.specs.Lexemes.{lexeme}
use Rattle.script_forms.proofs.Lines.{equal_read}
use Rattle.script_forms.proofs.Pieces.{none_left}
use Rattle.script_forms.proofs.form.equal_form.Goals as goal

pub returns : goal.returns
returns c = λ line.
    equal_read line (map lexeme c.args.tokens.now) (map lexeme c.in-Some.behind.now) c.in-Some.left c.in-Some.ensures.found c.in-Some-name_first.right (map lexeme c.in-Some-name_first.rest.now) c.new.result
    c.in-Some-name_first.ensures.found (none_left c.in-Some-name_first.rest.now c.is_empty.result c.is_empty.ensures c.if-not-is_empty.false) c.new.ensures.items
