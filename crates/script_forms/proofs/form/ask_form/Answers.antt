use Rattle.std.proofs.Common.{map}
use Rattle.poly_grammar.specs.Lexemes.{lexeme}
use Rattle.script_forms.proofs.Lines.{ask_read}
use Rattle.script_forms.proofs.Pieces.{none_left}
use Rattle.script_forms.proofs.form.ask_form.Goals as goal

pub returns : goal.returns
returns c = λ line.
    ask_read line (map lexeme c.args.tokens.now) (map lexeme c.in-Some.behind.now) c.in-Some.value c.in-Some.ensures.found c.args.question c.new.result
    (none_left c.in-Some.behind.now c.is_empty.result c.is_empty.ensures c.if-not-is_empty.false) c.new.ensures.items
