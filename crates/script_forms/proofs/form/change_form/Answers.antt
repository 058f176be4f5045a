use Rattle.std.proofs.Common.{map}
use Rattle.poly_grammar.specs.Lexemes.{lexeme}
use Rattle.script_forms.proofs.Lines.{change_read}
use Rattle.script_forms.proofs.form.change_form.Goals as goal

pub returns : goal.returns
returns c =
    change_read c.args.line.now (map lexeme c.args.tokens.now) (map lexeme c.in-Some.behind.now) c.in-Some.value c.in-Some.ensures.found c.in-Some-read_order.order c.new.result
    c.in-Some-read_order.ensures.found c.new.ensures.items
