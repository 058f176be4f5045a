use Rattle.std.proofs.Common.{map}
use Rattle.poly_grammar.specs.Lexemes.{lexeme}
use Rattle.script_forms.proofs.LetLines.{two_read}
use Rattle.script_forms.proofs.Pieces.{none_left}
use Rattle.script_forms.proofs.operands.two_operands.Goals as goal

pub returns : goal.returns
returns c =
    two_read (map lexeme c.args.tokens.now) (map lexeme c.in-Some.behind.now) c.in-Some.left c.in-Some.ensures.found c.args.word c.in-Some-name_first.right (map lexeme c.in-Some-name_first.rest.now) c.new.result
    c.in-Some-name_first.ensures.found (none_left c.in-Some-name_first.rest.now c.is_empty.result c.is_empty.ensures c.if-not-is_empty.false) c.new.ensures.items
