use Rattle.std.proofs.Common.{map}
use Rattle.poly_grammar.specs.Lexemes.{lexeme}
use Rattle.script_forms.proofs.LetLines.{elimination_read}
use Rattle.script_forms.proofs.Pieces.{none_left}
use Rattle.script_forms.proofs.operands.elimination_operands.Goals as goal

pub returns : goal.returns
returns c =
    elimination_read (map lexeme c.args.tokens.now) (map lexeme c.in-Some.behind.now) c.in-Some.value c.in-Some.ensures.found c.in-Some-number_first.count (map lexeme c.in-Some-number_first.rest.now) c.new.result
    c.in-Some-number_first.ensures.found (none_left c.in-Some-number_first.rest.now c.is_empty.result c.is_empty.ensures c.if-not-is_empty.false) c.new.ensures.items
