use Rattle.std.proofs.Common.{map}
use Rattle.poly_grammar.specs.Lexemes.{lexeme}
use Rattle.script_forms.proofs.LetLines.{syzygies_read}
use Rattle.script_forms.proofs.Pieces.{none_left}
use Rattle.script_forms.proofs.operands.syzygies_operands.Goals as goal

pub returns : goal.returns
returns c =
    syzygies_read (map lexeme c.args.tokens.now) (map lexeme c.in-Some.rest.now) c.in-Some.value c.in-Some.ensures.found c.new.result
    (none_left c.in-Some.rest.now c.is_empty.result c.is_empty.ensures c.if-not-is_empty.false) c.new.ensures.items
