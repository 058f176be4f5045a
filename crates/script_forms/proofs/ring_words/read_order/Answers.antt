use Rattle.std.proofs.Common.{Some, ap, map, ◌∙◌}
use Rattle.poly_grammar.specs.Lexemes.{lexeme}
use Rattle.script_forms.proofs.Pieces.{none_left}
use Rattle.script_forms.proofs.RingLines.{order_found}
use Rattle.script_forms.proofs.ring_words.read_order.Goals as goal

pub returns-clause-found : goal.returns-clause-found
returns-clause-found c =
    order_found c.args.line.now (map lexeme c.args.tokens.now) c.in_ok-order.order
    (c.in_ok-order.ensures.found
    ∙ ap (λ l. Some (c.in_ok-order.order, l)) (none_left c.in_ok-order.rest.now c.is_empty.result c.is_empty.ensures c.if-not-is_empty.false))
