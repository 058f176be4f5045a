use Rattle.std.proofs.Common.{ap, map, ◌∙◌}
use Rattle.std.proofs.lemmas.List.{take_all}
use Rattle.std.specs.Prelude.{string_bytes}
use Rattle.std.specs.Str.Lossy.{utf8_lossy}
use Rattle.poly_grammar.specs.Numerals.{text_of}
use Rattle.script_parse.proofs.RingNumbers.{one_more_name}
use Rattle.script_parse.proofs.ring_line.names_of.Goals as goal

pub loop-token-init : goal.loop-token-init
loop-token-init c = ap (map string_bytes) c.in_ok-names.ensures.items

pub loop-token-preserved : goal.loop-token-preserved
loop-token-preserved c =
    one_more_name (λ t. utf8_lossy (text_of c.args.line.now t)) c.args.tokens.now c.loop-token.token-index _ c.loop-token.names.items c.push.new.self.items
    c.in_ok-from_utf8_lossy.field-0
    c.loop-token-test.true c.in_ok-push.ensures.items (c.in_ok-from_utf8_lossy.ensures.lossy ∙ ap utf8_lossy c.text.ensures) c.loop-token.invariant

pub returns : goal.returns
returns c =
    c.from_vec.ensures ∙ c.loop-token.invariant ∙ ap (map (λ t. utf8_lossy (text_of c.args.line.now t)))
    (take_all c.loop-token.token-index c.args.tokens.now c.loop-token-test.false)
