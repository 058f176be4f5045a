use Rattle.std.proofs.Common.{◌≡◌, map, take}
use Rattle.std.specs.Prelude.{string_bytes}
use Rattle.std.specs.Str.Lossy.{utf8_lossy}
use Rattle.poly_grammar.specs.Numerals.{text_of}
use Rattle.script_parse.proofs.ring_line.names_of.Given as goal

abbrev pub invariant-loop-token : goal.invariant-loop-token
invariant-loop-token l = map string_bytes l.names.items ≡ map (λ t. utf8_lossy (text_of l.line t)) (take l.token-index l.tokens)
