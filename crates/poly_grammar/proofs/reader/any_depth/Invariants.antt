use Rattle.std.proofs.Common.{◌≡◌, map, drop}
use Rattle.poly_grammar.specs.Lexemes.{lexeme}
use Rattle.poly_grammar.specs.Reading.{outcome, start_state}
use Rattle.poly_grammar.specs.Machine.{reader_state}
use Rattle.poly_grammar.proofs.reader.any_depth.Given as goal

abbrev pub invariant-loop-token : goal.invariant-loop-token
invariant-loop-token l = outcome (map lexeme (drop l.token-index l.tokens)) (reader_state l.reader) ≡ outcome (map lexeme l.tokens) start_state
