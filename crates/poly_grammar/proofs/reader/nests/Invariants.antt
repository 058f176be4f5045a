use Rattle.std.proofs.Common.{◌≡◌, ◌≤◌, map, drop}
use Rattle.poly_grammar.specs.Lexemes.{lexeme}
use Rattle.poly_grammar.specs.Reading.{nests}
use Rattle.poly_grammar.proofs.reader.nests.Given as goal

abbrev pub invariant-loop-token : goal.invariant-loop-token
invariant-loop-token l = record {
  few : l.depth ≤ 64;
  so_far : nests l.depth (map lexeme (drop l.token-index l.tokens)) ≡ nests 0 (map lexeme l.tokens);
}
