use Rattle.std.proofs.Common.{◌≡◌, Some, false, map, take}
use Rattle.poly_grammar.specs.Lexemes.{lexeme}
use Rattle.script_forms.specs.Forms.{ended_behind}
use Rattle.script_forms.proofs.expressions.word_place.Given as goal

abbrev pub invariant-loop-at : goal.invariant-loop-at
invariant-loop-at l = ended_behind false (map lexeme (take l.at l.tokens)) ≡ Some l.atom
