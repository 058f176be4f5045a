use Rattle.std.proofs.Common.{◌≡◌, Some, false, map, take}
use Rattle.poly_grammar.specs.Lexemes.{lexeme}
use Rattle.script_forms.specs.Forms.{bracketed_behind}
use Rattle.script_forms.proofs.vectors.outer_comma.Given as goal

abbrev pub invariant-loop-at : goal.invariant-loop-at
invariant-loop-at l = bracketed_behind false (map lexeme (take l.at l.tokens)) ≡ Some l.inside
