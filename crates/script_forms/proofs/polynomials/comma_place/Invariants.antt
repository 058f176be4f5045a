use Rattle.std.proofs.Common.{map, take}
use Rattle.poly_grammar.specs.Lexemes.{lexeme}
use Rattle.script_forms.specs.Forms.{HasNoComma}
use Rattle.script_forms.proofs.polynomials.comma_place.Given as goal

abbrev pub invariant-loop-at : goal.invariant-loop-at
invariant-loop-at l = HasNoComma (map lexeme (take l.at l.tokens))
