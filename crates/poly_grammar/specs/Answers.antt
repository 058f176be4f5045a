-- What is answered to the lexemes of a POLY
use Rattle.std.specs.Prelude.{Err, List, Ok, Result, Vec, ◌≡◌}
use Rattle.std.specs.Global.{Global}
use Rattle.poly_grammar.specs.Lexemes.{Lexeme}
use Rattle.poly_grammar.specs.Steps.{steps}
use Rattle.poly_grammar.specs.Trees.{Poly, Reads}
use Rattle.poly_grammar.specs.declared.step.PolyStep.{PolyStep}
use Rattle.poly_grammar.specs.declared.stop.ReadStop.{ReadStop}
use Rattle.poly_grammar.specs.declared.stop.ReadStop.TheVariants.{Memory, Syntax}

-- what is read is a POLY, by its steps, and what is refused is none
abbrev pub IsPolyOf : List Lexeme → Result (Vec PolyStep Global) ReadStop → Type 0
IsPolyOf xs (Ok found) = (p : Poly) × Reads xs p × (found.items ≡ steps p)
IsPolyOf xs (Err Memory) = Unit {0}
IsPolyOf xs (Err Syntax) = (p : Poly) → Reads xs p → ⊥
