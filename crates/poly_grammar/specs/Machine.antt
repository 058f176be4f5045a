-- What the reader's calls give
use Rattle.std.specs.Prelude.{Bool, Err, List, None, Ok, Option, Result, Some, false, max, reverse, true, ℕ, ◌∷◌, ◌≡◌}
use Rattle.poly_grammar.specs.Reading.{ParserState}
use Rattle.poly_grammar.specs.declared.reader.Reader.{Reader}
use Rattle.poly_grammar.specs.declared.stop.ReadStop.{ReadStop}
use Rattle.poly_grammar.specs.declared.stop.ReadStop.TheVariants.{Memory, Syntax}

-- what a reader has read
abbrev pub reader_state : Reader → ParserState
reader_state reader = record { phase = reader.phase; pending = reader.pending; outer = reverse reader.outer.items; done = reader.steps.items }

-- what a call returned is the answer, seen by view, unless memory ran out
abbrev pub Gives : {X Y : Type 0} → (X → Y) → Result X ReadStop → Option Y → Type 0
Gives view (Ok x) answer = answer ≡ Some (view x)
Gives view (Err Memory) answer = Unit {0}
Gives view (Err Syntax) answer = answer ≡ None

-- what a step left on a stack, the top last, if it was done
abbrev pub stack_left : Bool → List ℕ → Option (List ℕ)
stack_left true items = Some (reverse items)
stack_left false items = None

-- the two degrees on top replaced by the greater
abbrev pub greater : List ℕ → Option (List ℕ)
greater (e ∷ d ∷ stack) = Some (max d e ∷ stack)
greater _ = None
