-- What the code holds of a line as it is written, and what its parsers give
use Rattle.std.specs.Prelude.{Bool, Err, List, None, Ok, Option, Result, Some, Vec, [], drop, false, flat_map, if◌then◌else◌, length, map, nat_eq, option_and_then, take, true, ⊤, ℕ, ◌+◌, ◌++◌, ◌∷◌, ◌≡◌}
use Rattle.std.specs.Global.{Global}
use Rattle.std.specs.List.{AllByRecursion}
use Rattle.script_tokens.specs.declared.token.Token.{Token}
use Rattle.poly_grammar.specs.Lexemes.{Lexeme, close_bracket, closed, comma, lexeme, name, number, open_bracket}
use Rattle.poly_grammar.specs.Steps.{steps}
use Rattle.poly_grammar.specs.Trees.{Poly, Reads}
use Rattle.poly_grammar.specs.declared.step.PolyStep.{PolyStep}
use Rattle.poly_grammar.specs.declared.stop.ReadStop.{ReadStop}
use Rattle.poly_grammar.specs.declared.stop.ReadStop.TheVariants.{Memory, Syntax}
use Rattle.script_forms.specs.RingForms.{ring_line_of}
use Rattle.script_forms.specs.Written.{AreVectorEntries, AreOperands, AreVectors, IsBehind, IsExpressLine, IsOperation, IsWritten, OperationWord, Word, Written, WrittenOperation, ask_line, change_line, divide_line, elimination, equal_line, express_line, ext_line, ideal_line, let_line, module_line, nothing, of_polynomial, of_two, operation_polys, operation_word, polys_of, preimage, ring_line, show_line, syzygies, word_of}
use Rattle.script_forms.specs.declared.form.Form.{Form}
use Rattle.script_forms.specs.declared.form.Form.TheVariants as forms
use Rattle.script_forms.specs.declared.form.Head.{Head}
use Rattle.script_forms.specs.declared.form.Head.TheVariants as heads
use Rattle.script_forms.specs.declared.operands.Operands.{Operands}
use Rattle.script_forms.specs.declared.operands.Operands.TheVariants as shapes
use Rattle.script_forms.specs.declared.vectors.Shape.{Shape}
use Rattle.script_forms.specs.declared.vectors.Shape.TheVariants.{Each, Empty, Mixed}

-- an operation without its POLYs
abbrev pub operands_of : WrittenOperation → Operands
operands_of (of_two word left right) = shapes.Two word left right
operands_of (of_polynomial word value p) = shapes.Polynomial word value
operands_of (elimination value count) = shapes.Eliminate value count
operands_of (syzygies value) = shapes.Syzygies value
operands_of (preimage value images) = shapes.Preimage value

-- the shape of a list with one vector more, which has so many entries
abbrev pub further : Shape → ℕ → Shape
further Empty n = Each n
further (Each m) n = if nat_eq m n then Each m else Mixed
further Mixed n = Mixed

-- the shape of VECs behind a list that has this one
abbrev pub shape_behind : Shape → List (List Poly) → Shape
shape_behind shape [] = shape
shape_behind shape (es ∷ more) = shape_behind (further shape (length es)) more

-- the word and the names of a line that needs a ring
abbrev pub head_of : Written → Option Head
head_of (show_line p) = Some heads.Show
head_of (ideal_line given ps) = Some (heads.Ideal given)
head_of (module_line given rank vectors) = Some (heads.Module given rank (shape_behind Empty vectors))
head_of (let_line given operation) = Some (heads.Let given (operands_of operation))
head_of (ask_line question value) = Some (heads.Ask question value)
head_of (divide_line division value entries) = Some (heads.Divide division value)
head_of (equal_line left right) = Some (heads.Equal left right)
head_of (change_line value order) = Some (heads.Change value order)
head_of (express_line p images) = Some heads.Express
head_of (ext_line value count) = Some (heads.Ext value count)
head_of _ = None

-- the line has this head, and these are the steps of its POLYs
pub record IsLineOf (head : Head) (pieces : List (Vec PolyStep Global)) (w : Written) : Type 0 where
  pub head_is : head_of w ≡ Some head
  pub steps_are : map (λ v. v.items) pieces ≡ map steps (polys_of w)

-- what the code holds of a line
abbrev pub IsFormOf : Form → Written → Type 0
IsFormOf forms.Nothing nothing = Unit {0}
IsFormOf (forms.Ring form) (ring_line r) = ring_line_of form ≡ r
IsFormOf (forms.Line head pieces) w = IsLineOf head pieces.items w
IsFormOf _ _ = ⊥

-- a parser of what stands behind a word gives what is written so, and refuses what is not
abbrev pub IsReadBehind : Word → List ℕ → List Lexeme → Result Form ReadStop → Type 0
IsReadBehind word line xs (Ok form) = (w : Written) × (word_of w ≡ Some word) × IsBehind line xs w × IsFormOf form w
IsReadBehind word line xs (Err Memory) = Unit {0}
IsReadBehind word line xs (Err Syntax) = (w : Written) → word_of w ≡ Some word → IsBehind line xs w → ⊥

-- a parser of a line gives what is written so, and refuses what is not
abbrev pub IsRead : List ℕ → List Lexeme → Result Form ReadStop → Type 0
IsRead line xs (Ok form) = (w : Written) × IsWritten line xs w × IsFormOf form w
IsRead line xs (Err Memory) = Unit {0}
IsRead line xs (Err Syntax) = (w : Written) → IsWritten line xs w → ⊥

-- what is read are such POLYs, by their steps, and what is refused are none
abbrev pub AreReadAs : (List Poly → Type 0) → Result (Vec (Vec PolyStep Global) Global) ReadStop → Type 0
AreReadAs Are (Ok found) = (ps : List Poly) × Are ps × (map (λ v. v.items) found.items ≡ map steps ps)
AreReadAs Are (Err Memory) = Unit {0}
AreReadAs Are (Err Syntax) = (ps : List Poly) → Are ps → ⊥

-- the POLY that the lexemes are is put behind those found before
abbrev pub IsPolynomialPut : List Lexeme → List (Vec PolyStep Global) → List (Vec PolyStep Global) → Result ⊤ ReadStop → Type 0
IsPolynomialPut xs old new (Ok _) = (p : Poly) × Reads xs p × (map (λ v. v.items) new ≡ map (λ v. v.items) old ++ steps p ∷ [])
IsPolynomialPut xs old new (Err Memory) = Unit {0}
IsPolynomialPut xs old new (Err Syntax) = (p : Poly) → Reads xs p → ⊥

-- the lexeme is no comma
abbrev pub IsNoComma : Lexeme → Type 0
IsNoComma comma = ⊥
IsNoComma _ = Unit {0}

-- no lexeme is a comma
abbrev pub HasNoComma : List Lexeme → Type 0
HasNoComma xs = AllByRecursion IsNoComma xs

-- a comma stands at this place, and none before it
pub record IsAtComma (tokens : List Token) (at : ℕ) : Type 0 where
  pub before : HasNoComma (map lexeme (take at tokens))
  pub cut : map lexeme (drop at tokens) ≡ comma ∷ map lexeme (drop (at + 1) tokens)

-- a state behind lexemes, by what each makes of it; none behind one that has no place
abbrev pub state_behind : (Bool → Lexeme → Option Bool) → Bool → List Lexeme → Option Bool
state_behind step state [] = Some state
state_behind step state (x ∷ xs) = option_and_then (λ s. state_behind step s xs) (step state x)

-- whether square brackets are open behind the lexeme, by whether they are before it; none at a comma outside them
abbrev pub bracketed : Bool → Lexeme → Option Bool
bracketed inside open_bracket = Some true
bracketed inside close_bracket = Some false
bracketed false comma = None
bracketed inside _ = Some inside

-- the same behind several
abbrev pub bracketed_behind : Bool → List Lexeme → Option Bool
bracketed_behind inside xs = state_behind bracketed inside xs

-- a comma outside square brackets stands at this place, and none before it
pub record IsAtOuterComma (tokens : List Token) (at : ℕ) : Type 0 where
  pub before : bracketed_behind false (map lexeme (take at tokens)) ≡ Some false
  pub cut : map lexeme (drop at tokens) ≡ comma ∷ map lexeme (drop (at + 1) tokens)

-- the entries of the VEC that the lexemes are are put behind those found before, and they are so many
abbrev pub IsVectorPushed : List Lexeme → List (Vec PolyStep Global) → List (Vec PolyStep Global) → Result ℕ ReadStop → Type 0
IsVectorPushed xs old new (Ok count) = (ps : List Poly) × AreVectorEntries xs ps × (map (λ v. v.items) new ≡ map (λ v. v.items) old ++ map steps ps) × (count ≡ length ps)
IsVectorPushed xs old new (Err Memory) = Unit {0}
IsVectorPushed xs old new (Err Syntax) = (ps : List Poly) → AreVectorEntries xs ps → ⊥

-- what is read are VECs, by the steps of their entries and their shape, and what is refused are none
abbrev pub AreVectorsRead : List Lexeme → Result (Vec (Vec PolyStep Global) Global × Shape) ReadStop → Type 0
AreVectorsRead xs (Ok found) =
    (vectors : List (List Poly)) × AreVectors xs vectors × (map (λ v. v.items) found.0.items ≡ map steps (flat_map (λ es. es) vectors)) × (found.1 ≡ shape_behind Empty vectors)
AreVectorsRead xs (Err Memory) = Unit {0}
AreVectorsRead xs (Err Syntax) = (vectors : List (List Poly)) → AreVectors xs vectors → ⊥

-- whether an atom of a POLY ends with the lexeme, by whether one ends before it; none at a NAME directly behind an atom, which
-- stands in no POLY
abbrev pub ends_atom : Bool → Lexeme → Option Bool
ends_atom true (name t) = None
ends_atom false (name t) = Some true
ends_atom atom (number t) = Some true
ends_atom atom closed = Some true
ends_atom atom _ = Some false

-- the same behind several
abbrev pub ended_behind : Bool → List Lexeme → Option Bool
ended_behind atom xs = state_behind ends_atom atom xs

-- a NAME stands at this place directly behind an atom, and none does before it
pub record IsBehindAtom (tokens : List Token) (at : ℕ) : Type 0 where
  pub before : ended_behind false (map lexeme (take at tokens)) ≡ Some true
  pub word : Token
  pub cut : map lexeme (drop at tokens) ≡ name word ∷ map lexeme (drop (at + 1) tokens)

-- POLY by POLY {, POLY}, as one list
abbrev pub AreExpressed : List ℕ → List Lexeme → List Poly → Type 0
AreExpressed line xs [] = ⊥
AreExpressed line xs (p ∷ images) = IsExpressLine line xs p images

-- what is read behind the word of an operation is one, without its POLYs and by the steps of those, and what is refused is none
abbrev pub AreOperandsRead : OperationWord → List Lexeme → Result (Operands × Vec (Vec PolyStep Global) Global) ReadStop → Type 0
AreOperandsRead word xs (Ok found) =
    (operation : WrittenOperation) × (operation_word operation ≡ word) × AreOperands xs operation × (operands_of operation ≡ found.0) × (map (λ v. v.items) found.1.items ≡ map steps (operation_polys operation))
AreOperandsRead word xs (Err Memory) = Unit {0}
AreOperandsRead word xs (Err Syntax) = (operation : WrittenOperation) → operation_word operation ≡ word → AreOperands xs operation → ⊥

-- the same with its word
abbrev pub IsOperationRead : List ℕ → List Lexeme → Result (Operands × Vec (Vec PolyStep Global) Global) ReadStop → Type 0
IsOperationRead line xs (Ok found) =
    (operation : WrittenOperation) × IsOperation line xs operation × (operands_of operation ≡ found.0) × (map (λ v. v.items) found.1.items ≡ map steps (operation_polys operation))
IsOperationRead line xs (Err Memory) = Unit {0}
IsOperationRead line xs (Err Syntax) = (operation : WrittenOperation) → IsOperation line xs operation → ⊥
