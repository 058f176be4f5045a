-- How a POLY is read lexeme by lexeme: what waits for its second operand is written behind it
use Rattle.std.specs.Prelude.{Bool, true, false, ℕ, ◌+◌, ◌-◌, nat_lt, if◌then◌else◌, List, [], ◌∷◌, ◌++◌, Option, Some, None, option_and_then}
use Rattle.poly_grammar.specs.declared.reader.Phase.{Phase}
use Rattle.poly_grammar.specs.declared.reader.Phase.TheVariants.{Start, Operand, Base, Exponent, Factor}
use Rattle.poly_grammar.specs.declared.reader.Sum.{Sum}
use Rattle.poly_grammar.specs.declared.reader.Sum.TheVariants as sums
use Rattle.poly_grammar.specs.declared.reader.Pending.{Pending}
use Rattle.poly_grammar.specs.Lexemes.{Lexeme, caret, closed, minus, name, number, opened, plus, star}
use Rattle.poly_grammar.specs.declared.step.PolyStep.{PolyStep}
use Rattle.poly_grammar.specs.declared.step.PolyStep.TheVariants as steps

pub record ParserState : Type 0 where
  pub phase : Phase
  pub pending : Pending
  pub outer : List Pending
  pub done : List PolyStep

abbrev pub after_sum : Sum → List PolyStep
after_sum sums.Nothing = []
after_sum sums.Negation = steps.Negate ∷ []
after_sum sums.Addition = steps.Add ∷ []
after_sum sums.Subtraction = steps.Subtract ∷ []

abbrev pub after_product : Bool → List PolyStep
after_product true = steps.Multiply ∷ []
after_product false = []

abbrev pub fresh : Sum → Pending
fresh sum = record { sum = sum; product = false }

-- the state with its factor ended, and with its term ended
abbrev pub with_factor : ParserState → List PolyStep
with_factor s = s.done ++ after_product s.pending.product

abbrev pub with_term : ParserState → List PolyStep
with_term s = with_factor s ++ after_sum s.pending.sum

abbrev pub at_operand : ParserState → Lexeme → Option ParserState
at_operand s (number token) = Some (record s { phase = Base; done = s.done ++ steps.Number token ∷ [] })
at_operand s (name token) = Some (record s { phase = Base; done = s.done ++ steps.Name token ∷ [] })
at_operand s opened = Some (record { phase = Start; pending = fresh sums.Nothing; outer = s.pending ∷ s.outer; done = s.done })
at_operand s _ = None

abbrev pub at_start : ParserState → Lexeme → Option ParserState
at_start s plus = Some (record s { phase = Operand })
at_start s minus = Some (record s { phase = Operand; pending = fresh sums.Negation })
at_start s x = at_operand s x

abbrev pub closing : ParserState → List Pending → Option ParserState
closing s [] = None
closing s (pending ∷ outer) = Some (record { phase = Base; pending = pending; outer = outer; done = with_term s })

abbrev pub after_factor : ParserState → Lexeme → Option ParserState
after_factor s star = Some (record s { phase = Operand; pending = record { sum = s.pending.sum; product = true }; done = with_factor s })
after_factor s plus = Some (record s { phase = Operand; pending = fresh sums.Addition; done = with_term s })
after_factor s minus = Some (record s { phase = Operand; pending = fresh sums.Subtraction; done = with_term s })
after_factor s closed = closing s s.outer
after_factor s _ = None

abbrev pub after_base : ParserState → Lexeme → Option ParserState
after_base s caret = Some (record s { phase = Exponent })
after_base s x = after_factor s x

abbrev pub at_exponent : ParserState → Lexeme → Option ParserState
at_exponent s (number token) = Some (record s { phase = Factor; done = s.done ++ steps.Power token ∷ [] })
at_exponent s _ = None

-- the state after a lexeme, where it may stand there
abbrev pub next_in : Phase → ParserState → Lexeme → Option ParserState
next_in Start s x = at_start s x
next_in Operand s x = at_operand s x
next_in Base s x = after_base s x
next_in Exponent s x = at_exponent s x
next_in Factor s x = after_factor s x

abbrev pub next : ParserState → Lexeme → Option ParserState
next s x = next_in s.phase s x

abbrev pub ended_in : ParserState → List Pending → Option (List PolyStep)
ended_in s [] = Some (with_term s)
ended_in s (_ ∷ _) = None

abbrev pub ended_at : Phase → ParserState → Option (List PolyStep)
ended_at Base s = ended_in s s.outer
ended_at Factor s = ended_in s s.outer
ended_at _ s = None

abbrev pub ended : ParserState → Option (List PolyStep)
ended s = ended_at s.phase s

abbrev pub outcome : List Lexeme → ParserState → Option (List PolyStep)
outcome [] s = ended s
outcome (x ∷ xs) s = option_and_then (outcome xs) (next s x)

abbrev pub start_state : ParserState
start_state = record { phase = Start; pending = fresh sums.Nothing; outer = []; done = [] }

-- with so many parentheses open before, no more than 64 are ever open
abbrev pub nests : ℕ → List Lexeme → Bool
nests depth [] = true
nests depth (opened ∷ more) = if nat_lt depth 64 then nests (depth + 1) more else false
nests depth (closed ∷ more) = nests (depth - 1) more
nests depth (_ ∷ more) = nests depth more
