-- What is answered to a line
use Rattle.std.specs.Prelude.{Err, List, Ok, Option, Result, ℕ}
use Rattle.term_lists.specs.declared.ring.Ring.{Ring}
use Rattle.script_parse.specs.Refusals.{Refuses}
use Rattle.script_parse.specs.Statements.{States}
use Rattle.script_parse.specs.declared.kind.ParseStop.{ParseStop}
use Rattle.script_parse.specs.declared.kind.ParseStop.TheVariants.{Memory, Refused}
use Rattle.script_parse.specs.declared.named.NameInfo.{NameInfo}
use Rattle.script_parse.specs.declared.stated.Statement.{Statement}

-- a statement is what the line states, a refusal is for the first kind that holds, and memory may be wanting
abbrev pub AnswersLine : Option Ring → List NameInfo → List ℕ → Result Statement ParseStop → Type 0
AnswersLine ring names line (Ok statement) = States ring names line statement
AnswersLine ring names line (Err Memory) = Unit {0}
AnswersLine ring names line (Err (Refused kind)) = Refuses ring names line kind
