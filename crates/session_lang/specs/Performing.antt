-- What doing a statement says
use Rattle.std.specs.Global.{Global}
use Rattle.std.specs.Prelude.{IfErr, IfOk, List, OnErr, OnOk, Option, Result, String, ℕ, ◌++◌, ◌≡◌}
use Rattle.groebner_iface.specs.Calls.{CallStops}
use Rattle.groebner_iface.specs.Runs.{StoppedRun}
use Rattle.groebner_iface.specs.declared.stop.OpStop.{OpStop}
use Rattle.script_parse.specs.declared.stated.Statement.{Statement}
use Rattle.script_parse.specs.declared.stated.Statement.TheVariants as statements
use Rattle.session_values.specs.Answers.{Asked, basis, member, normal_form, sizes_of_basis}
use Rattle.session_lang.specs.Lines.{Does, Needs, RefusesStated}
use Rattle.session_values.specs.Names.{ScriptState}
use Rattle.session_lang.specs.Stops.{Meets}
use Rattle.session_reports.specs.declared.reports.Report.{Report}
use Rattle.session_reports.specs.declared.reports.Report.TheVariants.{Betti, InOrder, Minimal, Numbers, Regularity, Resolution}
use Rattle.session_reports.specs.declared.step.Step.{Step}
use Rattle.session_reports.specs.declared.step.Step.TheVariants as steps

-- the statement that asks this of the value with this name
abbrev pub asking : String Global → Asked → Statement
asking name basis = statements.Gb name
asking name sizes_of_basis = statements.Size name
asking name (normal_form v) = statements.NormalForm name v
asking name (member v) = statements.Member name v

-- the statement that asks for this report of the value with this name
abbrev pub reporting : String Global → Report → Statement
reporting name Numbers = statements.Hilbert name
reporting name (InOrder order) = statements.Change name order
reporting name Resolution = statements.Resolution name
reporting name Minimal = statements.Minimal name
reporting name Betti = statements.Betti name
reporting name Regularity = statements.Regularity name

-- the statement is done and its text appended, or it is refused and all is as before
abbrev pub Performs : ScriptState → Statement → ScriptState → (out out' : List ℕ) → Step → Type 0
Performs before statement after out out' steps.Done = (text : List ℕ) × Does before statement after text × (out' ≡ out ++ text)
Performs before statement after out out' (steps.Refused kind) = RefusesStated before statement kind × (after ≡ before) × (out' ≡ out)

-- what holds of session, text, and the engine's count and kept run where a call did the statement with this answer
pub record Performed (before : ScriptState) (statement : Statement) (after : ScriptState) (out out' : List ℕ) (old new : ℕ) (kept kept' : Option StoppedRun)
    (answer : Result Step OpStop) : Type 0 where
  pub done : IfOk answer (Performs before statement after out out')
  pub same : OnErr answer (after ≡ before)
  pub unwritten : OnErr answer (out' ≡ out)
  pub engine : OnOk answer ((new ≡ old) × (kept' ≡ kept))
  pub stop : IfErr answer (CallStops (Needs before statement) (Meets before statement) old new kept kept')

-- the same of a call that takes no engine
abbrev pub PerformedAlone : ScriptState → Statement → ScriptState → (out out' : List ℕ) → Result Step OpStop → Type 0
PerformedAlone before statement after out out' answer =
    (count : ℕ) (kept : Option StoppedRun) → Performed before statement after out out' count count kept kept answer
