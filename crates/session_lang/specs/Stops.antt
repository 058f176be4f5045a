-- What each answer to a line says
use Rattle.std.specs.Prelude.{List, Some, string_bytes, ℕ, ◌++◌, ◌≡◌}
use Rattle.term_lists.specs.declared.key.Key.{Key}
use Rattle.term_lists.specs.declared.ring.Ring.{Ring}
use Rattle.module_vectors.specs.declared.trail.KeptTrail.{KeptTrail}
use Rattle.groebner_iface.specs.Runs.{IsReducedBasisOf}
use Rattle.ring_maps.specs.Graphs.{IsExpressionTrail}
use Rattle.script_parse.specs.declared.operation.Operation.{Operation}
use Rattle.script_parse.specs.declared.stated.Statement.{Statement}
use Rattle.script_parse.specs.declared.stated.Statement.TheVariants as statements
use Rattle.session_values.specs.Answers.{Asked, member, normal_form}
use Rattle.session_lang.specs.Lines.{Line, RefusesLine, StatesLine}
use Rattle.session_values.specs.Names.{HasValue, ScriptState, Value}
use Rattle.session_reports.specs.Asking.{IsTrailOf}
use Rattle.session_reports.specs.Minimising.{IsMinimalTrail}
use Rattle.session_values.specs.Resolving.{IsResolvingTrail}
use Rattle.session_values.specs.Operations.{AreTrailsOf, TaskShown, WorksOn}
use Rattle.syzygy_engine.specs.Lifts.{IsLiftTrail}
use Rattle.session_reports.specs.declared.step.Step.{Step}
use Rattle.session_reports.specs.declared.step.Step.TheVariants as steps

-- the line was done and its text appended, or it was refused and all is as before
abbrev pub Steps : ScriptState → List ℕ → ScriptState → List ℕ → List ℕ → Step → Type 0
Steps before line after out out' steps.Done = (text : List ℕ) × Line before line after text × (out' ≡ out ++ text)
Steps before line after out out' (steps.Refused kind) = RefusesLine before line kind × (after ≡ before) × (out' ≡ out)

-- the same of the value with this name
abbrev pub IsTrailFor : ScriptState → List ℕ → Asked → KeptTrail → Type 0
IsTrailFor before name asked t = (ring : Ring) × (value : Value) × HasValue before name ring value × IsTrailOf ring value asked t

-- a trail of the operation on the values with its names
abbrev pub IsTrailOfWork : ScriptState → Operation → KeptTrail → Type 0
IsTrailOfWork before operation t = (ring : Ring) × (work : TaskShown) × WorksOn before operation ring work × AreTrailsOf ring work t

-- a trail of the lift of the vector to the list of the value with this name
abbrev pub IsTrailOfLift : ScriptState → List ℕ → List (Key × ℕ) → KeptTrail → Type 0
IsTrailOfLift before name v t = (ring : Ring) × (value : Value) × HasValue before name ring value × IsLiftTrail ring value.rank value.list v t

-- a trail of the resolution of the value with this name
abbrev pub IsTrailOfResolving : ScriptState → List ℕ → KeptTrail → Type 0
IsTrailOfResolving before name t = (ring : Ring) × (value : Value) × HasValue before name ring value × IsResolvingTrail ring value t

-- a trail of the minimal resolution of the value with this name
abbrev pub IsTrailOfMinimal : ScriptState → List ℕ → KeptTrail → Type 0
IsTrailOfMinimal before name t =
    (ring : Ring) × (value : Value) × HasValue before name ring value
    × ((G : List (List (Key × ℕ))) × IsReducedBasisOf ring value.rank value.list G × IsMinimalTrail ring value.rank G t)

-- a trail of the division for a polynomial by others, over the ring that is stated
abbrev pub IsTrailOfExpressing : ScriptState → List (Key × ℕ) → List (List (Key × ℕ)) → KeptTrail → Type 0
IsTrailOfExpressing before f images t = (ring : Ring) × (before.ring ≡ Some ring) × IsExpressionTrail ring images f t

-- the trails that a statement can meet outside of its runs
abbrev pub Meets : ScriptState → Statement → KeptTrail → Type 0
Meets before (statements.NormalForm name v) t = IsTrailFor before (string_bytes name) (normal_form v) t
Meets before (statements.Member name v) t = IsTrailFor before (string_bytes name) (member v) t
Meets before (statements.Let name operation) t = IsTrailOfWork before operation t
Meets before (statements.Lift name v) t = IsTrailOfLift before (string_bytes name) v t
Meets before (statements.Resolution name) t = IsTrailOfResolving before (string_bytes name) t
Meets before (statements.Minimal name) t = IsTrailOfMinimal before (string_bytes name) t
Meets before (statements.Betti name) t = IsTrailOfMinimal before (string_bytes name) t
Meets before (statements.Regularity name) t = IsTrailOfMinimal before (string_bytes name) t
Meets before (statements.Express f images) t = IsTrailOfExpressing before f images t
Meets before (statements.Ext name step) t = IsTrailOfResolving before (string_bytes name) t
Meets before _ t = ⊥

-- a trail of a line that is not refused as it is read, met outside of its runs
abbrev pub TrailOf : ScriptState → List ℕ → KeptTrail → Type 0
TrailOf before line t = (statement : Statement) × StatesLine before line statement × Meets before statement t
