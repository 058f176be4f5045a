-- What a line does to a session
use Rattle.std.specs.Prelude.{List, Some, [], codes, false, string_bytes, true, ℕ, ◌++◌, ◌∷◌, ◌≡◌, ◌⊎◌}
use Rattle.monomial_orders.specs.declared.order.Order.{Order}
use Rattle.term_lists.specs.declared.key.Key.{Key}
use Rattle.term_lists.specs.declared.ring.Ring.{Ring}
use Rattle.poly_text.specs.Texts.{names_of, poly_text}
use Rattle.script_parse.specs.Refusals as refusals
use Rattle.script_parse.specs.Statements as readings
use Rattle.script_parse.specs.declared.kind.Kind.{Kind}
use Rattle.script_parse.specs.declared.named.NameInfo.{NameInfo}
use Rattle.script_parse.specs.declared.operation.Operation.{Operation}
use Rattle.script_parse.specs.declared.stated.Statement.{Statement}
use Rattle.script_parse.specs.declared.stated.Statement.TheVariants as statements
use Rattle.syzygy_engine.specs.Marking.{IsMarkedRun}
use Rattle.ring_maps.specs.Graphs.{IsGraphRun}
use Rattle.session_values.specs.Answers.{Asked, Decides, IsAnswer, IsOneModule, basis, member, normal_form, sizes_of_basis}
use Rattle.session_reports.specs.Expressing.{IsExpressionText}
use Rattle.session_reports.specs.Lifting.{IsLiftText}
use Rattle.session_values.specs.Extending.{IsExtText, IsExtendingRun}
use Rattle.session_values.specs.Names.{AreInfosOf, HasValue, ScriptState, Value, after_giving, after_run}
use Rattle.session_values.specs.Numbers.{IsNumbersText, RefusesNumbers}
use Rattle.session_reports.specs.Reordering.{IsReorderedText, RefusesReordering}
use Rattle.session_reports.specs.Minimising.{IsBettiText, IsMinimalText, IsRegularityText, RefusesMinimal}
use Rattle.session_values.specs.Resolving.{IsResolutionText}
use Rattle.session_values.specs.Operations.{AreRunsOf, IsResult, TaskShown, WorksOn, result_rank}
use Rattle.session_values.specs.Texts.{listing}

-- the line states this, with the ring and the names of this state
abbrev pub StatesLine : ScriptState → List ℕ → Statement → Type 0
StatesLine before line statement = (infos : List NameInfo) × AreInfosOf before.values infos × readings.States before.ring infos line statement

-- the line is refused for this kind as it is read: the first that holds
abbrev pub RefusesReading : ScriptState → List ℕ → Kind → Type 0
RefusesReading before line kind = (infos : List NameInfo) × AreInfosOf before.values infos × refusals.Refuses before.ring infos line kind

-- the minimal resolution of the value with this name is refused
abbrev pub RefusesAsMinimal : ScriptState → List ℕ → Kind → Type 0
RefusesAsMinimal before name kind = (ring : Ring) × (value : Value) × HasValue before name ring value × RefusesMinimal ring value kind

-- the statement is refused for this kind once its run is done: it asks for the numbers of a value, for its basis in another order, or
-- for its minimal resolution and what is read off that
abbrev pub RefusesStated : ScriptState → Statement → Kind → Type 0
RefusesStated before (statements.Hilbert name) kind =
    (ring : Ring) × (value : Value) × HasValue before (string_bytes name) ring value × RefusesNumbers ring value kind
RefusesStated before (statements.Change name order) kind =
    (ring : Ring) × (value : Value) × HasValue before (string_bytes name) ring value × RefusesReordering ring value kind
RefusesStated before (statements.Minimal name) kind = RefusesAsMinimal before (string_bytes name) kind
RefusesStated before (statements.Betti name) kind = RefusesAsMinimal before (string_bytes name) kind
RefusesStated before (statements.Regularity name) kind = RefusesAsMinimal before (string_bytes name) kind
RefusesStated before _ kind = ⊥

-- the line is refused for this kind
abbrev pub RefusesLine : ScriptState → List ℕ → Kind → Type 0
RefusesLine before line kind = RefusesReading before line kind ⊎ ((statement : Statement) × StatesLine before line statement × RefusesStated before statement kind)

-- the text answers what is asked of the value with this name
abbrev pub AnswersAsked : ScriptState → List ℕ → Asked → List ℕ → Type 0
AnswersAsked before name asked text = (ring : Ring) × (value : Value) × HasValue before name ring value × IsAnswer ring value asked text

-- the operation, on the values with its names, gives this list of this rank over this ring
abbrev pub OperationGives : ScriptState → Operation → Ring → ℕ → List (List (Key × ℕ)) → Type 0
OperationGives before operation ring rank list = (work : TaskShown) × WorksOn before operation ring work × (rank ≡ result_rank work) × IsResult ring work list

-- the text is the lift of the vector to the list of the value with this name
abbrev pub Lifts : ScriptState → List ℕ → List (Key × ℕ) → List ℕ → Type 0
Lifts before name v text = (ring : Ring) × (value : Value) × HasValue before name ring value × IsLiftText ring value v text

-- the text has the numbers of the value with this name
abbrev pub Counts : ScriptState → List ℕ → List ℕ → Type 0
Counts before name text = (ring : Ring) × (value : Value) × HasValue before name ring value × IsNumbersText ring value text

-- the text has the reduced basis, in this order, of the value with this name
abbrev pub Reorders : ScriptState → List ℕ → Order → List ℕ → Type 0
Reorders before name order text = (ring : Ring) × (value : Value) × HasValue before name ring value × IsReorderedText ring value order text

-- the text has the resolution of the value with this name
abbrev pub Resolves : ScriptState → List ℕ → List ℕ → Type 0
Resolves before name text = (ring : Ring) × (value : Value) × HasValue before name ring value × IsResolutionText ring value text

-- what is printed of the value with this name holds of the text
abbrev pub TellsOfValue : ScriptState → List ℕ → (Ring → Value → List ℕ → Type 0) → List ℕ → Type 0
TellsOfValue before name Is text = (ring : Ring) × (value : Value) × HasValue before name ring value × Is ring value text

-- the text has the polynomial with this image, or no where there is none, over the ring that is stated
abbrev pub Expresses : ScriptState → List (Key × ℕ) → List (List (Key × ℕ)) → List ℕ → Type 0
Expresses before f images text = (ring : Ring) × (before.ring ≡ Some ring) × IsExpressionText ring images f text

-- From a state, the statement leads to this state and has this text: a blank line changes nothing, a ring is stated anew
-- and takes all names away, a polynomial is printed, an ideal, a module or the result of an operation gets a name, the others
-- print what they ask for. A line that needs the reduced basis of a value leaves it kept; a result is its own, and kept.
abbrev pub Does : ScriptState → Statement → ScriptState → List ℕ → Type 0
Does before statements.Nothing after text = (after ≡ before) × (text ≡ [])
Does before (statements.Ring ring) after text = (after ≡ record { ring = Some ring; values = [] }) × (text ≡ [])
Does before (statements.Show v) after text =
    (after ≡ before) × ((ring : Ring) × (before.ring ≡ Some ring) × (text ≡ poly_text (names_of ring) v ++ 10 ∷ []))
Does before (statements.Ideal name list) after text =
    (after ≡ after_giving (record { name = string_bytes name; rank = 1; list = list; kept = false }) before) × (text ≡ [])
Does before (statements.Module name rank list) after text =
    (after ≡ after_giving (record { name = string_bytes name; rank = rank; list = list; kept = false }) before) × (text ≡ [])
Does before (statements.Let name operation) after text =
    ((ring : Ring) × (rank : ℕ) × (list : List (List (Key × ℕ))) × OperationGives before operation ring rank list
    × (after ≡ after_giving (record { name = string_bytes name; rank = rank; list = list; kept = true }) before)) × (text ≡ [])
Does before (statements.Gens name) after text =
    (after ≡ before)
    × ((ring : Ring) × (value : Value) × HasValue before (string_bytes name) ring value × (text ≡ listing (codes "gens") ring value value.list))
Does before (statements.Gb name) after text = (after ≡ after_run (string_bytes name) before) × AnswersAsked before (string_bytes name) basis text
Does before (statements.Size name) after text = (after ≡ after_run (string_bytes name) before) × AnswersAsked before (string_bytes name) sizes_of_basis text
Does before (statements.NormalForm name v) after text =
    (after ≡ after_run (string_bytes name) before) × AnswersAsked before (string_bytes name) (normal_form v) text
Does before (statements.Member name v) after text = (after ≡ after_run (string_bytes name) before) × AnswersAsked before (string_bytes name) (member v) text
Does before (statements.Lift name v) after text = (after ≡ before) × Lifts before (string_bytes name) v text
Does before (statements.Hilbert name) after text = (after ≡ after_run (string_bytes name) before) × Counts before (string_bytes name) text
Does before (statements.Resolution name) after text = (after ≡ after_run (string_bytes name) before) × Resolves before (string_bytes name) text
Does before (statements.Minimal name) after text = (after ≡ after_run (string_bytes name) before) × TellsOfValue before (string_bytes name) IsMinimalText text
Does before (statements.Betti name) after text = (after ≡ after_run (string_bytes name) before) × TellsOfValue before (string_bytes name) IsBettiText text
Does before (statements.Regularity name) after text = (after ≡ after_run (string_bytes name) before) × TellsOfValue before (string_bytes name) IsRegularityText text
Does before (statements.Change name order) after text = (after ≡ after_run (string_bytes name) before) × Reorders before (string_bytes name) order text
Does before (statements.Express f images) after text = (after ≡ before) × Expresses before f images text
Does before (statements.Ext name step) after text =
    (after ≡ after_run (string_bytes name) before) × TellsOfValue before (string_bytes name) (λ ring value. IsExtText ring value step) text
Does before (statements.Equal first second) after text =
    (after ≡ after_run (string_bytes second) (after_run (string_bytes first) before))
    × ((ring : Ring) × (left : Value) × (right : Value) × HasValue before (string_bytes first) ring left × HasValue before (string_bytes second) ring right
    × Decides (IsOneModule ring left.list right.list) text)

-- from a state, the line is done: the state after it and its text
abbrev pub Line : ScriptState → List ℕ → ScriptState → List ℕ → Type 0
Line before line after text = (statement : Statement) × StatesLine before line statement × Does before statement after text

-- the run for the reduced basis of the value with this name, if it is not yet kept
abbrev pub IsRunForValue : ScriptState → List ℕ → Ring → ℕ → List (List (Key × ℕ)) → Type 0
IsRunForValue before name ring rank list = (value : Value) × HasValue before name ring value × (value.kept ≡ false) × (rank ≡ value.rank) × (list ≡ value.list)

-- the run for the reduced basis of one of the values with these names, of the second once the first has its basis
abbrev pub IsRunForEither : ScriptState → (first second : List ℕ) → Ring → ℕ → List (List (Key × ℕ)) → Type 0
IsRunForEither before first second ring rank list = IsRunForValue before first ring rank list ⊎ IsRunForValue (after_run first before) second ring rank list

-- a run of the operation
abbrev pub IsRunOfWork : ScriptState → Operation → Ring → ℕ → List (List (Key × ℕ)) → Type 0
IsRunOfWork before operation ring rank list = (over : Ring) × (work : TaskShown) × WorksOn before operation over work × AreRunsOf over work ring rank list

-- the run for a lift to the list of the value with this name
abbrev pub IsLiftRun : ScriptState → List ℕ → Ring → ℕ → List (List (Key × ℕ)) → Type 0
IsLiftRun before name ring rank list =
    (over : Ring) × (value : Value) × HasValue before name over value × IsMarkedRun over value.rank value.list ring rank list

-- the run for a polynomial by others, over the ring that is stated
abbrev pub IsExpressingRun : ScriptState → List (List (Key × ℕ)) → Ring → ℕ → List (List (Key × ℕ)) → Type 0
IsExpressingRun before images ring rank list = (over : Ring) × (before.ring ≡ Some over) × IsGraphRun over images [] ring rank list

-- the runs for an Ext module of the value with this name: the one for its reduced basis, and those behind its resolution
abbrev pub IsRunForExt : ScriptState → List ℕ → (step : ℕ) → Ring → ℕ → List (List (Key × ℕ)) → Type 0
IsRunForExt before name step ring rank list =
    IsRunForValue before name ring rank list
    ⊎ ((over : Ring) × (value : Value) × HasValue before name over value × IsExtendingRun over value step ring rank list)

-- the runs that a statement needs
abbrev pub Needs : ScriptState → Statement → Ring → ℕ → List (List (Key × ℕ)) → Type 0
Needs before (statements.Gb name) ring rank list = IsRunForValue before (string_bytes name) ring rank list
Needs before (statements.Size name) ring rank list = IsRunForValue before (string_bytes name) ring rank list
Needs before (statements.NormalForm name v) ring rank list = IsRunForValue before (string_bytes name) ring rank list
Needs before (statements.Member name v) ring rank list = IsRunForValue before (string_bytes name) ring rank list
Needs before (statements.Hilbert name) ring rank list = IsRunForValue before (string_bytes name) ring rank list
Needs before (statements.Resolution name) ring rank list = IsRunForValue before (string_bytes name) ring rank list
Needs before (statements.Minimal name) ring rank list = IsRunForValue before (string_bytes name) ring rank list
Needs before (statements.Betti name) ring rank list = IsRunForValue before (string_bytes name) ring rank list
Needs before (statements.Regularity name) ring rank list = IsRunForValue before (string_bytes name) ring rank list
Needs before (statements.Change name order) ring rank list = IsRunForValue before (string_bytes name) ring rank list
Needs before (statements.Let name operation) ring rank list = IsRunOfWork before operation ring rank list
Needs before (statements.Lift name v) ring rank list = IsLiftRun before (string_bytes name) ring rank list
Needs before (statements.Express f images) ring rank list = IsExpressingRun before images ring rank list
Needs before (statements.Ext name step) ring rank list = IsRunForExt before (string_bytes name) step ring rank list
Needs before (statements.Equal first second) ring rank list = IsRunForEither before (string_bytes first) (string_bytes second) ring rank list
Needs before _ ring rank list = ⊥

-- a run of a line that is not refused as it is read: its ring, rank and list
abbrev pub RunOf : ScriptState → List ℕ → Ring → ℕ → List (List (Key × ℕ)) → Type 0
RunOf before line ring rank list = (statement : Statement) × StatesLine before line statement × Needs before statement ring rank list
