-- How often a line asks the engine for a basis
use Rattle.std.specs.Prelude.{List, None, Option, Some, if◌then◌else◌, string_bytes, ℕ, ◌*◌, ◌+◌, ◌≡◌, ◌⊎◌}
use Rattle.term_lists.specs.declared.ring.Ring.{Ring}
use Rattle.risen_counts.specs.Counts.{RoseAtMost}
use Rattle.script_parse.specs.declared.stated.Statement.{Statement}
use Rattle.script_parse.specs.declared.stated.Statement.TheVariants as statements
use Rattle.session_lang.specs.Lines.{StatesLine}
use Rattle.session_values.specs.Names.{ScriptState, Value, after_run, value_named}
use Rattle.session_values.specs.Operations.{TaskShown, WorksOn}
use Rattle.session_values.specs.Runs.{most_runs}
use Rattle.syzygy_engine.specs.Kernels.{runs_in_order}

-- the runs until the reduced basis of a value is kept: none where it is kept already, and else one
abbrev pub runs_to_keep : Option Value → ℕ
runs_to_keep None = 0
runs_to_keep (Some value) = if value.kept then 0 else 1

-- the same of the value with this name
abbrev pub runs_for : ScriptState → List ℕ → ℕ
runs_for before name = runs_to_keep (value_named before.values name)

-- the same of the values with these names, of the second once the basis of the first is kept: one value by both names is run once
abbrev pub runs_for_both : ScriptState → (first second : List ℕ) → ℕ
runs_for_both before first second = runs_for before first + runs_for (after_run first before) second

-- A statement makes so many runs at most: those for the basis of each value that it asks for, those of its operation, one for a lift
-- and for a polynomial by others, those of two kernels for an Ext module, and else none.
abbrev pub MayRun : ScriptState → Statement → (most : ℕ) → Type 0
MayRun before (statements.Gb name) most = most ≡ runs_for before (string_bytes name)
MayRun before (statements.Size name) most = most ≡ runs_for before (string_bytes name)
MayRun before (statements.NormalForm name v) most = most ≡ runs_for before (string_bytes name)
MayRun before (statements.Member name v) most = most ≡ runs_for before (string_bytes name)
MayRun before (statements.Hilbert name) most = most ≡ runs_for before (string_bytes name)
MayRun before (statements.Resolution name) most = most ≡ runs_for before (string_bytes name)
MayRun before (statements.Minimal name) most = most ≡ runs_for before (string_bytes name)
MayRun before (statements.Betti name) most = most ≡ runs_for before (string_bytes name)
MayRun before (statements.Regularity name) most = most ≡ runs_for before (string_bytes name)
MayRun before (statements.Change name order) most = most ≡ runs_for before (string_bytes name)
MayRun before (statements.Equal first second) most = most ≡ runs_for_both before (string_bytes first) (string_bytes second)
MayRun before (statements.Let name operation) most = (ring : Ring) × (work : TaskShown) × WorksOn before operation ring work × (most ≡ most_runs ring work)
MayRun before (statements.Lift name v) most = most ≡ 1
MayRun before (statements.Express f images) most = most ≡ 1
MayRun before (statements.Ext name step) most =
    (ring : Ring) × (before.ring ≡ Some ring) × (most ≡ runs_for before (string_bytes name) + 2 * runs_in_order ring)
MayRun before _ most = most ≡ 0

-- the count of runs rose at most as often as the statement may make one
abbrev pub RunsStated : ScriptState → Statement → (old new : ℕ) → Type 0
RunsStated before statement old new = (most : ℕ) × MayRun before statement most × RoseAtMost most old new

-- it did not rise, or no more often than for what the line states
abbrev pub RunsLine : ScriptState → List ℕ → (old new : ℕ) → Type 0
RunsLine before line old new = (new ≡ old) ⊎ ((statement : Statement) × StatesLine before line statement × RunsStated before statement old new)
