-- What the parts of a run say.
use Rattle.std.specs.Prelude.{◌≡◌, ℕ, ◌⊎◌, List}
use Rattle.std.specs.Prelude.{Err, Ok, Result}
use Rattle.std.specs.declared.option.Option.{Option}
use Rattle.std.specs.Io.KnownBytes.{Appends, Keeps}
use Rattle.module_vectors.specs.declared.trail.KeptTrail.{KeptTrail}
use Rattle.basis_core.specs.Shown.{Shown}
use Rattle.byte_ports.specs.Causes.{AppendsFront}
use Rattle.script_parse.specs.declared.kind.Kind.{Kind}
use Rattle.session_lang.specs.Lines.{Line, RefusesLine}
use Rattle.session_values.specs.Names.{ScriptState}
use Rattle.session_top.specs.declared.early.Early.{Early}
use Rattle.session_top.specs.declared.early.Early.TheVariants as early
use Rattle.session_top.specs.declared.early.Refusal.{Refusal}
use Rattle.session_top.specs.declared.early.Refusal.TheVariants.{OfLine}
use Rattle.session_top.specs.Meaning.{Refused, ending_text}
use Rattle.session_top.specs.declared.top.Ended.{Ended}
use Rattle.session_top.specs.Stops.{StopsScript, stop_line, stop_status}
use Rattle.session_top.specs.Limits.{Limits}
use Rattle.session_top.specs.Told.{plain}

-- the error line of this refusal was written, or a front of it
abbrev pub ErrorEnds : Option (List ℕ) → Option (List ℕ) → ℕ → Refusal → Early → Type 0
ErrorEnds taken taken' number refusal (early.Refused n) = (n ≡ number) × Appends taken taken' (ending_text (Refused number refusal))
ErrorEnds taken taken' number refusal early.WriteFault = AppendsFront taken taken' (ending_text (Refused number refusal))
ErrorEnds taken taken' number refusal (early.NoMemory n) = ⊥
ErrorEnds taken taken' number refusal early.ReadFault = ⊥
ErrorEnds taken taken' number refusal (early.Stopped n kept) = ⊥

-- the stop line was written, or a front of it
abbrev pub StopEnds : Option (List ℕ) → Option (List ℕ) → ℕ → Option Shown → Option KeptTrail → Early → Type 0
StopEnds taken taken' number state trail (early.Stopped n kept) =
    (n ≡ number) × (kept.state ≡ state) × (kept.trail ≡ trail) × Appends taken taken' (stop_line state trail)
StopEnds taken taken' number state trail early.WriteFault = AppendsFront taken taken' (stop_line state trail)
StopEnds taken taken' number state trail (early.Refused n) = ⊥
StopEnds taken taken' number state trail (early.NoMemory n) = ⊥
StopEnds taken taken' number state trail early.ReadFault = ⊥

-- what is written of a line
abbrev pub IsDueOf : (limits : Limits) → ScriptState → List ℕ → ℕ → List ℕ → Type 0
IsDueOf limits before line number text = ((after : ScriptState) × Line before line after text)
    ⊎ ((kind : Kind) × RefusesLine before line kind × (text ≡ ending_text (Refused number (OfLine kind))))
    ⊎ ((kept : Option Shown) × (trail : Option KeptTrail) × StopsScript limits before line kept trail × (text ≡ stop_line kept trail))

-- a line was not done to its end
abbrev pub LineStops : Option (List ℕ) → Option (List ℕ) → (limits : Limits) → ScriptState → List ℕ → ℕ → Early → Type 0
LineStops taken taken' limits before line number (early.Refused n) =
    (n ≡ number) × ((kind : Kind) × RefusesLine before line kind × Appends taken taken' (ending_text (Refused number (OfLine kind))))
LineStops taken taken' limits before line number early.WriteFault =
    (text : List ℕ) × IsDueOf limits before line number text × AppendsFront taken taken' text
LineStops taken taken' limits before line number (early.NoMemory n) = (n ≡ number) × Keeps taken taken'
LineStops taken taken' limits before line number early.ReadFault = ⊥
LineStops taken taken' limits before line number (early.Stopped n kept) =
    (n ≡ number) × StopsScript limits before line kept.state kept.trail × Appends taken taken' (stop_line kept.state kept.trail)

-- the ending of a run of lines that came to its end, or did not
abbrev pub ended_as : Result Unit Early → Ended
ended_as (Ok done) = plain 0 0
ended_as (Err (early.Refused line)) = plain 1 line
ended_as (Err early.ReadFault) = plain 3 0
ended_as (Err early.WriteFault) = plain 4 0
ended_as (Err (early.NoMemory line)) = plain 5 line
ended_as (Err (early.Stopped line kept)) = record { status = stop_status kept.trail; line = line; kept = kept.state; trail = kept.trail }
