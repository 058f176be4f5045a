-- What each answer of a run says.
use Rattle.std.specs.Prelude.{◌≡◌, ℕ, ◌+◌, ◌<◌, ◌≤◌, ◌⊎◌, List, [], ◌∷◌, ◌++◌, length, take, None, Some}
use Rattle.std.specs.declared.option.Option.{Option}
use Rattle.std.specs.Io.KnownBytes.{Appends, Consumes, IsAtEnd}
use Rattle.byte_ports.specs.Causes.{AppendsFront}
use Rattle.module_vectors.specs.declared.trail.KeptTrail.{KeptTrail}
use Rattle.basis_core.specs.Shown.{Shown}
use Rattle.session_top.specs.declared.early.Refusal.{Refusal}
use Rattle.session_top.specs.declared.early.Early.{Early}
use Rattle.session_top.specs.declared.early.Early.TheVariants as early
use Rattle.session_top.specs.declared.TheConstants.{SCRIPT_LIMIT}
use Rattle.session_top.specs.Lines.{whole_lines}
use Rattle.session_values.specs.Names.{ScriptState, no_names}
use Rattle.session_top.specs.Stops.{StopsScript, stop_line}
use Rattle.session_top.specs.Meaning.{ScriptEnding, Done, Refused, Meaning, Folds, AllDone, script_lines, last_of, is_long}
use Rattle.session_top.specs.Limits.{Limits}

-- the lines that this ending rests on are whole in the bytes read, or the input is at its end
abbrev pub IsSettled : List ℕ → Option (List ℕ) → ScriptEnding → Type 0
IsSettled script left Done = IsAtEnd left
IsSettled script left (Refused line refusal) = (line ≤ length (whole_lines script)) ⊎ IsAtEnd left

-- the bytes that were read have this meaning, and its text is what was written
pub record Meant (left left' taken taken' : Option (List ℕ)) (ending : ScriptEnding) : Type 0 where
  pub script : List ℕ
  pub text : List ℕ
  pub read : Consumes left left' script
  pub settled : IsSettled script left' ending
  pub means : Meaning script text ending
  pub written : Appends taken taken' text

-- the bytes read have this meaning, of a refusal at this line
pub record MeantRefused (left left' taken taken' : Option (List ℕ)) (line : ℕ) : Type 0 where
  pub refusal : Refusal
  pub meant : Meant left left' taken taken' (Refused line refusal)

-- all lines that were whole in the bytes read were done, and their text is what was written
pub record ReadCut (left left' taken taken' : Option (List ℕ)) : Type 0 where
  pub script : List ℕ
  pub state : ScriptState
  pub text : List ℕ
  pub read : Consumes left left' script
  pub steps : AllDone no_names (whole_lines (take SCRIPT_LIMIT script)) state text
  pub written : Appends taken taken' text

-- lines that may be done once these bytes are read
abbrev pub AreReady : List ℕ → Option (List ℕ) → List (List ℕ) → Type 0
AreReady script left lines = (lines ≡ whole_lines (take SCRIPT_LIMIT script)) ⊎ (IsAtEnd left × (lines ≡ script_lines script))

-- the line that was being done comes after these and is the first of the rest; or it is 0, and none was done
abbrev pub IsBeingDone : ℕ → List (List ℕ) → List (List ℕ) → Type 0
IsBeingDone line lines rest = ((line ≡ length lines + 1) × (0 < length rest)) ⊎ ((line ≡ 0) × (lines ≡ []))

-- the lines before this one were done, and their text is what was written
pub record MemoryCut (left left' taken taken' : Option (List ℕ)) (line : ℕ) : Type 0 where
  pub script : List ℕ
  pub lines : List (List ℕ)
  pub rest : List (List ℕ)
  pub state : ScriptState
  pub text : List ℕ
  pub read : Consumes left left' script
  pub ready : AreReady script left' (lines ++ rest)
  pub place : IsBeingDone line lines rest
  pub steps : AllDone no_names lines state text
  pub written : Appends taken taken' text

-- the last line is due once each line before it is done
abbrev pub EndsAtLast : ScriptEnding → List (List ℕ) → ScriptEnding → Type 0
EndsAtLast last rest final = (final ≡ Done) ⊎ ((rest ≡ []) × (final ≡ last))

-- the text of these lines and the stop line of the first line of the rest
pub record IsStopText (limits : Limits) (lines rest : List (List ℕ)) (text : List ℕ) : Type 0 where
  pub state : ScriptState
  pub done : List ℕ
  pub line : List ℕ
  pub more : List (List ℕ)
  pub kept : Option Shown
  pub trail : Option KeptTrail
  pub steps : AllDone no_names lines state done
  pub next : rest ≡ line ∷ more
  pub cause : StopsScript limits state line kept trail
  pub parts : text ≡ done ++ stop_line kept trail

-- the text that is due of these lines: their own with the error line, if one is due, or with a stop line
abbrev pub IsTextDue : (limits : Limits) → ScriptEnding → (lines rest : List (List ℕ)) → List ℕ → Type 0
IsTextDue limits last lines rest text =
    ((final : ScriptEnding) × (ending : ScriptEnding) × EndsAtLast last rest final × Folds final 1 no_names lines text ending)
    ⊎ IsStopText limits lines rest text

-- a front was written of the text of the first lines and the error line or stop line, if one was due
pub record WriteCut (left left' taken taken' : Option (List ℕ)) (limits : Limits) : Type 0 where
  pub script : List ℕ
  pub lines : List (List ℕ)
  pub rest : List (List ℕ)
  pub text : List ℕ
  pub read : Consumes left left' script
  pub ready : AreReady script left' (lines ++ rest)
  pub due : IsTextDue limits (last_of (is_long script)) lines rest text
  pub written : AppendsFront taken taken' text

-- A line stopped the script: the lines before it were done, and their text and the stop line are what was written.
pub record Stopped (left left' taken taken' : Option (List ℕ)) (limits : Limits) (line : ℕ) (kept : Option Shown) (trail : Option KeptTrail) : Type 0 where
  pub script : List ℕ
  pub lines : List (List ℕ)
  pub stopped : List ℕ
  pub rest : List (List ℕ)
  pub state : ScriptState
  pub text : List ℕ
  pub read : Consumes left left' script
  pub ready : AreReady script left' (lines ++ (stopped ∷ rest))
  pub place : line ≡ length lines + 1
  pub steps : AllDone no_names lines state text
  pub cause : StopsScript limits state stopped kept trail
  pub written : Appends taken taken' (text ++ stop_line kept trail)

-- a run of a line met its budget of pairs, and its state is kept
abbrev pub StoppedByPairs : Option (List ℕ) → Option (List ℕ) → Option (List ℕ) → Option (List ℕ) → (limits : Limits) (line : ℕ)
    → Option Shown → Option KeptTrail → Type 0
StoppedByPairs left left' taken taken' limits line kept trail =
    (s : Shown) × (kept ≡ Some s) × (trail ≡ None) × Stopped left left' taken taken' limits line (Some s) None

-- a line needed a product of too great a degree, and the trail to it is kept
abbrev pub StoppedByDegree : Option (List ℕ) → Option (List ℕ) → Option (List ℕ) → Option (List ℕ) → (limits : Limits) (line : ℕ)
    → Option Shown → Option KeptTrail → Type 0
StoppedByDegree left left' taken taken' limits line kept trail =
    (t : KeptTrail) × (trail ≡ Some t) × Stopped left left' taken taken' limits line kept (Some t)

-- why a run did not come to the end of its script
abbrev pub ScriptStops : Option (List ℕ) → Option (List ℕ) → Option (List ℕ) → Option (List ℕ) → (limits : Limits) → Early → Type 0
ScriptStops left left' taken taken' limits (early.Refused n) = MeantRefused left left' taken taken' n
ScriptStops left left' taken taken' limits early.ReadFault = ReadCut left left' taken taken'
ScriptStops left left' taken taken' limits early.WriteFault = WriteCut left left' taken taken' limits
ScriptStops left left' taken taken' limits (early.NoMemory n) = MemoryCut left left' taken taken' n
ScriptStops left left' taken taken' limits (early.Stopped n kept) = Stopped left left' taken taken' limits n kept.state kept.trail

-- the status and the line are those of this ending
abbrev pub IsToldAs : ℕ → ℕ → ScriptEnding → Type 0
IsToldAs status line Done = (status ≡ 0) × (line ≡ 0)
IsToldAs status line (Refused n refusal) = (status ≡ 1) × (line ≡ n)

-- Where the source tells a script of this meaning, the answer is its ending and the bytes are its text; or memory ran out, or a run was
-- stopped by its budget or by a degree.
abbrev pub IsComplete : Option (List ℕ) → Option (List ℕ) → Option (List ℕ) → Option (List ℕ) → ℕ → ℕ → Type 0
IsComplete left left' taken taken' status line = (script text : List ℕ) (ending : ScriptEnding) → left ≡ Some script → Meaning script text ending
    → (status ≡ 5) ⊎ (status ≡ 6) ⊎ (status ≡ 7) ⊎ (IsToldAs status line ending × Appends taken taken' text × (ending ≡ Done → IsAtEnd left'))
