-- How far a run has come.
use Rattle.std.proofs.Common.{◌≡◌, ℕ, ◌+◌, ◌≤◌, Bool, List, ◌∷◌, ◌++◌, length}
use Rattle.std.specs.declared.option.Option.{Option}
use Rattle.std.specs.Io.KnownBytes.{Appends, Consumes}
use Rattle.byte_ports.specs.Lines.{Reading}
use Rattle.session_values.specs.Names.{ScriptState, no_names}
use Rattle.session_top.specs.declared.TheConstants.{SCRIPT_LIMIT}
use Rattle.session_top.specs.Lines.{lines_in}
use Rattle.session_top.specs.Meaning.{AllDone}
use Rattle.session_top.specs.Run.{AreReady}

-- The bytes of these lines were read, and what is held behind them; the lines were done, and their text was written.
pub record Going (left left' taken taken' : Option (List ℕ)) (reading : Reading) (number : ℕ) (state : ScriptState) : Type 0 where
  pub used : List ℕ
  pub lines : List (List ℕ)
  pub text : List ℕ
  pub read : Consumes left left' (used ++ reading.held)
  pub room : length used + reading.room ≡ SCRIPT_LIMIT
  pub cut : (w : Bool) (more : List ℕ) → lines_in w (used ++ more) ≡ lines ++ lines_in w more
  pub count : number ≡ length lines
  pub few : number ≤ length used
  pub steps : AllDone no_names lines state text
  pub written : Appends taken taken' text

-- this line may be done once these bytes are read, and the lines before it were
pub record Due (left left' taken taken' : Option (List ℕ)) (line : List ℕ) (number : ℕ) (state : ScriptState) : Type 0 where
  pub script : List ℕ
  pub lines : List (List ℕ)
  pub rest : List (List ℕ)
  pub text : List ℕ
  pub read : Consumes left left' script
  pub ready : AreReady script left' (lines ++ (line ∷ rest))
  pub count : number ≡ length lines
  pub steps : AllDone no_names lines state text
  pub written : Appends taken taken' text
