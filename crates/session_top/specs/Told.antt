-- What a run of the program tells: by its status, its line and what it keeps of a stop, and by what it did to its ports.
use Rattle.std.specs.Prelude.{◌≡◌, ◌≢◌, ℕ, ◌≤◌, ◌⊎◌, List, None, Option, codes}
use Rattle.std.specs.Io.KnownBytes.{Appends, Keeps}
use Rattle.byte_ports.specs.Causes.{AppendsFront}
use Rattle.risen_counts.specs.Counts.{Rose}
use Rattle.command_words.specs.Command.{IsForm, request_of}
use Rattle.command_words.specs.declared.words.Command.TheVariants.{Run}
use Rattle.session_top.specs.declared.top.Ended.{Ended}
use Rattle.session_top.specs.Limits.{Limits, limits_of}
use Rattle.session_top.specs.Meaning.{Done}
use Rattle.session_top.specs.Run.{IsComplete, Meant, MeantRefused, MemoryCut, ReadCut, StoppedByDegree, StoppedByPairs, WriteCut}
use Rattle.session_top.specs.Scripts.{script_left, script_to_come}

-- The ports of a run at one moment: the source, the bytes that it has left and those that the sink has taken, where these are told, and
-- how many faults each of the two has counted.
pub record Ports (S : Type 0) : Type 0 where
  pub source : S
  pub left : Option (List ℕ)
  pub taken : Option (List ℕ)
  pub read_faults : ℕ
  pub write_faults : ℕ

-- an ending with this status and this line, of which nothing is kept
abbrev pub plain : ℕ → ℕ → Ended
plain status line = record { status = status; line = line; kept = None; trail = None }

-- `error words` was written, or a front of it where a write failed, or memory ran out before; no line is told and nothing kept.
abbrev pub WordsEnd : Option (List ℕ) → Option (List ℕ) → Ended → Type 0
WordsEnd taken taken' e = ((e ≡ plain 2 0) × Appends taken taken' (codes "error words\n"))
    ⊎ ((e ≡ plain 4 0) × AppendsFront taken taken' (codes "error words\n"))
    ⊎ ((e ≡ plain 5 0) × Keeps taken taken')

-- What the ending of a run of a script tells: by the bytes of the script that were to come and those that are left, by those that the sink
-- had taken and those that it has, and by what bounds the basis runs.
pub record ScriptTold (left left' taken taken' : Option (List ℕ)) (limits : Limits) (e : Ended) : Type 0 where
  -- The headline: where no read and no write failed, a script that has a meaning ends as it means, and its text is what was written, byte
  -- for byte; or memory ran out, a run met its budget, or a degree was too great.
  pub complete : e.status ≢ 3 → e.status ≢ 4 → IsComplete left left' taken taken' e.status e.line
  -- Status 0: the script was read to its end, all its lines were done, and their text is what was written.
  pub done : e.status ≡ 0 → Meant left left' taken taken' Done
  -- Status 1: what was read means a refusal of this line, or by line 0 of a script that is too long, and its text, the error line at the
  -- end, is what was written.
  pub refused : e.status ≡ 1 → MeantRefused left left' taken taken' e.line
  -- Status 2 is of words that are not of the form, and no script ends so.
  pub words : e.status ≢ 2
  -- Status 3, a failed read: all lines that were whole in what was read were done, and their text is what was written.
  pub read_cut : e.status ≡ 3 → ReadCut left left' taken taken'
  -- Status 4, a failed write: a front was written of the text of the first lines, with the error line or stop line that was due.
  pub write_cut : e.status ≡ 4 → WriteCut left left' taken taken' limits
  -- Status 5, want of memory, the one free answer: the lines before this one were done, and their text is what was written; by line 0
  -- none was done.
  pub memory : e.status ≡ 5 → MemoryCut left left' taken taken' e.line
  -- Status 6: a basis run of this line took as many pairs as its budget has, and one more was to be looked at; its state is kept.
  pub pairs : e.status ≡ 6 → StoppedByPairs left left' taken taken' limits e.line e.kept e.trail
  -- Status 7: this line led to a product of too great a degree; the trail to it is kept, and the state of its run, if one had begun.
  pub degree : e.status ≡ 7 → StoppedByDegree left left' taken taken' limits e.line e.kept e.trail
  -- There is no status above 7.
  pub range : e.status ≤ 7
  -- A refusal, want of memory and a stop alone name a line.
  pub line : e.status ≢ 1 → e.status ≢ 5 → e.status ≢ 6 → e.status ≢ 7 → e.line ≡ 0
  -- A stop alone keeps a state.
  pub kept : e.status ≢ 6 → e.status ≢ 7 → e.kept ≡ None
  -- A stop by the degree alone keeps a trail.
  pub trail : e.status ≢ 7 → e.trail ≡ None

-- What a run of the program tells, whatever its words, its source and its sink, by its ports before and after it.
pub record RunTold {S : Type 0} (words : List (List ℕ)) (before after : Ports S) (e : Ended) : Type 0 where
  -- Words of the form name a script, that of the source or the generated one of a seed, and what bounds its basis runs: the ending is that
  -- of its run.
  pub script : IsForm words
      → ScriptTold (script_to_come words before.left) (script_left words after.left) before.taken after.taken (limits_of (request_of words)) e
  -- Of words that are not of the form nothing is read, and `error words` is written, unless a write fails or memory runs out.
  pub wrong : (IsForm words → ⊥) → (after.source ≡ before.source) × WordsEnd before.taken after.taken e
  -- With the generated script nothing is read.
  pub generated : ((request_of words).command ≡ Run → ⊥) → after.source ≡ before.source
  -- Under status 5 a line that has begun is told by its number: line 0 comes only where nothing was read and nothing written.
  pub begun : e.status ≡ 5 → e.line ≡ 0 → after ≡ before
  -- Status 3 comes only where a read failed.
  pub read_fault : e.status ≡ 3 → Rose before.read_faults after.read_faults
  -- Status 4 comes only where a write failed.
  pub write_fault : e.status ≡ 4 → Rose before.write_faults after.write_faults
