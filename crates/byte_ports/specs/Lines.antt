-- The lines of a source that is read a piece at a time.
use Rattle.std.specs.Prelude.{ℕ, ◌≡◌, ◌+◌, ◌<◌, ◌≤◌, Bool, true, false, List, [], ◌∷◌, ◌++◌, length, take, ⊤, Result, Ok, Err}
use Rattle.std.specs.declared.option.Option.{Option}
use Rattle.std.specs.Io.KnownBytes.{Consumes, IsAtEnd}
use Rattle.byte_ports.specs.declared.line_reader.Next.{Next}
use Rattle.byte_ports.specs.declared.line_reader.Next.TheVariants as next
use Rattle.byte_ports.specs.declared.line_reader.LinesStop.{LinesStop}
use Rattle.byte_ports.specs.declared.line_reader.LinesStop.TheVariants as stop
use Rattle.risen_counts.specs.Counts.{Rose, next_count}

-- How far a reading of lines has come: the bytes that were taken from the source and are in no line yet, how many bytes may still
-- stand in lines, their newlines with them (the limit less those that do), and whether it may go on. So the limit less the room,
-- and the length of what is held, is how many bytes were taken in all.
pub record Reading : Type 0 where
  pub held : List ℕ
  pub room : ℕ
  pub is_open : Bool

-- the bytes hold no byte 10
abbrev pub HasNoNewline : List ℕ → Type 0
HasNoNewline [] = ⊤
HasNoNewline (b ∷ bs) = (b ≡ 10 → ⊥) × HasNoNewline bs

-- all that is held may stand in lines, and none of it ends one
pub record NeedsMore (r : Reading) : Type 0 where
  pub counts : length r.held ≤ r.room
  pub line : HasNoNewline r.held

-- these bytes are what was held and what was then taken
pub record AreTaken (before : Reading) (left left' : Option (List ℕ)) (bytes : List ℕ) : Type 0 where
  pub more : List ℕ
  pub read : Consumes left left' more
  pub parts : bytes ≡ before.held ++ more

-- the next line, and behind its newline what is held
pub record IsNextLine (before after : Reading) (left left' : Option (List ℕ)) (line : List ℕ) : Type 0 where
  pub taken : AreTaken before left left' (line ++ 10 ∷ after.held)
  pub whole : HasNoNewline line
  pub counts : before.room ≡ length line + 1 + after.room

-- the input is at its end, and these bytes are left, which all count and hold no newline
pub record IsLastBytes (before : Reading) (left left' : Option (List ℕ)) (bytes : List ℕ) : Type 0 where
  pub taken : AreTaken before left left' bytes
  pub line : HasNoNewline bytes
  pub counts : length bytes ≤ before.room
  pub end : IsAtEnd left'

-- more bytes were taken than count, and those that do hold no newline
pub record IsTooLong (before : Reading) (left left' : Option (List ℕ)) : Type 0 where
  pub bytes : List ℕ
  pub taken : AreTaken before left left' bytes
  pub long : before.room < length bytes
  pub line : HasNoNewline (take before.room bytes)

-- the bytes that were taken all count and hold no newline
pub record IsCutOff (before : Reading) (left left' : Option (List ℕ)) : Type 0 where
  pub bytes : List ℕ
  pub taken : AreTaken before left left' bytes
  pub counts : length bytes ≤ before.room
  pub line : HasNoNewline bytes

-- what each answer says; where memory ran out nothing is said of what was taken
abbrev pub Answers : (before after : Reading) (left left' : Option (List ℕ)) (line : List ℕ) → Result Next LinesStop → Type 0
Answers before after left left' line (Ok next.Line) = IsNextLine before after left left' line
Answers before after left left' line (Ok next.Last) = IsLastBytes before left left' line × (0 < length line)
Answers before after left left' line (Ok next.End) = IsLastBytes before left left' []
Answers before after left left' line (Ok next.Long) = IsTooLong before left left'
Answers before after left left' line (Err stop.Fault) = IsCutOff before left left'
Answers before after left left' line (Err stop.Memory) = ⊤

-- a line came, so there may be more
abbrev pub goes_on : Result Next LinesStop → Bool
goes_on (Ok next.Line) = true
goes_on (Ok next.Last) = false
goes_on (Ok next.End) = false
goes_on (Ok next.Long) = false
goes_on (Err stop.Fault) = false
goes_on (Err stop.Memory) = false

-- the count does not fall, and a fault comes only where it rose
pub record HasFaultCause (before now : ℕ) (result : Result Next LinesStop) : Type 0 where
  pub later : before ≤ now
  pub failed : result ≡ Err stop.Fault → Rose before now

-- the source told once that it is at its end, where that is the answer, and else never
abbrev pub CountsEnd : (before now : ℕ) → Result Next LinesStop → Type 0
CountsEnd before now (Ok next.Line) = now ≡ before
CountsEnd before now (Ok next.Last) = now ≡ next_count before
CountsEnd before now (Ok next.End) = now ≡ next_count before
CountsEnd before now (Ok next.Long) = now ≡ before
CountsEnd before now (Err stop) = now ≡ before

-- a read that failed is one fault more, and all else is none
abbrev pub CountsFaults : (before now : ℕ) → Result Next LinesStop → Type 0
CountsFaults before now (Ok next) = now ≡ before
CountsFaults before now (Err stop.Fault) = now ≡ next_count before
CountsFaults before now (Err stop.Memory) = now ≡ before
