-- What a fault is, and what a write that failed leaves.
use Rattle.std.specs.Prelude.{ℕ, ◌≡◌, ◌≢◌, ◌≤◌, ◌==◌, if◌then◌else◌, List, length, take, Result, MatchResult, OnErr}
use Rattle.std.specs.declared.option.Option.{Option}
use Rattle.std.specs.Io.KnownBytes.{Appends}
use Rattle.std.specs.IoError.{error_kind}
use Rattle.std.specs.declared.io.Error.{Error}
use Rattle.std.specs.declared.io.ErrorKind.TheVariants.{Interrupted}
use Rattle.risen_counts.specs.Counts.{Rose, next_count}

-- the count does not fall, and an error comes only where it rose
pub record HasCause {T E : Type 0} (before now : ℕ) (result : Result T E) : Type 0 where
  pub later : before ≤ now
  pub failed : OnErr result (Rose before now)

-- an error is one fault more, and all else is none
abbrev pub IsCounted : {T E : Type 0} → ℕ → ℕ → Result T E → Type 0
IsCounted before now result = MatchResult result (λ _. now ≡ before) (λ _. now ≡ next_count before)

-- an error of the system is one fault more, but an interruption is none
pub record IsErrorCounted (before now : ℕ) (error : Error) : Type 0 where
  pub interrupted : error_kind error ≡ Interrupted → now ≡ before
  pub other : error_kind error ≢ Interrupted → now ≡ next_count before

abbrev pub CountsErrors : {T : Type 0} → ℕ → ℕ → Result T Error → Type 0
CountsErrors before now result = MatchResult result (λ _. now ≡ before) (IsErrorCounted before now)

-- how many reads moved nothing, after one that moved so many bytes
abbrev pub empty_after : ℕ → ℕ → ℕ
empty_after before count = if count == 0 then next_count before else before

-- a read that moved nothing is one empty read more, and all else is none
abbrev pub CountsEmpty : {E : Type 0} → ℕ → ℕ → Result ℕ E → Type 0
CountsEmpty before now result = MatchResult result (λ count. now ≡ empty_after before count) (λ _. now ≡ before)

-- known bytes grew by a front of these
pub record AppendsFront (old new : Option (List ℕ)) (bytes : List ℕ) : Type 0 where
  pub count : ℕ
  pub within : count ≤ length bytes
  pub front : Appends old new (take count bytes)
