-- Where the script of a run comes from
use Rattle.std.specs.Prelude.{List, Option, Some, [], ℕ}
use Rattle.command_words.specs.Command.{request_of}
use Rattle.command_words.specs.declared.words.Command.{Command}
use Rattle.command_words.specs.declared.words.Command.TheVariants.{Large, Run}
use Rattle.large_script.specs.Script.{script_of}

-- the bytes of the script that are to come, before a run: those of the source, or the generated script
abbrev pub script_before : Command → Option (List ℕ) → Option (List ℕ)
script_before Run left = left
script_before (Large seed) left = Some (script_of seed)

-- and behind it: those that the source has left; of a generated script there are none
abbrev pub script_behind : Command → Option (List ℕ) → Option (List ℕ)
script_behind Run left = left
script_behind (Large seed) left = Some []

-- the same by the words
abbrev pub script_to_come : List (List ℕ) → Option (List ℕ) → Option (List ℕ)
script_to_come words left = script_before (request_of words).command left

abbrev pub script_left : List (List ℕ) → Option (List ℕ) → Option (List ℕ)
script_left words left = script_behind (request_of words).command left
