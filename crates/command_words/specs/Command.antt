-- The command that reads the words, and what the words say to it.
use Rattle.std.specs.Prelude.{◌≡◌, ◌≤◌, ℕ, suc, zero, true, if◌then◌else◌, List, [], codes, Option, Some, None, option_and_then}
use Rattle.std.specs.Str.{bytes_eq}
use Rattle.std.specs.Str.Parse.{digits_value, without_leading_plus}
use Rattle.clap.specs.Walk.{Row, Rule, Text, one_of}
use Rattle.clap.specs.Simple.{App, on_top, new_app, new_rule, subcommand_of, with_rule, with_subcommand}
use Rattle.clap.specs.Faults.{fault_of}
use Rattle.clap.specs.ValueTests.{is_unsigned_in}
use Rattle.clap.specs.declared.builder.action.ArgAction.TheVariants.{Set}
use Rattle.clap.specs.declared.builder.value_parser.ValueParser.TheVariants as parser
use Rattle.queue_updates.specs.declared.Update.{Update}
use Rattle.queue_updates.specs.declared.Update.TheVariants.{Gebauer, Plain}
use Rattle.command_words.specs.declared.words.Request.{Request}
use Rattle.command_words.specs.declared.words.Command.{Command}
use Rattle.command_words.specs.declared.words.Command.TheVariants.{Run, Large}

-- an option with one number in these bounds, set at most once
abbrev pub number_rule : List ℕ → ℕ → ℕ → Rule
number_rule name least most = record (new_rule name) { long = Some name; action = Some Set; parser = Some (parser.Unsigned least most) }

-- the seed: a number below 2^31 at its place, which may not be left out
abbrev pub seed_rule : Rule
seed_rule = record (new_rule (codes "seed")) { action = Some Set; parser = Some (parser.Unsigned 0 2147483647); required = true }

-- a subcommand with the four options
abbrev pub with_options : App → App
with_options a = with_rule (with_rule (with_rule (with_rule a
    (number_rule (codes "workers") 1 16))
    (number_rule (codes "helpers") 1 16))
    (number_rule (codes "pairs") 0 1000000000))
    (number_rule (codes "update") 0 1)

-- `run`
abbrev pub run_app : App
run_app = with_options (new_app (codes "run"))

-- `large` and its seed
abbrev pub large_app : App
large_app = with_options (with_rule (new_app (codes "large")) seed_rule)

-- a command whose subcommand may not be left out
abbrev pub requiring : App → App
requiring a = on_top (λ s. record s { subcommand_required = true }) a

-- the command of the program
abbrev pub words_app : App
words_app = requiring (with_subcommand (with_subcommand (new_app (codes "groebner")) run_app.top) large_app.top)

-- the words are of the form: the command finds no fault in them
abbrev pub IsForm : List Text → Type 0
IsForm words = fault_of words_app words ≡ []

-- what the words give an option
abbrev pub option_text : List ℕ → List Text → Option Text
option_text name words = option_and_then (λ p. one_of name p.1) (subcommand_of words_app words)

-- the number that a text states within these bounds, and where there is none the default
abbrev pub number_or : ℕ → ℕ → ℕ → Option Text → ℕ
number_or least most default None = default
number_or least most default (Some text) = if is_unsigned_in least most text then digits_value 10 (without_leading_plus text) else default

-- the command of a subcommand's name, and the text of its seed
abbrev pub command_named : Text → Option Text → Command
command_named name seed = if bytes_eq name (codes "large") then Large (number_or 0 2147483647 0 seed) else Run

-- the command of the subcommand that was met
abbrev pub command_met : Option (Text × List Row) → Command
command_met None = Run
command_met (Some p) = command_named p.0 (one_of (codes "seed") p.1)

-- the update with a number
abbrev pub update_numbered : ℕ → Update
update_numbered zero = Plain
update_numbered (suc n) = Gebauer

-- the request that the words state
abbrev pub request_of : List Text → Request
request_of words = record {
  command = command_met (subcommand_of words_app words);
  workers = number_or 1 16 2 (option_text (codes "workers") words);
  helpers = number_or 1 16 2 (option_text (codes "helpers") words);
  pairs = number_or 0 1000000000 1000000 (option_text (codes "pairs") words);
  update = update_numbered (number_or 0 1 0 (option_text (codes "update") words));
}

-- the seed of the command, where it has one, is at most this
abbrev pub HasSeedWithin : ℕ → Command → Type 0
HasSeedWithin most Run = Unit {0}
HasSeedWithin most (Large seed) = seed ≤ most
