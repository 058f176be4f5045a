-- The number that an option's text states.
use Rattle.std.proofs.Common.{◌≡◌, ◌∙◌, ℕ, ◌^◌, ◌<◌, ◌≤◌, Bool, true, false, List, Option, Some, None, refl, sym, ap, ap₂, subst, codes}
use Rattle.std.specs.Prelude.{Box, if◌then◌else◌, option_map, option_and_then, unwrap_or}
use Rattle.std.specs.Box.{box_value}
use Rattle.std.specs.Str.Parse.{IsNumeral, digits_value, without_leading_plus}
use Rattle.clap.specs.Walk.{Row, Text, one_of, rows_of}
use Rattle.clap.specs.Matches.{one_text}
use Rattle.clap.specs.Simple.{subcommand_of, subcommand_rows}
use Rattle.clap.specs.ValueTests.{is_unsigned_in}
use Rattle.clap.specs.declared.parser.matches.ArgMatches.TheViews.{out-SubCommand}
use Rattle.clap.specs.declared.parser.matches.SubCommand.{SubCommand}
use Rattle.clap.specs.declared.parser.matches.Found.{Found}
use Rattle.clap.specs.declared.builder.value_parser.ValueParser.TheVariants as parser
use Rattle.clap.proofs.WalkLemmas.{one_text-rows}
use Rattle.clap.proofs.ValueTestLemmas.{accepts-Accepts, Accepts-accepts}
use Rattle.command_words.specs.declared.words.Request.{Request}
use Rattle.command_words.specs.declared.words.Command.{Command}
use Rattle.command_words.specs.Command.{command_met, command_named, number_or, option_text, request_of, update_numbered, words_app}

-- a text that is read as a number within the bounds states it
pub number_within : (least most default n : ℕ) (text : Text) → IsNumeral 10 (without_leading_plus text) → digits_value 10 (without_leading_plus text) < 2 ^ 64
    → n ≡ digits_value 10 (without_leading_plus text) → least ≤ n → n ≤ most → n ≡ number_or least most default (Some text)
number_within least most default n text numeral fits same low high =
    let test : is_unsigned_in least most text ≡ true =
    Accepts-accepts false (parser.Unsigned least most) text (numeral, fits, subst (λ k. least ≤ k) same low, subst (λ k. k ≤ most) same high) in
    same ∙ sym (ap (λ (t : Bool). if t then digits_value 10 (without_leading_plus text) else default) test)

-- a text that is no number within the bounds leaves the default
pub number_outside : (least most default : ℕ) (text : Text)
    → (IsNumeral 10 (without_leading_plus text) → digits_value 10 (without_leading_plus text) < 2 ^ 64
    → least ≤ digits_value 10 (without_leading_plus text) → digits_value 10 (without_leading_plus text) ≤ most → ⊥)
    → default ≡ number_or least most default (Some text)
number_outside least most default text none = go (is_unsigned_in least most text) refl
  where
    go : (t : Bool) → is_unsigned_in least most text ≡ t → default ≡ number_or least most default (Some text)
    go true e = let all = accepts-Accepts false (parser.Unsigned least most) text e in absurd (none all.0 all.1 all.2 all.3)
    go false e = sym (ap (λ (t : Bool). if t then digits_value 10 (without_leading_plus text) else default) e)

some_rows : (a b : List Row) → Some a ≡ Some b → a ≡ b
some_rows a b e = ap (λ (o : Option (List Row)). unwrap_or o a) e

chosen_text : (name : Text) (f : Found) (s : Option (Text × List Row)) → Some (rows_of f) ≡ option_map (λ p. p.1) s → one_text f name ≡ option_and_then (λ p. one_of name p.1) s
chosen_text name f None e = cc
chosen_text name f (Some p) e = one_text-rows f name ∙ ap (one_of name) (some_rows (rows_of f) p.1 e)

-- what is read of the subcommand that was chosen
pub chosen_number : (least most default : ℕ) (name : Text) (f : Found) (s r : Option (Text × List Row)) (n : ℕ) → Some (rows_of f) ≡ option_map (λ p. p.1) s → s ≡ r
    → n ≡ number_or least most default (one_text f name) → n ≡ number_or least most default (option_and_then (λ p. one_of name p.1) r)
chosen_number least most default name f s r n rows same number =
    number ∙ ap (number_or least most default) (chosen_text name f s rows ∙ ap (option_and_then (λ p. one_of name p.1)) same)

-- a number was read of the text of an option
pub read_number : (least most default n : ℕ) (t : Option Text) → (t ≡ None → Some n ≡ None)
    → ((x : Text) → t ≡ Some x → (IsNumeral 10 (without_leading_plus x) × (digits_value 10 (without_leading_plus x) < 2 ^ 64)) × (n ≡ digits_value 10 (without_leading_plus x)))
    → least ≤ n → n ≤ most → n ≡ number_or least most default t
read_number least most default n None none value low high = let e = none refl in cc
read_number least most default n (Some x) none value low high =
    let all = value x refl in number_within least most default n x all.0.0 all.0.1 all.1 low high

-- and it is not within the bounds
pub read_outside : (least most default n : ℕ) (t : Option Text) → (t ≡ None → Some n ≡ None)
    → ((x : Text) → t ≡ Some x → (IsNumeral 10 (without_leading_plus x) × (digits_value 10 (without_leading_plus x) < 2 ^ 64)) × (n ≡ digits_value 10 (without_leading_plus x)))
    → (least ≤ n → n ≤ most → ⊥) → default ≡ number_or least most default t
read_outside least most default n None none value out = refl
read_outside least most default n (Some x) none value out =
    let all = value x refl in
    number_outside least most default x (λ numeral fits low high. out (subst (λ k. least ≤ k) (sym all.1) low) (subst (λ k. k ≤ most) (sym all.1) high))

-- no number was read
pub read_nothing : (least most default : ℕ) (t : Option Text)
    → ((x : Text) → t ≡ Some x → IsNumeral 10 (without_leading_plus x) × (digits_value 10 (without_leading_plus x) < 2 ^ 64) → ⊥) → default ≡ number_or least most default t
read_nothing least most default None none = refl
read_nothing least most default (Some x) none = number_outside least most default x (λ numeral fits low high. none x refl (numeral, fits))

-- the name of the subcommand that was met
pub met_name : {Z : Type 0} (name : Text) (b : Option (Box SubCommand Z)) → Some name ≡ option_map (λ x. (out-SubCommand (box_value x)).name.now) b
    → Some name ≡ option_map (λ p. p.0) (subcommand_rows b)
met_name name None e = e
met_name name (Some x) e = e

-- what is read of the name and of the seed is the command that was met
pub chosen_command : (name : Text) (f : Found) (s r : Option (Text × List Row)) (command : Command) → Some name ≡ option_map (λ p. p.0) s
    → Some (rows_of f) ≡ option_map (λ p. p.1) s → s ≡ r → command ≡ command_named name (one_text f (codes "seed")) → command ≡ command_met r
chosen_command name f None r command named rows same is = cc
chosen_command name f (Some p) r command named rows same is =
    let here : name ≡ p.0 = ap (λ (o : Option Text). unwrap_or o name) named in
    let seed = one_text-rows f (codes "seed") ∙ ap (one_of (codes "seed")) (some_rows (rows_of f) p.1 rows) in
    is ∙ ap₂ command_named here seed ∙ ap command_met same

-- the command and the four numbers make the request
pub request_is : (command : Command) (workers helpers pairs update : ℕ) (words : List Text) → command ≡ command_met (subcommand_of words_app words)
    → workers ≡ number_or 1 16 2 (option_text (codes "workers") words)
    → helpers ≡ number_or 1 16 2 (option_text (codes "helpers") words) → pairs ≡ number_or 0 1000000000 1000000 (option_text (codes "pairs") words)
    → update ≡ number_or 0 1 0 (option_text (codes "update") words)
    → ◌≡◌ {A = Request} (record { command = command; workers = workers; helpers = helpers; pairs = pairs; update = update_numbered update }) (request_of words)
request_is command workers helpers pairs update words zero one two three four =
    λ i. record { command = zero i; workers = one i; helpers = two i; pairs = three i; update = update_numbered (four i) }
