use Rattle.std.proofs.Common.{ap, ap₂, codes, map, string_bytes, ◌≡◌, ◌∙◌, subst}
use Rattle.std.proofs.lemmas.Result.{IfOk-weaker}
use Rattle.clap.specs.Kinds.{FailsBy}
use Rattle.clap.specs.Faults.{fault_of, is_simple_and_free}
use Rattle.clap.specs.Simple.{App, app_of, app_of_fields, new_app, is_simple, subcommand_of, with_rule, with_subcommand}
use Rattle.command_words.specs.Command.{words_app, run_app, large_app, requiring, seed_rule, with_options}
use Rattle.command_words.proofs.words.parse.Goals as goal

-- the command that was built
all_is : (c : goal.After-try_get_matches_from) → app_of c.subcommand_required-command.result ≡ words_app
all_is c =
    let run_is : app_of c.in_ok-run.run' ≡ run_app = c.in_ok-run.ensures.app ∙ ap with_options c.new.ensures.app in
    let seeded_is : app_of c.in_ok-seeded.seeded ≡ with_rule (new_app (codes "large")) seed_rule =
    c.in_ok-seeded.ensures.shape c.seed_argument.ensures.local ∙ ap₂ with_rule c.new-2.ensures.app c.seed_argument.ensures.rule in
    let large_is : app_of c.in_ok-large.large ≡ large_app = c.in_ok-large.ensures.app ∙ ap with_options seeded_is in
    let one_is : app_of c.in_ok-subcommand.field-0 ≡ with_subcommand (new_app (codes "groebner")) run_app.top =
    c.in_ok-subcommand.ensures.shape c.in_ok-run.ensures.local ∙ ap₂ with_subcommand c.new-3.ensures.app (ap (λ (a : App). a.top) run_is) in
    let two_is : app_of c.in_ok-subcommand-2.field-0 ≡ with_subcommand (with_subcommand (new_app (codes "groebner")) run_app.top) large_app.top =
    c.in_ok-subcommand-2.ensures.shape c.in_ok-large.ensures.local ∙ ap₂ with_subcommand one_is (ap (λ (a : App). a.top) large_is) in
    ap app_of_fields c.subcommand_required-command.ensures ∙ ap requiring two_is

pub returns-clause-exact : goal.returns-clause-exact
returns-clause-exact c =
    subst (λ a. FailsBy (fault_of a (map string_bytes c.args.words.now)) c.try_get_matches_from.result) (all_is c)
    (c.try_get_matches_from.ensures.kinds (ap is_simple_and_free (all_is c)))

pub returns-clause-matches : goal.returns-clause-matches
returns-clause-matches c =
    IfOk-weaker c.try_get_matches_from.result _ _
    (λ m h. (h (ap is_simple (all_is c))).1 ∙ ap (λ a. subcommand_of a (map string_bytes c.args.words.now)) (all_is c)) c.try_get_matches_from.ensures.matches
