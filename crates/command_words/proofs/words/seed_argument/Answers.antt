use Rattle.std.proofs.Common.{ap, ap₂, true, ◌∙◌, Some}
use Rattle.clap.specs.Walk.{Rule, rule_of}
use Rattle.clap.specs.declared.builder.action.ArgAction.TheVariants.{Set}
use Rattle.command_words.proofs.words.seed_argument.Goals as goal

pub returns-clause-rule : goal.returns-clause-rule
returns-clause-rule c =
    ap rule_of c.required.ensures
    ∙ ap (λ (r : Rule). record r { required = true }) (ap rule_of c.value_parser.ensures.others
    ∙ ap₂ (λ (r : Rule) p. record r { parser = p }) (ap rule_of c.action.ensures
    ∙ ap (λ (r : Rule). record r { action = Some Set }) c.new.ensures.rule)
    (c.value_parser.ensures.given.1 ∙ ap Some c.value_parser.ensures.given.2))

pub returns-clause-local : goal.returns-clause-local
returns-clause-local c =
    ap (λ a. a.global) c.required.ensures ∙ ap (λ a. a.global) c.value_parser.ensures.others ∙ ap (λ a. a.global) c.action.ensures ∙ c.new.ensures.optional.1
