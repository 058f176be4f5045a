use Rattle.std.proofs.Common.{ap, ap₂, ◌∙◌, Some}
use Rattle.clap.specs.Walk.{Rule, rule_of}
use Rattle.clap.specs.declared.builder.action.ArgAction.TheVariants.{Set}
use Rattle.command_words.proofs.words.number_option.Goals as goal

pub returns-clause-rule : goal.returns-clause-rule
returns-clause-rule c =
    ap rule_of c.value_parser.ensures.others
    ∙ ap₂ (λ (r : Rule) p. record r { parser = p }) (ap rule_of c.action.ensures
    ∙ ap (λ (r : Rule). record r { action = Some Set }) (ap rule_of c.long.ensures
    ∙ ap (λ (r : Rule). record r { long = Some c.args.name.now }) c.new.ensures.rule))
    (c.value_parser.ensures.given.1 ∙ ap Some c.value_parser.ensures.given.2)

pub returns-clause-local : goal.returns-clause-local
returns-clause-local c =
    ap (λ a. a.global) c.value_parser.ensures.others ∙ ap (λ a. a.global) c.action.ensures ∙ ap (λ a. a.global) c.long.ensures ∙ c.new.ensures.optional.1
