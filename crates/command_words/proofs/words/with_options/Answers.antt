use Rattle.std.proofs.Common.{ap₂, refl, ◌∙◌}
use Rattle.clap.specs.Simple.{with_rule}
use Rattle.command_words.proofs.words.with_options.Goals as goal

pub returns-clause-app : goal.returns-clause-app
returns-clause-app c =
    c.in_ok-whole.ensures.shape c.number_option-4.ensures.local
    ∙ ap₂ with_rule (c.in_ok-arg-2.ensures.shape c.number_option-3.ensures.local
    ∙ ap₂ with_rule (c.in_ok-counted.ensures.shape c.number_option-2.ensures.local
    ∙ ap₂ with_rule (c.in_ok-arg.ensures.shape c.number_option.ensures.local ∙ ap₂ with_rule refl c.number_option.ensures.rule)
    c.number_option-2.ensures.rule) c.number_option-3.ensures.rule) c.number_option-4.ensures.rule
