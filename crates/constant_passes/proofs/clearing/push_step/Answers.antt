use Rattle.std.proofs.Common.{arith, length, ◌∙◌, ◌≡◌}
use Rattle.column_passes.proofs.Numbering.{numbered_more, others_more}
use Rattle.constant_passes.specs.declared.clearing.Step.{Step}
use Rattle.constant_passes.proofs.clearing.push_step.Goals as goal

pub returns-clause-numbered : goal.returns-clause-numbered
returns-clause-numbered c =
    let steps = c.args.table.now.steps.items in
    let number : c.len-number.result ≡ length steps = omega arith in
    numbered_more (λ (s : Step). s.row) c.args.table.now.numbers.items c.number_row.new.numbers.items steps _ c.args.step c.in_ok-push.ensures.items
    (λ q ne. c.in_ok-number_row.ensures.others q ne) (c.in_ok-number_row.ensures.here ∙ number) c.requires.other c.requires.numbered

pub returns-clause-others : goal.returns-clause-others
returns-clause-others c =
    others_more (λ (s : Step). s.row) c.args.table.now.numbers.items c.number_row.new.numbers.items c.args.table.now.steps.items _ c.args.step
    c.in_ok-push.ensures.items (λ q ne. c.in_ok-number_row.ensures.others q ne) c.requires.others
