use Rattle.std.proofs.Common.{map}
use Rattle.column_passes.specs.Passing.{AreNumbered, HaveNoOthers}
use Rattle.column_passes.proofs.Clearings.{on_ok}
use Rattle.constant_passes.specs.Choosing.{IsColumnChosen}
use Rattle.constant_passes.specs.Listing.{constants_at}
use Rattle.constant_passes.specs.declared.clearing.Step.{Step}
use Rattle.constant_passes.proofs.Entries.{free_entries, steps_over}
use Rattle.constant_passes.proofs.Meeting.{on_three}
use Rattle.term_lists.specs.Rings.{variables}
use Rattle.constant_passes.proofs.choosing.meet.Goals as goal

pub choose-requires-clause-free : goal.choose-requires-clause-free
choose-requires-clause-free c =
    let ring = c.args.ring.now in
    let told = c.requires.leaving in
    free_entries ring c.in_ok-column.column c.in_ok-column.ensures.over c.args.pass.now.table.steps.items
    (constants_at (variables ring) told.0 c.args.terms.now) (c.in_ok-column.ensures.left told.0 told.1) (c.requires.free told.0 told.1)

pub returns-clause-met : goal.returns-clause-met
returns-clause-met c rows h =
    let ring = c.args.ring.now in
    let column = c.in_ok-column.column in
    let steps = c.args.pass.now.table.steps.items in
    let choices = c.args.pass.now.choices.items in
    on_ok c.choose.result (IsColumnChosen ring c.args.number column steps c.choose.new.table.steps.items choices c.choose.new.choices.items) _
    (λ chosen. record {
      column = column;
      over = c.in_ok-column.ensures.over;
      left = c.in_ok-column.ensures.left rows h;
      chosen = chosen;
    }) c.choose.ensures.chosen

pub returns-clause-pass : goal.returns-clause-pass
returns-clause-pass c =
    let ring = c.args.ring.now in
    let column = c.in_ok-column.column in
    let steps = c.args.pass.now.table.steps.items in
    let new = c.choose.new.table.steps.items in
    let numbers = c.choose.new.table.numbers.items in
    let choices = c.args.pass.now.choices.items in
    on_three c.choose.result (IsColumnChosen ring c.args.number column steps new choices c.choose.new.choices.items)
    (AreNumbered numbers 0 (map (λ (s : Step). s.row) new)) (HaveNoOthers numbers (map (λ (s : Step). s.row) new)) _
    (λ chosen numbered others. record {
      steps = steps_over ring column c.in_ok-column.ensures.over c.args.number steps new choices c.choose.new.choices.items c.requires.pass.steps chosen;
      numbered = numbered;
      others = others;
      zeros = c.in_ok-column.ensures.zeros;
    }) c.choose.ensures.chosen c.choose.ensures.numbered c.choose.ensures.others
