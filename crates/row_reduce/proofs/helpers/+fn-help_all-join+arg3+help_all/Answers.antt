use Rattle.std.proofs.Common.{length, rules, ◌++◌, ◌∙◌}
use Rattle.std.proofs.lemmas.Result.{IfOk-weaker}
use Rattle.std.specs.List.Sorted.{IsPermutation}
use Rattle.pivot_table.specs.Law.{told}
use Rattle.row_reduce.proofs.HelpedRows.{dealt_below, dealt_read, helped_permuted}
use Rattle.row_reduce.proofs.helpers.+fn-help_all-join+arg3+help_all.Goals as goal

pub join-theirs-requires-after_bounds : goal.join-theirs-requires-after_bounds
join-theirs-requires-after_bounds g t c κs within =
    let new = c.split-other.ensures.new in
    let old = c.split-other.ensures.old in
    let parts =
    dealt_below (length c.args.shared.rows.now) c.args.mine.now c.as_slice-others.result.now c.as_slice-late.result.now
    (dealt_read c.as_slice-others.ensures.value c.as_slice-late.ensures.value c.in-Ok.ensures) c.requires.mine in (
      (c.requires.ready, new.0, new.1, parts.1, c.requires.free),
      (search rules, ((λ a m. m), ((search rules, c.requires.ready, old.0, old.1 ∙ c.requires.fresh, parts.0, c.requires.free), search rules))),
    )

pub returns-clause-helped : goal.returns-clause-helped
returns-clause-helped g t c =
    let p = c.args.shared.modulus.now.value in
    let inputs = c.args.shared.inputs in
    let rows = c.args.shared.rows.now in
    let others = c.as_slice-others.result.now in
    let late = c.as_slice-late.result.now in
    let same : IsPermutation c.args.mine.now (others ++ late) = dealt_read c.as_slice-others.ensures.value c.as_slice-late.ensures.value c.in-Ok.ensures in
    IfOk-weaker c.unite.result.0 _ _
    (λ left h. helped_permuted p c.args.columns inputs rows c.args.mine.now (others ++ late) (told c.unite.result.1) left.items same h)
    (c.unite.ensures.helped p c.args.columns inputs rows others late (search rules) (search rules))
