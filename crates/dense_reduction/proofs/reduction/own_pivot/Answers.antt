use Rattle.std.proofs.Common.{length, refl, ◌+◌, ◌-◌, ◌∙◌}
use Rattle.std.proofs.lemmas.List.{get_or_default}
use Rattle.dense_reduction.proofs.Steps.{pivot_own}
use Rattle.dense_reduction.specs.Rests.{rows_left}
use Rattle.dense_reduction.proofs.reduction.own_pivot.Goals as goal

pub returns : goal.returns
returns c = λ told.
    let pivots = c.args.own.now.pivots.items in
    let number = c.index-number.result.now in
    pivot_own c.args.shared.modulus.now.value (length pivots) c.args.shared.inputs c.args.c number (length c.args.shared.rows.now + number - 1)
    c.args.shared.rows.now (rows_left c.args.own.now.left.items) pivots told c.requires.own c.requires.at
    (c.index-number.ensures ∙ get_or_default pivots c.args.c number 0 c.requires.at) c.if-number-eq0.false refl
