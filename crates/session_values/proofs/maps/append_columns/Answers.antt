use Rattle.std.proofs.Common.{[], get_or, length, subst, ◌++◌, ◌<◌, ◌∙◌, ◌∷◌, ◌≡◌}
use Rattle.formal_sums.specs.FormalSums.{Each}
use Rattle.term_lists.proofs.Scaling.{Each_at}
use Rattle.term_lists.specs.Rings.{variables}
use Rattle.term_lists.specs.Vectors.{HasVariables}
use Rattle.poly_text.specs.Texts.{entries_text, names_of}
use Rattle.session_values.proofs.Appending.{lines_step}
use Rattle.session_values.proofs.maps.append_columns.Goals as goal

pub returns-in-Err-clause-err : goal.returns-in-Err-clause-err
returns-in-Err-clause-err c = (_, c.in-Err.ensures.err ∙ c.loop-column.invariant)

pub push_cofactors-requires : goal.push_cofactors-requires
push_cofactors-requires c =
    let i = c.loop-column.column-index in
    let v = c.column-item.result in
    Each_at (λ v. Each (HasVariables (variables c.args.ring.now)) v) c.args.columns.now i v c.requires
    (subst (λ l. i < length l) c.as_slice-column-items.ensures c.loop-column-test.true)
    (subst (λ l. v ≡ get_or l i v) c.as_slice-column-items.ensures c.column-item.is)

pub loop-column-preserved : goal.loop-column-preserved
loop-column-preserved c =
    let i = c.loop-column.column-index in
    let v = c.column-item.result in
    lines_step (λ w. entries_text (names_of c.args.ring.now) c.args.rows w ++ 10 ∷ []) c.args.columns.now i v c.args.out.now c.loop-column.out
    c.push_cofactors.new.out (subst (λ l. i < length l) c.as_slice-column-items.ensures c.loop-column-test.true)
    (subst (λ l. v ≡ get_or l i v) c.as_slice-column-items.ensures c.column-item.is) c.loop-column.invariant c.in-Ok.ensures.ok
