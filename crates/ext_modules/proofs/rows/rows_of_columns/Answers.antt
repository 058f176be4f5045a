use Rattle.std.proofs.Common.{[], ap, arith, get_or, length, subst, sym, take, ◌++◌, ◌<◌, ◌≤◌, ◌∙◌, ◌∷◌, ◌≡◌}
use Rattle.std.proofs.lemmas.List.{length-take-le}
use Rattle.ext_modules.specs.Rows.{AreRowsOf}
use Rattle.ext_modules.proofs.Putting.{column_next, take_next}
use Rattle.ext_modules.proofs.rows.rows_of_columns.Goals as goal

pub loop-j-preserved : goal.loop-j-preserved
loop-j-preserved c =
    let count = c.args.count in
    let columns = c.args.columns.now in
    let j = c.loop-j.j in
    let x = c.index-as_slice-j.result in
    let old = c.loop-j.rows.items in
    let new = c.put_column.new.rows.items in
    let lt : j < length columns = subst (λ z. j < z) c.len-j-end.ensures c.loop-j-test.true in
    let le : j ≤ length columns = omega (arith, lt) in
    let at : x ≡ get_or columns j x = c.index-as_slice-j.is ∙ ap (λ z. get_or z j x) c.as_slice.ensures in
    subst (λ l. AreRowsOf count l new) (sym (take_next x columns j lt ∙ ap (λ y. take j columns ++ y ∷ []) (sym at)))
    (column_next count (take j columns) j x old new (sym (length-take-le j columns le)) c.loop-j.invariant c.in_ok-put_column.ensures)
