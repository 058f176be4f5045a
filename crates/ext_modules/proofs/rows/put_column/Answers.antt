use Rattle.std.proofs.Common.{[], ap, subst, sym, take, ◌++◌, ◌∙◌, ◌∷◌}
use Rattle.ext_modules.specs.Rows.{ArePut}
use Rattle.ext_modules.proofs.Putting.{put_next, take_next}
use Rattle.ext_modules.proofs.rows.put_column.Goals as goal

pub loop-term-preserved : goal.loop-term-preserved
loop-term-preserved c =
    let j = c.args.column in
    let x = c.term-item.result in
    let items = c.terms-term-items.result.now in
    let i = c.loop-term.term-index in
    let old = c.args.rows.now.items in
    let new = c.put_term.new.rows.items in
    subst (λ l. ArePut j l old new) (sym (take_next x items i c.loop-term-test.true ∙ ap (λ y. take i items ++ y ∷ []) (sym c.term-item.is)))
    (put_next j (take i items) x old c.loop-term.rows.items new c.loop-term.invariant c.in_ok-put_term.ensures)
