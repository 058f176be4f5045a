use Rattle.std.proofs.Common.{[], subst, sym, ◌∙◌, ◌≡◌}
use Rattle.pivot_table.specs.Law.{LeadsFit, told}
use Rattle.dense_reduction.specs.Rests.{rows_left}
use Rattle.row_reduce.proofs.ReducedTails.{tails_end}
use Rattle.row_reduce.specs.Echelons.{IsEchelonOf}
use Rattle.row_reduce.proofs.tails.reduced_in_turn.Goals as goal

pub returns : goal.returns
returns c = λ M h.
    let p = c.args.modulus.now.value in
    let columns = c.args.columns in
    let inputs = c.args.inputs in
    let left = c.in_ok-left.left.items in
    let words = c.close.result.items in
    let tallies = c.close.ensures.tallies in
    let none : c.in-Ok.made.0.rows.leads.items ≡ [] = c.in-Ok.ensures.rows.0 ∙ c.deref.ensures.value ∙ c.new-leads.ensures.items in
    subst (IsEchelonOf p columns inputs M) (sym c.in_ok-done.ensures)
    (tails_end p columns inputs (told c.keep_each.new.seat) words M c.args.rows.items (rows_left left) tallies.as_told
    (subst (λ ls. LeadsFit ls words) none tallies.fits) c.in_ok-left.ensures.reduced h)
