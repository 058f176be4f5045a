use Rattle.std.proofs.Common.{ap, arith, length, ◌<◌, ◌∙◌}
use Rattle.basis_steps.proofs.Counting.{pair_swapped}
use Rattle.pair_queue.proofs.Mirroring.{row_flag}
use Rattle.pair_queue.specs.Tables.{TableShown, flag}
use Rattle.pair_queue.proofs.table.Table.has.Goals as goal

pub returns : goal.returns
returns c =
    let i = c.args.i in
    let j = c.args.j in
    let t : TableShown = record { members = c.self.inside.members; rows = c.self.inside.rows.items } in
    let within : j < length t.rows = omega (arith, c.requires.within, ap (λ (t : TableShown). t.members) c.self.view_is, c.self.invariant.enough) in
    c.has.ensures ∙ row_flag t c.self.invariant j c.index.result.now within c.index.ensures i ∙ ap (flag t) (pair_swapped j i c.requires.order)
    ∙ ap (λ (t : TableShown). flag t (i, j)) c.self.view_is
