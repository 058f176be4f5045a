use Rattle.std.proofs.Common.{arith, length, subst, sym, ◌++◌, ◌<◌, ◌≡◌}
use Rattle.std.proofs.lemmas.List.Sorted.{length_permutation}
use Rattle.formal_sums.specs.FormalSums.{Each}
use Rattle.row_reduce.proofs.Echelons.{leads_columns}
use Rattle.row_reduce.proofs.HelpedRows.{dealt_below}
use Rattle.row_reduce.proofs.choosing.choose.Goals as goal

pub free_rows-requires-clause-within : goal.free_rows-requires-clause-within
free_rows-requires-clause-within c =
    leads_columns c.requires.ready.0 (length c.args.held.now) c.requires.ready.1 c.args.rows.now c.args.leads.now c.args.held.now c.args.pending.now
    c.requires.ready.2

pub enough-work-requires : goal.enough-work-requires
enough-work-requires c =
    let parts = c.in_ok-parts.parts in
    subst (Each (λ k. k < length c.args.rows.now)) (sym c.deref.ensures.value)
    (dealt_below (length c.args.rows.now) c.args.pending.now parts.first.items parts.others.items c.in_ok-parts.ensures c.requires.ready.2.known).1

pub some_rows-requires-clause-known : goal.some_rows-requires-clause-known
some_rows-requires-clause-known c =
    let parts = c.in_ok-parts.parts in
    (dealt_below (length c.args.rows.now) c.args.pending.now parts.first.items parts.others.items c.in_ok-parts.ensures c.requires.ready.2.known).1

pub some_rows-requires-clause-some : goal.some_rows-requires-clause-some
some_rows-requires-clause-some c =
    let parts = c.in_ok-parts.parts in
    let same : length (parts.first.items ++ parts.others.items) ≡ length c.args.pending.now =
    length_permutation c.args.pending.now (parts.first.items ++ parts.others.items) c.in_ok-parts.ensures in
    omega (arith, c.requires.some)
