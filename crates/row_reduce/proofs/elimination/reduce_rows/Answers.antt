use Rattle.std.proofs.Common.{None, ap, length, replicate, reverse, subst, subst₂, sym, ◌∙◌, ◌≡◌}
use Rattle.std.proofs.lemmas.List.{length-replicate}
use Rattle.std.specs.List.{range_with_len}
use Rattle.term_lists.proofs.Gathers.{Each_permutation}
use Rattle.pivot_table.specs.Law.{LeadsFit}
use Rattle.row_matrix.specs.Rows.{IsRow}
use Rattle.dense_reduction.specs.Words.{named}
use Rattle.row_reduce.proofs.Echelons.{between_read, between_start, echelon_end, from_read, from_start, rows_some}
use Rattle.row_reduce.proofs.Orders.{echelon_permuted}
use Rattle.row_reduce.specs.Echelons.{AreBetween, IsEchelonOf}
use Rattle.row_reduce.proofs.elimination.reduce_rows.Goals as goal

pub begin-requires : goal.begin-requires
begin-requires g c =
    let p = c.args.modulus.now.value in
    rows_some p c.args.columns c.args.inputs c.by_weight-sorted.result.items
    (Each_permutation (IsRow p c.args.columns c.args.inputs) c.args.rows.items c.by_weight-sorted.result.items c.by_weight-sorted.ensures c.requires)

pub run_passes-requires-after_bounds : goal.run_passes-requires-after_bounds
run_passes-requires-after_bounds g c κs within =
    let p = c.args.modulus.now.value in
    let n = c.args.columns in
    let sorted = c.by_weight-sorted.result.items in
    let s = c.in_ok-state.state in
    let start = c.in_ok-state.ensures in
    let good = Each_permutation (IsRow p n c.args.inputs) c.args.rows.items sorted c.by_weight-sorted.ensures c.requires in
    let wide : length s.held.items ≡ n = ap length start.held ∙ length-replicate n None in
    subst (λ m. AreBetween p m c.args.inputs s.rows.items s.leads.items s.held.items s.pending.items) (sym wide)
    (between_read p n c.args.inputs s.rows.items sorted s.leads.items s.held.items (replicate n None) s.pending.items (range_with_len 0 (length sorted))
    start.rows start.leads start.held start.pending (between_start p n c.args.inputs sorted good))

pub named_rows-requires : goal.named_rows-requires
named_rows-requires g c =
    let new = c.run_passes.new.state in
    let ready = c.in_ok-run_passes.ensures.ready in
    subst₂ (λ ls hs. LeadsFit ls hs) ready.ready.known (sym c.deref.ensures.value) ready.fits

pub returns : goal.returns
returns g c =
    let p = c.args.modulus.now.value in
    let n = c.args.columns in
    let sorted = c.by_weight-sorted.result.items in
    let s = c.in_ok-state.state in
    let start = c.in_ok-state.ensures in
    let new = c.run_passes.new.state in
    let end = c.in_ok-run_passes.ensures in
    let wide : length s.held.items ≡ n = ap length start.held ∙ length-replicate n None in
    let from = from_read p sorted s.rows.items sorted s.held.items (replicate n None) s.pending.items (range_with_len 0 (length sorted)) start.rows start.held start.pending (from_start p n sorted) in
    let done : c.in_ok-done.done.items ≡ reverse (named new.rows.items new.held.items) = c.in_ok-done.ensures ∙ ap (λ hs. reverse (named new.rows.items hs)) c.deref.ensures.value in
    echelon_permuted p n c.args.inputs c.args.rows.items sorted c.in_ok-done.done.items c.by_weight-sorted.ensures
    (subst₂ (λ m E. IsEchelonOf p m c.args.inputs sorted E) wide (sym done)
    (echelon_end p (length s.held.items) c.args.inputs sorted new.rows.items new.leads.items new.held.items new.pending.items end.ready (end.kept sorted from) end.done))
