use Rattle.std.proofs.Common.{ap, arith, drop, get_or, set, suc, take, ◌+◌, ◌++◌, ◌∙◌, ◌≡◌}
use Rattle.row_matrix.specs.Placed.{placed_entries}
use Rattle.row_matrix.proofs.PlacedRows.{place_step}
use Rattle.row_matrix.proofs.placing.place_entries.Goals as goal

pub loop-k-preserved : goal.loop-k-preserved
loop-k-preserved c =
    let k = c.loop-k.k in
    let places = c.args.places.now in
    let es = c.args.entries.now in
    record {
      items =
          ap (λ xs. let e = get_or xs k (0, 0) in set xs k (get_or places e.0 0, e.1)) c.loop-k.invariant.items
          ∙ place_step places es k c.loop-k-test.true
          ∙ ap (λ m. placed_entries places (take m es) ++ drop m es) (let q : suc k ≡ k + 1 = omega arith in q);
    }
