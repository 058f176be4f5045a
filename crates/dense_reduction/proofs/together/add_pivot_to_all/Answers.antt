use Rattle.std.proofs.Common.{List, [], ap, arith, drop, get_or, length, subst, subst₂, sym, take, ℕ, ◌++◌, ◌-◌, ◌<◌, ◌∙◌, ◌∷◌, ◌≡◌}
use Rattle.row_matrix.specs.Rows.{RowShown, shown_row_at}
use Rattle.dense_reduction.proofs.Lanes.{behind_first, written_back}
use Rattle.dense_reduction.specs.Dense.{AddsMultiple}
use Rattle.dense_reduction.specs.Eights.{lane}
use Rattle.dense_reduction.specs.Rests.{rows_left}
use Rattle.dense_reduction.specs.Together.{IsAdded}
use Rattle.dense_reduction.proofs.together.add_pivot_to_all.Goals as goal

pub returns-clause-added : goal.returns-clause-added
returns-clause-added c =
    let p = c.args.shared.modulus.now.value in
    let t = c.args.together.now in
    let items = t.numbers.items in
    let factors = c.negate_all-factors.result in
    let residues = c.args.residues.now in
    let row = shown_row_at (c.args.shared.rows.now ++ rows_left c.args.own.now.left.items) c.args.pivot in
    let es = c.entries.result.now in
    let new = c.add_to_all-together.new.numbers in
    let value = c.as_mut_slice-numbers.ensures.value in
    let count : length new ≡ length items = c.add_to_all-together.ensures.count ∙ ap length value in
    let n : t.numbers.len ≡ length new = omega (arith, count, c.as_mut_slice-numbers.ensures.len, ap length value) in
    let at : c.row_numbered-row.result.now ≡ row =
    c.row_numbered-row.ensures ∙ ap (λ left. shown_row_at (c.args.shared.rows.now ++ rows_left left) c.args.pivot) c.as_slice.ensures.value in
    let e : take (length es - 1) (drop 1 es) ≡ drop 1 row.entries =
    behind_first es ∙ ap (drop 1) (c.entries.ensures ∙ ap (λ (r : RowShown). r.entries) at) in
    subst (λ ns. (x : List ℕ) × (c.push.new.self.items ≡ t.taken.items ++ (c.args.pivot, x) ∷ []) × ((j : ℕ) → j < 8
    → IsAdded p (drop 1 row.entries) (get_or residues j 0) (get_or x j 0) (lane j items) (lane j ns))) (sym (written_back t.numbers.len new items n)) (
      factors,
      c.in_ok-push.ensures.items,
      λ j q. record {
        adds = subst₂ (λ xs ys. AddsMultiple p (get_or factors j 0) xs (lane j ys) (lane j new)) e value (c.add_to_all-together.ensures.adds j q);
        small = c.negate_all-factors.ensures.small j q;
        cancels = c.negate_all-factors.ensures.negative j q;
        idle = λ z.
            let none = c.negate_all-factors.ensures.idle j q z in
            (none, c.add_to_all-together.ensures.idle j q none ∙ ap (lane j) value);
      },
    )
