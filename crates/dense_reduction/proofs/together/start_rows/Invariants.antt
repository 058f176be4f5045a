use Rattle.std.proofs.Common.{List, [], get_or, length, ℕ, ◌<◌, ◌≡◌, ◌≤◌}
use Rattle.formal_sums.specs.FormalSums.{Each}
use Rattle.pivot_table.specs.declared.law.Entry.{Entry as Told}
use Rattle.row_matrix.specs.Rows.{RowShown}
use Rattle.dense_reduction.specs.Eights.{AreCleared, lane}
use Rattle.dense_reduction.specs.LostRows.{IsLost}
use Rattle.dense_reduction.specs.Together.{IsOnItsWay}
use Rattle.dense_reduction.specs.declared.lefts.Lost.{Lost}
use Rattle.dense_reduction.proofs.together.start_rows.Given as goal

abbrev pub invariant-loop-j : goal.invariant-loop-j
invariant-loop-j l =
    let p = l.shared.modulus.now.value in
    let rows = l.shared.rows.now in
    let columns = length l.fn.together.numbers.items in
    record {
      cleared : AreCleared p l.together.limit 0 columns l.together.numbers.items;
      left : l.together.left.items ≡ [];
      taken : l.together.taken.items ≡ [];
      idle : (i : ℕ) → l.j ≤ i → i < 8 → Each (λ a. a ≡ 0) (lane i l.together.numbers.items);
      way : (own : List RowShown) (pivots : List ℕ) (known : List Told) → Each (IsLost rows known) l.lost
          → (i : ℕ) → i < l.j → (x : Lost) → x ≡ get_or l.lost i x
          → IsOnItsWay p l.together.limit 0 columns rows own pivots known l.together.left.items l.together.numbers.items l.together.taken.items i x;
    }
