use Rattle.std.specs.Prelude.{Contains}
use Rattle.std.proofs.Common.{drop, get_or, ℕ, ◌≡◌, ◌⊎◌}
use Rattle.constant_rows.proofs.Listing.{AreListed}
use Rattle.constant_rows.proofs.taking.taken_constants.Given as goal

abbrev pub invariant-loop-row : goal.invariant-loop-row
invariant-loop-row l = record {
  listed : AreListed l.modulus.value l.fn.sums.items l.sums.items l.entries.items l.width;
  rest : (i : ℕ) → (get_or l.sums.items i 0 ≡ 0) ⊎ Contains (drop l.row-index l.touched) i;
}
