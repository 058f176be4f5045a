use Rattle.std.proofs.Common.{length, true, ◌-◌, ◌≡◌, ◌≤◌}
use Rattle.std.specs.Vec.{vec_capacity}
use Rattle.row_matrix.specs.Naming.{IsPartOfProduct}
use Rattle.row_matrix.specs.Told.{AreToldWith}
use Rattle.row_matrix.proofs.products.product_row_in.Given as goal

abbrev pub invariant-loop-hashes : goal.invariant-loop-hashes
invariant-loop-hashes l = record {
  part : IsPartOfProduct l.fn.keys l.keys l.t l.v l.entries.items;
  told : l.told ≡ true → AreToldWith l.keys l.t l.fn.hashes.position l.fn.hashes.degree;
  within : length l.entries.items ≤ length l.v;
  room : length l.v ≤ vec_capacity l.entries;
}

abbrev pub decreases-loop-hashes : goal.decreases-loop-hashes
decreases-loop-hashes l = length l.v - length l.entries.items
