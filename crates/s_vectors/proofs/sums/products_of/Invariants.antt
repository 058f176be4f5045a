use Rattle.std.proofs.Common.{length, map, take, ◌≡◌, ◌≤◌}
use Rattle.std.specs.Vec.{vec_capacity, vec_len}
use Rattle.module_vectors.specs.Products.{AreProducts}
use Rattle.vector_division.specs.Reductions.{term_of}
use Rattle.s_vectors.proofs.sums.products_of.Given as goal

abbrev pub invariant-loop-part : goal.invariant-loop-part
invariant-loop-part g l = record {
  products : AreProducts (g.L.Vectors.listed l.list) (take l.part-index (map term_of l.parts)) l.products.items;
  len : vec_len l.products ≡ l.part-index;
  room : length l.parts ≤ vec_capacity l.products;
}
