use Rattle.std.proofs.Common.{length, map, take, ◌≡◌, ◌≤◌}
use Rattle.std.specs.Vec.{vec_capacity, vec_len}
use Rattle.vector_division.specs.Reductions.{term_of}
use Rattle.basis_core.proofs.products.quotient_terms.Given as goal

abbrev pub invariant-loop-quotient : goal.invariant-loop-quotient
invariant-loop-quotient l = record {
  items : l.terms.items ≡ map term_of (take l.quotient-index l.quotients);
  len : vec_len l.terms ≡ l.quotient-index;
  room : length l.quotients ≤ vec_capacity l.terms;
}
