use Rattle.std.proofs.Common.{length, take, ◌<◌, ◌≡◌, ◌≤◌}
use Rattle.std.specs.Vec.{vec_capacity, vec_len}
use Rattle.formal_sums.specs.FormalSums.{Each}
use Rattle.row_matrix.specs.Hashes.{term_hashes}
use Rattle.row_matrix.specs.Told.{IsKeyUpTo}
use Rattle.row_matrix.proofs.term_hashes.TermHashes.of.Given as goal

abbrev pub invariant-loop-term : goal.invariant-loop-term
invariant-loop-term l = record {
  items : l.hashes.items ≡ term_hashes (take l.term-index l.terms);
  bounded : Each (λ u. IsKeyUpTo l.position l.degree u.0) (take l.term-index l.terms);
  small : l.degree < 4294967296;
  len : vec_len l.hashes ≡ l.term-index;
  room : length l.terms ≤ vec_capacity l.hashes;
}
