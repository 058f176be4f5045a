use Rattle.std.proofs.Common.{length, map, take, ◌≡◌, ◌≤◌}
use Rattle.std.specs.Vec.{vec_capacity, vec_len}
use Rattle.vector_division.specs.Reductions.{term_of}
use Rattle.f4_job.specs.Made.{source_parts}
use Rattle.f4_job.proofs.making.source_terms.Given as goal

abbrev pub invariant-loop-source : goal.invariant-loop-source
invariant-loop-source l = record {
  items : l.terms.items ≡ map term_of (source_parts l.products (take l.source-index l.sources));
  len : vec_len l.terms ≡ l.source-index;
  room : length l.sources ≤ vec_capacity l.terms;
}
