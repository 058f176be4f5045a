use Rattle.std.proofs.Common.{length, ◌+◌, ◌≡◌, ◌≤◌}
use Rattle.std.specs.Vec.{vec_capacity, vec_len}
use Rattle.cofactor_track.proofs.RunMembers.{HaveCofactors}
use Rattle.cofactor_track.proofs.runs.with_cofactors.Given as goal

abbrev pub invariant-loop-cof : goal.invariant-loop-cof
invariant-loop-cof l = record {
  long : vec_len l.list ≡ length l.list.items;
  room : vec_len l.list + length l.cof-iterator.rest.items ≤ vec_capacity l.list;
  had : HaveCofactors l.fn.members.shared l.fn.members.list l.fn.cofactors l.list.items l.cof-iterator.rest.items;
}
