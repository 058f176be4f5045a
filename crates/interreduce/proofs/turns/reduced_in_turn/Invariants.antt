use Rattle.std.proofs.Common.{[], drop, get_or, length, ℕ, ◌<◌, ◌≡◌, ◌≤◌}
use Rattle.std.specs.Vec.{vec_capacity}
use Rattle.interreduce.specs.Members.{HasDivision, IsReducedMember}
use Rattle.interreduce.proofs.turns.reduced_in_turn.Given as goal

abbrev pub invariant-loop-index : goal.invariant-loop-index
invariant-loop-index g l = record {
  count : length l.members.items ≡ l.index-index;
  room : length l.indices ≤ vec_capacity l.members;
  each : (k : ℕ) → k < l.index-index → IsReducedMember (g.F.Frame.over l.frame) (g.F.Frame.compare l.frame) (g.L.Vectors.listed l.list) (get_or l.indices k 0) (get_or l.members.items k []);
  divided : (k : ℕ) → k < l.index-index → HasDivision (g.F.Frame.over l.frame) (g.L.Vectors.listed l.list) (drop 1 (get_or (g.L.Vectors.listed l.list) (get_or l.indices k 0) []));
}
