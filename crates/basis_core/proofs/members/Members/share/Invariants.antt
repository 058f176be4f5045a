use Rattle.std.proofs.Common.{length, vec_capacity, vec_len, ◌≡◌, ◌≤◌}
use Rattle.basis_core.proofs.Handles.{AreCopied}
use Rattle.basis_core.proofs.members.Members.share.Given as goal

abbrev pub invariant-loop-handle : goal.invariant-loop-handle
invariant-loop-handle l = record {
  copied : AreCopied l.handle-items l.handle-index l.handles.items;
  long : vec_len l.handles ≡ l.handle-index;
  room : length l.handle-items ≤ vec_capacity l.handles;
}
