use Rattle.std.proofs.Common.{take, ◌≡◌}
use Rattle.formal_sums.specs.FormalSums.{Each}
use Rattle.term_lists.specs.Rings.{variables}
use Rattle.basis_steps.specs.Divisions.{IsMonicMember}
use Rattle.basis_steps.specs.States.{vectors}
use Rattle.basis_core.specs.Makings.{HaveMadeRows}
use Rattle.basis_core.specs.Members.{members_of, setting_of}
use Rattle.basis_core.proofs.putting.make_members.Given as goal

-- the members are those that the rows so far made
abbrev pub invariant-loop-row : goal.invariant-loop-row
invariant-loop-row l = record {
  shared : l.members.shared ≡ l.fn.members.shared;
  monic : Each (IsMonicMember (setting_of (variables l.fn.members.shared.ring) l.fn.members.shared))
      (vectors (members_of (variables l.fn.members.shared.ring) l.members.list));
  made : HaveMadeRows (variables l.fn.members.shared.ring) l.fn.members.shared l.fn.members.list (take l.row-index l.fn.rows) l.members.list;
}
