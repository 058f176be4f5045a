use Rattle.std.proofs.Common.{take, ◌≡◌}
use Rattle.induced_leads.proofs.head.next_head.Given as goal

abbrev pub invariant-loop-place : goal.invariant-loop-place
invariant-loop-place l = l.way.items ≡ take l.place-index l.place-items
