use Rattle.std.proofs.Common.{List, drop, length, take, ℕ, ◌*◌, ◌++◌, ◌+◌, ◌-◌, ◌≡◌, ◌≤◌}
use Rattle.std.specs.Vec.{vec_capacity}
use Rattle.formal_sums.specs.FormalSums.{Each}
use Rattle.basis_steps.specs.Pairs.{Pair}
use Rattle.basis_steps.specs.Queues.{IsSorted}
use Rattle.pair_updates.specs.Leads.{setting_of_leads, sums_shown}
use Rattle.pair_updates.specs.Pairs.{IsRealPair, pairs_of}
use Rattle.pair_queue.specs.Skipping.{AreSkipped, IsKnown, NoneIsSpared}
use Rattle.pair_queue.specs.Tables.{IsFlagTable, flag, member_count}
use Rattle.pair_queue.proofs.skipping.skip.Given as goal

-- the pairs before `kept` are kept, and those from `next` on are left
abbrev pub invariant-loop-next : goal.invariant-loop-next
invariant-loop-next l = record {
  waits_size : member_count l.waits ≡ length l.leads.keys;
  due_size : member_count l.due ≡ length l.leads.keys;
  real : Each (IsRealPair l.leads) l.queue.items;
  order : l.kept ≤ l.next;
  within : l.next ≤ length l.queue.items;
  sorted : IsSorted (setting_of_leads l.leads.variables l.leads) (sums_shown l.leads) (pairs_of (take l.kept l.queue.items) ++ pairs_of (drop l.next l.queue.items));
  none : NoneIsSpared l.leads (flag l.waits) (pairs_of (take l.kept l.queue.items));
  known : Each (IsKnown l.leads (flag l.waits) (flag l.due)) (pairs_of (take l.kept l.queue.items) ++ pairs_of (drop l.next l.queue.items));
  skips : (out : List (Pair × ℕ)) → IsFlagTable (flag l.fn.waits) (pairs_of l.fn.queue.items) out
      → AreSkipped l.leads out (pairs_of l.fn.queue.items) l.skipped.items
      (pairs_of (take l.kept l.queue.items) ++ pairs_of (drop l.next l.queue.items)) (flag l.waits);
  len : length l.queue.items ≡ length l.fn.queue.items;
  left : length l.skipped.items + (l.kept + (length l.queue.items - l.next)) ≡ length l.fn.queue.items;
  skipped_room : length l.fn.queue.items ≤ vec_capacity l.skipped;
}

abbrev pub decreases-loop-next : goal.decreases-loop-next
decreases-loop-next l = (length l.fn.queue.items - length l.skipped.items) * (length l.fn.queue.items + 1) + (length l.fn.queue.items - l.next)
