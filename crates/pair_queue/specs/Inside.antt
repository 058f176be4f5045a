-- The fields of the pairs of a run, and what is kept of them
use Rattle.std.specs.Prelude.{length, ◌≡◌}
use Rattle.formal_sums.specs.FormalSums.{Each}
use Rattle.queue_updates.specs.declared.Update.TheVariants.{Plain}
use Rattle.basis_steps.specs.Queues.{IsSorted}
use Rattle.basis_steps.specs.States.{pairs_out}
use Rattle.pair_queue.specs.declared.pairs.PairQueue.TheInside.{Inside}
use Rattle.pair_updates.specs.Dropping.{drops_of}
use Rattle.pair_updates.specs.Leads.{setting_of_leads, sums_shown}
use Rattle.pair_updates.specs.Pairs.{IsRealPair, pairs_of, AreIndices}
use Rattle.pair_queue.specs.Outs.{outs_of}
use Rattle.pair_queue.specs.Reaches.{IsReach}
use Rattle.pair_queue.specs.Shown.{PairsShown}
use Rattle.pair_queue.specs.Skipping.{IsKnown}
use Rattle.pair_queue.specs.Tables.{IsFlagTable, flag, member_count}

abbrev pub queue_shown : Inside → PairsShown
queue_shown s = record { leads = s.leads; queue = s.queue.items; out = outs_of s.out.items; update = s.update; dropped = drops_of s.dropped.items }

-- the queued pairs are real and in order; those that are out are of members; and where new members drop none the words say which leads reach an
-- exponent, and the flags say which pairs wait, and which queued ones are due
pub record IsCoherent (s : Inside) : Type 0 where
  pub real : Each (IsRealPair s.leads) s.queue.items
  pub sorted : IsSorted (setting_of_leads s.leads.variables s.leads) (sums_shown s.leads) (pairs_of s.queue.items)
  pub within : Each (AreIndices (length s.leads.keys)) (pairs_out (outs_of s.out.items))
  pub reach : s.update ≡ Plain → IsReach s.leads s.reach
  pub waits_size : s.update ≡ Plain → member_count s.waits ≡ length s.leads.keys
  pub due_size : s.update ≡ Plain → member_count s.due ≡ length s.leads.keys
  pub table : s.update ≡ Plain → IsFlagTable (flag s.waits) (pairs_of s.queue.items) (outs_of s.out.items)
  pub known : s.update ≡ Plain → Each (IsKnown s.leads (flag s.waits) (flag s.due)) (pairs_of s.queue.items)
