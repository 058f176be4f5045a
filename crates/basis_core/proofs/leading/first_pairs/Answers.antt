use Rattle.std.proofs.Common.{List, [], length, rules, subst, ℕ}
use Rattle.queue_updates.specs.declared.Update.{Update}
use Rattle.basis_steps.specs.Pairs.{Drop, Pair}
use Rattle.basis_steps.specs.Updates.{QueuesPairs}
use Rattle.pair_updates.specs.Leads.{LeadsShown, setting_of_leads as setting_by, sums_shown}
use Rattle.basis_core.specs.Jobs.{pairs_of}
use Rattle.basis_core.proofs.KnownByLeads.{queues_known}
use Rattle.basis_core.proofs.leading.first_pairs.Goals as goal

pub returns-clause-leads : goal.returns-clause-leads
returns-clause-leads c = search rules

pub returns-clause-queues : goal.returns-clause-queues
returns-clause-queues c =
    let new : List Pair = pairs_of c.add.new.self.queue in
    let old : List Pair = pairs_of c.new-pairs.result.queue in
    let later : List Drop = c.add.new.self.dropped in
    let there : QueuesPairs c.args.update (setting_by (c.add.new.self.leads).variables c.add.new.self.leads) 0 (sums_shown c.add.new.self.leads) [] [] new later =
    subst (λ (z : (List Pair × List Drop) × (ℕ × Update)). QueuesPairs (z.1).1 (setting_by (c.add.new.self.leads).variables c.add.new.self.leads) (z.1).0
    (sums_shown c.add.new.self.leads) (z.0).0 (z.0).1 new later)
    (λ i. (
      (pairs_of (c.new-pairs.ensures.queue i), c.new-pairs.ensures.dropped i),
      (length ((c.new-pairs.ensures.leads i).keys), c.new-pairs.ensures.update i),
    )) c.in_ok-add.ensures.queues in
    queues_known c.args.members.now.shared c.args.members.now.list c.args.update 0 [] [] new later
    (subst (λ (l : LeadsShown). QueuesPairs c.args.update (setting_by l.variables l) 0 (sums_shown l) [] [] new later) (returns-clause-leads c) there)

pub lead_keys-requires-clause-monic : goal.lead_keys-requires-clause-monic
lead_keys-requires-clause-monic c = c.requires
