use Rattle.std.proofs.Common.{subst, sym, ℕ}
use Rattle.formal_sums.specs.FormalSums.{Each}
use Rattle.monomial_orders.specs.Kept.{IsWeighed}
use Rattle.term_lists.specs.declared.key.Key.{Key as CodeKey}
use Rattle.basis_steps.specs.Updates.{QueuesPairs}
use Rattle.pair_updates.specs.Leads.{LeadsShown, setting_of_leads as setting_by, sums_shown}
use Rattle.basis_core.specs.Jobs.{pairs_of}
use Rattle.basis_core.proofs.KnownByLeads.{leads_count, leads_joined, queues_known}
use Rattle.basis_core.proofs.putting.add_pairs.Goals as goal

pub returns-clause-leads : goal.returns-clause-leads
returns-clause-leads c =
    leads_joined c.args.members.now.shared c.args.members.now.list c.args.first c.add.new.self.leads c.args.pairs.now.leads c.in_ok-keys.keys.items
    c.in_ok-add.ensures.leads c.requires.leads c.in_ok-keys.ensures.leads

pub returns-clause-queues : goal.returns-clause-queues
returns-clause-queues c =
    let shared = c.args.members.now.shared in
    let ms = c.args.members.now.list in
    let first : ℕ = c.args.first in
    let old = c.args.pairs.now in
    let new = c.add.new.self in
    let there : QueuesPairs old.update (setting_by (new.leads).variables new.leads) first (sums_shown new.leads)
    (pairs_of old.queue) old.dropped (pairs_of new.queue) new.dropped =
    subst (λ (k : ℕ). QueuesPairs old.update (setting_by (new.leads).variables new.leads) k (sums_shown new.leads)
    (pairs_of old.queue) old.dropped (pairs_of new.queue) new.dropped)
    (leads_count shared ms first c.args.pairs.now.leads c.requires.first c.requires.leads) c.in_ok-add.ensures.queues in
    queues_known shared ms old.update first (pairs_of old.queue) old.dropped (pairs_of new.queue) new.dropped
    (subst (λ (l : LeadsShown). QueuesPairs old.update (setting_by l.variables l) first (sums_shown l) (pairs_of old.queue) old.dropped
    (pairs_of new.queue) new.dropped) (returns-clause-leads c) there)

pub lead_keys-requires-clause-first : goal.lead_keys-requires-clause-first
lead_keys-requires-clause-first c = c.requires.first

pub lead_keys-requires-clause-monic : goal.lead_keys-requires-clause-monic
lead_keys-requires-clause-monic c = c.requires.monic

pub add-requires : goal.add-requires
add-requires c =
    subst (λ (l : LeadsShown). Each (λ (k : CodeKey). IsWeighed l.variables l.weights k.monomial) c.in_ok-keys.keys.items)
    (sym c.requires.leads) c.in_ok-keys.ensures.weighed
