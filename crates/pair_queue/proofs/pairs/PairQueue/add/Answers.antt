use Rattle.std.proofs.Common.{ap, arith, length, length-append, refl, subst, sym, take, ℕ, ◌∙◌, ◌≡◌, ◌≤◌}
use Rattle.formal_sums.specs.FormalSums.{Each}
use Rattle.basis_steps.specs.Queues.{IsSorted}
use Rattle.basis_steps.specs.States.{pairs_out}
use Rattle.pair_queue.proofs.Adding.{leads_cut, reals_added, sorted_added}
use Rattle.pair_queue.proofs.Handing.{same_coherent}
use Rattle.pair_queue.proofs.Knowing.{indices_queued}
use Rattle.pair_queue.proofs.Mirroring.{no_change}
use Rattle.pair_updates.proofs.SameLeads.{each_within}
use Rattle.pair_updates.specs.Leads.{LeadsShown, setting_of_leads, sums_shown}
use Rattle.pair_updates.specs.Pairs.{IsRealPair, pairs_of, AreIndices}
use Rattle.pair_queue.specs.Outs.{outs_of}
use Rattle.pair_queue.specs.Reaches.{IsReach}
use Rattle.pair_queue.specs.Skipping.{IsKnown}
use Rattle.pair_queue.specs.Tables.{flag}
use Rattle.pair_queue.proofs.pairs.PairQueue.add.Goals as goal

pub queue_by-requires-clause-reach : goal.queue_by-requires-clause-reach
queue_by-requires-clause-reach c = λ e.
    subst (λ (z : LeadsShown). IsReach z c.self.inside.reach)
    (sym (leads_cut c.self.inside.leads c.append.new.self c.args.keys.items c.len-first.result c.in_ok-append.ensures.ok c.len-first.ensures))
    (c.self.invariant.reach e)

pub queue_by-requires-clause-real : goal.queue_by-requires-clause-real
queue_by-requires-clause-real c =
    subst (λ (z : LeadsShown). Each (IsRealPair z) c.self.inside.queue.items) (sym c.in_ok-append.ensures.ok)
    (reals_added c.self.inside.leads c.args.keys.items c.self.inside.queue.items c.self.invariant.real)

pub queue_by-requires-clause-within : goal.queue_by-requires-clause-within
queue_by-requires-clause-within c =
    subst (λ k. Each (AreIndices k) (pairs_of c.self.inside.queue.items)) (sym c.len-first.ensures)
    (indices_queued c.self.inside.leads c.self.inside.queue.items c.self.invariant.real)

pub queue_by-requires-clause-sorted : goal.queue_by-requires-clause-sorted
queue_by-requires-clause-sorted c =
    subst (λ (z : LeadsShown). IsSorted (setting_of_leads z.variables z) (sums_shown z) (pairs_of c.self.inside.queue.items)) (sym c.in_ok-append.ensures.ok)
    (sorted_added c.self.inside.leads c.args.keys.items (pairs_of c.self.inside.queue.items)
    (indices_queued c.self.inside.leads c.self.inside.queue.items c.self.invariant.real) c.self.invariant.sorted)

pub invariant_of-self : goal.invariant_of-self
invariant_of-self c =
    same_coherent c.self.inside c.append.new.self c.self.inside.queue c.self.inside.dropped c.self.inside.reach c.self.inside.waits c.self.inside.due
    c.in_err-append.ensures.err refl c.self.invariant.reach (no_change c.self.inside.waits) (no_change c.self.inside.due) c.self.invariant

pub invariant_of-self-in-Err : goal.invariant_of-self-in-Err
invariant_of-self-in-Err c =
    let first : ℕ = c.len-first.result in
    let cut : record c.append.new.self { keys = take first c.append.new.self.keys } ≡ c.self.inside.leads =
    leads_cut c.self.inside.leads c.append.new.self c.args.keys.items first c.in_ok-append.ensures.ok c.len-first.ensures in
    same_coherent c.self.inside c.truncate.new.self c.queue_by.new.queue c.queue_by.new.dropped c.queue_by.new.reach c.queue_by.new.waits c.queue_by.new.due
    (c.truncate.ensures ∙ cut) c.in-Err.ensures.queue_kept
    (λ e. subst (λ (z : LeadsShown). IsReach z c.queue_by.new.reach) cut (c.in-Err.ensures.reach_kept e))
    c.in-Err.ensures.waits_kept c.in-Err.ensures.due_kept c.self.invariant

pub invariant_of-self-in_default : goal.invariant_of-self-in_default
invariant_of-self-in_default c =
    let i = c.self.inside in
    let inv = c.self.invariant in
    let first : ℕ = c.len-first.result in
    let new : LeadsShown = c.append.new.self in
    let is = c.in_ok-append.ensures.ok in
    let more : length i.leads.keys ≤ length new.keys =
    omega (arith, ap (λ (z : LeadsShown). length z.keys) is, length-append i.leads.keys c.args.keys.items) in
    let back : record new { keys = take first new.keys } ≡ i.leads = leads_cut i.leads new c.args.keys.items first is c.len-first.ensures in
    let h = c.in_default.ensures in
    record {
      real = h.real;
      sorted = h.sorted;
      within = each_within (length i.leads.keys) (length new.keys) (pairs_out (outs_of i.out.items)) more inv.within;
      reach = h.reach;
      waits_size = h.waits;
      due_size = h.due;
      table = λ e. h.table e (outs_of i.out.items)
          (subst (λ k. Each (AreIndices k) (pairs_out (outs_of i.out.items))) (sym c.len-first.ensures) inv.within) (inv.table e);
      known = λ e. h.known e (outs_of i.out.items) (inv.table e)
          (subst (λ (z : LeadsShown). Each (IsKnown z (flag i.waits) (flag i.due)) (pairs_of i.queue.items)) (sym back) (inv.known e));
    }
