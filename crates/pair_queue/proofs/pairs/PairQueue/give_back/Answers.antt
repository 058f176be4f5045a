use Rattle.std.proofs.Common.{length, subst, sym, ◌∙◌, List, ℕ}
use Rattle.formal_sums.specs.FormalSums.{Each}
use Rattle.basis_steps.specs.Pairs.{Pair}
use Rattle.basis_steps.specs.States.{pairs_out}
use Rattle.pair_queue.proofs.Handing.{others_within}
use Rattle.pair_queue.proofs.Knowing.{indices_queued}
use Rattle.pair_queue.proofs.OutPairs.{each_out}
use Rattle.pair_queue.specs.Outs.{outs_of}
use Rattle.pair_updates.specs.Pairs.{pairs_of, AreIndices}
use Rattle.pair_queue.proofs.pairs.PairQueue.give_back.Goals as goal

pub close_by_update-requires-clause-within : goal.close_by_update-requires-clause-within
close_by_update-requires-clause-within c = each_out (AreIndices (length c.self.inside.leads.keys)) c.self.inside.out.items c.self.invariant.within

pub invariant_of-self : goal.invariant_of-self
invariant_of-self c =
    let inv = c.self.invariant in
    let i = c.self.inside in
    record {
      real = inv.real;
      sorted = inv.sorted;
      within = subst (λ (l : List (Pair × ℕ)). Each (AreIndices (length i.leads.keys)) (pairs_out l)) (sym c.close_by_update.ensures.out)
          (others_within (AreIndices (length i.leads.keys)) c.args.worker (outs_of i.out.items) inv.within);
      reach = inv.reach;
      waits_size = λ e. c.close_by_update.ensures.waits_size e ∙ inv.waits_size e;
      due_size = λ e. c.close_by_update.ensures.due_size e ∙ inv.due_size e;
      table = λ e. c.close_by_update.ensures.table e (pairs_of i.queue.items) (inv.table e);
      known = λ e. c.close_by_update.ensures.known e (pairs_of i.queue.items) (indices_queued i.leads i.queue.items inv.real) (inv.table e) (inv.known e);
    }
