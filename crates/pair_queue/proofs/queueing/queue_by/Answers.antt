use Rattle.std.proofs.Common.{Err, Ok, OnErr, Result, refl, subst, sym, take, ◌≡◌}
use Rattle.queue_updates.specs.declared.Update.TheVariants.{Plain}
use Rattle.basis_steps.specs.Updates.{QueuesPairs}
use Rattle.pair_updates.specs.Dropping.{drops_of}
use Rattle.pair_updates.specs.Leads.{setting_of_leads, sums_shown}
use Rattle.pair_updates.specs.Pairs.{pairs_of}
use Rattle.pair_queue.proofs.Reaching.{fewer_reach}
use Rattle.pair_queue.specs.Reaches.{IsReach}
use Rattle.pair_queue.proofs.queueing.queue_by.Goals as goal

pub queue_new_pairs-requires : goal.queue_new_pairs-requires
queue_new_pairs-requires c = record {
  first = c.requires.first;
  real = c.requires.real;
  within = c.requires.within;
  sorted = c.requires.sorted;
  waits = c.requires.waits c.in-Plain.is;
  due = c.requires.due c.in-Plain.is;
}

pub update_queue-requires : goal.update_queue-requires
update_queue-requires c = record { first = c.requires.first; real = c.requires.real; earlier = c.requires.within; sorted = c.requires.sorted }

on_err : {T E : Type 0} (r : Result T E) (P : Type 0) → P → OnErr r P
on_err (Ok x) P p = tt
on_err (Err e) P p = p

pub returns-in_err-queue_new_pairs-in-Plain-clause-reach_kept : goal.returns-in_err-queue_new_pairs-in-Plain-clause-reach_kept
returns-in_err-queue_new_pairs-in-Plain-clause-reach_kept c =
    let m = c.args.leads.now in
    let first = c.args.first in
    on_err c.from_residual-in_err-queue_new_pairs-in-Plain.result
    (c.args.update ≡ Plain → IsReach (record m { keys = take first m.keys }) c.add.new.self)
    (λ e. fewer_reach m first c.requires.first c.add.new.self c.in_ok-add-in-Plain.ensures.reach)

pub returns-in_ok-queue_new_pairs-in-Plain : goal.returns-in_ok-queue_new_pairs-in-Plain
returns-in_ok-queue_new_pairs-in-Plain c =
    let m = c.args.leads.now in
    let h = c.in_ok-queue_new_pairs-in-Plain.ensures in
    record {
      real = h.real;
      queues = subst (λ u. QueuesPairs u (setting_of_leads m.variables m) c.args.first (sums_shown m) (pairs_of c.args.queue.now.items) (drops_of c.args.dropped.now.items)
          (pairs_of c.queue_new_pairs.new.queue.items) (drops_of c.args.dropped.now.items)) (sym c.in-Plain.is) (h.queues, refl);
      sorted = h.queues.sorted;
      reach = λ e. c.in_ok-add-in-Plain.ensures.reach;
      waits = λ e. h.waits;
      due = λ e. h.due;
      table = λ e. h.table;
      known = λ e. h.known;
      queue_kept = tt;
      dropped_kept = tt;
      reach_kept = tt;
      waits_kept = tt;
      due_kept = tt;
    }

pub returns-in_ok-update_queue-in-Gebauer : goal.returns-in_ok-update_queue-in-Gebauer
returns-in_ok-update_queue-in-Gebauer c =
    let m = c.args.leads.now in
    let h = c.in_ok-update_queue-in-Gebauer.ensures in
    record {
      real = h.real;
      queues = subst (λ u. QueuesPairs u (setting_of_leads m.variables m) c.args.first (sums_shown m) (pairs_of c.args.queue.now.items) (drops_of c.args.dropped.now.items)
          (pairs_of c.update_queue.new.queue.items) (drops_of c.update_queue.new.dropped.items)) (sym c.in-Gebauer.is) h.updates;
      sorted = h.updates.sorted;
      reach = λ e. absurd cc;
      waits = λ e. absurd cc;
      due = λ e. absurd cc;
      table = λ e. absurd cc;
      known = λ e. absurd cc;
      queue_kept = tt;
      dropped_kept = tt;
      reach_kept = tt;
      waits_kept = tt;
      due_kept = tt;
    }
