use Rattle.std.proofs.Common.{List, [], ap, arith, length, subst, sym, ◌≡◌}
use Rattle.formal_sums.specs.FormalSums.{Each}
use Rattle.monomial_orders.specs.Laws.{key_comparison_order}
use Rattle.basis_steps.specs.Pairs.{count}
use Rattle.basis_steps.specs.Queues.{IsSorted}
use Rattle.pair_criteria.specs.declared.pair.Pair.{Pair as CodePair}
use Rattle.pair_updates.proofs.Leading.{lcms_of}
use Rattle.pair_updates.proofs.StayingPairs.{sorted_once}
use Rattle.pair_updates.proofs.UpdatedQueues.{each_first, each_second, merged_real, updating_done, updating_none}
use Rattle.pair_updates.specs.Dropping.{drops_of}
use Rattle.pair_updates.specs.Leads.{setting_of_leads, sums_shown}
use Rattle.pair_updates.specs.Pairs.{HasLcm, pairs_of, AreIndices}
use Rattle.pair_updates.specs.Updating.{Updating}
use Rattle.pair_updates.proofs.updating.updated.Goals as goal

pub loop-h-init : goal.loop-h-init
loop-h-init c =
    let m = c.args.leads.now in
    let total = (key_comparison_order m.module_order m.order m.weights m.variables 0).total in
    let none = updating_none m c.args.first c.args.queue.now c.requires.real c.requires.earlier c.requires.sorted
    (sorted_once (setting_of_leads m.variables m) (sums_shown m) total (pairs_of c.args.queue.now) c.requires.sorted) in
    record {
      updating = rw (c.new-queued.ensures.items, c.in_ok-dropped.ensures.items)
          (subst (λ (kept : List CodePair). Updating m c.args.first c.args.first (pairs_of c.args.queue.now) [] kept [] []) (sym c.in_ok-kept.ensures) none);
      low = omega arith;
      high = omega (arith, c.requires.first);
    }

pub update_with-requires : goal.update_with-requires
update_with-requires c =
    let u = c.loop-h.invariant.updating in
    record {
      within = omega (arith, c.loop-h-test.true, c.len-h-end.ensures);
      kept = u.kept_real;
      queued = u.queued_real;
      kept_earlier = each_first (AreIndices c.loop-h.h) (pairs_of c.loop-h.kept.items) (pairs_of c.loop-h.queued.items) u.within;
      queued_earlier = each_second (AreIndices c.loop-h.h) (pairs_of c.loop-h.kept.items) (pairs_of c.loop-h.queued.items) u.within;
    }

pub loop-h-preserved : goal.loop-h-preserved
loop-h-preserved c = record {
  updating = c.in_ok-update_with.ensures c.args.first (pairs_of c.args.queue.now) [] c.loop-h.invariant.low c.loop-h.invariant.updating;
  low = omega (arith, c.loop-h.invariant.low);
  high = omega (arith, c.loop-h-test.true, c.len-h-end.ensures);
}

pub sort_pairs-requires : goal.sort_pairs-requires
sort_pairs-requires c = record {
  lcms = lcms_of c.args.leads.now c.loop-h.queued.items c.loop-h.invariant.updating.queued_real;
  once = λ x. let o = c.loop-h.invariant.updating.once x in omega (arith, o);
}

pub returns-clause-updates : goal.returns-clause-updates
returns-clause-updates c =
    let end : c.loop-h.h ≡ length c.args.leads.now.keys = omega (arith, c.loop-h-test.false, c.loop-h.invariant.high, c.len-h-end.ensures) in
    updating_done c.args.leads.now c.args.first c.loop-h.h (pairs_of c.args.queue.now) c.loop-h.kept.items c.loop-h.queued.items c.merge-pairs.result.items
    (drops_of c.loop-h.dropped.items) (omega (arith, c.requires.first, end)) end c.loop-h.invariant.updating
    (λ x. omega (arith, c.merge-pairs.ensures.same x, c.in_ok-joined.ensures.same x, ap (λ (l : List CodePair). count x (pairs_of l)) c.from_vec.ensures.items))
    c.merge-pairs.ensures.sorted

pub merge-pairs-requires-clause-left_lcms : goal.merge-pairs-requires-clause-left_lcms
merge-pairs-requires-clause-left_lcms c =
    subst (Each (HasLcm c.args.leads.now)) (sym c.from_vec.ensures.items) (lcms_of c.args.leads.now c.loop-h.kept.items c.loop-h.invariant.updating.kept_real)

pub merge-pairs-requires-clause-left_sorted : goal.merge-pairs-requires-clause-left_sorted
merge-pairs-requires-clause-left_sorted c =
    let m = c.args.leads.now in
    subst (λ (l : List CodePair). IsSorted (setting_of_leads m.variables m) (sums_shown m) (pairs_of l)) (sym c.from_vec.ensures.items) c.loop-h.invariant.updating.sorted

pub merge-pairs-requires-clause-apart : goal.merge-pairs-requires-clause-apart
merge-pairs-requires-clause-apart c = λ x l.
    let o = c.loop-h.invariant.updating.once x in
    omega (arith, o, l, c.in_ok-joined.ensures.same x, ap (λ (l : List CodePair). count x (pairs_of l)) c.from_vec.ensures.items)

pub returns-clause-real : goal.returns-clause-real
returns-clause-real c =
    merged_real c.args.leads.now c.loop-h.kept.items c.loop-h.queued.items c.merge-pairs.result.items
    c.loop-h.invariant.updating.kept_real c.loop-h.invariant.updating.queued_real
    (λ x. omega (arith, c.merge-pairs.ensures.same x, c.in_ok-joined.ensures.same x, ap (λ (l : List CodePair). count x (pairs_of l)) c.from_vec.ensures.items))
    c.merge-pairs.ensures.lcms
