use Rattle.std.proofs.Common.{List, ap, arith, cond, subst, sym, true, ◌+◌, ◌<◌, ◌∙◌, ◌≡◌}
use Rattle.std.specs.Prelude.{ltb}
use Rattle.formal_sums.specs.FormalSums.{Each}
use Rattle.basis_steps.proofs.Counting.{count_each}
use Rattle.basis_steps.specs.Criteria.{IsPair}
use Rattle.basis_steps.specs.Pairs.{Pair, count}
use Rattle.basis_steps.specs.Queues.{IsSorted, is_new_pair}
use Rattle.pair_criteria.specs.declared.pair.Pair.{Pair as CodePair}
use Rattle.pair_queue.proofs.Adding.{known_more, merged_reals, new_reals, table_more}
use Rattle.pair_updates.proofs.PairLists.{reals_of}
use Rattle.pair_updates.proofs.Leading.{lcms_of, pairs_real}
use Rattle.pair_updates.proofs.NewPairs.{old_is_not_new}
use Rattle.pair_updates.proofs.SameLeads.{each_queued}
use Rattle.pair_updates.specs.Leads.{LeadsShown, setting_of_leads, sums_shown}
use Rattle.pair_updates.specs.Pairs.{HasLcm, index_pair_of, pairs_of, AreIndices}
use Rattle.pair_queue.specs.Queues.{QueueShown}
use Rattle.pair_queue.specs.Tables.{flag}
use Rattle.pair_queue.proofs.queueing.queue_new_pairs.Goals as goal

pub flag_pairs-requires-clause-real : goal.flag_pairs-requires-clause-real
flag_pairs-requires-clause-real c =
    let m : LeadsShown = c.args.leads.now in
    subst (λ (l : List CodePair). Each (λ x. IsPair (sums_shown m) (index_pair_of x)) l) (sym c.deref.ensures.value)
    (each_queued (IsPair (sums_shown m)) c.in_ok-pairs.pairs.items
    (new_reals m c.args.first c.requires.first (pairs_of c.in_ok-pairs.pairs.items) (λ x. c.in_ok-pairs.ensures.same x ∙ c.in_ok-added.ensures.same x)))

pub merge-requires-clause-left_lcms : goal.merge-requires-clause-left_lcms
merge-requires-clause-left_lcms c =
    let m : LeadsShown = c.args.leads.now in
    subst (Each (HasLcm m)) (sym (c.into_pairs-queued.ensures ∙ ap (λ (q : QueueShown). q.items) c.replace.ensures.value))
    (lcms_of m c.args.queue.now.items c.requires.real)

pub merge-requires-clause-apart : goal.merge-requires-clause-apart
merge-requires-clause-apart c = λ x p.
    let G = sums_shown c.args.leads.now in
    let old : 0 < count x (pairs_of c.args.queue.now.items) =
    subst (λ (l : List CodePair). 0 < count x (pairs_of l)) (c.into_pairs-queued.ensures ∙ ap (λ (q : QueueShown). q.items) c.replace.ensures.value) p in
    let l : x.1 < c.args.first = (count_each (AreIndices c.args.first) x (pairs_of c.args.queue.now.items) c.requires.within old).1 in
    c.in_ok-pairs.ensures.same x ∙ c.in_ok-added.ensures.same x ∙ ap (λ b. cond b 1 0) (old_is_not_new G c.args.first x l)

-- how often each pair stands in the new queue
all_counted : (c : goal.After-drop-queue) → (x : Pair)
    → count x (pairs_of c.from_vec.result.items) ≡ count x (pairs_of c.args.queue.now.items) + cond
    (is_new_pair c.args.first (sums_shown c.args.leads.now) x) 1 0
all_counted c x =
    let a : count x (pairs_of c.from_vec.result.items) ≡ count x (pairs_of c.merge.result.items) =
    ap (λ (l : List CodePair). count x (pairs_of l)) c.from_vec.ensures in
    let b : count x (pairs_of c.into_pairs-queued.result.items) ≡ count x (pairs_of c.args.queue.now.items) =
    ap (λ (l : List CodePair). count x (pairs_of l)) (c.into_pairs-queued.ensures ∙ ap (λ (q : QueueShown). q.items) c.replace.ensures.value) in
    omega (arith, a, c.merge.ensures.same x, b, c.in_ok-pairs.ensures.same x, c.in_ok-added.ensures.same x)

pub returns-clause-real : goal.returns-clause-real
returns-clause-real c =
    let m : LeadsShown = c.args.leads.now in
    let after : List CodePair = c.from_vec.result.items in
    reals_of m after (merged_reals m c.args.first c.requires.first (pairs_of c.args.queue.now.items) (pairs_of after) (all_counted c)
    (pairs_real m c.args.queue.now.items c.requires.real))
    (subst (Each (HasLcm m)) (sym c.from_vec.ensures) c.merge.ensures.lcms)

pub returns-clause-queues : goal.returns-clause-queues
returns-clause-queues c =
    let m : LeadsShown = c.args.leads.now in
    record {
      sorted = subst (λ (l : List CodePair). IsSorted (setting_of_leads m.variables m) (sums_shown m) (pairs_of l)) (sym c.from_vec.ensures) c.merge.ensures.sorted;
      same = all_counted c;
    }

-- the pairs that are flagged
added_counted : (c : goal.After-drop-queue) → (x : Pair)
    → count x (pairs_of c.deref.result.now) ≡ cond (is_new_pair c.args.first (sums_shown c.args.leads.now) x) 1 0
added_counted c x = ap (λ (l : List CodePair). count x (pairs_of l)) c.deref.ensures.value ∙ c.in_ok-pairs.ensures.same x ∙ c.in_ok-added.ensures.same x

added_flags : (c : goal.After-drop-queue) → (x : Pair)
    → flag c.flag_pairs.new.waits x ≡ cond (ltb 0 (count x (pairs_of c.deref.result.now))) true (flag c.args.waits.now x)
added_flags c x = c.flag_pairs.ensures.waits x
    ∙ ap (λ z. cond (ltb 0 (count x (pairs_of c.deref.result.now))) true z) (c.grow.ensures.flags x ∙ c.reserve.ensures.same.flags x)

pub returns-clause-table : goal.returns-clause-table
returns-clause-table c = λ out within_out t.
    table_more (sums_shown c.args.leads.now) c.args.first (flag c.args.waits.now) (flag c.flag_pairs.new.waits) (pairs_of c.args.queue.now.items)
    (pairs_of c.from_vec.result.items) (pairs_of c.deref.result.now) out
    c.requires.within within_out (added_counted c) (added_flags c) (all_counted c) t

pub returns-clause-known : goal.returns-clause-known
returns-clause-known c = λ out t known.
    let m : LeadsShown = c.args.leads.now in
    let after : List CodePair = c.from_vec.result.items in
    known_more m c.args.first c.requires.first (pairs_of c.args.queue.now.items) (pairs_of after) (all_counted c)
    (flag c.args.waits.now) (flag c.args.due.now) (flag c.flag_pairs.new.waits) (flag c.flag_pairs.new.due) (pairs_of c.deref.result.now)
    (added_counted c) (added_flags c)
    (λ x e. c.flag_pairs.ensures.others x e ∙ c.grow-2.ensures.flags x ∙ c.reserve-2.ensures.same.flags x) c.flag_pairs.ensures.shut
    c.flag_pairs.ensures.free c.requires.within
    (merged_reals m c.args.first c.requires.first (pairs_of c.args.queue.now.items) (pairs_of after) (all_counted c)
    (pairs_real m c.args.queue.now.items c.requires.real)) known
