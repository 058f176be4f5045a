-- Pairs that go out, and that are out no more
use Rattle.std.proofs.Common.{Bool, Global, List, Vec, ap, arith, cond, drop, inl, inr, length, subst, sym, take, ℕ, ◌++◌, ◌<◌, ◌∙◌, ◌≡◌, ◌≤◌, ◌⊎◌}
use Rattle.std.proofs.lemmas.Bool.{cases_lt}
use Rattle.formal_sums.specs.FormalSums.{Each}
use Rattle.term_lists.proofs.Parts.{Each_drop}
use Rattle.pair_criteria.specs.declared.pair.Pair.{Pair as CodePair}
use Rattle.queue_updates.specs.declared.Update.TheVariants.{Plain}
use Rattle.basis_steps.proofs.Counting.{count-append, count-split, count_each, count_out_with, count_workers, pairs_out-append}
use Rattle.basis_steps.specs.Criteria.{waiting}
use Rattle.basis_steps.specs.Pairs.{Pair, count}
use Rattle.basis_steps.specs.Queues.{IsSorted}
use Rattle.basis_steps.specs.States.{pairs_out, with_others}
use Rattle.basis_steps.specs.Steps.{out_with}
use Rattle.pair_queue.proofs.Knowing.{indices_queued}
use Rattle.pair_updates.proofs.LeastDegree.{sorted_behind}
use Rattle.pair_updates.proofs.PairLists.{pairs_drop, pairs_take}
use Rattle.pair_updates.proofs.SameLeads.{each_counted}
use Rattle.pair_updates.specs.declared.dropped.Dropped.{Dropped}
use Rattle.pair_queue.specs.declared.out.Out.{Out}
use Rattle.pair_queue.specs.declared.pairs.PairQueue.TheInside.{Inside}
use Rattle.pair_queue.specs.declared.reach.Reach.{Reach}
use Rattle.pair_queue.specs.Inside.{IsCoherent}
use Rattle.pair_updates.specs.Leads.{LeadsShown, setting_of_leads, sums_shown}
use Rattle.pair_updates.specs.Pairs.{IsRealPair, pairs_of, AreIndices}
use Rattle.pair_queue.specs.Outs.{outs_of}
use Rattle.pair_queue.specs.Queues.{QueueShown}
use Rattle.pair_queue.specs.Reaches.{IsReach}
use Rattle.pair_queue.specs.Skipping.{AreSkipped, IsKnown}
use Rattle.pair_queue.specs.Tables.{HasSameFlags, IsFlagTable, TableShown, flag, member_count}

pub others_within : (P : Pair → Type 0) (w : ℕ) (out : List (Pair × ℕ)) → Each P (pairs_out out) → Each P (pairs_out (with_others w out))
others_within P w out h = each_counted P (pairs_out (with_others w out)) (λ x l. count_each P x (pairs_out out) h (omega (arith, l, count_workers x w out)))

-- what goes out waits as before
pub given_table : (f : Pair → Bool) (left : List Pair) (out : List (Pair × ℕ)) (w k : ℕ) → IsFlagTable f left out
    → IsFlagTable f (drop k left) (out ++ out_with w (take k left))
given_table f left out w k t = record { flags = λ x. t.flags x ∙ same x }
  where
    same : (x : Pair) → waiting left out x ≡ waiting (drop k left) (out ++ out_with w (take k left)) x
    same x = omega (
      arith,
      ap (count x) (pairs_out-append out (out_with w (take k left))),
      count-append x (pairs_out out) (pairs_out (out_with w (take k left))),
      count_out_with x w (take k left),
      count-split x k left,
    )

pub given_within : (P : Pair → Type 0) (left : List Pair) (out : List (Pair × ℕ)) (w k : ℕ) → Each P left → Each P (pairs_out out)
    → Each P (pairs_out (out ++ out_with w (take k left)))
given_within P left out w k h g = each_counted P (pairs_out (out ++ out_with w (take k left))) (λ x l. go x l (cases_lt 0 (count x (pairs_out out))))
  where
    go : (x : Pair) → 0 < count x (pairs_out (out ++ out_with w (take k left))) → (0 < count x (pairs_out out)) ⊎ (count x (pairs_out out) ≤ 0) → P x
    go x l (inl s) = count_each P x (pairs_out out) g s
    go x l (inr s) = count_each P x left h (omega (
      arith,
      l,
      s,
      ap (count x) (pairs_out-append out (out_with w (take k left))),
      count-append x (pairs_out out) (pairs_out (out_with w (take k left))),
      count_out_with x w (take k left),
      count-split x k left,
    ))

-- what is kept after pairs were skipped and given
pub given_coherent :
    (i : Inside) (skipped : List Pair) (left : List CodePair) (k w : ℕ) (queue : QueueShown) (out : Vec Out Global) (waits due : TableShown)
    → IsCoherent i → (i.update ≡ Plain → AreSkipped i.leads (outs_of i.out.items) (pairs_of i.queue.items) skipped (pairs_of left) (flag waits))
    → Each (IsRealPair i.leads) left → IsSorted (setting_of_leads i.leads.variables i.leads) (sums_shown i.leads) (pairs_of left)
    → (i.update ≡ Plain → Each (IsKnown i.leads (flag waits) (flag due)) (pairs_of left))
    → (i.update ≡ Plain → member_count waits ≡ length i.leads.keys) → (i.update ≡ Plain → member_count due ≡ length i.leads.keys)
    → queue.items ≡ drop k left → outs_of out.items ≡ outs_of i.out.items ++ out_with w (pairs_of (take k left))
    → IsCoherent (record i { queue = queue; out = out; waits = waits; due = due })
given_coherent i skipped left k w queue out waits due kept skips real sorted known waits_size due_size queue_is out_is =
    let m = i.leads in
    let pairs : pairs_of queue.items ≡ drop k (pairs_of left) = ap pairs_of queue_is ∙ pairs_drop k left in
    let outs : outs_of out.items ≡ outs_of i.out.items ++ out_with w (take k (pairs_of left)) = out_is
    ∙ ap (λ p. outs_of i.out.items ++ out_with w p) (pairs_take k left) in
    record {
      real = subst (Each (IsRealPair m)) (sym queue_is) (Each_drop (IsRealPair m) k left real);
      sorted = subst (IsSorted (setting_of_leads m.variables m) (sums_shown m)) (sym pairs)
          (sorted_behind (setting_of_leads m.variables m) (sums_shown m) k (pairs_of left) sorted);
      within = subst (λ (l : List (Pair × ℕ)). Each (AreIndices (length m.keys)) (pairs_out l)) (sym outs)
          (given_within (AreIndices (length m.keys)) (pairs_of left) (outs_of i.out.items) w k (indices_queued m left real) kept.within);
      reach = kept.reach;
      waits_size = waits_size;
      due_size = due_size;
      table = λ e. subst (λ (z : List Pair × List (Pair × ℕ)). IsFlagTable (flag waits) z.0 z.1) (λ t. (sym pairs t, sym outs t))
          (given_table (flag waits) (pairs_of left) (outs_of i.out.items) w k (skips e).table);
      known = λ e. subst (Each (IsKnown m (flag waits) (flag due))) (sym pairs) (Each_drop (IsKnown m (flag waits) (flag due)) k (pairs_of left) (known e));
    }

-- what is kept where nothing changed that contracts see
pub same_coherent :
    (i : Inside) (leads : LeadsShown) (queue : QueueShown) (dropped : Vec Dropped Global) (reach : Reach) (waits due : TableShown)
    → leads ≡ i.leads → queue.items ≡ i.queue.items → (i.update ≡ Plain → IsReach i.leads reach) → HasSameFlags i.waits waits → HasSameFlags i.due due
    → IsCoherent i → IsCoherent (record i { leads = leads; queue = queue; dropped = dropped; reach = reach; waits = waits; due = due })
same_coherent i leads queue dropped reach waits due l q r w d h =
    subst (λ (z : LeadsShown × QueueShown). IsCoherent (record i { leads = z.0; queue = z.1; dropped = dropped; reach = reach; waits = waits; due = due }))
    (λ t. (sym l t, record { items = sym q t })) (record {
      real = h.real;
      sorted = h.sorted;
      within = h.within;
      reach = r;
      waits_size = λ e. w.sizes ∙ h.waits_size e;
      due_size = λ e. d.sizes ∙ h.due_size e;
      table = λ e. record { flags = λ x. ap (λ b. cond b 1 0) (w.flags x) ∙ (h.table e).flags x };
      known = λ e. subst (λ (f : (Pair → Bool) × (Pair → Bool)). Each (IsKnown i.leads f.0 f.1) (pairs_of i.queue.items))
          (λ t. (λ x. sym (w.flags x) t, λ x. sym (d.flags x) t)) (h.known e);
    })
