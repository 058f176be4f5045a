use Rattle.std.proofs.Common.{List, [], ap, arith, drop, length, ne_eqb, refl, subst, sym, take, ◌++◌, ◌==◌, ◌∙◌, ◌∷◌, ◌≡◌, ◌≤◌}
use Rattle.std.proofs.lemmas.List.{length-take-le}
use Rattle.formal_sums.specs.FormalSums.{Each}
use Rattle.queue_updates.specs.declared.Update.TheVariants.{Gebauer, Plain}
use Rattle.basis_steps.specs.Criteria.{NoCriterionApplies, Skips}
use Rattle.basis_steps.specs.Pairs.{Pair}
use Rattle.basis_steps.specs.Queues.{IsSorted, share}
use Rattle.basis_steps.specs.Steps.{is_empty, out_with}
use Rattle.pair_criteria.specs.declared.pair.Pair.{Pair as CodePair}
use Rattle.pair_queue.proofs.Handing.{given_coherent}
use Rattle.pair_queue.proofs.SkippedPairs.{left_skips, left_sorted}
use Rattle.pair_updates.proofs.Leading.{lcms_of}
use Rattle.pair_queue.proofs.Tabling.{table_is}
use Rattle.pair_queue.specs.Inside.{queue_shown}
use Rattle.pair_updates.specs.Leads.{LeadsShown, setting_of_leads, sums_shown}
use Rattle.pair_updates.specs.Pairs.{HasLcm, pairs_of}
use Rattle.pair_queue.specs.Outs.{outs_of}
use Rattle.pair_queue.specs.Shown.{IsJobGiven, PairsShown}
use Rattle.pair_queue.specs.Skipping.{AreSkipped}
use Rattle.pair_queue.specs.Tables.{flag}
use Rattle.pair_queue.proofs.pairs.PairQueue.take.Goals as goal

none_is : (xs : List CodePair) → (length xs == 0) ≡ is_empty (pairs_of xs)
none_is [] = refl
none_is (x ∷ xs) = ne_eqb (length (x ∷ xs)) 0 (λ e. absurd (omega (arith, e)))

-- the pairs that are given: as many as the share says, the first of those left
number_given : (c : goal.After-shrink_to_fit-3) → length c.truncate.new.self.items ≡ c.share_of-share.result
number_given c =
    let left : length c.as_slice-left.result.now ≡ length c.skip_by.new.queue.items = ap length c.as_slice-left.ensures in
    let enough : c.share_of-share.result ≤ length c.in_ok-pairs.pairs.items =
    omega (
      arith,
      left,
      c.in_ok-pairs.ensures,
      c.min-most_given.ensures,
      c.len-count.ensures,
      c.share_of-share.ensures.most,
      c.share_of-share.ensures.few,
      c.skip_by.ensures.few,
    ) in
    ap length c.truncate.ensures.items ∙ length-take-le c.share_of-share.result c.in_ok-pairs.pairs.items enough

first_given : (c : goal.After-shrink_to_fit-3) → c.shrink_to_fit-3.new.self.items ≡ take (length c.truncate.new.self.items) c.skip_by.new.queue.items
first_given c = c.shrink_to_fit-3.ensures.items ∙ c.take_front.ensures.taken

length_given : (c : goal.After-shrink_to_fit-3) → length c.shrink_to_fit-3.new.self.items ≡ length c.truncate.new.self.items
length_given c =
    let few : length c.truncate.new.self.items ≤ length c.skip_by.new.queue.items =
    omega (arith, number_given c, c.share_of-share.ensures.few, ap length c.as_slice-left.ensures) in
    ap length (first_given c) ∙ length-take-le (length c.truncate.new.self.items) c.skip_by.new.queue.items few

out_given : (c : goal.After-shrink_to_fit-3)
    → outs_of c.give.new.out.items ≡ outs_of c.self.inside.out.items ++ out_with c.args.worker (pairs_of c.shrink_to_fit-3.new.self.items)
out_given c = c.give.ensures.out ∙ (λ t. outs_of (c.in_ok-reserve.ensures.items t) ++ out_with c.args.worker
    (pairs_of ((c.deref.ensures.value ∙ sym c.shrink_to_fit-3.ensures.items) t)))

pub invariant_of-self-2 : goal.invariant_of-self-2
invariant_of-self-2 c =
    let i = c.self.inside in
    given_coherent i c.skip_by.new.skipped.items c.skip_by.new.queue.items
    (length c.truncate.new.self.items) c.args.worker c.take_front.new.self c.give.new.out c.skip_by.new.waits c.skip_by.new.due
    c.self.invariant (λ e. c.skip_by.ensures.skips e (outs_of i.out.items) (c.self.invariant.table e)) c.skip_by.ensures.real
    (left_sorted i.update i.leads (outs_of i.out.items) (pairs_of i.queue.items) c.skip_by.new.skipped.items c.skip_by.new.queue.items
    (flag c.skip_by.new.waits) c.self.invariant.sorted (λ e. c.skip_by.ensures.skips e (outs_of i.out.items) (c.self.invariant.table e))
    (λ e. ap pairs_of (c.skip_by.ensures.nothing e).1)) c.skip_by.ensures.known
    (λ e. c.skip_by.ensures.waits_size e ∙ c.self.invariant.waits_size e) (λ e. c.skip_by.ensures.due_size e ∙ c.self.invariant.due_size e)
    c.take_front.ensures.rest (out_given c ∙ ap (λ (l : List CodePair). outs_of i.out.items ++ out_with c.args.worker (pairs_of l)) (first_given c))

pub returns-clause-ok : goal.returns-clause-ok
returns-clause-ok c =
    let i = c.self.inside in
    let m : LeadsShown = i.leads in
    let left : List CodePair = c.skip_by.new.queue.items in
    let outs = outs_of i.out.items in
    let skips : i.update ≡ Plain → AreSkipped m outs (pairs_of i.queue.items) c.skip_by.new.skipped.items (pairs_of left) (flag c.skip_by.new.waits) =
    λ e. c.skip_by.ensures.skips e outs (c.self.invariant.table e) in
    let nothing : i.update ≡ Gebauer → pairs_of left ≡ pairs_of i.queue.items = λ e. ap pairs_of (c.skip_by.ensures.nothing e).1 in
    let sorted : IsSorted (setting_of_leads m.variables m) (sums_shown m) (pairs_of left) =
    left_sorted i.update m outs (pairs_of i.queue.items) c.skip_by.new.skipped.items left (flag c.skip_by.new.waits) c.self.invariant.sorted skips nothing in
    let is : c.as_slice-left.result.now ≡ left = c.as_slice-left.ensures in
    let all : c.shrink_to_fit-3.new.self.items ≡ take (length c.shrink_to_fit-3.new.self.items) left = first_given c
    ∙ ap (λ k. take k left) (sym (length_given c)) in
    subst (λ (z : PairsShown). IsJobGiven z c.args.worker c.args.budget c.args.workers c.args.taken c.args.most
    (record {
      skipped = c.shrink_to_fit.new.self;
      given = c.shrink_to_fit-2.new.self;
      pairs = c.shrink_to_fit-3.new.self;
      none_left =
          c.is_empty-none_left.result;
    })
    (queue_shown (record i { queue = c.take_front.new.self; out = c.give.new.out; waits = c.skip_by.new.waits; due = c.skip_by.new.due }))) c.self.view_is (record {
      left = left;
      skips = subst (λ (s : List Pair). Skips (setting_of_leads m.variables m) (sums_shown m) outs (pairs_of i.queue.items) s (pairs_of left))
          (sym c.shrink_to_fit.ensures.items)
          (left_skips i.update m outs (pairs_of i.queue.items) c.skip_by.new.skipped.items left (flag c.skip_by.new.waits) skips
          (λ e. (c.skip_by.ensures.nothing e).0) nothing);
      none = λ e. subst (λ h. NoCriterionApplies (setting_of_leads m.variables m) (sums_shown m) h (pairs_of left))
          (table_is (flag c.skip_by.new.waits) (pairs_of left) outs (skips e).table) (c.skip_by.ensures.none e);
      skips_none = λ e. c.shrink_to_fit.ensures.items ∙ (c.skip_by.ensures.nothing e).0;
      real = c.skip_by.ensures.real;
      shared = λ r budget workers weights.
          length_given c ∙ number_given c
          ∙ subst (λ (l : List CodePair). c.share_of-share.result ≡ share r (sums_shown m) c.args.taken c.args.most (pairs_of l)) is
          (c.share_of-share.ensures.share m r budget workers weights
          (subst (Each (HasLcm m)) (sym is) (lcms_of m left c.skip_by.ensures.real))
          (subst (λ (l : List CodePair). IsSorted (setting_of_leads m.variables m) (sums_shown m) (pairs_of l)) (sym is) sorted));
      first = all;
      given = c.shrink_to_fit-2.ensures.items ∙ c.give.ensures.given
          ∙ ap (λ (l : List CodePair). pairs_of l) (c.deref.ensures.value ∙ sym c.shrink_to_fit-3.ensures.items);
      rest = c.take_front.ensures.rest ∙ ap (λ k. drop k left) (sym (length_given c));
      out = out_given c;
      leads = refl;
      update = refl;
      dropped = refl;
      none_left = c.is_empty-none_left.ensures ∙ none_is c.as_slice-left.result.now ∙ ap (λ (l : List CodePair). is_empty (pairs_of l)) is;
    })
