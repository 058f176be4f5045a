use Rattle.std.proofs.Common.{Bool, List, [], ap, arith, drop, get_or, length, subst, sym, take, ◌++◌, ◌+◌, ◌<◌, ◌∙◌, ◌∷◌, ◌≡◌, ℕ}
use Rattle.std.proofs.lemmas.List.{drop_more}
use Rattle.formal_sums.specs.FormalSums.{Each}
use Rattle.formal_sums.proofs.WeightedSums.{Each_append}
use Rattle.term_lists.proofs.Scaling.{Each_at}
use Rattle.pair_criteria.specs.declared.pair.Pair.{Pair as CodePair}
use Rattle.basis_steps.specs.Pairs.{Pair}
use Rattle.basis_steps.specs.Queues.{IsSorted}
use Rattle.pair_queue.proofs.Knowing.{each_here, each_without}
use Rattle.pair_updates.proofs.Leading.{leads_length}
use Rattle.pair_updates.proofs.LeastDegree.{sorted_without}
use Rattle.pair_queue.proofs.Passing.{left_back, left_kept, pass_over}
use Rattle.pair_updates.proofs.PairLists.{pairs_append}
use Rattle.pair_updates.specs.Leads.{setting_of_leads, sums_shown}
use Rattle.pair_updates.specs.Pairs.{IsRealPair, index_pair_of, pairs_of}
use Rattle.pair_queue.specs.Skipping.{AreSkipped, IsKnown, IsSpared, NoneIsSpared}
use Rattle.pair_queue.specs.Tables.{flag, flag_cleared}
use Rattle.pair_queue.proofs.skipping.skip.Goals as goal

pub has-requires-clause-order : goal.has-requires-clause-order
has-requires-clause-order c =
    let q : List CodePair = c.loop-next.queue.items in
    let x : CodePair = c.index-as_slice-next.result in
    let there : c.loop-next.next < length q = omega (arith, c.loop-next-test.true, c.len.ensures) in
    let is : x ≡ get_or q c.loop-next.next x = c.index-as_slice-next.is ∙ ap (λ (l : List CodePair). get_or l c.loop-next.next x) c.as_slice.ensures in
    (Each_at (IsRealPair c.args.leads.now) q c.loop-next.next x c.loop-next.invariant.real there is).pair.ordered

pub has-requires-clause-within : goal.has-requires-clause-within
has-requires-clause-within c =
    let m = c.args.leads.now in
    let q : List CodePair = c.loop-next.queue.items in
    let x : CodePair = c.index-as_slice-next.result in
    let there : c.loop-next.next < length q = omega (arith, c.loop-next-test.true, c.len.ensures) in
    let is : x ≡ get_or q c.loop-next.next x = c.index-as_slice-next.is ∙ ap (λ (l : List CodePair). get_or l c.loop-next.next x) c.as_slice.ensures in
    let real : IsRealPair m x = Each_at (IsRealPair m) q c.loop-next.next x c.loop-next.invariant.real there is in
    omega (arith, real.pair.within, leads_length m.variables m.keys, c.loop-next.invariant.due_size)

pub skip_pair-requires-clause-place : goal.skip_pair-requires-clause-place
skip_pair-requires-clause-place c =
    let q : List CodePair = c.loop-next.queue.items in
    let next = c.loop-next.next in
    let x : CodePair = c.index-as_slice-next.result in
    let there : next < length q = omega (arith, c.loop-next-test.true, c.len.ensures) in
    let is : x ≡ get_or q next x = c.index-as_slice-next.is ∙ ap (λ (l : List CodePair). get_or l next x) c.as_slice.ensures in
    ap (λ (l : List CodePair). pairs_of l) (drop_more q next x there ∙ ap (λ (z : CodePair). z ∷ drop (next + 1) q) (sym is))

pub skip_pair-requires-clause-known : goal.skip_pair-requires-clause-known
skip_pair-requires-clause-known c =
    let m = c.args.leads.now in
    let inv = c.loop-next.invariant in
    let q : List CodePair = c.loop-next.queue.items in
    let next = c.loop-next.next in
    let x : CodePair = c.index-as_slice-next.result in
    let kept : List CodePair = take c.loop-next.kept q in
    let rest : List CodePair = drop (next + 1) q in
    let there : next < length q = omega (arith, c.loop-next-test.true, c.len.ensures) in
    let is : x ≡ get_or q next x = c.index-as_slice-next.is ∙ ap (λ (l : List CodePair). get_or l next x) c.as_slice.ensures in
    let first : drop next q ≡ x ∷ rest = drop_more q next x there ∙ ap (λ (z : CodePair). z ∷ rest) (sym is) in
    let P = IsKnown m (flag c.loop-next.waits) (flag c.loop-next.due) in
    each_without P (pairs_of kept) (pairs_of rest) (index_pair_of x) (subst (λ (l : List CodePair). Each P (pairs_of kept ++ pairs_of l)) first inv.known)

pub skip_pair-requires-clause-spared : goal.skip_pair-requires-clause-spared
skip_pair-requires-clause-spared c =
    let m = c.args.leads.now in
    let inv = c.loop-next.invariant in
    let q : List CodePair = c.loop-next.queue.items in
    let next = c.loop-next.next in
    let x : CodePair = c.index-as_slice-next.result in
    let kept : List CodePair = take c.loop-next.kept q in
    let rest : List CodePair = drop (next + 1) q in
    let there : next < length q = omega (arith, c.loop-next-test.true, c.len.ensures) in
    let is : x ≡ get_or q next x = c.index-as_slice-next.is ∙ ap (λ (l : List CodePair). get_or l next x) c.as_slice.ensures in
    let first : drop next q ≡ x ∷ rest = drop_more q next x there ∙ ap (λ (z : CodePair). z ∷ rest) (sym is) in
    let P = IsKnown m (flag c.loop-next.waits) (flag c.loop-next.due) in
    let known : P (index_pair_of x) = each_here P (pairs_of kept) (pairs_of rest) (index_pair_of x)
    (subst (λ (l : List CodePair). Each P (pairs_of kept ++ pairs_of l)) first inv.known) in
    known.shut (sym c.has.ensures ∙ c.if-not-has.true)

pub loop-next-preserved-then-not-has : goal.loop-next-preserved-then-not-has
loop-next-preserved-then-not-has c =
    let m = c.args.leads.now in
    let inv = c.loop-next.invariant in
    let q : List CodePair = c.loop-next.queue.items in
    let next = c.loop-next.next in
    let kept : List CodePair = take c.loop-next.kept q in
    let rest : List CodePair = drop (next + 1) q in
    let x : CodePair = c.index-as_slice-next.result in
    let f = flag c.loop-next.waits in
    let all = pairs_of c.args.queue.now.items in
    let there : next < length q = omega (arith, c.loop-next-test.true, c.len.ensures) in
    let is : x ≡ get_or q next x = c.index-as_slice-next.is ∙ ap (λ (l : List CodePair). get_or l next x) c.as_slice.ensures in
    let first : drop next q ≡ x ∷ rest = drop_more q next x there ∙ ap (λ (z : CodePair). z ∷ rest) (sym is) in
    let h = c.skip_pair.ensures in
    let count : ℕ = c.skip_pair.result.0 in
    let fewer : List CodePair = take count c.skip_pair.new.queue.items in
    let more : List CodePair = drop c.skip_pair.result.1 c.skip_pair.new.queue.items in
    let P = IsKnown m (flag c.loop-next.waits) (flag c.loop-next.due) in
    let known : P (index_pair_of x) = each_here P (pairs_of kept) (pairs_of rest) (index_pair_of x)
    (subst (λ (l : List CodePair). Each P (pairs_of kept ++ pairs_of l)) first inv.known) in
    let spared : IsSpared m f (index_pair_of x) = known.shut (sym c.has.ensures ∙ c.if-not-has.true) in
    record {
      waits_size = h.waits_size ∙ inv.waits_size;
      due_size = h.due_size ∙ inv.due_size;
      real = h.real;
      order = omega (arith, h.place, h.fewer, inv.order);
      within = omega (arith, h.place, h.fewer, h.len, there);
      sorted = subst (IsSorted (setting_of_leads m.variables m) (sums_shown m)) (left_back count kept rest fewer more h.first h.rest)
          (sorted_without (setting_of_leads m.variables m) (sums_shown m) (pairs_of kept) (pairs_of rest) (index_pair_of x)
          (subst (λ (l : List CodePair). IsSorted (setting_of_leads m.variables m) (sums_shown m) (pairs_of kept ++ pairs_of l)) first inv.sorted));
      none = h.none;
      known = h.known;
      skips = λ out table.
          let old : AreSkipped m out all c.loop-next.skipped.items (pairs_of kept ++ index_pair_of x ∷ pairs_of rest) f =
          subst (λ (l : List CodePair). AreSkipped m out all c.loop-next.skipped.items (pairs_of kept ++ pairs_of l) f) first (inv.skips out table) in
          let new : AreSkipped m out all (c.loop-next.skipped.items ++ index_pair_of x ∷ []) (pairs_of kept ++ pairs_of rest) (flag_cleared f (index_pair_of x)) =
          pass_over m out all c.loop-next.skipped.items (pairs_of kept) (pairs_of rest) (index_pair_of x) f inv.none spared old in
          subst (λ (z : List Pair × List Pair × (Pair → Bool)). AreSkipped m out all z.0 z.1 z.2)
          (λ i. (sym c.push_reserved.ensures.items i, left_back count kept rest fewer more h.first h.rest i, sym h.waits i)) new;
      len = h.len ∙ inv.len;
      left = omega (
        arith,
        inv.left,
        c.push_reserved.ensures.len,
        c.push_reserved.ensures.capacity,
        c.push_reserved.new.self.ok,
        c.loop-next.skipped.ok,
        h.place,
        h.fewer,
        h.len,
        there,
        inv.order,
      );
      skipped_room = omega (
        arith,
        inv.skipped_room,
        c.push_reserved.ensures.len,
        c.push_reserved.ensures.capacity,
        c.push_reserved.new.self.ok,
        c.loop-next.skipped.ok,
      );
    }

pub loop-next-preserved : goal.loop-next-preserved
loop-next-preserved c =
    let m = c.args.leads.now in
    let inv = c.loop-next.invariant in
    let q : List CodePair = c.loop-next.queue.items in
    let next = c.loop-next.next in
    let kept : List CodePair = take c.loop-next.kept q in
    let rest : List CodePair = drop (next + 1) q in
    let x : CodePair = c.index-as_slice-next.result in
    let f = flag c.loop-next.waits in
    let P = IsKnown m (flag c.loop-next.waits) (flag c.loop-next.due) in
    let all = pairs_of c.args.queue.now.items in
    let there : next < length q = omega (arith, c.loop-next-test.true, c.len.ensures) in
    let is : x ≡ get_or q next x = c.index-as_slice-next.is ∙ ap (λ (l : List CodePair). get_or l next x) c.as_slice.ensures in
    let first : drop next q ≡ x ∷ rest = drop_more q next x there ∙ ap (λ (z : CodePair). z ∷ rest) (sym is) in
    let known : P (index_pair_of x) = each_here P (pairs_of kept) (pairs_of rest) (index_pair_of x)
    (subst (λ (l : List CodePair). Each P (pairs_of kept ++ pairs_of l)) first inv.known) in
    let not : IsSpared m f (index_pair_of x) → ⊥ = known.free (sym c.has.ensures ∙ c.if-not-has.false) in
    let more = c.keep.ensures.first x is in
    let rest_is = c.keep.ensures.rest in
    let same = ap (λ (l : List CodePair). pairs_of kept ++ pairs_of l) first ∙ left_kept kept rest x
    ∙ (λ i. pairs_of (sym more i) ++ pairs_of (sym rest_is i)) in
    record {
      waits_size = inv.waits_size;
      due_size = inv.due_size;
      real = c.keep.ensures.real m inv.real;
      order = omega (arith, inv.order);
      within = omega (arith, there, c.keep.ensures.len);
      sorted = subst (IsSorted (setting_of_leads m.variables m) (sums_shown m)) same inv.sorted;
      none = subst (λ (l : List CodePair). NoneIsSpared m f (pairs_of l)) (sym more)
          (subst (NoneIsSpared m f) (sym (pairs_append kept (x ∷ [])))
          (Each_append (λ y. IsSpared m f y → ⊥) (pairs_of kept) (index_pair_of x ∷ []) inv.none (not, tt)));
      known = subst (Each P) same inv.known;
      skips = λ out table. subst (λ (l : List Pair). AreSkipped m out all c.loop-next.skipped.items l f) same (inv.skips out table);
      len = c.keep.ensures.len ∙ inv.len;
      left = omega (arith, inv.left, c.keep.ensures.len, there);
      skipped_room = inv.skipped_room;
    }
