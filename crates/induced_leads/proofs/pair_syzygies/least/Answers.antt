use Rattle.std.proofs.Common.{[], arith, length, rules, subst, sym, ◌<◌}
use Rattle.std.proofs.lemmas.Fn.{always_returns_same}
use Rattle.std.specs.Cmp.Lexicographic.{slice_cmp}
use Rattle.std.specs.List.Sorted.{IsPermutation, IsSortedBy}
use Rattle.std.specs.Ordering.{is_lt, nat_cmp}
use Rattle.monomial_orders.specs.Kept.{IsWeighed, Monomial}
use Rattle.term_lists.proofs.Gathers.{Each_permutation}
use Rattle.term_lists.specs.Rings.{variables}
use Rattle.induced_leads.specs.Pairs.{AreLeastSoFar}
use Rattle.induced_leads.proofs.LeastLeads.{least_start}
use Rattle.induced_leads.proofs.PairSteps.{kept_weighed, least_all, least_next, slices_weak, sorted_rise, weighed_of}
use Rattle.induced_leads.proofs.pair_syzygies.least.Goals as goal

pub loop-m-init : goal.loop-m-init
loop-m-init c =
    let n = variables c.args.ring.now in
    let ws = c.args.ring.now.weights in
    let items = c.deref-m-items.result.now in
    let moved = subst (IsPermutation c.args.candidates.items) (sym c.deref-m-items.ensures.value) c.sort_unstable_by.ensures.permutation in
    let lens = Each_permutation (IsWeighed n ws) c.args.candidates.items items moved c.requires in
    let sorted = subst (IsSortedBy (λ (a b : Monomial). is_lt (slice_cmp nat_cmp a.exponents b.exponents))) (sym c.deref-m-items.ensures.value)
    (c.sort_unstable_by.ensures.sorted (λ (a b : Monomial). is_lt (slice_cmp nat_cmp a.exponents b.exponents)) slices_weak (always_returns_same _ _ _ (λ a r f k. search rules))) in
    subst (AreLeastSoFar n [] items) (sym c.new-kept.ensures.items) (least_start n items (sorted_rise n ws items lens sorted))

pub take_least-requires-clause-kept : goal.take_least-requires-clause-kept
take_least-requires-clause-kept c =
    let n = variables c.args.ring.now in
    let ws = c.args.ring.now.weights in
    let items = c.deref-m-items.result.now in
    let moved = subst (IsPermutation c.args.candidates.items) (sym c.deref-m-items.ensures.value) c.sort_unstable_by.ensures.permutation in
    kept_weighed n ws items c.loop-m.kept.items c.loop-m.m-index c.loop-m.invariant (Each_permutation (IsWeighed n ws) c.args.candidates.items items moved c.requires)

pub take_least-requires-clause-monomial : goal.take_least-requires-clause-monomial
take_least-requires-clause-monomial c =
    let n = variables c.args.ring.now in
    let ws = c.args.ring.now.weights in
    let items = c.deref-m-items.result.now in
    let moved = subst (IsPermutation c.args.candidates.items) (sym c.deref-m-items.ensures.value) c.sort_unstable_by.ensures.permutation in
    weighed_of n ws items c.m-item.result c.loop-m.m-index (Each_permutation (IsWeighed n ws) c.args.candidates.items items moved c.requires) (omega arith) c.m-item.is

pub loop-m-preserved : goal.loop-m-preserved
loop-m-preserved c =
    let n = variables c.args.ring.now in
    let items = c.deref-m-items.result.now in
    let lt : c.loop-m.m-index < length items = omega arith in
    least_next n items c.loop-m.m-index c.m-item.result c.loop-m.kept.items c.take_least.new.kept.items c.loop-m.invariant lt c.m-item.is c.in_ok-take_least.ensures

pub returns : goal.returns
returns c =
    let n = variables c.args.ring.now in
    let items = c.deref-m-items.result.now in
    let moved = subst (IsPermutation c.args.candidates.items) (sym c.deref-m-items.ensures.value) c.sort_unstable_by.ensures.permutation in
    least_all n c.args.candidates.items items c.loop-m.kept.items c.loop-m.m-index (omega arith) c.loop-m.invariant moved
