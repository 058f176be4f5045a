use Rattle.std.proofs.Common.{List, ap, arith, cond, length, nat_eq, refl, sym, ℕ, ◌<◌, ◌∙◌, ◌≡◌, ◌≤◌}
use Rattle.std.proofs.lemmas.List.{take_all}
use Rattle.term_lists.proofs.Scaling.{Each_at}
use Rattle.pair_criteria.specs.declared.pair.Pair.{Pair as CodePair}
use Rattle.basis_steps.specs.Queues.{degree_of, number_of_degree}
use Rattle.pair_updates.proofs.Degrees.{least_is, number_more, same_degree}
use Rattle.pair_updates.proofs.LeastDegree.{least_before}
use Rattle.pair_updates.proofs.PairOrder.{degree_is}
use Rattle.pair_updates.proofs.PairLists.{pairs_length}
use Rattle.pair_updates.specs.Pairs.{HasLcm, index_pair_of, pairs_of}
use Rattle.pair_updates.specs.Leads.{setting_of_leads, sums_shown}
use Rattle.pair_queue.proofs.sharing.count_least_degree.Goals as goal

pub loop-k-init : goal.loop-k-init
loop-k-init c = λ m h. refl

pub returns-then-degree-least-clause-count : goal.returns-then-degree-least-clause-count
returns-then-degree-least-clause-count c = λ m h sorted.
    let queue : List CodePair = c.args.queue.now in
    let x = c.index-queue-k.result in
    let first = c.index-queue-0.result in
    least_before m queue c.loop-k.k c.degree-least.result first x h sorted c.index-queue-0.is
    (c.degree-least.ensures.value ∙ ap (λ (z : CodePair). z.lcm.monomial.degree) (sym c.index-queue-0.is))
    c.loop-k-test.true c.index-queue-k.is (λ e. c.if-degree-least.true
    (c.degree.ensures.value ∙ ap (λ (z : CodePair). z.lcm.monomial.degree) (sym c.index-queue-k.is) ∙ e)) (c.loop-k.invariant m h)

pub loop-k-preserved : goal.loop-k-preserved
loop-k-preserved c = λ m h.
    let S = setting_of_leads m.variables m in
    let G = sums_shown m in
    let x = c.index-queue-k.result in
    let least = c.degree-least.result in
    let k = c.loop-k.k in
    let more = number_more S G least c.args.queue.now k x c.loop-k-test.true c.index-queue-k.is in
    let at : degree_of S G (index_pair_of x) ≡ c.degree.result =
    degree_is m x (Each_at (HasLcm m) c.args.queue.now k x h c.loop-k-test.true c.index-queue-k.is)
    ∙ ap (λ (z : CodePair). z.lcm.monomial.degree) c.index-queue-k.is ∙ sym c.degree.ensures.value in
    let one : ◌≡◌ {A = ℕ} (cond (nat_eq (degree_of S G (index_pair_of x)) least) 1 0) 1 =
    same_degree (degree_of S G (index_pair_of x)) least c.degree.result c.degree.result at refl c.if-degree-least.false in
    omega (arith, more, one, c.loop-k.invariant m h)

pub returns-clause-count : goal.returns-clause-count
returns-clause-count c = λ m h sorted.
    let queue : List CodePair = c.args.queue.now in
    let k = c.loop-k.k in
    let least = c.degree-least.result in
    let some : 0 < length queue = grind (arith, c.is_empty.ensures, c.if-is_empty.false) in
    let end : k ≡ length queue = omega (arith, c.loop-k-test.false, c.loop-k.auto.k-end) in
    let whole : length (pairs_of queue) ≤ k = omega (arith, pairs_length queue, c.loop-k-test.false) in
    sym end ∙ sym (c.loop-k.invariant m h)
    ∙ ap (number_of_degree (setting_of_leads m.variables m) (sums_shown m) least) (take_all k (pairs_of queue) whole)
    ∙ least_is m queue c.index-queue-0.result least some c.index-queue-0.is h
    (c.degree-least.ensures.value ∙ ap (λ (z : CodePair). z.lcm.monomial.degree) (sym c.index-queue-0.is))
