use Rattle.std.proofs.Common.{List, subst, sym, ◌∷◌, []}
use Rattle.formal_sums.proofs.WeightedSums.{Each_append}
use Rattle.formal_sums.specs.FormalSums.{Each}
use Rattle.monomial_orders.specs.Kept.{IsWeighed}
use Rattle.term_lists.specs.declared.key.Key.{Key as CodeKey}
use Rattle.pair_criteria.specs.Pairs.{IsPairOfLeads, key_variables, lead_with_index}
use Rattle.pair_updates.proofs.NewPairs.{lcm_made, pair_pushed, some_pair, some_weighed}
use Rattle.pair_updates.specs.Pairs.{HasLcm}
use Rattle.pair_updates.proofs.joining.push_pair.Goals as goal

pub returns-in_ok-push-in-Some-clause-lcms : goal.returns-in_ok-push-in-Some-clause-lcms
returns-in_ok-push-in-Some-clause-lcms c =
    let m = c.args.leads.now in
    let P = HasLcm m in
    let all : Each (λ k. IsWeighed m.variables m.weights k.monomial) m.keys =
    subst (λ (ks : List CodeKey). Each (λ k. IsWeighed m.variables m.weights k.monomial) ks) c.keys.ensures.keys c.keys.ensures.weighed in
    let made : IsPairOfLeads m.keys c.args.i c.args.j c.in-Some.pair =
    some_pair c.keys.result.now m.keys c.args.i c.args.j c.in_ok-pair.field-0 c.in-Some.pair c.keys.ensures.keys c.in-Some.is c.in_ok-pair.ensures.pair in
    let weighed : IsWeighed (key_variables (lead_with_index m.keys c.args.i)) m.weights c.in-Some.pair.lcm.monomial =
    some_weighed c.keys.result.now m.keys c.weights.result.now m.weights c.args.i c.in_ok-pair.field-0 c.in-Some.pair c.keys.ensures.keys
    c.weights.ensures.weights c.in-Some.is c.in_ok-pair.ensures.weighed in
    subst (Each P) (sym c.in_ok-push-in-Some.ensures.items) (Each_append P c.args.pairs.now.items (c.in-Some.pair ∷ []) c.requires.lcms
    (lcm_made m c.args.i c.args.j c.requires.order c.requires.known all c.in-Some.pair made weighed, tt))

pub returns-in_ok-push-in-Some-clause-same : goal.returns-in_ok-push-in-Some-clause-same
returns-in_ok-push-in-Some-clause-same c =
    let m = c.args.leads.now in
    let all : Each (λ k. IsWeighed m.variables m.weights k.monomial) m.keys =
    subst (λ (ks : List CodeKey). Each (λ k. IsWeighed m.variables m.weights k.monomial) ks) c.keys.ensures.keys c.keys.ensures.weighed in
    let made : IsPairOfLeads m.keys c.args.i c.args.j c.in-Some.pair =
    some_pair c.keys.result.now m.keys c.args.i c.args.j c.in_ok-pair.field-0 c.in-Some.pair c.keys.ensures.keys c.in-Some.is c.in_ok-pair.ensures.pair in
    pair_pushed m c.args.i c.args.j c.requires.order c.requires.known all c.args.pairs.now.items c.push.new.self.items c.in-Some.pair
    made c.in_ok-push-in-Some.ensures.items
