use Rattle.syzygy_engine.proofs.Standing.{Terms}
use Rattle.std.proofs.Common.{[], subst, sym, ◌++◌, ◌<◌, ◌∷◌, ◌≡◌}
use Rattle.formal_sums.proofs.WeightedSums.{Each_append}
use Rattle.map_laws.specs.Graphs.{from_second}
use Rattle.term_lists.specs.Rings.{variables}
use Rattle.term_lists.specs.Vectors.{AreTermsOver, IsMonomialOver, sum_of}
use Rattle.ring_maps.proofs.SecondTerms.{second_step}
use Rattle.ring_maps.proofs.second_variables.second_terms.Goals as goal

pub second_term-requires-clause-term : goal.second_term-requires-clause-term
second_term-requires-clause-term c =
    let all = subst (AreTermsOver c.args.graph.now) c.in-Some.ensures.steps.0 c.loop-term.invariant.rest in
    (all.0, tt)

pub loop-term-preserved : goal.loop-term-preserved
loop-term-preserved c =
    let ring = c.args.ring.now in
    let graph = c.args.graph.now in
    let n = variables ring in
    let m = variables graph in
    let all = subst (AreTermsOver graph) c.in-Some.ensures.steps.0 c.loop-term.invariant.rest in
    let done = c.loop-term.fewer.items in
    let y = c.in_ok-second_term.field-0 in
    let rest = c.next.new.self.rest.items in
    record {
      over = subst (AreTermsOver ring) (sym {A = Terms} c.in_ok-push.ensures.items)
          (Each_append (λ t. IsMonomialOver ring t.0.monomial × (t.1 < ring.modulus.value)) done (y ∷ []) c.loop-term.invariant.over c.in_ok-second_term.ensures.over);
      rest = all.1;
      sum = subst (λ z. sum_of n z ++ from_second n (sum_of m rest) ≡ from_second n (sum_of m c.args.terms.items)) (sym {A = Terms} c.in_ok-push.ensures.items)
          (second_step n m done c.loop-term.term-iterator.rest.items rest c.in-Some.term y c.args.terms.items c.in-Some.ensures.steps.0 c.in_ok-second_term.ensures.term c.loop-term.invariant.sum);
    }
