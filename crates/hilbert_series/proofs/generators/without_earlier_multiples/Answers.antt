use Rattle.std.proofs.Common.{length, rules, subst, sym, true, ◌≡◌}
use Rattle.monomials.specs.Exponents.{exponents_of}
use Rattle.monomial_counts.specs.Counts.{has_divisor}
use Rattle.hilbert_series.specs.Generators.{AreMonomialGenerators}
use Rattle.hilbert_series.proofs.Loops.{Sifting, last_weighed, sifting_begins, sifting_drops, sifting_ends, sifting_keeps}
use Rattle.monomial_orders.specs.Kept.{monomials}
use Rattle.hilbert_series.proofs.generators.without_earlier_multiples.Goals as goal

pub loop-m-preserved-in-Continue-branch-2 : goal.loop-m-preserved-in-Continue-branch-2
loop-m-preserved-in-Continue-branch-2 c =
    let ws = c.args.weights.now in
    let s = subst (λ r. Sifting (length ws) ws c.args.list.items r c.loop-m.kept.items) c.in-Some.ensures.items c.loop-m.invariant in
    subst (λ k. Sifting (length ws) ws c.args.list.items c.pop.new.self.items k) (sym c.in_ok-push.ensures.items)
    (sifting_keeps (length ws) ws c.args.list.items c.pop.new.self.items c.loop-m.kept.items c.in-Some.m s)

pub loop-m-preserved : goal.loop-m-preserved
loop-m-preserved c =
    let ws = c.args.weights.now in
    let s = subst (λ r. Sifting (length ws) ws c.args.list.items r c.loop-m.kept.items) c.in-Some.ensures.items c.loop-m.invariant in
    sifting_drops (length ws) ws c.args.list.items c.pop.new.self.items c.loop-m.kept.items c.in-Some.m s
    (subst (λ k. has_divisor (monomials (length ws) k) (exponents_of (length ws) c.in-Some.m.exponents) ≡ true) c.as_slice.ensures.value
    (sym c.if-not-is_multiple.ensures))

pub returns : goal.returns
returns c = record {
  shorter = sifting_ends (length c.args.weights.now) c.args.weights.now c.args.list.items c.loop-m.list.items c.loop-m.kept.items (search rules)
      c.loop-m.invariant;
}

pub loop-m-init : goal.loop-m-init
loop-m-init c =
    sifting_begins (length c.args.weights.now) c.args.weights.now c.args.list.items c.in_ok-kept.kept.items c.in_ok-kept.ensures.items c.requires.generators

pub is_multiple-requires-clause-generators : goal.is_multiple-requires-clause-generators
is_multiple-requires-clause-generators c =
    subst (AreMonomialGenerators (length c.args.weights.now) c.args.weights.now) (sym c.as_slice.ensures.value) c.loop-m.invariant.kept_generators

pub is_multiple-requires-clause-monomial : goal.is_multiple-requires-clause-monomial
is_multiple-requires-clause-monomial c =
    let ws = c.args.weights.now in
    last_weighed (length ws) ws c.pop.new.self.items c.in-Some.m (subst (AreMonomialGenerators (length ws) ws) c.in-Some.ensures.items
    c.loop-m.invariant.rest_generators)
