use Rattle.std.proofs.Common.{arith, length, refl, subst, sym, true, false, ◌<◌, ◌∙◌, ◌≡◌}
use Rattle.monomials.specs.Exponents.{Divides, exponents_of}
use Rattle.term_lists.proofs.Scaling.{Each_more}
use Rattle.term_lists.specs.Rings.{variables}
use Rattle.term_lists.specs.Vectors.{IsMonomialOver}
use Rattle.induced_leads.proofs.LeastLeads.{each_at}
use Rattle.induced_leads.proofs.pair_syzygies.is_divided.Goals as goal

pub divides-requires : goal.divides-requires
divides-requires c =
    let lt : c.loop-k.k-index < length c.args.kept.now = omega arith in
    record { variables = (each_at (IsMonomialOver c.args.ring.now) c.args.kept.now c.k-item.result c.requires.kept (c.loop-k.k-index, lt, sym c.k-item.is)).variables ∙ sym c.requires.monomial.variables }

pub returns-then-divides : goal.returns-then-divides
returns-then-divides c =
    let k = c.k-item.result in
    let m = c.args.m.now in
    let i = c.loop-k.k-index in
    let lt : i < length c.args.kept.now = omega arith in
    let e : length k.exponents ≡ variables c.args.ring.now = (each_at (IsMonomialOver c.args.ring.now) c.args.kept.now k c.requires.kept (i, lt, sym c.k-item.is)).variables in
    (λ z. (k, (i, lt, sym c.k-item.is), subst (λ n. Divides (exponents_of n k.exponents) (exponents_of n m.exponents)) e (c.if-divides.ensures.value.0 refl)), λ z. refl)

pub loop-k-preserved : goal.loop-k-preserved
loop-k-preserved c =
    let k = c.k-item.result in
    let m = c.args.m.now in
    let i = c.loop-k.k-index in
    let n = variables c.args.ring.now in
    let lt : i < length c.args.kept.now = omega arith in
    let e : length k.exponents ≡ variables c.args.ring.now = (each_at (IsMonomialOver c.args.ring.now) c.args.kept.now k c.requires.kept (i, lt, sym c.k-item.is)).variables in
    Each_more (λ k. Divides (exponents_of n k.exponents) (exponents_of n m.exponents) → ⊥) c.args.kept.now i k c.loop-k.invariant lt c.k-item.is
    (λ d. let t : false ≡ true = c.if-divides.ensures.value.1 (subst (λ n. Divides (exponents_of n k.exponents) (exponents_of n m.exponents)) (sym e) d) in cc)
