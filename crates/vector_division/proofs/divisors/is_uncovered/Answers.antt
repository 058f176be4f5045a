use Rattle.std.proofs.Common.{None, [], arith, length, refl, subst, sym}
use Rattle.formal_sums.specs.FormalSums.{Each}
use Rattle.term_lists.proofs.Parts.{Each_member}
use Rattle.term_lists.specs.Vectors.{HasVariables, key_of}
use Rattle.vector_division.specs.Progress.{IsTried}
use Rattle.vector_division.proofs.Members.{tried_next, uncovered}
use Rattle.vector_division.proofs.divisors.is_uncovered.Goals as goal

pub lead_divides-requires : goal.lead_divides-requires
lead_divides-requires g c =
    let n = length c.args.key.now.monomial.exponents in
    let list = g.L.Vectors.listed c.args.list.now in
    subst (Each (HasVariables n)) (sym c.at.ensures) (Each_member (λ v. Each (HasVariables n) v) list c.loop-i.i [] c.requires (omega arith))

pub loop-i-preserved : goal.loop-i-preserved
loop-i-preserved g c =
    let key = c.args.key.now in
    let n = length key.monomial.exponents in
    tried_next n (g.L.Vectors.listed c.args.list.now) (key_of n key) c.loop-i.i c.loop-i.invariant
    (subst (λ v. IsTried n [] v (key_of n key) None) c.at.ensures (c.if-lead_divides.ensures [] refl))

pub returns : goal.returns
returns g c =
    let key = c.args.key.now in
    let n = length key.monomial.exponents in
    λ _. uncovered n (g.L.Vectors.listed c.args.list.now) (key_of n key) c.loop-i.i (omega arith) c.loop-i.invariant
