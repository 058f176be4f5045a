use Rattle.std.proofs.Common.{[], refl, subst, sym, ◌-◌}
use Rattle.formal_sums.specs.FormalSums.{Each}
use Rattle.term_lists.proofs.Parts.{Each_member}
use Rattle.term_lists.specs.Rings.{ring_comparison, variables}
use Rattle.term_lists.specs.Vectors.{IsMonomialOver}
use Rattle.basis_core.specs.Rows.{vectors_in}
use Rattle.vector_division.proofs.Looping.{are_weighed}
use Rattle.s_vectors.proofs.TopParts.{factor_divides, factor_some, left_divides, left_within, minus_one, right_divides, right_within, top_part}
use Rattle.s_vectors.proofs.pairs.pair_parts.Goals as goal

pub at-requires : goal.at-requires
at-requires c =
    let n = variables c.args.ring.now in
    let m = c.args.members.now in
    left_within n m.shared m.list c.args.pair.now c.requires.monic c.requires.real c.requires.lcm

pub at-requires-2 : goal.at-requires-2
at-requires-2 c =
    let n = variables c.args.ring.now in
    let m = c.args.members.now in
    right_within n m.shared m.list c.args.pair.now c.requires.monic c.requires.real c.requires.lcm

pub factor_of-requires-clause-lcm : goal.factor_of-requires-clause-lcm
factor_of-requires-clause-lcm c = c.requires.lcm.weighed

pub factor_of-requires-2-clause-lcm : goal.factor_of-requires-2-clause-lcm
factor_of-requires-2-clause-lcm c = c.requires.lcm.weighed

pub factor_of-requires-clause-some : goal.factor_of-requires-clause-some
factor_of-requires-clause-some c =
    let n = variables c.args.ring.now in
    let m = c.args.members.now in
    factor_some n m.shared m.list c.args.pair.now c.requires.monic c.requires.real c.requires.lcm c.args.pair.now.i c.at.result.now
    (left_within n m.shared m.list c.args.pair.now c.requires.monic c.requires.real c.requires.lcm) c.at.ensures

pub factor_of-requires-clause-divides : goal.factor_of-requires-clause-divides
factor_of-requires-clause-divides c =
    let n = variables c.args.ring.now in
    let m = c.args.members.now in
    factor_divides n m.shared m.list c.args.pair.now c.requires.monic c.requires.real c.requires.lcm c.args.pair.now.i c.at.result.now
    c.at.ensures (left_divides n m.shared m.list c.args.pair.now c.requires.monic c.requires.real c.requires.lcm)

pub factor_of-requires-2-clause-some : goal.factor_of-requires-2-clause-some
factor_of-requires-2-clause-some c =
    let n = variables c.args.ring.now in
    let m = c.args.members.now in
    factor_some n m.shared m.list c.args.pair.now c.requires.monic c.requires.real c.requires.lcm c.args.pair.now.j c.at-2.result.now
    (right_within n m.shared m.list c.args.pair.now c.requires.monic c.requires.real c.requires.lcm) c.at-2.ensures

pub factor_of-requires-2-clause-divides : goal.factor_of-requires-2-clause-divides
factor_of-requires-2-clause-divides c =
    let n = variables c.args.ring.now in
    let m = c.args.members.now in
    factor_divides n m.shared m.list c.args.pair.now c.requires.monic c.requires.real c.requires.lcm c.args.pair.now.j c.at-2.result.now
    c.at-2.ensures (right_divides n m.shared m.list c.args.pair.now c.requires.monic c.requires.real c.requires.lcm)

pub factor_of-requires-clause-vector : goal.factor_of-requires-clause-vector
factor_of-requires-clause-vector c =
    let ring = c.args.ring.now in
    let m = c.args.members.now in
    let n = variables ring in
    subst (Each (λ t. IsMonomialOver ring t.0.monomial)) (sym c.at.ensures)
    (Each_member (Each (λ t. IsMonomialOver ring t.0.monomial)) (vectors_in m.list) c.args.pair.now.i [] (are_weighed n ring.weights ring.modulus.value (ring_comparison ring n) (vectors_in m.list) c.requires.list)
    (left_within n m.shared m.list c.args.pair.now c.requires.monic c.requires.real c.requires.lcm))

pub factor_of-requires-2-clause-vector : goal.factor_of-requires-2-clause-vector
factor_of-requires-2-clause-vector c =
    let ring = c.args.ring.now in
    let m = c.args.members.now in
    let n = variables ring in
    subst (Each (λ t. IsMonomialOver ring t.0.monomial)) (sym c.at-2.ensures)
    (Each_member (Each (λ t. IsMonomialOver ring t.0.monomial)) (vectors_in m.list) c.args.pair.now.j [] (are_weighed n ring.weights ring.modulus.value (ring_comparison ring n) (vectors_in m.list) c.requires.list)
    (right_within n m.shared m.list c.args.pair.now c.requires.monic c.requires.real c.requires.lcm))

pub returns : goal.returns
returns c =
    let n = variables c.args.ring.now in
    let x = c.args.pair.now in
    let list = vectors_in c.args.members.now.list in
    record {
      left = record { index = x.i; residue = 1; monomial = c.in_ok-left.left };
      right = record { index = x.j; residue = c.neg.result; monomial = c.in_ok-right.right };
      two = c.in_ok-vec.ensures.items;
      first = top_part n c.args.ring.now.weights list x.lcm x.i 1 c.at.result.now _ c.at.ensures c.in_ok-left.ensures refl refl;
      second = top_part n c.args.ring.now.weights list x.lcm x.j (c.args.ring.now.modulus.value - 1) c.at-2.result.now _ c.at-2.ensures
          c.in_ok-right.ensures refl
          (minus_one c.args.ring.now.modulus.value c.neg.result c.domain.ensures.above_one c.neg.ensures.value);
    }
