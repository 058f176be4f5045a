use Rattle.syzygy_engine.proofs.Standing.{Terms}
use Rattle.std.proofs.Common.{append-nil, arith, length, subst, sym, take, take_all, ◌+◌, ◌++◌, ◌<◌, ◌≡◌, ◌%◌, ◌*◌}
use Rattle.monomials.specs.Exponents.{unit}
use Rattle.formal_sums.proofs.Sameness.{IsSame_of}
use Rattle.formal_sums.specs.FormalSums.{scale}
use Rattle.map_laws.specs.Graphs.{in_first}
use Rattle.term_lists.proofs.Scaling.{Each_at}
use Rattle.term_lists.specs.Rings.{variables}
use Rattle.term_lists.specs.Vectors.{AreTermsOver, IsMonomialOver, StandsFor, sum_of}
use Rattle.ring_maps.proofs.GraphRings.{graph_modulus}
use Rattle.ring_maps.proofs.FirstTerms.{first_more, over_more}
use Rattle.ring_maps.proofs.first_variables.push_first.Goals as goal

pub loop-term-init : goal.loop-term-init
loop-term-init c = record {
  over = c.requires.more;
  sum = IsSame_of _ _ _ (sym (append-nil (sum_of (variables c.args.graph.now) c.args.more.now.items)));
}

pub first_monomial-requires-clause-monomial : goal.first_monomial-requires-clause-monomial
first_monomial-requires-clause-monomial c =
    let ring = c.args.ring.now in
    let xs = c.args.terms.now in
    let lt : c.loop-term.term-index < length xs = omega arith in
    (Each_at (λ t. IsMonomialOver ring t.0.monomial × (t.1 < ring.modulus.value)) xs c.loop-term.term-index c.term-item.result c.requires.terms lt c.term-item.is).0

pub mul-residue-requires-clause-right : goal.mul-residue-requires-clause-right
mul-residue-requires-clause-right c =
    let ring = c.args.ring.now in
    let xs = c.args.terms.now in
    let lt : c.loop-term.term-index < length xs = omega arith in
    (Each_at (λ t. IsMonomialOver ring t.0.monomial × (t.1 < ring.modulus.value)) xs c.loop-term.term-index c.term-item.result c.requires.terms lt c.term-item.is).1

pub loop-term-preserved : goal.loop-term-preserved
loop-term-preserved c =
    let ring = c.args.ring.now in
    let graph = c.args.graph.now in
    let n = variables ring in
    let m = variables graph in
    let xs = c.args.terms.now in
    let ys = c.loop-term.more.items in
    let i = c.loop-term.term-index in
    let t = c.term-item.result in
    let u = c.in_ok-monomial.monomial in
    let r = c.mul-residue.result in
    let lt : i < length xs = omega arith in
    let q = sym (graph_modulus ring graph c.requires.graph) in
    let value : r ≡ (c.args.c * t.1) % graph.modulus.value = subst (λ p. r ≡ (c.args.c * t.1) % p) q c.mul-residue.ensures.value in
    record {
      over = subst (AreTermsOver graph) (sym {A = Terms} c.in_ok-push.ensures.items)
          (over_more graph ys (record { position = t.0.position; monomial = u }, r) c.loop-term.invariant.over c.in_ok-monomial.ensures.over (subst (λ p. r < p) q c.mul-residue.ensures.small));
      sum = subst (λ z. StandsFor graph z (sum_of m c.args.more.now.items ++ scale c.args.c (unit m) (in_first m (sum_of n (take (i + 1) xs))))) (sym {A = Terms} c.in_ok-push.ensures.items)
          (first_more n m graph.modulus.value c.args.c (sum_of m c.args.more.now.items) xs ys i t u r lt c.term-item.is c.in_ok-monomial.ensures.fitted value c.loop-term.invariant.sum);
    }

pub returns-clause-sum : goal.returns-clause-sum
returns-clause-sum c =
    let m = variables c.args.graph.now in
    subst (λ z. StandsFor c.args.graph.now c.loop-term.more.items (sum_of m c.args.more.now.items ++ scale c.args.c (unit m) (in_first m (sum_of (variables c.args.ring.now) z))))
    (take_all c.loop-term.term-index c.args.terms.now (omega arith)) c.loop-term.invariant.sum
