use Rattle.std.proofs.Common.{[], ap, arith, subst, sym, ℕ, ◌%◌, ◌<◌, ◌∙◌, ◌∷◌, ◌≡◌, ◌≤◌, mod-eq_of_lt, mod-lt}
use Rattle.formal_sums.proofs.WeightedSums.{Each_append}
use Rattle.term_lists.specs.Rings.{variables}
use Rattle.term_lists.specs.Vectors.{AreTermsOver, IsMonomialOver, sum_of}
use Rattle.sparse_poly.proofs.Choosing.{choose-none}
use Rattle.sparse_poly.proofs.Expanding.{expanding_begins, expanding_ends}
use Rattle.sparse_poly.proofs.MixedTerms.{binomial_step, mixed_room, single_polynomial}
use Rattle.sparse_poly.specs.Binomials.{IsExpanding, choose}
use Rattle.sparse_poly.proofs.binomial.binomial_terms.Goals as goal

pub loop-i-init : goal.loop-i-init
loop-i-init c =
    let ring = c.args.ring.now in
    let m : ℕ = variables ring in
    let p : ℕ = ring.modulus.value in
    let above : 1 < p = c.domain.ensures.above_one in
    let pos : 0 < p = omega arith in
    let none : choose c.args.n 0 ≡ 1 = choose-none c.args.n in
    record {
      over = subst (AreTermsOver ring) (sym c.in_ok-terms.ensures.items) tt;
      coefficient = sym (ap (λ x. x % p) none ∙ mod-eq_of_lt above);
      expanding = subst (λ xs. IsExpanding p c.args.n 0 (sum_of m (c.args.a.now ∷ [])) (sum_of m (c.args.b.now ∷ [])) (sum_of m xs)) (sym c.in_ok-terms.ensures.items)
          (expanding_begins pos (sum_of m (c.args.a.now ∷ [])) (sum_of m (c.args.b.now ∷ [])) (single_polynomial m c.args.a.now c.requires.left.position) (single_polynomial m c.args.b.now c.requires.right.position) c.args.n);
    }

pub mixed_term-requires-clause-factor : goal.mixed_term-requires-clause-factor
mixed_term-requires-clause-factor c =
    let p : ℕ = c.args.ring.now.modulus.value in
    let above : 1 < p = c.domain.ensures.above_one in
    let lt : choose c.args.n c.loop-i.i % p < p = mod-lt (choose c.args.n c.loop-i.i) (omega arith) in
    let e : c.loop-i.coefficient ≡ choose c.args.n c.loop-i.i % p = c.loop-i.invariant.coefficient in
    omega arith

pub mixed_term-requires-clause-small : goal.mixed_term-requires-clause-small
mixed_term-requires-clause-small c =
    mixed_room c.args.n c.loop-i.i c.args.d c.args.a.now.0.monomial.degree c.args.b.now.0.monomial.degree (omega arith) c.requires.left.within c.requires.right.within c.requires.small

pub loop-i-preserved : goal.loop-i-preserved
loop-i-preserved c =
    let ring = c.args.ring.now in
    let le : c.loop-i.i ≤ c.args.n = omega arith in
    record {
      over = subst (AreTermsOver ring) (sym c.in_ok-push.ensures.items)
          (Each_append (λ t. IsMonomialOver ring t.0.monomial × (t.1 < ring.modulus.value)) c.loop-i.terms.items (c.in_ok-term.term ∷ []) c.loop-i.invariant.over ((c.in_ok-term.ensures.weighed, c.in_ok-term.ensures.reduced), tt));
      coefficient = c.next_coefficient-coefficient.ensures.value;
      expanding = binomial_step ring c.args.n c.loop-i.i c.args.d c.loop-i.coefficient c.args.a.now c.args.b.now c.in_ok-term.term c.loop-i.terms.items c.push.new.self.items
          c.domain.ensures.domain le c.requires.left c.requires.right c.loop-i.invariant.coefficient c.in_ok-term.ensures c.in_ok-push.ensures.items c.loop-i.invariant.expanding;
    }

pub returns-clause-power : goal.returns-clause-power
returns-clause-power c =
    let ring = c.args.ring.now in
    let m : ℕ = variables ring in
    let p : ℕ = ring.modulus.value in
    let above : 1 < p = c.domain.ensures.above_one in
    let pos : 0 < p = omega arith in
    expanding_ends pos (sum_of m (c.args.a.now ∷ [])) (sum_of m (c.args.b.now ∷ [])) (single_polynomial m c.args.a.now c.requires.left.position) (single_polynomial m c.args.b.now c.requires.right.position)
    c.args.n c.loop-i.i (sum_of m c.loop-i.terms.items) (omega arith) c.loop-i.invariant.expanding
