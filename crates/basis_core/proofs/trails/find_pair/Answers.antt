use Rattle.std.proofs.Common.{List, ap, arith, get_or, length, sym, ℕ, ◌∙◌, ◌≡◌}
use Rattle.formal_sums.specs.FormalSums.{shift}
use Rattle.monomials.specs.Exponents.{exponents_of}
use Rattle.term_lists.specs.Rings.{variables}
use Rattle.term_lists.specs.Vectors.{key_of}
use Rattle.term_lists.specs.declared.key.Key.{Key as CodeKey}
use Rattle.module_vectors.specs.Trails.{kept_product_lead}
use Rattle.pair_criteria.specs.declared.pair.Pair.{Pair as CodePair}
use Rattle.basis_core.specs.Rows.{vectors_in}
use Rattle.basis_core.proofs.Chaining.{lead_is, none_more, nonzero_at, same_in, times_one, variables_at}
use Rattle.basis_core.proofs.trails.find_pair.Goals as goal

pub bounds-terms-0 : goal.bounds-terms-0
bounds-terms-0 c = omega (
  arith,
  ap length (c.terms.ensures ∙ c.at.ensures),
  nonzero_at c.args.members.now.list c.args.product.now.0 c.requires.nonzero c.requires.product.0,
)

pub same_product-requires-clause-left : goal.same_product-requires-clause-left
same_product-requires-clause-left c =
    variables_at c.args.members.now.shared c.args.members.now.list c.args.product.now.0 c.terms.result.now 0 (get_or c.terms.result.now 0 c.index-terms-0.result) c.kept.ensures (c.terms.ensures ∙ c.at.ensures)
    (omega (arith, ap length (c.terms.ensures ∙ c.at.ensures), nonzero_at c.args.members.now.list c.args.product.now.0 c.requires.nonzero c.requires.product.0)) (ap (λ (z : CodeKey × ℕ). get_or c.terms.result.now 0 z) c.index-terms-0.is)
    ∙ sym c.requires.product.1.variables

pub returns-then-same_product-clause-some : goal.returns-then-same_product-clause-some
returns-then-same_product-clause-some c =
    let n : ℕ = variables c.args.members.now.shared.ring in
    let vs : List (List (CodeKey × ℕ)) = vectors_in c.args.members.now.list in
    let lead : CodeKey = (get_or c.terms.result.now 0 c.index-terms-0.result).0 in
    let first : kept_product_lead n vs c.args.product.now ≡ shift (exponents_of n c.args.product.now.1.exponents) (key_of n lead) =
    lead_is n vs c.args.product.now c.terms.result.now (get_or c.terms.result.now 0 c.index-terms-0.result) (c.terms.ensures ∙ c.at.ensures)
    (omega (arith, ap length (c.terms.ensures ∙ c.at.ensures), nonzero_at c.args.members.now.list c.args.product.now.0 c.requires.nonzero c.requires.product.0)) (ap (λ (z : CodeKey × ℕ). get_or c.terms.result.now 0 z) c.index-terms-0.is) in
    let same =
    same_in n (length c.args.product.now.1.exponents) c.args.product.now.1.exponents c.args.one.now.exponents lead c.pair-item.result.lcm
    c.requires.product.1.variables (c.same_product.ensures.same c.if-same_product.true) in (
      (c.loop-pair.pair-index, c.loop-pair-test.true, sym c.pair-item.is),
      first ∙ same ∙ times_one n c.args.one.now.exponents (key_of n c.pair-item.result.lcm) c.requires.unit,
    )

pub loop-pair-preserved : goal.loop-pair-preserved
loop-pair-preserved c =
    let n : ℕ = variables c.args.members.now.shared.ring in
    let vs : List (List (CodeKey × ℕ)) = vectors_in c.args.members.now.list in
    let lead : CodeKey = (get_or c.terms.result.now 0 c.index-terms-0.result).0 in
    let first : kept_product_lead n vs c.args.product.now ≡ shift (exponents_of n c.args.product.now.1.exponents) (key_of n lead) =
    lead_is n vs c.args.product.now c.terms.result.now (get_or c.terms.result.now 0 c.index-terms-0.result) (c.terms.ensures ∙ c.at.ensures)
    (omega (
      arith,
      ap length (c.terms.ensures ∙ c.at.ensures),
      nonzero_at c.args.members.now.list c.args.product.now.0 c.requires.nonzero
          c.requires.product.0,
    )) (ap (λ (z : CodeKey × ℕ). get_or c.terms.result.now 0 z) c.index-terms-0.is) in
    none_more (λ (x : CodePair). kept_product_lead n vs c.args.product.now ≡ key_of n x.lcm) c.args.pairs.now c.loop-pair.pair-index c.pair-item.result
    c.loop-pair.invariant c.loop-pair-test.true c.pair-item.is
    (λ e. c.same_product.ensures.apart c.if-same_product.false
    (same_in (length c.args.product.now.1.exponents) n c.args.product.now.1.exponents c.args.one.now.exponents lead c.pair-item.result.lcm
    (sym c.requires.product.1.variables)
    (sym first ∙ e ∙ sym (times_one n c.args.one.now.exponents (key_of n c.pair-item.result.lcm) c.requires.unit))))
