use Rattle.std.proofs.Common.{List, [], ap, arith, get_or, length, subst, sym, ℕ, ◌∙◌, ◌≡◌}
use Rattle.monomials.specs.Exponents.{exponents_of}
use Rattle.formal_sums.specs.FormalSums.{shift}
use Rattle.term_lists.specs.Rings.{variables}
use Rattle.term_lists.specs.Vectors.{key_of, sum_of}
use Rattle.term_lists.specs.declared.key.Key.{Key as CodeKey}
use Rattle.module_vectors.specs.Trails.{HasKey, kept_product_lead}
use Rattle.basis_core.specs.Rows.{vectors_in}
use Rattle.basis_core.proofs.Chaining.{key_index, key_there, lead_is, none_more, nonzero_at, same_in, variables_at}
use Rattle.basis_core.proofs.trails.is_in_product.Goals as goal

pub bounds-terms-0 : goal.bounds-terms-0
bounds-terms-0 c = omega (
  arith,
  ap length (c.terms.ensures ∙ c.at.ensures),
  nonzero_at c.args.members.now.list c.args.of.now.0 c.requires.nonzero c.requires.of.0,
)

pub same_product-requires-clause-left : goal.same_product-requires-clause-left
same_product-requires-clause-left c =
    variables_at c.args.members.now.shared c.args.members.now.list c.args.of.now.0 c.terms.result.now 0 (get_or c.terms.result.now 0 c.index-terms-0.result) c.kept.ensures (c.terms.ensures ∙ c.at.ensures)
    (omega (arith, ap length (c.terms.ensures ∙ c.at.ensures), nonzero_at c.args.members.now.list c.args.of.now.0 c.requires.nonzero c.requires.of.0)) (ap (λ (z : CodeKey × ℕ). get_or c.terms.result.now 0 z) c.index-terms-0.is)
    ∙ sym c.requires.of.1.variables

pub same_product-requires-clause-other : goal.same_product-requires-clause-other
same_product-requires-clause-other c =
    variables_at c.args.members.now.shared c.args.members.now.list c.args.product.now.0 c.terms-term-items.result.now c.loop-term.term-index
    c.term-item.result c.kept.ensures (c.terms-term-items.ensures ∙ c.at-2.ensures)
    c.loop-term-test.true c.term-item.is
    ∙ sym c.requires.of.1.variables

pub returns-then-same_product-clause-met : goal.returns-then-same_product-clause-met
returns-then-same_product-clause-met c z =
    let n : ℕ = variables c.args.members.now.shared.ring in
    let vs : List (List (CodeKey × ℕ)) = vectors_in c.args.members.now.list in
    let lead : CodeKey = (get_or c.terms.result.now 0 c.index-terms-0.result).0 in
    let first : kept_product_lead n vs c.args.of.now ≡ shift (exponents_of n c.args.of.now.1.exponents) (key_of n lead) =
    lead_is n vs c.args.of.now c.terms.result.now (get_or c.terms.result.now 0 c.index-terms-0.result) (c.terms.ensures ∙ c.at.ensures)
    (omega (
      arith,
      ap length (c.terms.ensures ∙ c.at.ensures),
      nonzero_at c.args.members.now.list c.args.of.now.0 c.requires.nonzero
          c.requires.of.0,
    )) (ap (λ (z : CodeKey × ℕ). get_or c.terms.result.now 0 z) c.index-terms-0.is) in
    let there : HasKey (sum_of n (get_or vs c.args.product.now.0 [])) (key_of n c.term-item.result.0) =
    subst (λ (v : List (CodeKey × ℕ)). HasKey (sum_of n v) (key_of n c.term-item.result.0)) (c.terms-term-items.ensures ∙ c.at-2.ensures)
    (key_there n c.terms-term-items.result.now c.loop-term.term-index c.term-item.result c.loop-term-test.true c.term-item.is) in (
      key_of n c.term-item.result.0,
      there,
      first ∙ same_in n (length c.args.of.now.1.exponents) c.args.of.now.1.exponents c.args.product.now.1.exponents lead c.term-item.result.0
          c.requires.of.1.variables (c.same_product.ensures.same c.if-same_product.true),
    )

pub loop-term-preserved : goal.loop-term-preserved
loop-term-preserved c =
    let n : ℕ = variables c.args.members.now.shared.ring in
    let vs : List (List (CodeKey × ℕ)) = vectors_in c.args.members.now.list in
    let lead : CodeKey = (get_or c.terms.result.now 0 c.index-terms-0.result).0 in
    let first : kept_product_lead n vs c.args.of.now ≡ shift (exponents_of n c.args.of.now.1.exponents) (key_of n lead) =
    lead_is n vs c.args.of.now c.terms.result.now (get_or c.terms.result.now 0 c.index-terms-0.result) (c.terms.ensures ∙ c.at.ensures)
    (omega (arith, ap length (c.terms.ensures ∙ c.at.ensures), nonzero_at c.args.members.now.list c.args.of.now.0 c.requires.nonzero c.requires.of.0)) (ap (λ (z : CodeKey × ℕ). get_or c.terms.result.now 0 z) c.index-terms-0.is) in
    none_more (λ (t : CodeKey × ℕ). kept_product_lead n vs c.args.of.now ≡ shift (exponents_of n c.args.product.now.1.exponents) (key_of n t.0))
    c.terms-term-items.result.now c.loop-term.term-index c.term-item.result
    c.loop-term.invariant c.loop-term-test.true c.term-item.is
    (λ e. c.same_product.ensures.apart c.if-same_product.false
    (same_in (length c.args.of.now.1.exponents) n c.args.of.now.1.exponents c.args.product.now.1.exponents lead c.term-item.result.0
    (sym c.requires.of.1.variables) (sym first ∙ e)))

pub returns-clause-apart : goal.returns-clause-apart
returns-clause-apart c z h =
    let n : ℕ = variables c.args.members.now.shared.ring in
    let found = key_index n c.terms-term-items.result.now h.0 (subst (λ (v : List (CodeKey × ℕ)). HasKey (sum_of n v) h.0) (sym (c.terms-term-items.ensures ∙ c.at-2.ensures)) h.1) in
    c.loop-term.invariant found.0 found.1 (omega (arith, found.2)) found.3 (h.2 ∙ ap (shift (exponents_of n c.args.product.now.1.exponents)) found.4)
