use Rattle.std.proofs.Common.{List, arith, subst, sym, ℕ}
use Rattle.term_lists.specs.Rings.{variables}
use Rattle.term_lists.specs.declared.key.Key.{Key as CodeKey}
use Rattle.module_vectors.specs.Trails.{IsInProduct, KeptProduct, kept_product_lead, kept_at}
use Rattle.basis_core.specs.Rows.{vectors_in}
use Rattle.basis_core.proofs.Chaining.{none_below, step_is}
use Rattle.basis_core.proofs.trails.find_earlier.Goals as goal

pub returns-then-is_in_product-clause-met : goal.returns-then-is_in_product-clause-met
returns-then-is_in_product-clause-met c =
    let n : ℕ = variables c.args.members.now.shared.ring in
    let vs : List (List (CodeKey × ℕ)) = vectors_in c.args.members.now.list in
    subst (λ (z : KeptProduct × KeptProduct). IsInProduct n vs (kept_product_lead n vs z.0) z.1)
    (λ i. (
      step_is c.args.all.now c.args.at c.index-all-at.result c.requires.within c.index-all-at.is i,
      step_is c.args.all.now c.loop-j.j c.index-all-j.result (omega (arith, c.requires.within, c.loop-j-test.true)) c.index-all-j.is i,
    ))
    (c.is_in_product.ensures.met c.if-is_in_product.true)

pub loop-j-preserved : goal.loop-j-preserved
loop-j-preserved c =
    let n : ℕ = variables c.args.members.now.shared.ring in
    let vs : List (List (CodeKey × ℕ)) = vectors_in c.args.members.now.list in
    none_below (λ (s : KeptProduct). IsInProduct n vs (kept_product_lead n vs (kept_at c.args.all.now c.args.at)) s) c.args.all.now c.loop-j.j c.loop-j.invariant
    (λ h. c.is_in_product.ensures.apart c.if-is_in_product.false
    (subst (λ (z : KeptProduct × KeptProduct). IsInProduct n vs (kept_product_lead n vs z.0) z.1)
    (λ i. (
      sym (step_is c.args.all.now c.args.at c.index-all-at.result c.requires.within c.index-all-at.is) i,
      sym (step_is c.args.all.now c.loop-j.j c.index-all-j.result (omega (arith, c.requires.within, c.loop-j-test.true)) c.index-all-j.is) i,
    )) h))

pub returns-clause-earlier : goal.returns-clause-earlier
returns-clause-earlier c = absurd (c.loop-j.invariant c.requires.some.0 (omega (arith, c.requires.some.1)) c.requires.some.2)

pub returns-clause-met : goal.returns-clause-met
returns-clause-met c = absurd (c.loop-j.invariant c.requires.some.0 (omega (arith, c.requires.some.1)) c.requires.some.2)

pub is_in_product-requires-clause-nonzero : goal.is_in_product-requires-clause-nonzero
is_in_product-requires-clause-nonzero c = c.requires.nonzero
