use Rattle.syzygy_engine.proofs.Standing.{Terms}
use Rattle.std.proofs.Common.{[], ap, subst, sym, ◌++◌, ◌∙◌, ◌∷◌}
use Rattle.term_lists.proofs.Merges.{sum_of-append}
use Rattle.term_lists.specs.Rings.{variables}
use Rattle.term_lists.specs.Vectors.{AreTermsOver, sum_of}
use Rattle.ring_maps.proofs.FirstTerms.{over_more}
use Rattle.ring_maps.proofs.graph.push_variable.Goals as goal

pub returns-clause-over : goal.returns-clause-over
returns-clause-over c =
    let graph = c.args.graph.now in
    let above = c.domain.ensures.above_one in
    subst (AreTermsOver graph) (sym {A = Terms} c.in_ok-push.ensures.items)
    (over_more graph c.args.terms.now.items (record { position = 0; monomial = c.in_ok-monomial.monomial }, 1) c.requires.terms c.in_ok-monomial.ensures.over above)

pub returns-clause-sum : goal.returns-clause-sum
returns-clause-sum c =
    let m = variables c.args.graph.now in
    let old = c.args.terms.now.items in
    ap (sum_of m) c.in_ok-push.ensures.items ∙ sum_of-append m old ((record { position = 0; monomial = c.in_ok-monomial.monomial }, 1) ∷ [])
    ∙ ap (λ e. sum_of m old ++ ((0, e), 1) ∷ []) c.in_ok-monomial.ensures.behind
