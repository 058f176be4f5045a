use Rattle.std.proofs.Common.{[], subst, ◌∷◌, ◌≡◌}
use Rattle.formal_sums.specs.FormalSums.{IsSame}
use Rattle.term_lists.specs.Rings.{variables}
use Rattle.term_lists.specs.Vectors.{sum_of}
use Rattle.basis_core.proofs.Quotients.{unit_sum}
use Rattle.basis_core.proofs.beginning.unit_multiple.Goals as goal

pub returns-clause-unit : goal.returns-clause-unit
returns-clause-unit c =
    let n = variables c.args.ring.now in
    let p = c.args.ring.now.modulus.value in
    let items : c.in_ok-terms.terms.items ≡ (record { position = c.args.number; monomial = c.in_ok-monomial.monomial }, 1) ∷ [] = c.in_ok-terms.ensures.items in
    unit_sum p n c.len.result c.args.number c.in_ok-monomial.monomial (sum_of n c.in_ok-multiple.multiple) c.len.ensures c.in_ok-monomial.ensures.ok
    (subst (λ z. IsSame p (sum_of n c.in_ok-multiple.multiple) (sum_of n z)) items c.in_ok-multiple.ensures.same)
