use Rattle.std.proofs.Common.{subst, sym, ◌<◌}
use Rattle.formal_sums.proofs.Combining.{Each_map}
use Rattle.formal_sums.specs.FormalSums.{Each}
use Rattle.term_lists.specs.Vectors.{IsMonomialOver}
use Rattle.term_lists.specs.declared.ring.Ring.{Ring}
use Rattle.member_products.specs.Generators.{IsVectorOf}
use Rattle.basis_core.proofs.Leaving.{row_products}
use Rattle.basis_core.proofs.row_division.divide_products.Goals as goal

pub quotient_products-requires : goal.quotient_products-requires
quotient_products-requires c =
    subst (λ (x : Ring). Each (λ q. IsMonomialOver x q.monomial × (q.residue < x.modulus.value)) c.args.quotients.now) (sym c.ring-ring.ensures)
    (Each_map _ _ c.args.quotients.now (λ q i. (i.variables, i.reduced)) c.requires.quotients.each)

pub add-requires-clause-left : goal.add-requires-clause-left
add-requires-clause-left c =
    subst (IsVectorOf c.ring-ring.result.now) (sym c.in_ok-products.ensures)
    (subst (λ (x : Ring). IsVectorOf x c.args.row.now.products) (sym c.ring-ring.ensures) c.requires.over.products.vector)

pub returns : goal.returns
returns c =
    row_products c.args.members.now.shared c.ring-ring.result.now c.args.row.now.products c.in_ok-products.products c.in_ok-less.less
    c.scale.new.self c.add.new.self (c.value.result) c.args.quotients.now
    c.ring-ring.ensures c.in_ok-products.ensures c.value.ensures c.in_ok-less.ensures.sum c.scale.ensures.multiple c.in_ok-add.ensures.vector
    c.in_ok-add.ensures.sum
