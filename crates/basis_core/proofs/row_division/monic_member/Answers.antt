use Rattle.std.proofs.Common.{List, subst, sym, ◌<◌}
use Rattle.term_lists.specs.declared.ring.Ring.{Ring}
use Rattle.member_products.specs.Generators.{IsVectorOf}
use Rattle.vector_division.specs.declared.reduction.ScaledProduct.{ScaledProduct}
use Rattle.basis_core.proofs.Leaving.{lead_reduced, left_member}
use Rattle.basis_core.specs.RowDivision.{AreRowProducts, AreRowQuotients, lead_residue}
use Rattle.basis_core.proofs.row_division.monic_member.Goals as goal

pub divide_products-requires-clause-over : goal.divide_products-requires-clause-over
divide_products-requires-clause-over c = record { vector = c.requires.over.vector; products = c.requires.over.products }

pub divide_products-requires-clause-quotients : goal.divide_products-requires-clause-quotients
divide_products-requires-clause-quotients c =
    subst (AreRowQuotients c.args.members.now.shared c.args.members.now.list c.args.row.now.vector) (sym c.deref.ensures.value) c.requires.quotients

pub invert_lead-inverse-requires-clause-nonzero : goal.invert_lead-inverse-requires-clause-nonzero
invert_lead-inverse-requires-clause-nonzero c = (lead_reduced c.args.members.now.shared c.args.reduction.rest c.requires.some c.requires.rest.vector).0

pub invert_lead-inverse-requires-clause-reduced : goal.invert_lead-inverse-requires-clause-reduced
invert_lead-inverse-requires-clause-reduced c =
    subst (λ (x : Ring). lead_residue c.args.reduction.rest < x.modulus.value) (sym c.ring-ring.ensures)
    (lead_reduced c.args.members.now.shared c.args.reduction.rest c.requires.some c.requires.rest.vector).1

pub scale-requires-clause-vector : goal.scale-requires-clause-vector
scale-requires-clause-vector c = subst (λ (x : Ring). IsVectorOf x c.args.reduction.rest) (sym c.ring-ring.ensures) c.requires.rest.vector

pub scale-requires-clause-factor : goal.scale-requires-clause-factor
scale-requires-clause-factor c = c.invert_lead-inverse.ensures.inverse.below

pub scale-requires-2-clause-factor : goal.scale-requires-2-clause-factor
scale-requires-2-clause-factor c = c.invert_lead-inverse.ensures.inverse.below

pub scale-requires-3-clause-factor : goal.scale-requires-3-clause-factor
scale-requires-3-clause-factor c = c.invert_lead-inverse.ensures.inverse.below

pub scale-requires-2-clause-vector : goal.scale-requires-2-clause-vector
scale-requires-2-clause-vector c =
    subst (IsVectorOf c.ring-ring.result.now) (sym c.in_ok-multiple.ensures)
    (subst (λ (x : Ring). IsVectorOf x c.args.multiple.now) (sym c.ring-ring.ensures) c.requires.over.multiple.vector)

pub scale-requires-3-clause-vector : goal.scale-requires-3-clause-vector
scale-requires-3-clause-vector c = subst (λ (x : Ring). IsVectorOf x c.in_ok-products.products) (sym c.ring-ring.ensures) c.in_ok-products.ensures.vector

pub returns : goal.returns
returns c =
    left_member c.args.members.now.shared c.ring-ring.result.now c.args.members.now.list c.args.row.now c.args.multiple.now c.in_ok-multiple.multiple
    c.args.reduction.quotients.items
    c.args.reduction.rest c.in_ok-products.products c.scale.new.self c.scale-2.new.self c.scale-3.new.self c.invert_lead-inverse.result
    c.ring-ring.ensures c.in_ok-multiple.ensures c.kept.ensures c.requires.over c.requires.monic c.requires.some c.requires.quotients c.requires.rest
    (subst (λ (qs : List ScaledProduct). AreRowProducts c.args.members.now.shared c.args.row.now.products qs c.in_ok-products.products)
    c.deref.ensures.value c.in_ok-products.ensures) c.invert_lead-inverse.ensures.inverse
    c.scale.ensures.vector c.scale.ensures.multiple c.scale.ensures.residues c.scale-2.ensures.vector c.scale-2.ensures.multiple
    c.scale-3.ensures.vector c.scale-3.ensures.multiple
