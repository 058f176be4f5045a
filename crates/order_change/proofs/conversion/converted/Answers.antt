use Rattle.std.proofs.Common.{length, subst, sym}
use Rattle.monomials.specs.Exponents.{unit}
use Rattle.bases.specs.Settings.{IsLawful}
use Rattle.term_lists.specs.Rings.{ring_comparison, setting}
use Rattle.term_lists.specs.Vectors.{sums_of}
use Rattle.term_lists.specs.declared.ring.Ring.{Ring}
use Rattle.groebner_iface.specs.Runs.{IsReducedBasisOf}
use Rattle.order_change.proofs.Finishing.{answer, ready}
use Rattle.order_change.specs.Changing.{AreVariableProducts, IsChanged, IsFormModulo}
use Rattle.order_change.specs.Reordered.{with_order}
use Rattle.monomial_orders.specs.Kept.{monomials}
use Rattle.order_change.proofs.conversion.converted.Goals as goal

pub changed-requires : goal.changed-requires
changed-requires c =
    let ring = c.args.ring.now in
    let n = length ring.weights in
    let basis = c.args.basis.now in
    let standard = c.args.standard.now in
    let r = ready n ring basis standard c.args.order c.in_ok-form.form c.in_ok-table.table c.in_ok-form.ensures c.in_ok-table.ensures in
    record {
      few = c.requires.few;
      form = subst (λ (z : Ring). IsFormModulo (length z.weights) z (sums_of (length z.weights) basis) (monomials (length z.weights) standard) (unit (length z.weights)) c.in_ok-form.form) (sym c.in_ok-new_ring.ensures) r.0;
      table = subst (λ (z : Ring). AreVariableProducts (length z.weights) z.modulus.value (sums_of (length z.weights) basis) (monomials (length z.weights) standard) c.in_ok-table.table) (sym c.in_ok-new_ring.ensures) r.1;
    }

pub returns : goal.returns
returns c =
    let ring = c.args.ring.now in
    let n = length ring.weights in
    let basis = c.args.basis.now in
    let new = c.in_ok-new_ring.new_ring in
    let lawful = subst (λ z. IsLawful (setting new z (ring_comparison new z) 1)) (sym new.weighted) (c.lawful_setting.ensures 1) in
    let lawful' = subst (λ (z : Ring). IsLawful (setting z (length z.weights) (ring_comparison z (length z.weights)) 1)) c.in_ok-new_ring.ensures lawful in
    let changed = subst (λ (z : Ring). IsChanged (length z.weights) z (sums_of (length z.weights) basis) (monomials (length z.weights) c.args.standard.now) c.in_ok-members.members.items) c.in_ok-new_ring.ensures c.in_ok-members.ensures in
    subst (IsReducedBasisOf (with_order c.args.order ring) 1 basis) (sym c.from_vec.ensures)
    (answer n ring c.args.order basis c.in_ok-members.members.items c.args.leads.now c.args.standard.now (sym ring.weighted) c.requires lawful' changed)

pub product_forms-requires : goal.product_forms-requires
product_forms-requires c = c.requires

pub form_of_one-requires : goal.form_of_one-requires
form_of_one-requires c = c.requires
