use Rattle.std.proofs.Common.{[], arith, get_or, length, refl, subst, sym, ◌<◌, ◌≡◌}
use Rattle.monomials.specs.Exponents.{exponents_of, unit}
use Rattle.formal_sums.specs.FormalSums.{Each}
use Rattle.term_lists.specs.Vectors.{sums_of}
use Rattle.order_change.proofs.Borders.{IsProductWhere}
use Rattle.order_change.proofs.Filling.{item_read}
use Rattle.order_change.proofs.Stepping.{variable_covered, variable_form, variable_rows}
use Rattle.order_change.specs.Forms.{AreResidues, IsRowForm, monomial_vector}
use Rattle.monomial_orders.specs.Kept.{monomials}
use Rattle.order_change.proofs.change.Change.take.Goals as goal

pub times_variable-requires : goal.times_variable-requires
times_variable-requires c =
    let ring = c.args.ring.now in
    let n = length ring.weights in
    let p = ring.modulus.value in
    let F = sums_of n c.args.basis.now in
    let B = monomials n c.args.standard.now in
    let change = c.args.self.now in
    let candidate = c.args.candidate in
    let v = candidate.variable in
    let k = candidate.parent in
    let standard = c.requires.known.standard in
    let row = c.index.result.now in
    let lt : k < length change.forms.items = omega (arith, c.requires.parent, standard.forms_long) in
    let is : get_or change.forms.items k [] ≡ row = item_read change.forms.items change.forms.items k row [] refl lt c.index.ensures in
    let residues : AreResidues p (length B) row = subst (AreResidues p (length B)) is (standard.residues k c.requires.parent) in
    let table = c.args.table.now in
    let rows = c.of_variable-rows.ensures in
    record {
      covered = λ t some. subst (λ z. t < length z) (sym rows) (variable_covered n ring F B table c.requires.table v c.requires.variable row residues t some);
      rows = subst (Each (AreResidues p (length row))) (sym rows) (variable_rows n ring F B table c.requires.table v c.requires.variable row residues);
      residues = residues.small;
    }

pub add-requires-clause-form : goal.add-requires-clause-form
add-requires-clause-form c =
    let ring = c.args.ring.now in
    let n = length ring.weights in
    let p = ring.modulus.value in
    let F = sums_of n c.args.basis.now in
    let B = monomials n c.args.standard.now in
    let change = c.args.self.now in
    let candidate = c.args.candidate in
    let v = candidate.variable in
    let k = candidate.parent in
    let standard = c.requires.known.standard in
    let row = c.index.result.now in
    let lt : k < length change.forms.items = omega (arith, c.requires.parent, standard.forms_long) in
    let is : get_or change.forms.items k [] ≡ row = item_read change.forms.items change.forms.items k row [] refl lt c.index.ensures in
    let residues : AreResidues p (length B) row = subst (AreResidues p (length B)) is (standard.residues k c.requires.parent) in
    let table = c.args.table.now in
    let rows = c.of_variable-rows.ensures in
    let out = c.in_ok-form.form in
    let pos : 0 < p = let s = residues.small 0 in omega (arith, s) in
    let form : IsRowForm p F B (monomial_vector (get_or (monomials n change.monomials.items) k (unit n))) row =
    subst (IsRowForm p F B (monomial_vector (get_or (monomials n change.monomials.items) k (unit n)))) is (standard.forms_are k c.requires.parent) in
    variable_form n ring F B table c.requires.table v c.requires.variable row residues (get_or (monomials n change.monomials.items) k (unit n)) (exponents_of n candidate.monomial.exponents) out pos form c.requires.product
    c.in_ok-form.ensures.residues (subst (λ z. IsProductWhere p z row out) rows c.in_ok-form.ensures.product)
