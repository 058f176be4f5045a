use Rattle.std.proofs.Common.{arith, length, subst, sym}
use Rattle.monomials.specs.Exponents.{exponents_of}
use Rattle.monomial_orders.specs.Comparisons.{comparison}
use Rattle.monomial_orders.specs.Laws.{comparison_order}
use Rattle.term_lists.specs.Vectors.{sums_of}
use Rattle.order_change.proofs.Filling.{standard_normal}
use Rattle.order_change.proofs.Items.{length_monomials}
use Rattle.order_change.specs.Forms.{AreResidues}
use Rattle.monomial_orders.specs.Kept.{monomials}
use Rattle.order_change.proofs.table.known_form.Goals as goal

pub returns-in-Some-clause-some : goal.returns-in-Some-clause-some
returns-in-Some-clause-some c =
    let ring = c.args.ring.now in
    let n = length ring.weights in
    let standard = c.args.standard.now in
    let at = c.in-Some.ensures.some in
    let form = c.in_ok-form.form in
    let residues : AreResidues ring.modulus.value (length (monomials n standard)) form = subst (λ d. AreResidues ring.modulus.value d form) (sym (length_monomials n standard)) c.in_ok-form.ensures.residues in
    standard_normal (comparison ring.order ring.weights n) (comparison_order ring.order ring.weights n) ring.modulus.value (sums_of n c.args.basis.now) (monomials n standard) (exponents_of n c.args.m.now.exponents) c.in-Some.k form
    (let lt = at.0 in omega (arith, lt, length_monomials n standard)) at.1 residues c.in_ok-form.ensures.at c.in_ok-form.ensures.others

pub lead_form-requires-clause-given : goal.lead_form-requires-clause-given
lead_form-requires-clause-given c = c.requires.given
