use Rattle.std.proofs.Common.{[], arith, get_or, length, sym, ◌++◌, ◌<◌, ◌∙◌}
use Rattle.std.specs.Prelude.{slice_index}
use Rattle.formal_sums.specs.FormalSums.{IsSame}
use Rattle.term_lists.specs.Vectors.{sum_of}
use Rattle.monomials.specs.Exponents.{unit}
use Rattle.change_laws.specs.Combinations.{expansion}
use Rattle.order_change.proofs.Filling.{empty_of, if_ok3, item_read}
use Rattle.order_change.proofs.Tails.{count_basis, given_lead, given_some, given_tail}
use Rattle.order_change.specs.Forms.{AreResidues}
use Rattle.order_change.specs.Tables.{IsFormOver, IsSupported}
use Rattle.monomial_orders.specs.Kept.{monomials}
use Rattle.order_change.proofs.table.lead_form.Goals as goal

pub negated-requires-clause-terms : goal.negated-requires-clause-terms
negated-requires-clause-terms c =
    let ring = c.args.ring.now in
    let n = length ring.weights in
    let basis = c.args.basis.now in
    let heads = c.args.leads.now in
    let standard = c.args.standard.now in
    let g = c.args.g in
    let lt : g < length basis = omega (arith, c.requires.index, count_basis n ring basis heads standard c.requires.given) in
    let is = item_read c.as_slice.result.now basis g c.index-as_slice-g.result [] c.as_slice.ensures lt c.index-as_slice-g.is ∙ sym c.terms.ensures ∙ c.in-Some.ensures.cases.0 in
    given_tail n ring basis heads standard c.requires.given g c.requires.index c.in-Some.field-0-0.now c.in-Some.tail.now is

pub unreachable-requires : goal.unreachable-requires
unreachable-requires c =
    let ring = c.args.ring.now in
    let n = length ring.weights in
    let basis = c.args.basis.now in
    let heads = c.args.leads.now in
    let standard = c.args.standard.now in
    let g = c.args.g in
    let lt : g < length basis = omega (arith, c.requires.index, count_basis n ring basis heads standard c.requires.given) in
    let is = item_read c.as_slice.result.now basis g c.index-as_slice-g.result [] c.as_slice.ensures lt c.index-as_slice-g.is ∙ sym c.terms.ensures ∙ empty_of c.terms.result.now c.in-None.ensures.cases in
    given_some n ring basis heads standard c.requires.given g c.requires.index is

pub returns : goal.returns
returns c =
    let ring = c.args.ring.now in
    let n = length ring.weights in
    let p = ring.modulus.value in
    let basis = c.args.basis.now in
    let heads = c.args.leads.now in
    let standard = c.args.standard.now in
    let g = c.args.g in
    let tail = c.in-Some.tail.now in
    let lt : g < length basis = omega (arith, c.requires.index, count_basis n ring basis heads standard c.requires.given) in
    let is = item_read c.as_slice.result.now basis g c.index-as_slice-g.result [] c.as_slice.ensures lt c.index-as_slice-g.is ∙ sym c.terms.ensures ∙ c.in-Some.ensures.cases.0 in
    if_ok3 (AreResidues p (length standard)) (λ row. IsSame p (expansion (monomials n standard) (slice_index row) ++ sum_of n tail) [])
    (IsSupported n (monomials n standard) tail (length tail)) (IsFormOver n ring basis standard (get_or (monomials n heads) g (unit n))) c.negated.result
    (λ row a b d. given_lead n ring basis heads standard c.requires.given g c.requires.index c.in-Some.field-0-0.now tail is row a b d)
    c.negated.ensures.residues c.negated.ensures.sum c.negated.ensures.support
