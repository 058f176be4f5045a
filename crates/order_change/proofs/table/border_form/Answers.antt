use Rattle.std.proofs.Common.{IfNone, IfSome, [], ap, get_or, length, subst, sym, ℕ, ◌<◌, ◌∙◌, ◌≡◌}
use Rattle.std.proofs.lemmas.List.{get_or_default}
use Rattle.monomials.specs.Exponents.{exponents_of}
use Rattle.formal_sums.specs.FormalSums.{Each}
use Rattle.order_change.proofs.Borders.{IsProductWhere, IsZeroWhere, candidate_covered, candidate_form, candidate_known, candidate_residues, candidate_rows, candidate_smaller}
use Rattle.order_change.proofs.Filling.{if_ok3}
use Rattle.order_change.specs.Forms.{AreResidues}
use Rattle.order_change.specs.Tables.{IsFormOver, IsSmaller, IsSpare}
use Rattle.monomial_orders.specs.Kept.{monomials}
use Rattle.order_change.proofs.table.border_form.Goals as goal

pub bounds-of_variable-k : goal.bounds-of_variable-k
bounds-of_variable-k c =
    let ring = c.args.ring.now in
    let n = length ring.weights in
    let b = c.args.candidate.now in
    let j = c.in-Some.j in
    let spare = subst (λ z. IfSome z (IsSpare n (monomials n c.args.leads.now) (exponents_of n b.monomial.exponents))) c.in-Some.is c.in_ok-j.ensures.some in
    let small = subst (λ z. IfSome z (IsSmaller n (monomials n c.args.standard.now) b.parent j)) c.in-Some-2.is c.in_ok-k-in-Some.ensures.some in
    subst (λ z. c.in-Some-2.k < length z) (sym c.of_variable.ensures)
    (candidate_known n ring c.args.basis.now c.args.leads.now c.args.standard.now c.requires.given c.args.table.now c.requires.forms b c.requires.candidate c.requires.least j spare c.in-Some-2.k small)

pub times_variable-requires : goal.times_variable-requires
times_variable-requires c =
    let ring = c.args.ring.now in
    let n = length ring.weights in
    let b = c.args.candidate.now in
    let j = c.in-Some.j in
    let k = c.in-Some-2.k in
    let table = c.args.table.now in
    let spare = subst (λ z. IfSome z (IsSpare n (monomials n c.args.leads.now) (exponents_of n b.monomial.exponents))) c.in-Some.is c.in_ok-j.ensures.some in
    let small = subst (λ z. IfSome z (IsSmaller n (monomials n c.args.standard.now) b.parent j)) c.in-Some-2.is c.in_ok-k-in-Some.ensures.some in
    let rows = c.of_variable.result.now in
    let row = c.index-of_variable-k.result in
    let lt : k < length rows = subst (λ z. k < length z) (sym c.of_variable.ensures)
    (candidate_known n ring c.args.basis.now c.args.leads.now c.args.standard.now c.requires.given table c.requires.forms b c.requires.candidate c.requires.least j spare k small) in
    let is : row ≡ get_or (get_or table b.variable []) k [] = c.index-of_variable-k.is ∙ sym (get_or_default rows k [] row lt) ∙ ap (λ z. get_or z k []) c.of_variable.ensures in
    let other = c.of_variable-in-Some-2.ensures in
    record {
      covered = λ t some. subst (λ z. t < length z) (sym other)
          (candidate_covered n ring c.args.basis.now c.args.leads.now c.args.standard.now c.requires.given table c.requires.forms b c.requires.candidate c.requires.least j spare k small row is t some);
      rows = subst (Each (AreResidues ring.modulus.value (length row))) (sym other)
          (candidate_rows n ring c.args.basis.now c.args.leads.now c.args.standard.now c.requires.given table c.requires.forms b c.requires.candidate c.requires.least j spare k small row is);
      residues = candidate_residues n ring c.args.basis.now c.args.leads.now c.args.standard.now c.requires.given table c.requires.forms b c.requires.candidate c.requires.least j spare k small row is;
    }

pub unreachable-requires : goal.unreachable-requires
unreachable-requires c =
    let ring = c.args.ring.now in
    let n = length ring.weights in
    let b = c.args.candidate.now in
    let j = c.in-Some.j in
    let spare = subst (λ z. IfSome z (IsSpare n (monomials n c.args.leads.now) (exponents_of n b.monomial.exponents))) c.in-Some.is c.in_ok-j.ensures.some in
    let none = subst (λ z. IfNone z ((h : ℕ) → IsSmaller n (monomials n c.args.standard.now) b.parent j h → ⊥)) c.in-None-2.is c.in_ok-k-in-Some.ensures.none in
    let some = candidate_smaller n ring c.args.basis.now c.args.leads.now c.args.standard.now c.requires.given c.args.table.now c.requires.forms b c.requires.candidate c.requires.least j spare in
    none some.0 some.1

pub returns : goal.returns
returns c =
    let ring = c.args.ring.now in
    let n = length ring.weights in
    let p = ring.modulus.value in
    let b = c.args.candidate.now in
    let j = c.in-Some.j in
    let k = c.in-Some-2.k in
    let table = c.args.table.now in
    let spare = subst (λ z. IfSome z (IsSpare n (monomials n c.args.leads.now) (exponents_of n b.monomial.exponents))) c.in-Some.is c.in_ok-j.ensures.some in
    let small = subst (λ z. IfSome z (IsSmaller n (monomials n c.args.standard.now) b.parent j)) c.in-Some-2.is c.in_ok-k-in-Some.ensures.some in
    let rows = c.of_variable.result.now in
    let row = c.index-of_variable-k.result in
    let lt : k < length rows = subst (λ z. k < length z) (sym c.of_variable.ensures)
    (candidate_known n ring c.args.basis.now c.args.leads.now c.args.standard.now c.requires.given table c.requires.forms b c.requires.candidate c.requires.least j spare k small) in
    let is : row ≡ get_or (get_or table b.variable []) k [] = c.index-of_variable-k.is ∙ sym (get_or_default rows k [] row lt) ∙ ap (λ z. get_or z k []) c.of_variable.ensures in
    let other = c.of_variable-in-Some-2.ensures in
    if_ok3 (AreResidues p (length row)) (IsZeroWhere (c.of_variable-in-Some-2.result.now) row) (IsProductWhere p (c.of_variable-in-Some-2.result.now) row)
    (IsFormOver n ring c.args.basis.now c.args.standard.now (exponents_of n b.monomial.exponents)) c.times_variable.result
    (λ out a zeros product. candidate_form n ring c.args.basis.now c.args.leads.now c.args.standard.now c.requires.given table c.requires.forms b c.requires.candidate c.requires.least j spare k small row out is a
    (subst (λ z. IsZeroWhere z row out) other zeros) (subst (λ z. IsProductWhere p z row out) other product))
    c.times_variable.ensures.residues c.times_variable.ensures.zeros c.times_variable.ensures.product
