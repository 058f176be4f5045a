use Rattle.std.proofs.Common.{length, subst, ◌<◌}
use Rattle.row_matrix.proofs.Digits.{digits_few}
use Rattle.row_matrix.specs.Hashes.{digit_base}
use Rattle.row_matrix.specs.Told.{FitsDigits}
use Rattle.row_matrix.proofs.key_table.is_told_key.Goals as goal

pub returns : goal.returns
returns c = λ z.
    let key = c.args.key.now in
    let n = length key.monomial.exponents in
    let told = c.is_told.ensures z in
    let low : key.monomial.degree < digit_base n =
    subst (λ d. d < digit_base n) c.degree.ensures.value (subst (λ j. c.degree.result < digit_base j) c.variables.ensures told.1) in
    (subst (λ j. FitsDigits j key.position) c.variables.ensures told.0, digits_few (digit_base n) key.monomial.degree key.monomial.exponents c.bounds.ensures.held low)
