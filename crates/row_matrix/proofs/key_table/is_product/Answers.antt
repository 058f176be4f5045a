use Rattle.std.proofs.Common.{ap, arith, false, length, refl, subst, sym, true, ◌+◌, ◌<◌, ◌∙◌, ◌≡◌}
use Rattle.term_lists.specs.declared.key.Key.{Key}
use Rattle.row_matrix.proofs.Digits.{digits_few, digits_same, sums_few}
use Rattle.row_matrix.proofs.KeyProducts.{length_sums, product_exact}
use Rattle.row_matrix.specs.Hashes.{digit_base, hash_behind, sums}
use Rattle.row_matrix.specs.Told.{FitsDigits}
use Rattle.row_matrix.proofs.key_table.is_product.Goals as goal

pub returns-then-variables-n : goal.returns-then-variables-n
returns-then-variables-n c =
    let t = c.args.t.now in
    let key = c.args.key.now in
    let size = length_sums t.exponents key.monomial.exponents c.requires.variables in
    let ne : c.variables.result ≡ c.variables-n.result → ⊥ = c.if-variables-n.true in
    let n = c.variables-n.ensures in
    let m = c.variables.ensures in
    (λ z. absurd (let q : false ≡ true = z in cc), λ e. absurd (ne (omega (arith, n, m, size, ap (λ (k : Key). length k.monomial.exponents) e))))

pub returns-then-is_told : goal.returns-then-is_told
returns-then-is_told c =
    let t = c.args.t.now in
    let key = c.args.key.now in
    let product = c.args.product.now in
    let xs = product.monomial.exponents in
    let ys = sums t.exponents key.monomial.exponents in
    let told = c.is_told.ensures c.if-is_told.true in
    let place : product.position ≡ key.position = c.if-product-key.false in
    let degree : product.monomial.degree ≡ t.degree + key.monomial.degree =
    omega (arith, c.if-degree.false, c.degree.ensures.value, c.degree-2.ensures.value, c.degree-3.ensures.value) in
    let same : length xs ≡ length ys =
    omega (arith, c.if-variables-n.false, c.variables.ensures, c.variables-n.ensures, length_sums t.exponents key.monomial.exponents c.requires.variables) in
    let wide : length ys ≡ c.variables-n.result = omega (arith, same, c.if-variables-n.false, c.variables.ensures) in
    let fits : FitsDigits (length ys) key.position = subst (λ n. FitsDigits n key.position) (sym wide) told.0 in
    let low : t.degree + key.monomial.degree < digit_base (length ys) =
    subst (λ d. d < digit_base (length ys)) (omega (arith, c.degree.ensures.value, c.degree-2.ensures.value))
    (subst (λ n. c.degree.result + c.degree-2.result < digit_base n) (sym wide) told.1) in
    let least : product.monomial.degree < digit_base (length xs) =
    subst (λ d. d < digit_base (length xs)) (sym degree) (subst (λ n. t.degree + key.monomial.degree < digit_base n) (sym same) low) in
    let exponents : xs ≡ ys =
    (digits_same key.position key.position xs ys (subst (λ n. FitsDigits n key.position) (sym same) fits) fits same
    (digits_few (digit_base (length xs)) product.monomial.degree xs c.bounds.ensures.held least)
    (sums_few (digit_base (length ys)) t.degree key.monomial.degree t.exponents key.monomial.exponents c.bounds-2.ensures.held c.bounds-3.ensures.held low)
    (ap (λ p. hash_behind p xs) (sym place) ∙ c.requires.hash)).1 in
    (λ _. product_exact t key product place degree exponents, λ _. refl)
