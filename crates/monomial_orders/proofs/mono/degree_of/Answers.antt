use Rattle.std.proofs.Common.{List, ap, ap₂, arith, get_or, length, take, ℕ, ◌∙◌, ◌≡◌, ◌≤◌}
use Rattle.std.proofs.lemmas.List.{length-take-le}
use Rattle.monomials.specs.Exponents.{exponents_of}
use Rattle.monomials.specs.Weights.{weighted_degree}
use Rattle.monomial_orders.proofs.Filling.{front_held}
use Rattle.monomial_orders.proofs.Over.{kept_total}
use Rattle.monomial_orders.specs.Storage.{places_of}
use Rattle.monomial_orders.proofs.mono.degree_of.Goals as goal

pub split_at-requires : goal.split_at-requires
split_at-requires c = omega (arith, ap length c.as_slice.ensures, c.requires.filled.long)

-- there are n exponents
counted : (n : ℕ) (xs ys zs : List ℕ) → xs ≡ take n ys → ys ≡ zs → n ≤ length zs → length xs ≡ n
counted n xs ys zs e d le = ap length (e ∙ ap (take n) d) ∙ length-take-le n zs le

pub total-requires-clause-variables : goal.total-requires-clause-variables
total-requires-clause-variables c =
    let l =
    counted c.args.n c.split_at.result.0.now c.as_slice.result.now (places_of c.args.stored.now)
    c.split_at.ensures.front c.as_slice.ensures (omega (arith, c.requires.filled.long)) in
    omega (arith, ap length c.as_slice-2.ensures.value, c.requires.weights, l)

pub returns-clause-value : goal.returns-clause-value
returns-clause-value c =
    let n = c.args.n in
    let places = places_of c.args.stored.now in
    c.total.ensures.value
    ∙ ap₂ (λ ws xs. weighted_degree ws (exponents_of (length xs) xs)) c.as_slice-2.ensures.value
    (c.split_at.ensures.front ∙ ap (take n) c.as_slice.ensures)
    ∙ ap (λ k. weighted_degree c.args.weights.now (exponents_of k (take n places))) (length-take-le n places (omega (arith, c.requires.filled.long)))

pub returns-clause-held : goal.returns-clause-held
returns-clause-held c = λ k.
    let e = c.split_at.ensures.front ∙ ap (take c.args.n) c.as_slice.ensures in
    let h = kept_total c.as_slice-2.result.now c.split_at.result.0.now c.total.result c.total.ensures.value in
    front_held c.args.n c.args.stored.now c.total.result c.requires.filled (λ j. omega (arith, h j, ap (λ xs. get_or xs j 0) e)) k

pub returns-clause-small : goal.returns-clause-small
returns-clause-small c =
    let l =
    counted c.args.n c.split_at.result.0.now c.as_slice.result.now (places_of c.args.stored.now)
    c.split_at.ensures.front c.as_slice.ensures (omega (arith, c.requires.filled.long)) in
    omega (arith, c.total.ensures.small, l)
