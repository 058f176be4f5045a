use Rattle.std.proofs.Common.{List, ap, arith, length, refl, subst, sym, take, ℕ, ◌<◌, ◌∙◌, ◌≡◌}
use Rattle.monomials.specs.Exponents.{exponents_of}
use Rattle.monomials.specs.Weights.{weighted_degree}
use Rattle.monomial_orders.proofs.Filling.{kept_at, kept_of, same_front}
use Rattle.monomial_orders.proofs.Over.{kept_total, over_total}
use Rattle.monomial_orders.specs.Kept.{IsWeighed, Monomial}
use Rattle.monomial_orders.specs.Storage.{places_of}
use Rattle.monomial_orders.proofs.mono.Mono.from_exponents.Goals as goal

pub keep-requires : goal.keep-requires
keep-requires c =
    let xs = c.args.exponents.now in
    let s = c.in_ok-stored.stored in
    let total : c.total-degree.result ≡ weighted_degree c.as_slice.result.now (exponents_of (length xs) xs) = c.total-degree.ensures.value in
    let small : c.total-degree.result < 4294967296 = omega arith in
    kept_at (length xs) c.total-degree.result s c.in_ok-stored.ensures.variables
    (kept_of c.total-degree.result s xs c.in_ok-stored.ensures.variables c.in_ok-stored.ensures.long small
    c.in_ok-stored.ensures.places c.in_ok-stored.ensures.bounded (kept_total c.as_slice.result.now xs c.total-degree.result total))

-- how the answer is shown
shown : (c : goal.After-keep) → c.keep.result ≡ record { exponents = c.args.exponents.now; degree = c.total-degree.result }
shown c =
    let xs = c.args.exponents.now in
    let s = c.in_ok-stored.stored in
    let make : List ℕ → Monomial = λ x. record { exponents = x; degree = c.total-degree.result } in
    c.keep.ensures
    ∙ ap make
    (ap (λ k. take k (places_of s)) c.in_ok-stored.ensures.variables
    ∙ same_front xs (places_of s) c.in_ok-stored.ensures.long c.in_ok-stored.ensures.places)

pub returns-clause-ok : goal.returns-clause-ok
returns-clause-ok c = ap (λ (m : Monomial). m.exponents) (shown c)

pub returns-clause-weighed : goal.returns-clause-weighed
returns-clause-weighed c =
    let xs = c.args.exponents.now in
    let n = length xs in
    subst (λ (m : Monomial). IsWeighed n c.args.weights.now m) (sym (shown c))
    (over_total n c.args.weights.now xs xs c.total-degree.result refl refl
    (c.total-degree.ensures.value ∙ ap (λ ws. weighted_degree ws (exponents_of n xs)) c.as_slice.ensures.value))
