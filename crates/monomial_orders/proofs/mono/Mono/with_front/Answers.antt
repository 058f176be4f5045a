use Rattle.std.proofs.Common.{List, ap, ap₂, arith, get_or, length, suc, take, zero, ℕ, ◌∙◌, ◌∷◌, ◌≡◌, ◌≤◌}
use Rattle.monomial_orders.proofs.Filling.{kept_at, kept_of, same_front, shown_most}
use Rattle.monomial_orders.specs.Kept.{Monomial}
use Rattle.monomial_orders.specs.Storage.{places_of}
use Rattle.monomial_orders.proofs.mono.Mono.with_front.Goals as goal

behind_zero : (xs : List ℕ) (d : ℕ) → ((k : ℕ) → get_or xs k 0 ≤ d) → (k : ℕ) → get_or (0 ∷ xs) k 0 ≤ d
behind_zero xs d h zero = omega arith
behind_zero xs d h (suc k) = h k

pub keep-requires : goal.keep-requires
keep-requires c =
    let xs = c.exponents.result.now in
    let s = c.in_ok-stored.stored in
    let d : c.degree.result ≡ c.args.self.now.degree = c.degree.ensures.value ∙ c.kept.ensures.degree in
    let is : xs ≡ c.args.self.now.exponents = c.exponents.ensures.value in
    kept_at (length (0 ∷ xs)) c.degree.result s c.in_ok-stored.ensures.variables
    (kept_of c.degree.result s (0 ∷ xs) c.in_ok-stored.ensures.variables c.in_ok-stored.ensures.long (omega (arith, d, c.kept.ensures.kept.narrow))
    c.in_ok-stored.ensures.places c.in_ok-stored.ensures.bounded
    (behind_zero xs c.degree.result (λ k. omega (arith, d, ap (λ ys. get_or ys k 0) is, shown_most c.args.self.now c.kept.result.now k c.kept.ensures, c.kept.ensures.kept.held k))))

shown : (c : goal.After-keep) → c.keep.result ≡ record { exponents = 0 ∷ c.args.self.now.exponents; degree = c.args.self.now.degree }
shown c =
    let xs = c.exponents.result.now in
    let s = c.in_ok-stored.stored in
    let make : List ℕ → ℕ → Monomial = λ x d. record { exponents = x; degree = d } in
    c.keep.ensures
    ∙ ap₂ make
    (ap (λ k. take k (places_of s)) c.in_ok-stored.ensures.variables
    ∙ same_front (0 ∷ xs) (places_of s) c.in_ok-stored.ensures.long c.in_ok-stored.ensures.places
    ∙ ap (λ ys. 0 ∷ ys) c.exponents.ensures.value)
    (c.degree.ensures.value ∙ c.kept.ensures.degree)

pub returns-clause-ok : goal.returns-clause-ok
returns-clause-ok c = ap (λ (m : Monomial). m.exponents) (shown c)

pub returns-clause-degree : goal.returns-clause-degree
returns-clause-degree c = ap (λ (m : Monomial). m.degree) (shown c)
