use Rattle.std.proofs.Common.{List, [], ap, arith, drop, get_or, length, max, suc, take, ℕ, ◌-◌, ◌∙◌, ◌∷◌, ◌≡◌, ◌≤◌}
use Rattle.std.proofs.lemmas.List.{take_all}
use Rattle.monomial_orders.proofs.Filling.{kept_at, kept_of, same_front, shown_most}
use Rattle.monomial_orders.specs.Kept.{Monomial}
use Rattle.monomial_orders.specs.Storage.{places_of}
use Rattle.monomial_orders.proofs.mono.Mono.without_front.Goals as goal

of_dropped : (xs : List ℕ) (d : ℕ) → ((k : ℕ) → get_or xs k 0 ≤ d) → (k : ℕ) → get_or (drop 1 xs) k 0 ≤ d
of_dropped [] d h k = h k
of_dropped (x ∷ xs) d h k = h (suc k)

-- all behind the first
whole : (xs : List ℕ) → take (length xs - 1) (drop 1 xs) ≡ drop 1 xs
whole [] = take_all (0 - 1) [] (omega arith)
whole (x ∷ xs) = take_all (length (x ∷ xs) - 1) xs (omega arith)

pub keep-requires : goal.keep-requires
keep-requires c =
    let xs = c.exponents.result.now in
    let s = c.in_ok-stored.stored in
    let d : c.degree.result ≡ c.args.self.degree = c.degree.ensures.value ∙ c.kept.ensures.degree in
    let is : xs ≡ c.args.self.exponents = c.exponents.ensures.value in
    let counted = c.in_ok-stored.ensures.variables ∙ ap length (whole xs) in
    kept_at (length (drop 1 xs)) c.degree.result s counted
    (kept_of c.degree.result s (drop 1 xs) counted (c.in_ok-stored.ensures.long ∙ ap (λ ys. max 16 (length ys)) (whole xs)) (omega (arith, d, c.kept.ensures.kept.narrow))
    (λ k. c.in_ok-stored.ensures.places k ∙ ap (λ ys. get_or ys k 0) (whole xs)) c.in_ok-stored.ensures.bounded
    (of_dropped xs c.degree.result (λ k. omega (arith, d, ap (λ ys. get_or ys k 0) is, shown_most c.args.self c.kept.result.now k c.kept.ensures, c.kept.ensures.kept.held k))))

pub returns-clause-ok : goal.returns-clause-ok
returns-clause-ok c =
    let xs = c.exponents.result.now in
    let s = c.in_ok-stored.stored in
    ap (λ (m : Monomial). m.exponents) c.keep.ensures
    ∙ ap (λ k. take k (places_of s)) (c.in_ok-stored.ensures.variables ∙ ap length (whole xs))
    ∙ same_front (drop 1 xs) (places_of s) (c.in_ok-stored.ensures.long ∙ ap (λ ys. max 16 (length ys)) (whole xs))
    (λ k. c.in_ok-stored.ensures.places k ∙ ap (λ ys. get_or ys k 0) (whole xs))
    ∙ ap (λ ys. drop 1 ys) c.exponents.ensures.value
