-- Terms with one more variable in front, one after another
use Rattle.std.proofs.Common.{List, [], ap, ap₂, get_or, length, sym, take, ℕ, ◌++◌, ◌+◌, ◌<◌, ◌∙◌, ◌∷◌, ◌≡◌}
use Rattle.std.proofs.lemmas.List.{map-append}
use Rattle.monomial_orders.specs.Kept.{Monomial}
use Rattle.term_lists.proofs.Scaling.{take_item}
use Rattle.term_lists.specs.FrontVariables.{with_front}
use Rattle.term_lists.specs.declared.key.Key.{Key as CodeKey}

-- one more term has the variable
pub fronted_more :
    (xs ys : List (CodeKey × ℕ)) (i : ℕ) (t : CodeKey × ℕ) (m : Monomial)
    → i < length xs → t ≡ get_or xs i t → m.exponents ≡ 0 ∷ t.0.monomial.exponents → m.degree ≡ t.0.monomial.degree
    → ys ≡ with_front (take i xs)
    → ys ++ (record { position = t.0.position; monomial = m }, t.1) ∷ [] ≡ with_front (take (i + 1) xs)
fronted_more xs ys i t m lt is exponents degree h =
    ap₂ (λ more e. more ++ (record { position = t.0.position; monomial = record { exponents = e; degree = m.degree } }, t.1) ∷ []) h exponents
    ∙ ap (λ d. with_front (take i xs) ++ (record { position = t.0.position; monomial = record { exponents = 0 ∷ t.0.monomial.exponents; degree = d } }, t.1) ∷ []) degree
    ∙ sym (ap with_front (take_item xs i t lt is) ∙ map-append _ (take i xs) (t ∷ []))
