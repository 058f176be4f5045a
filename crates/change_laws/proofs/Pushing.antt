-- One more item behind a list of monomials
use Rattle.std.proofs.Common.{List, [], ap, arith, get_or, inl, inr, length, length-append, refl, sym, ℕ, ◌++◌, ◌+◌, ◌<◌, ◌∙◌, ◌∷◌, ◌≡◌, ◌≤◌, ◌⊎◌}
use Rattle.std.proofs.Math.Seq.{get_or-append_seam}
use Rattle.std.proofs.lemmas.Bool.{cases_lt}
use Rattle.std.proofs.lemmas.List.{get_or_append_left}
use Rattle.monomials.specs.Exponents.{Exponents, unit}
use Rattle.change_laws.specs.Standard.{AreDistinct, Has}

pub length_push : {n : ℕ} (xs : List (Exponents n)) (y : Exponents n) → length (xs ++ y ∷ []) ≡ length xs + 1
length_push xs y = length-append xs (y ∷ [])

pub at_old : {n : ℕ} (xs : List (Exponents n)) (y : Exponents n) (k : ℕ) → k < length xs → get_or (xs ++ y ∷ []) k (unit n) ≡ get_or xs k (unit n)
at_old {n} xs y k lt = get_or_append_left xs (y ∷ []) (unit n) k lt

pub at_new : {n : ℕ} (xs : List (Exponents n)) (y : Exponents n) → get_or (xs ++ y ∷ []) (length xs) (unit n) ≡ y
at_new {n} xs y = get_or-append_seam xs y [] (unit n)

pub Has_old : {n : ℕ} (xs : List (Exponents n)) (y m : Exponents n) → Has xs m → Has (xs ++ y ∷ []) m
Has_old xs y m (k, lt, e) = (k, omega (arith, length_push xs y), at_old xs y k lt ∙ e)

pub Has_new : {n : ℕ} (xs : List (Exponents n)) (y : Exponents n) → Has (xs ++ y ∷ []) y
Has_new xs y = (length xs, omega (arith, length_push xs y), at_new xs y)

pub Has_cases : {n : ℕ} (xs : List (Exponents n)) (y m : Exponents n) → Has (xs ++ y ∷ []) m → Has xs m ⊎ (y ≡ m)
Has_cases {n} xs y m (k, lt, e) = go (cases_lt k (length xs))
  where
    go : (k < length xs) ⊎ (length xs ≤ k) → Has xs m ⊎ (y ≡ m)
    go (inl l) = inl (k, l, sym (at_old xs y k l) ∙ e)
    go (inr g) =
        let same : k ≡ length xs = omega (arith, length_push xs y) in
        inr (sym (at_new xs y) ∙ ap (λ z. get_or (xs ++ y ∷ []) z (unit n)) (sym same) ∙ e)

pub AreDistinct_push : {n : ℕ} (xs : List (Exponents n)) (y : Exponents n) → AreDistinct xs → (Has xs y → ⊥) → AreDistinct (xs ++ y ∷ [])
AreDistinct_push {n} xs y apart free i j ij jl e = go (cases_lt j (length xs))
  where
    go : (j < length xs) ⊎ (length xs ≤ j) → ⊥
    go (inl l) = let il : i < length xs = omega arith in apart i j ij l (sym (at_old xs y i il) ∙ e ∙ at_old xs y j l)
    go (inr g) =
        let same : j ≡ length xs = omega (arith, length_push xs y) in
        let il : i < length xs = omega arith in
        free (i, il, sym (at_old xs y i il) ∙ e ∙ ap (λ z. get_or (xs ++ y ∷ []) z (unit n)) same ∙ at_new xs y)

pub AreDistinct_none : (n : ℕ) → AreDistinct {n = n} []
AreDistinct_none n i j ij jl e = omega arith
