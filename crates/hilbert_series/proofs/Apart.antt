-- Monomials without a common variable
use Rattle.std.proofs.Common.{List, [], ap, ap₂, arith, map, refl, subst, sym, ℕ, ◌-◌, ◌∙◌, ◌∷◌, ◌≡◌, ◌++◌}
use Rattle.monomials.specs.Exponents.{Exponents, cons, exponents_of, head, nil, quotient, tail}
use Rattle.monomial_orders.specs.Kept.{Monomial, monomials}
use Rattle.hilbert_series.specs.Generators.{AreCoprimeToAll, IsCoprimeToAll}

-- what has no variable in common with k has none with a quotient of k
quotient_less : {n : ℕ} (s k p : Exponents n) → quotient s k ≡ s → quotient s (quotient k p) ≡ s
quotient_less nil nil nil e = refl
quotient_less (cons a s) (cons b k) (cons c p) e = ap₂ cons (at a b c (ap head e)) (quotient_less s k p (ap tail e))
  where
    at : (a b c : ℕ) → a - b ≡ a → a - (b - c) ≡ a
    at a b c q = grind arith

first_of : {n : ℕ} (x y : Exponents n) (xs ys : List (Exponents n)) → ◌≡◌ {A = List (Exponents n)} (x ∷ xs) (y ∷ ys) → x ≡ y
first_of x y xs ys e = cc

rest_of : {n : ℕ} (x y : Exponents n) (xs ys : List (Exponents n)) → ◌≡◌ {A = List (Exponents n)} (x ∷ xs) (y ∷ ys) → xs ≡ ys
rest_of x y xs ys e = cc

apart_quotient : {n : ℕ} (ms : List (Exponents n)) (k p : Exponents n) → IsCoprimeToAll ms k → IsCoprimeToAll ms (quotient k p)
apart_quotient [] k p e = refl
apart_quotient (s ∷ ms) k p e = ap₂ ◌∷◌ (quotient_less s k p (first_of _ _ _ _ e)) (apart_quotient ms k p (rest_of _ _ _ _ e))

pub apart_quotients :
    (n : ℕ) (ms : List (Exponents n)) (p : Exponents n) (gs qs : List Monomial) → monomials n qs ≡ map (λ s. quotient s p) (monomials n gs)
    → AreCoprimeToAll n ms gs → AreCoprimeToAll n ms qs
apart_quotients n ms p [] [] e h = tt
apart_quotients n ms p [] (q ∷ qs) e h = let bad : ⊥ = cc in absurd bad
apart_quotients n ms p (g ∷ gs) [] e h = let bad : ⊥ = cc in absurd bad
apart_quotients n ms p (g ∷ gs) (q ∷ qs) e h = (
  subst (IsCoprimeToAll ms) (sym (first_of _ _ _ _ e)) (apart_quotient ms (exponents_of n g.exponents) p h.0),
  apart_quotients n ms p gs qs (rest_of _ _ _ _ e) h.1,
)

pub apart_append : {n : ℕ} (ms ks : List (Exponents n)) (m : Exponents n) → IsCoprimeToAll ms m → IsCoprimeToAll ks m → IsCoprimeToAll (ms ++ ks) m
apart_append [] ks m e f = f
apart_append (s ∷ ms) ks m e f = ap₂ ◌∷◌ (first_of _ _ _ _ e) (apart_append ms ks m (rest_of _ _ _ _ e) f)

pub are_apart_append :
    (n : ℕ) (ms ks : List (Exponents n)) (gs : List Monomial) → AreCoprimeToAll n ms gs → AreCoprimeToAll n ks gs → AreCoprimeToAll n (ms ++ ks) gs
are_apart_append n ms ks [] a b = tt
are_apart_append n ms ks (g ∷ gs) a b = (apart_append ms ks (exponents_of n g.exponents) a.0 b.0, are_apart_append n ms ks gs a.1 b.1)

pub apart_nothing : (n : ℕ) (gs : List Monomial) → AreCoprimeToAll n [] gs
apart_nothing n [] = tt
apart_nothing n (g ∷ gs) = (refl, apart_nothing n gs)

pub quotients_append : {n : ℕ} (p : Exponents n) (xs ys : List (Exponents n)) → map (λ s. quotient s p) (xs ++ ys) ≡ map (λ s. quotient s p) xs ++ map (λ s. quotient s p) ys
quotients_append p [] ys = refl
quotients_append p (x ∷ xs) ys = ap (λ z. quotient x p ∷ z) (quotients_append p xs ys)

-- dividing by what has no variable in common with ms
pub quotients_with :
    (n : ℕ) (ms : List (Exponents n)) (p : Exponents n) (gs qs : List Monomial) → IsCoprimeToAll ms p → monomials n qs ≡ map (λ s. quotient s p) (monomials n gs)
    → ms ++ monomials n qs ≡ map (λ s. quotient s p) (ms ++ monomials n gs)
quotients_with n ms p gs qs a e = ap₂ ◌++◌ (sym a) e ∙ sym (quotients_append p ms (monomials n gs))
