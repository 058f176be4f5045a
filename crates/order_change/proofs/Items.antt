-- Items of a list of monomials
use Rattle.std.proofs.Common.{IsTrue, List, [], ap, arith, get_or, inl, inr, length, refl, subst, suc, sym, zero, ℕ, ◌++◌, ◌+◌, ◌<◌, ◌∙◌, ◌∷◌, ◌≡◌, ◌≤◌, ◌⊎◌, ◌↔◌, Bool, false, true}
use Rattle.std.proofs.lemmas.Bool.{cases_lt}
use Rattle.std.proofs.Common.{length-append}
use Rattle.std.proofs.lemmas.List.{get_or-map, get_or_append_left, get_or_push}
use Rattle.monomials.specs.Exponents.{Divides, Exponents, cons, exponents_of, times, unit}
use Rattle.formal_sums.proofs.WeightedSums.{key_cases}
use Rattle.monomial_orders.specs.Kept.{IsWeighed, Monomial, monomials}
use Rattle.monomial_orders.specs.Monomials.{IsMonomial, variable}
use Rattle.change_laws.specs.Standard.{Has, IsStandard, power}

-- the monomial of an item
pub item_at :
    (n : ℕ) (xs : List Monomial) (i : ℕ) (x : Monomial) → i < length xs → x ≡ get_or xs i x
    → get_or (monomials n xs) i (unit n) ≡ exponents_of n x.exponents
item_at n xs i x lt e = get_or-map (λ m. exponents_of n m.exponents) xs i x (unit n) lt ∙ ap (λ y. exponents_of n y.exponents) (sym e)

pub length_monomials : (n : ℕ) (xs : List Monomial) → length (monomials n xs) ≡ length xs
length_monomials n [] = refl
length_monomials n (x ∷ xs) = ap suc (length_monomials n xs)

pub monomials_push : (n : ℕ) (xs : List Monomial) (y : Monomial) → monomials n (xs ++ y ∷ []) ≡ monomials n xs ++ exponents_of n y.exponents ∷ []
monomials_push n [] y = refl
monomials_push n (x ∷ xs) y = ap (λ l. exponents_of n x.exponents ∷ l) (monomials_push n xs y)

-- divisibility by the ring's number of variables
pub divides_by :
    (n : ℕ) (b : Bool) (a m : List ℕ) → length a ≡ n
    → (IsTrue b ↔ Divides (exponents_of (length a) a) (exponents_of (length a) m))
    → (IsTrue b ↔ Divides (exponents_of n a) (exponents_of n m))
divides_by n b a m e h = subst (λ k. IsTrue b ↔ Divides (exponents_of k a) (exponents_of k m)) e h

-- a list has a monomial or not
pub has_or_not : {n : ℕ} (ms : List (Exponents n)) (m : Exponents n) → Has ms m ⊎ (Has ms m → ⊥)
has_or_not [] m = inr (λ h. let lt = h.1 in omega arith)
has_or_not {n} (x ∷ ms) m = go (key_cases (0, x) (0, m)) (has_or_not ms m)
  where
    go : (◌≡◌ {A = ℕ × Exponents n} (0, x) (0, m)) ⊎ (◌≡◌ {A = ℕ × Exponents n} (0, x) (0, m) → ⊥) → Has ms m ⊎ (Has ms m → ⊥) → Has (x ∷ ms) m ⊎ (Has (x ∷ ms) m → ⊥)
    go (inl e) h = inl (0, omega arith, ap (λ y. y.1) e)
    go (inr ne) (inl (k, lt, e)) = inl (suc k, omega arith, e)
    go (inr ne) (inr none) = inr (λ h. by h.0 h.1 h.2)
      where
        by : (k : ℕ) → k < length (x ∷ ms) → get_or (x ∷ ms) k (unit n) ≡ m → ⊥
        by zero lt e = ne (ap (λ y. (0, y)) e)
        by (suc k) lt e = none (k, omega arith, e)

-- the variable is its first power
pub variable_power : (n i : ℕ) → variable n i ≡ power n i 1
variable_power zero i = refl
variable_power (suc n) zero = refl
variable_power (suc n) (suc i) = ap (λ e. cons 0 e) (variable_power n i)

-- a divisor in the list
pub not_standard :
    (n : ℕ) (leads : List Monomial) (i : ℕ) (g : Monomial) (m : List ℕ) → i < length leads → g ≡ get_or leads i g
    → Divides (exponents_of n g.exponents) (exponents_of n m)
    → IsTrue false ↔ IsStandard (monomials n leads) (exponents_of n m)
not_standard n leads i g m lt e d =
    ((λ t. let q : false ≡ true = t in cc), λ s. absurd (s i (omega (arith, length_monomials n leads, lt)) (subst (λ z. Divides z (exponents_of n m)) (sym (item_at n leads i g lt e)) d)))

-- none up to the end
pub is_free :
    (n : ℕ) (leads : List Monomial) (i : ℕ) (m : Exponents n) → length leads ≤ i
    → ((k : ℕ) → k < i → Divides (get_or (monomials n leads) k (unit n)) m → ⊥) → IsTrue true ↔ IsStandard (monomials n leads) m
is_free n leads i m le h = ((λ t k lt. h k (omega (arith, length_monomials n leads, lt, le))), λ s. refl)

-- what holds below an index and at it
pub one_more : (P : ℕ → Type 0) (i : ℕ) → ((k : ℕ) → k < i → P k) → P i → (k : ℕ) → k < i + 1 → P k
one_more P i h here k lt = go (cases_lt k i)
  where
    go : (k < i) ⊎ (i ≤ k) → P k
    go (inl l) = h k l
    go (inr g) = let e : i ≡ k = omega arith in subst P e here

-- what holds of a list's items, and of one more behind them
pub one_more_item :
    (f : ℕ → ℕ) (old new : List ℕ) (x i : ℕ) → new ≡ old ++ x ∷ [] → length old ≡ i → ((k : ℕ) → k < i → get_or old k 0 ≡ f k) → x ≡ f i
    → (length new ≡ i + 1) × ((k : ℕ) → k < i + 1 → get_or new k 0 ≡ f k)
one_more_item f old new x i e long h is = (
  ap length e ∙ length-append old (x ∷ []) ∙ ap (λ n. n + 1) long,
  one_more (λ k. get_or new k 0 ≡ f k) i
      (λ k lt. ap (λ l. get_or l k 0) e ∙ get_or_append_left old (x ∷ []) 0 k (subst (λ n. k < n) (sym long) lt) ∙ h k lt)
      (ap (λ l. get_or l i 0) e ∙ get_or_push old x 0 i long ∙ is),
)

-- equality by the ring's number of variables
pub equal_by :
    (n : ℕ) (ws : List ℕ) (b : Bool) (a m : Monomial) → IsWeighed n ws a → IsWeighed n ws m
    → ((us : List ℕ) → IsWeighed (length a.exponents) us a → IsWeighed (length a.exponents) us m
    → (IsTrue b ↔ (exponents_of (length a.exponents) a.exponents ≡ exponents_of (length a.exponents) m.exponents)))
    → (IsTrue b ↔ (exponents_of n a.exponents ≡ exponents_of n m.exponents))
equal_by n ws b a m wa wm h =
    subst (λ k. IsWeighed k ws a → IsWeighed k ws m → (IsTrue b ↔ (exponents_of k a.exponents ≡ exponents_of k m.exponents))) wa.variables (h ws) wa wm

-- a product by the ring's number of variables
pub product_by :
    (n : ℕ) (a m c : List ℕ) → length a ≡ n
    → IsMonomial (length a) (times (exponents_of (length a) a) (exponents_of (length a) m)) c
    → exponents_of n c ≡ times (exponents_of n a) (exponents_of n m)
product_by n a m c e h = let g : IsMonomial n (times (exponents_of n a) (exponents_of n m)) c = subst (λ k. IsMonomial k (times (exponents_of k a) (exponents_of k m)) c) e h in g.exponents

-- 1 by the ring's number of variables
pub unit_by : (k n : ℕ) (c : List ℕ) → k ≡ n → IsMonomial k (unit k) c → exponents_of n c ≡ unit n
unit_by k n c e h = let g : IsMonomial n (unit n) c = subst (λ j. IsMonomial j (unit j) c) e h in g.exponents
