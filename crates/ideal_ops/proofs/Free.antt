-- Members that have none of the first variables
use Rattle.std.proofs.Common.{Bool, List, [], ap, ap₂, arith, cond, false, get_or, length, refl, subst, suc, sym, true, zero, ℕ, ◌++◌, ◌<◌, ◌∙◌, ◌∷◌, ◌≡◌}
use Rattle.std.proofs.lemmas.Bool.Decides.{nat_tests}
use Rattle.std.proofs.lemmas.List.Elements.{filter-append}
use Rattle.std.specs.Prelude.{nat_eq, ◌&&◌}
use Rattle.monomials.specs.Exponents.{exponents_of, same_exponents, unit}
use Rattle.orders.specs.MonomialOrders.{first_variables}
use Rattle.formal_sums.specs.FormalSums.{Each, FormalSum}
use Rattle.division_laws.specs.Elimination.{has_none_of_first}
use Rattle.syzygy_laws.specs.Kernels.{all_kept}
use Rattle.operation_laws.specs.Operations.{eliminated}
use Rattle.term_lists.specs.Vectors.{HasVariables, sum_of}
use Rattle.term_lists.specs.declared.key.Key.{Key as CodeKey}

-- ---- exponents
eq_zero : (a : ℕ) → a ≡ 0 → nat_eq a 0 ≡ true
eq_zero a e = grind (arith, nat_tests)

not_zero : (a : ℕ) → (a ≡ 0 → ⊥) → nat_eq a 0 ≡ false
not_zero a h = grind (arith, nat_tests)

and_false : (b : Bool) → (b && false) ≡ false
and_false false = refl
and_false true = refl

abbrev pub none_of : ℕ → List ℕ → Bool
none_of k xs = same_exponents (first_variables k (exponents_of (length xs) xs)) (unit (length xs))

pub none_true : (k : ℕ) (xs : List ℕ) → ((j : ℕ) → j < length xs → j < k → get_or xs j 0 ≡ 0) → true ≡ none_of k xs
none_true k [] h = refl
none_true zero (x ∷ xs) h = none_true zero xs (λ j lt l. absurd (omega (arith, l)))
none_true (suc k) (x ∷ xs) h = ap₂ ◌&&◌ (sym (eq_zero x (h 0 (omega arith) (omega arith)))) (none_true k xs (λ j lt l. h (suc j) (omega (arith, lt)) (omega (arith, l))))

pub none_false : (k : ℕ) (xs : List ℕ) (j : ℕ) → j < length xs → j < k → (get_or xs j 0 ≡ 0 → ⊥) → false ≡ none_of k xs
none_false k [] j lt l h = absurd (omega (arith, lt))
none_false zero (x ∷ xs) j lt l h = absurd (omega (arith, l))
none_false (suc k) (x ∷ xs) zero lt l h = sym (ap (λ b. b && none_of k xs) (not_zero x h))
none_false (suc k) (x ∷ xs) (suc j) lt l h = sym (ap (λ b. nat_eq x 0 && b) (sym (none_false k xs j (omega (arith, lt)) (omega (arith, l)) h)) ∙ and_false (nat_eq x 0))

-- ---- vectors
pub free_true :
    (n k : ℕ) (v : List (CodeKey × ℕ)) → Each (HasVariables n) v → Each (λ t. none_of k t.0.monomial.exponents ≡ true) v → true ≡ all_kept (has_none_of_first k) (sum_of n v)
free_true n k [] h f = refl
free_true n k (t ∷ v) h f =
    ap₂ ◌&&◌ (sym (subst (λ m. same_exponents (first_variables k (exponents_of m t.0.monomial.exponents)) (unit m) ≡ true) h.0 f.0)) (free_true n k v h.1 f.1)

pub free_false :
    (n k : ℕ) (v : List (CodeKey × ℕ)) (i : ℕ) (t : CodeKey × ℕ) → Each (HasVariables n) v → i < length v → t ≡ get_or v i t → none_of k t.0.monomial.exponents ≡ false
    → false ≡ all_kept (has_none_of_first k) (sum_of n v)
free_false n k [] i t h lt e f = absurd (omega (arith, lt))
free_false n k (u ∷ v) zero t h lt e f =
    let g : none_of k u.0.monomial.exponents ≡ false = subst (λ (x : CodeKey × ℕ). none_of k x.0.monomial.exponents ≡ false) e f in
    sym (ap (λ b. b && all_kept (has_none_of_first k) (sum_of n v)) (subst (λ m. same_exponents (first_variables k (exponents_of m u.0.monomial.exponents)) (unit m) ≡ false) h.0 g))
free_false n k (u ∷ v) (suc i) t h lt e f =
    sym (ap (λ b. same_exponents (first_variables k (exponents_of n u.0.monomial.exponents)) (unit n) && b) (sym (free_false n k v i t h.1 (omega (arith, lt)) e f)) ∙ and_false (same_exponents (first_variables k (exponents_of n u.0.monomial.exponents)) (unit n)))

-- ---- the free members, one after another
append-none : {X : Type 0} (xs : List X) → xs ++ [] ≡ xs
append-none [] = refl
append-none (x ∷ xs) = ap (λ z. x ∷ z) (append-none xs)

pub free_kept : {n : ℕ} (k : ℕ) (G : List (FormalSum n)) (g : FormalSum n) → all_kept (has_none_of_first k) g ≡ true → eliminated k (G ++ g ∷ []) ≡ eliminated k G ++ g ∷ []
free_kept k G g e = filter-append (all_kept (has_none_of_first k)) G (g ∷ []) ∙ ap (λ b. eliminated k G ++ cond b (g ∷ []) []) e

pub free_left : {n : ℕ} (k : ℕ) (G : List (FormalSum n)) (g : FormalSum n) → all_kept (has_none_of_first k) g ≡ false → eliminated k (G ++ g ∷ []) ≡ eliminated k G
free_left k G g e = filter-append (all_kept (has_none_of_first k)) G (g ∷ []) ∙ ap (λ b. eliminated k G ++ cond b (g ∷ []) []) e ∙ append-none (eliminated k G)
