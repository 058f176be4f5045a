-- The order of elimination on the second variables is that of their weights
use Rattle.std.proofs.Common.{List, [], ap, ap₂, arith, length, max, refl, suc, zero, ℕ, ◌*◌, ◌++◌, ◌+◌, ◌∙◌, ◌∷◌, ◌≡◌, ◌≤◌}
use Rattle.std.proofs.lemmas.Cmp.{nat_cmp_total, tied_itself}
use Rattle.std.specs.Ordering.{nat_cmp, ordering_then}
use Rattle.monomials.specs.Exponents.{Exponents, cons, nil}
use Rattle.monomials.specs.Weights.{weighted_degree}
use Rattle.formal_sums.specs.FormalSums.{FormalSum, Key, coefficient}
use Rattle.orders.specs.KeyOrders.{top}
use Rattle.orders.specs.MonomialOrders.{reverse_lex}
use Rattle.orders.specs.WeightedOrders.{weighted_elimination, weighted_grevlex}
use Rattle.operation_laws.proofs.Graded.{grevlex_of_kept}
use Rattle.operation_laws.proofs.KeptBases.{coefficient_renamed}
use Rattle.operation_laws.proofs.OnePosition.{then_equal}
use Rattle.map_laws.proofs.Places.{after-behind}
use Rattle.map_laws.proofs.SecondVariables.{second_key, second_key_kept}
use Rattle.map_laws.specs.Graphs.{behind, exponents_from, fitted, in_second}

weighted_degree_fitted : {n : ℕ} (m : ℕ) (vs : List ℕ) (e : Exponents n) → m ≡ n → weighted_degree vs (fitted m e) ≡ weighted_degree vs e
weighted_degree_fitted zero vs nil h = refl
weighted_degree_fitted (suc m) vs nil h = absurd (omega arith)
weighted_degree_fitted zero vs (cons a e) h = absurd (omega arith)
weighted_degree_fitted (suc m) [] (cons a e) h = ap (λ d. a + d) (weighted_degree_fitted m [] e (omega arith))
weighted_degree_fitted (suc m) (w ∷ vs) (cons a e) h = ap (λ d. max 1 w * a + d) (weighted_degree_fitted m vs e (omega arith))

-- the first weights do not count
weighted_degree_behind :
    {n : ℕ} (m k : ℕ) (us vs : List ℕ) (e : Exponents n) → length us ≡ k → m ≡ k + n
    → weighted_degree (us ++ vs) (behind m k e) ≡ weighted_degree vs e
weighted_degree_behind m zero [] vs e size h = weighted_degree_fitted m vs e (omega arith)
weighted_degree_behind m zero (u ∷ us) vs e size h = absurd (omega arith)
weighted_degree_behind m (suc k) [] vs e size h = absurd (omega arith)
weighted_degree_behind zero (suc k) (u ∷ us) vs e size h = absurd (omega arith)
weighted_degree_behind (suc m) (suc k) (u ∷ us) vs e size h =
    let rest : weighted_degree (us ++ vs) (behind m k e) ≡ weighted_degree vs e = weighted_degree_behind m k us vs e (omega arith) (omega arith) in
    let none : max 1 u * 0 ≡ 0 = omega arith in
    ap (λ d. d + weighted_degree (us ++ vs) (behind m k e)) none ∙ omega (arith, rest)

reverse_lex_fitted : {n : ℕ} (m : ℕ) (e f : Exponents n) → m ≡ n → reverse_lex (fitted m e) (fitted m f) ≡ reverse_lex e f
reverse_lex_fitted zero nil nil h = refl
reverse_lex_fitted (suc m) nil nil h = absurd (omega arith)
reverse_lex_fitted zero (cons a e) (cons b f) h = absurd (omega arith)
reverse_lex_fitted (suc m) (cons a e) (cons b f) h = ap (λ o. ordering_then o (nat_cmp b a)) (reverse_lex_fitted m e f (omega arith))

reverse_lex_behind : {n : ℕ} (m k : ℕ) (e f : Exponents n) → m ≡ k + n → reverse_lex (behind m k e) (behind m k f) ≡ reverse_lex e f
reverse_lex_behind m zero e f h = reverse_lex_fitted m e f (omega arith)
reverse_lex_behind zero (suc k) e f h = absurd (omega arith)
reverse_lex_behind (suc m) (suc k) e f h =
    ap₂ ordering_then (reverse_lex_behind m k e f (omega arith)) (tied_itself nat_cmp_total 0) ∙ then_equal (reverse_lex e f)

grevlex_behind :
    {n : ℕ} (m : ℕ) (vs : List ℕ) (e f : Exponents n) → length vs ≡ n → m ≡ n + n
    → weighted_grevlex (vs ++ vs) (behind m n e) (behind m n f) ≡ weighted_grevlex vs e f
grevlex_behind {n} m vs e f size two =
    ap₂ ordering_then
    (ap₂ nat_cmp (weighted_degree_behind m n vs vs e size two) (weighted_degree_behind m n vs vs f size two))
    (reverse_lex_behind m n e f two)

-- keys of the second variables compare as the keys do
pub compare_second :
    {n : ℕ} (m : ℕ) (vs : List ℕ) (k l : Key n) → length vs ≡ n → m ≡ n + n
    → top (weighted_elimination (vs ++ vs) n) (second_key m k) (second_key m l) ≡ top (weighted_grevlex vs) k l
compare_second {n} m vs k l size two =
    grevlex_of_kept (vs ++ vs) n (second_key m k) (second_key m l) (second_key_kept m k) (second_key_kept m l)
    ∙ ap (λ o. ordering_then o (nat_cmp l.0 k.0)) (grevlex_behind m vs k.1 l.1 size two)

-- ---- coefficients
pub coefficient_second : {n : ℕ} (m : ℕ) (v : FormalSum n) (k : Key n) → n + n ≤ m → coefficient (in_second m v) (second_key m k) ≡ coefficient v k
coefficient_second {n} m v k le = coefficient_renamed (second_key m) (λ l. (l.0, exponents_from n n l.1)) (λ l. ap (λ e. (l.0, e)) (after-behind m n l.1 le)) v k
