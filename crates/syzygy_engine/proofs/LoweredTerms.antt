-- Terms behind a position, moved to the front
use Rattle.std.proofs.Common.{Bool, List, [], add-one, ap, ap₂, arith, drop, false, get_or, length, refl, set, suc, sym, take, true, zero, ℕ, ◌++◌, ◌+◌, ◌-◌, ◌<◌, ◌∙◌, ◌∷◌, ◌≡◌, ◌≤◌}
use Rattle.std.proofs.lemmas.Bool.Decides.{nat_tests}
use Rattle.std.specs.Prelude.{nat_le, ◌&&◌}
use Rattle.monomials.proofs.Monomials.{and_left, and_right}
use Rattle.monomials.specs.Exponents.{exponents_of}
use Rattle.division_laws.specs.Elimination.{is_from_position}
use Rattle.syzygy_laws.specs.Kernels.{all_kept, lowered}
use Rattle.formal_sums.specs.FormalSums.{Each}
use Rattle.term_lists.specs.Vectors.{AreTermsOver, sum_of}
use Rattle.term_lists.specs.declared.key.Key.{Key as CodeKey}
use Rattle.term_lists.specs.declared.ring.Ring.{Ring}
use Rattle.syzygy_engine.specs.Marking.{lowered_terms}

le_of : (q a : ℕ) → nat_le q a ≡ true → q ≤ a
le_of q a e = grind (arith, nat_tests)

lt_not : (q a : ℕ) → a < q → nat_le q a ≡ false
lt_not q a h = grind (arith, nat_tests)

le_true : (q a : ℕ) → q ≤ a → nat_le q a ≡ true
le_true q a h = grind (arith, nat_tests)

and_false : (b : Bool) → (b && false) ≡ false
and_false false = refl
and_false true = refl

-- the positions of a vector of which each term is kept
pub each_from : (n q : ℕ) (v : List (CodeKey × ℕ)) → all_kept (is_from_position q) (sum_of n v) ≡ true → Each (λ t. q ≤ t.0.position) v
each_from n q [] h = tt
each_from n q (t ∷ v) h = (le_of q t.0.position (and_left _ _ h), each_from n q v (and_right _ _ h))

pub all_from : (n q : ℕ) (v : List (CodeKey × ℕ)) → Each (λ t. q ≤ t.0.position) v → true ≡ all_kept (is_from_position q) (sum_of n v)
all_from n q [] h = refl
all_from n q (t ∷ v) h = ap₂ ◌&&◌ (sym (le_true q t.0.position h.0)) (all_from n q v h.1)

-- a term before q is not kept
pub not_kept :
    (n q : ℕ) (v : List (CodeKey × ℕ)) (i : ℕ) (t : CodeKey × ℕ)
    → i < length v → t ≡ get_or v i t → t.0.position < q → false ≡ all_kept (is_from_position q) (sum_of n v)
not_kept n q [] i t lt e h = absurd (omega arith)
not_kept n q (u ∷ v) zero t lt e h =
    let s = ap (λ (x : CodeKey × ℕ). x.0.position) e in
    sym (ap (λ b. b && all_kept (is_from_position q) (sum_of n v)) (lt_not q u.0.position (omega (arith, s, h))))
not_kept n q (u ∷ v) (suc i) t lt e h =
    sym (ap (λ b. nat_le q u.0.position && b) (sym (not_kept n q v i t (omega arith) e h)) ∙ and_false (nat_le q u.0.position))

pub sum_lowered : (n q : ℕ) (v : List (CodeKey × ℕ)) → sum_of n (lowered_terms q v) ≡ lowered q (sum_of n v)
sum_lowered n q [] = refl
sum_lowered n q (t ∷ v) = ap (λ r. ((t.0.position - q, exponents_of n t.0.monomial.exponents), t.1) ∷ r) (sum_lowered n q v)

pub lowered_over : (ring : Ring) (q : ℕ) (v : List (CodeKey × ℕ)) → AreTermsOver ring v → AreTermsOver ring (lowered_terms q v)
lowered_over ring q [] h = tt
lowered_over ring q (t ∷ v) h = (h.0, lowered_over ring q v h.1)

-- ---- in place, one term after another
lower_get :
    (q : ℕ) (xs : List (CodeKey × ℕ)) (i : ℕ) (d : CodeKey × ℕ)
    → i < length xs → get_or (lowered_terms q (take i xs) ++ drop i xs) i d ≡ get_or xs i d
lower_get q [] i d lt = absurd (omega arith)
lower_get q (x ∷ xs) zero d lt = refl
lower_get q (x ∷ xs) (suc i) d lt = lower_get q xs i d (omega arith)

lower_set :
    (q : ℕ) (xs : List (CodeKey × ℕ)) (i : ℕ) (t : CodeKey × ℕ)
    → i < length xs → t ≡ get_or xs i t
    → set (lowered_terms q (take i xs) ++ drop i xs) i (record { position = t.0.position - q; monomial = t.0.monomial }, t.1)
    ≡ lowered_terms q (take (suc i) xs) ++ drop (suc i) xs
lower_set q [] i t lt e = absurd (omega arith)
lower_set q (x ∷ xs) zero t lt e = ap (λ (y : CodeKey × ℕ). (record { position = y.0.position - q; monomial = y.0.monomial }, y.1) ∷ xs) e
lower_set q (x ∷ xs) (suc i) t lt e = ap (λ r. (record { position = x.0.position - q; monomial = x.0.monomial }, x.1) ∷ r) (lower_set q xs i t (omega arith) e)

-- the step of the loop: x is read, and y is where the position is written
pub lower_step :
    (q : ℕ) (xs ys : List (CodeKey × ℕ)) (i r : ℕ) (x y : CodeKey × ℕ)
    → i < length xs → ys ≡ lowered_terms q (take i xs) ++ drop i xs → x ≡ get_or ys i x → y ≡ get_or ys i y → r ≡ x.0.position - q
    → set ys i (record { position = r; monomial = y.0.monomial }, y.1) ≡ lowered_terms q (take (i + 1) xs) ++ drop (i + 1) xs
lower_step q xs ys i r x y lt e hx hy er =
    let ex : x ≡ get_or xs i x = hx ∙ ap (λ z. get_or z i x) e ∙ lower_get q xs i x lt in
    let ey : y ≡ get_or xs i y = hy ∙ ap (λ z. get_or z i y) e ∙ lower_get q xs i y lt in
    let yx : y ≡ x = ey ∙ same xs i y x lt ∙ sym ex in
    ap₂ (λ z w. set z i w) e (ap₂ (λ j (t : CodeKey × ℕ). (record { position = j; monomial = t.0.monomial }, t.1)) er yx)
    ∙ lower_set q xs i x lt ex ∙ ap₂ (λ j k. lowered_terms q (take j xs) ++ drop k xs) (sym (add-one i)) (sym (add-one i))
  where
    same : (xs : List (CodeKey × ℕ)) (i : ℕ) (d d' : CodeKey × ℕ) → i < length xs → get_or xs i d ≡ get_or xs i d'
    same [] i d d' lt = absurd (omega arith)
    same (z ∷ xs) zero d d' lt = refl
    same (z ∷ xs) (suc i) d d' lt = same xs i d d' (omega arith)
