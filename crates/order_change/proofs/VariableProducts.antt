-- A variable times a combination of monomials, one monomial after another
use Rattle.std.proofs.Common.{List, [], ap, ap₂, arith, get_or, length, refl, subst, suc, sym, zero, ℕ, ◌*◌, ◌++◌, ◌+◌, ◌<◌, ◌∙◌, ◌≡◌, ◌≤◌}
use Rattle.std.specs.Prelude.{slice_index}
use Rattle.residues.proofs.Congruences.{IsCongruent_of, IsCongruent_refl}
use Rattle.residues.specs.Residues.{IsCongruent}
use Rattle.monomials.proofs.Monomials.{times_comm}
use Rattle.monomials.specs.Exponents.{Exponents, times, unit}
use Rattle.formal_sums.proofs.Sameness.{IsSame_of, IsSame_scale, IsSame_sym, IsSame_trans, IsSame_append, IsSame_refl, scale-append, scale-scale}
use Rattle.formal_sums.specs.FormalSums.{FormalSum, IsSame, scale}
use Rattle.change_laws.proofs.Expansions.{expansion_linear, expansion_one, expansion_same, expansion_zero}
use Rattle.change_laws.proofs.Modulo.{modulo_append, modulo_same, modulo_scale, modulo_trans}
use Rattle.change_laws.specs.Combinations.{expansion}
use Rattle.order_change.specs.Forms.{AreProductsOf, IsRowForm, before, monomial_vector}

-- 1 at k
pub spot : ℕ → ℕ → ℕ
spot zero zero = 1
spot zero (suc j) = 0
spot (suc k) zero = 0
spot (suc k) (suc j) = spot k j

pub spot_same : (k : ℕ) → spot k k ≡ 1
unfolding spot
spot_same zero = refl
spot_same (suc k) = spot_same k

pub spot_other : (k j : ℕ) → (j ≡ k → ⊥) → spot k j ≡ 0
unfolding spot
spot_other zero zero ne = absurd (ne refl)
spot_other zero (suc j) ne = refl
spot_other (suc k) zero ne = refl
spot_other (suc k) (suc j) ne = spot_other k j (λ e. ne (ap suc e))

before_step : (k : ℕ) (f : ℕ → ℕ) (j : ℕ) → before (suc k) f j ≡ before k f j + f k * spot k j
unfolding spot
before_step zero f zero = omega arith
before_step zero f (suc j) = omega arith
before_step (suc k) f zero = omega arith
before_step (suc k) f (suc j) = before_step k (λ i. f (suc i)) j

before_below : (k : ℕ) (f : ℕ → ℕ) (j : ℕ) → j < k → before k f j ≡ f j
before_below zero f j lt = absurd (omega (arith, lt))
before_below (suc k) f zero lt = refl
before_below (suc k) f (suc j) lt = before_below k (λ i. f (suc i)) j (omega (arith, lt))

-- nothing yet
pub product_none :
    {n p : ℕ} → 0 < p → (F : List (FormalSum n)) (B : List (Exponents n)) (x : Exponents n) (f : ℕ → ℕ) (row : List ℕ)
    → ((k : ℕ) → slice_index row k ≡ 0) → IsRowForm p F B (scale 1 x (expansion B (before 0 f))) row
product_none {n} {p} pos F B x f row zeros =
    modulo_same F _ _ (IsSame_trans (IsSame_scale pos 1 x (expansion_zero B (before 0 f) (λ k lt. IsCongruent_refl p 0)))
    (IsSame_sym (expansion_zero B (slice_index row) (λ k lt. IsCongruent_of p _ 0 (zeros k)))))

-- the monomial k with its residue c
one_step :
    {n p : ℕ} → 0 < p → (B : List (Exponents n)) (x : Exponents n) (f : ℕ → ℕ) (k : ℕ) → k < length B
    → IsSame p (scale 1 x (expansion B (before (suc k) f))) (scale 1 x (expansion B (before k f)) ++ scale (f k) (unit n) (monomial_vector (times x (get_or B k (unit n)))))
one_step {n} {p} pos B x f k lt =
    let b = get_or B k (unit n) in
    let lone : FormalSum n = monomial_vector b in
    let linear : IsSame p (expansion B (before (suc k) f)) (expansion B (before k f) ++ scale (f k) (unit n) (expansion B (spot k))) =
    expansion_linear (f k) B (before k f) (spot k) (before (suc k) f) (λ j l. IsCongruent_of p _ _ (before_step k f j)) in
    let single : IsSame p (expansion B (spot k)) lone =
    expansion_one B (spot k) k lt (IsCongruent_of p _ 1 (spot_same k)) (λ j l ne. IsCongruent_of p _ 0 (spot_other k j ne)) in
    IsSame_trans (IsSame_scale pos 1 x (IsSame_trans linear (IsSame_append (IsSame_refl p (expansion B (before k f))) (IsSame_scale pos (f k) (unit n) single))))
    (IsSame_of p _ _ (scale-append 1 x (expansion B (before k f)) (scale (f k) (unit n) lone) ∙ ap (λ z. scale 1 x (expansion B (before k f)) ++ z) (swapped (f k) lone)))
  where
    swapped : (c : ℕ) (v : FormalSum n) → scale 1 x (scale c (unit n) v) ≡ scale c (unit n) (scale 1 x v)
    swapped c v = scale-scale 1 c x (unit n) v ∙ ap₂ (λ d m. scale d m v) (omega arith) (times_comm x (unit n)) ∙ sym (scale-scale c 1 (unit n) x v)

-- one more product
pub product_more :
    {n p : ℕ} → 0 < p → (F : List (FormalSum n)) (B : List (Exponents n)) (x : Exponents n) (rows : List (List ℕ)) (form old new : List ℕ) (k : ℕ)
    → k < length form → length B ≡ length form → 0 < slice_index form k → AreProductsOf p F B x rows form
    → ((j : ℕ) → IsCongruent p (slice_index new j) (slice_index old j + slice_index form k * slice_index (get_or rows k []) j))
    → IsRowForm p F B (scale 1 x (expansion B (before k (slice_index form)))) old
    → IsRowForm p F B (scale 1 x (expansion B (before (k + 1) (slice_index form)))) new
product_more {n} {p} pos F B x rows form old new k lt long some products sums h =
    let c = slice_index form k in
    let next : suc k ≡ k + 1 = omega arith in
    subst (λ i. IsRowForm p F B (scale 1 x (expansion B (before i (slice_index form)))) new) next
    (modulo_trans F (modulo_same F _ _ (one_step pos B x (slice_index form) k (omega (arith, lt, long))))
    (modulo_trans F (modulo_append F h (modulo_scale F pos c (unit n) (products k lt some)))
    (modulo_same F _ _ (IsSame_sym (expansion_linear c B (slice_index old) (slice_index (get_or rows k [])) (slice_index new) (λ j l. sums j))))))

-- or none where the residue is 0
pub product_skip :
    {n p : ℕ} → 0 < p → (F : List (FormalSum n)) (B : List (Exponents n)) (x : Exponents n) (form old : List ℕ) (k : ℕ)
    → slice_index form k ≡ 0 → IsRowForm p F B (scale 1 x (expansion B (before k (slice_index form)))) old
    → IsRowForm p F B (scale 1 x (expansion B (before (k + 1) (slice_index form)))) old
product_skip {n} {p} pos F B x form old k none h =
    let next : suc k ≡ k + 1 = omega arith in
    subst (λ i. IsRowForm p F B (scale 1 x (expansion B (before i (slice_index form)))) old) next
    (modulo_trans F (modulo_same F _ _ (IsSame_scale pos 1 x (expansion_same B (before (suc k) (slice_index form)) (before k (slice_index form))
    (λ j l. IsCongruent_of p _ _ (before_step k (slice_index form) j ∙ ap (λ z. before k (slice_index form) j + z * spot k j) none ∙ omega arith))))) h)

-- all products
pub product_all :
    {n p : ℕ} → 0 < p → (F : List (FormalSum n)) (B : List (Exponents n)) (x : Exponents n) (form out : List ℕ) (k : ℕ)
    → length B ≡ length form → length form ≤ k → IsRowForm p F B (scale 1 x (expansion B (before k (slice_index form)))) out
    → IsRowForm p F B (scale 1 x (expansion B (slice_index form))) out
product_all {n} {p} pos F B x form out k long le h =
    modulo_trans F (modulo_same F _ _ (IsSame_scale pos 1 x (expansion_same B (slice_index form) (before k (slice_index form))
    (λ j l. IsCongruent_of p _ _ (sym (before_below k (slice_index form) j (omega (arith, l, long, le)))))))) h
