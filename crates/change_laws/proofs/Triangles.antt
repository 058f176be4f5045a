-- Residues of rows that are triangular
use Rattle.std.proofs.Common.{ap, ap₂, arith, cond, inl, inr, refl, subst, suc, sym, zero, ℕ, ◌*◌, ◌+◌, ◌-◌, ◌<◌, ◌∙◌, ◌≡◌, ◌≤◌, ◌⊎◌}
use Rattle.std.proofs.lemmas.Bool.{cases_eq, cases_lt}
use Rattle.std.proofs.lemmas.Bool.Decides.{eqb_tells}
use Rattle.std.specs.Prelude.{nat_eq}
use Rattle.residues.proofs.Congruences.{IsCongruent_add, IsCongruent_minus, IsCongruent_multiply, IsCongruent_of, IsCongruent_refl, IsCongruent_sym, IsCongruent_trans}
use Rattle.residues.proofs.Inverting.{IsDomain_prime, IsPrime_inverse}
use Rattle.residues.specs.Residues.{IsCongruent, IsDomain}

-- g 0 times row 0 and so on, at the place k
abbrev pub rows_sum : ℕ → (ℕ → ℕ) → (ℕ → ℕ → ℕ) → ℕ → ℕ
rows_sum zero g r k = 0
rows_sum (suc j) g r k = rows_sum j g r k + g j * r j k

-- rows that vanish at k
pub rows_sum_zero :
    {p : ℕ} (j : ℕ) (g : ℕ → ℕ) (r : ℕ → ℕ → ℕ) (k : ℕ) → ((l : ℕ) → l < j → IsCongruent p (g l) 0 ⊎ IsCongruent p (r l k) 0)
    → IsCongruent p (rows_sum j g r k) 0
rows_sum_zero {p} zero g r k h = IsCongruent_refl p 0
rows_sum_zero {p} (suc j) g r k h =
    IsCongruent_trans (IsCongruent_add (rows_sum_zero j g r k (λ l lt. h l (omega arith))) (term (h j (omega arith)))) (IsCongruent_of p (0 + 0) 0 (omega arith))
  where
    term : IsCongruent p (g j) 0 ⊎ IsCongruent p (r j k) 0 → IsCongruent p (g j * r j k) 0
    term (inl z) = IsCongruent_trans (IsCongruent_multiply z (IsCongruent_refl p (r j k))) (IsCongruent_of p (0 * r j k) 0 (omega arith))
    term (inr z) = IsCongruent_trans (IsCongruent_multiply (IsCongruent_refl p (g j)) z) (IsCongruent_of p (g j * 0) 0 (omega arith))

-- the sum at a place where only row l does not vanish, and is 1
rows_sum_one :
    {p : ℕ} (j : ℕ) (g : ℕ → ℕ) (r : ℕ → ℕ → ℕ) (k l : ℕ) → l < j → IsCongruent p (r l k) 1
    → ((i : ℕ) → i < j → (i ≡ l → ⊥) → IsCongruent p (g i) 0 ⊎ IsCongruent p (r i k) 0)
    → IsCongruent p (rows_sum j g r k) (g l)
rows_sum_one {p} zero g r k l lt one h = absurd (omega arith)
rows_sum_one {p} (suc j) g r k l lt one h =
    elim (cases_eq l j) [
      | inl e ↦ last e
      | inr ne ↦ earlier (rows_sum_one j g r k l (below l j lt ne) one (λ i il ni. h i (omega arith) ni)) (h j (omega arith) (λ e. ne (sym e)))
    ]
  where
    below : (l j : ℕ) → l < suc j → (l ≡ j → ⊥) → l < j
    below l j lt ne = elim (cases_lt l j) [
      | inl a ↦ a
      | inr b ↦ absurd (ne (omega arith))
    ]

    last : l ≡ j → IsCongruent p (rows_sum (suc j) g r k) (g l)
    last e =
        let z : IsCongruent p (rows_sum j g r k) 0 = rows_sum_zero j g r k (λ i il. h i (omega arith) (λ d. omega arith)) in
        let o : IsCongruent p (r j k) 1 = subst (λ x. IsCongruent p (r x k) 1) e one in
        subst (λ x. IsCongruent p (rows_sum (suc j) g r k) (g x)) (sym e)
        (IsCongruent_trans (IsCongruent_add z (IsCongruent_multiply (IsCongruent_refl p (g j)) o)) (IsCongruent_of p (0 + g j * 1) (g j) (omega arith)))

    earlier : IsCongruent p (rows_sum j g r k) (g l) → IsCongruent p (g j) 0 ⊎ IsCongruent p (r j k) 0 → IsCongruent p (rows_sum (suc j) g r k) (g l)
    earlier a (inl z) =
        IsCongruent_trans (IsCongruent_add a (IsCongruent_multiply z (IsCongruent_refl p (r j k)))) (IsCongruent_of p (g l + 0 * r j k) (g l) (omega arith))
    earlier a (inr z) =
        IsCongruent_trans (IsCongruent_add a (IsCongruent_multiply (IsCongruent_refl p (g j)) z)) (IsCongruent_of p (g l + g j * 0) (g l) (omega arith))

-- each row is 1 at a place of its own at which later rows vanish: a sum that vanishes at these places is by zeros
pub triangle_zero :
    {p : ℕ} (j : ℕ) (g : ℕ → ℕ) (r : ℕ → ℕ → ℕ) (q : ℕ → ℕ)
    → ((l : ℕ) → l < j → IsCongruent p (r l (q l)) 1)
    → ((l i : ℕ) → l < i → i < j → IsCongruent p (r i (q l)) 0)
    → ((l : ℕ) → l < j → IsCongruent p (rows_sum j g r (q l)) 0)
    → (l : ℕ) → l < j → IsCongruent p (g l) 0
triangle_zero {p} j g r q one later sums l lt = below (suc l) l (omega arith) lt
  where
    step :
        (l : ℕ) → l < j → ((i : ℕ) → i < l → i < j → IsCongruent p (g i) 0) → IsCongruent p (g l) 0
    step l lj earlier =
        IsCongruent_trans (IsCongruent_sym (rows_sum_one j g r (q l) l lj (one l lj) (λ i ij ne. at i ij ne (cases_lt i l)))) (sums l lj)
      where
        at : (i : ℕ) → i < j → (i ≡ l → ⊥) → (i < l) ⊎ (l ≤ i) → IsCongruent p (g i) 0 ⊎ IsCongruent p (r i (q l)) 0
        at i ij ne (inl il) = inl (earlier i il ij)
        at i ij ne (inr li) = elim (cases_lt l i) [
          | inl a ↦ inr (later l i a ij)
          | inr b ↦ absurd (ne (omega arith))
        ]

    below : (b l : ℕ) → l < b → l < j → IsCongruent p (g l) 0
    below zero l lb lj = absurd (omega arith)
    below (suc b) l lb lj = step l lj (λ i il ij. below b i (omega arith) ij)

-- g, but x at the place j
abbrev with_last : ℕ → ℕ → (ℕ → ℕ) → ℕ → ℕ
with_last j x g l = cond (nat_eq l j) x (g l)

with_last_at : (j x : ℕ) (g : ℕ → ℕ) → with_last j x g j ≡ x
with_last_at j x g = elim (eqb_tells j j) [
  | inl e ↦ ap (λ b. cond b x (g j)) e.0
  | inr e ↦ absurd (e.1 refl)
]

with_last_other : (j x : ℕ) (g : ℕ → ℕ) (l : ℕ) → l < j → with_last j x g l ≡ g l
with_last_other j x g l lt = elim (eqb_tells l j) [
  | inl e ↦ (let d = e.1 in absurd (omega (arith, d)))
  | inr e ↦ ap (λ b. cond b x (g l)) e.0
]

rows_sum_ext : (j : ℕ) (g h : ℕ → ℕ) (r : ℕ → ℕ → ℕ) (k : ℕ) → ((l : ℕ) → l < j → g l ≡ h l) → rows_sum j g r k ≡ rows_sum j h r k
rows_sum_ext zero g h r k e = refl
rows_sum_ext (suc j) g h r k e = ap₂ (λ x y. x + y * r j k) (rows_sum_ext j g h r k (λ l lt. e l (omega arith))) (e j (omega arith))

-- rows c l that have nothing behind the place l, and not 0 there: each vector is a sum of them
pub triangle_solve :
    {p : ℕ} → IsDomain p → (j : ℕ) (c : ℕ → ℕ → ℕ) → ((l : ℕ) → l < j → IsCongruent p (c l l) 0 → ⊥)
    → ((l k : ℕ) → l < j → l < k → IsCongruent p (c l k) 0)
    → (f : ℕ → ℕ) → (g : ℕ → ℕ) × ((k : ℕ) → k < j → IsCongruent p (f k) (rows_sum j g c k))
triangle_solve {p} domain zero c diagonal beyond f = ((λ l. 0), λ k lt. absurd (omega arith))
triangle_solve {p} domain (suc j) c diagonal beyond f =
    let inverse = IsPrime_inverse p (IsDomain_prime p domain) (c j j) (diagonal j (omega arith)) in
    let x = f j * inverse.0 in
    let ih = triangle_solve domain j c (λ l lt. diagonal l (omega arith)) (λ l k lt lk. beyond l k (omega arith) lk) (λ k. f k + (p - 1) * (x * c j k)) in
    (with_last j x ih.0, λ k lt. at inverse.0 inverse.1 ih.0 ih.1 k lt (cases_lt k j))
  where
    pos : 0 < p
    pos = let h : 1 < p = domain.above_one in omega arith

    at :
        (i : ℕ) → IsCongruent p (c j j * i) 1
        → (g : ℕ → ℕ) → ((k : ℕ) → k < j → IsCongruent p (f k + (p - 1) * (f j * i * c j k)) (rows_sum j g c k))
        → (k : ℕ) → k < suc j → (k < j) ⊎ (j ≤ k) → IsCongruent p (f k) (rows_sum (suc j) (with_last j (f j * i) g) c k)
    at i one g h k lt split =
        IsCongruent_trans (whole split)
        (IsCongruent_of p (rows_sum j g c k + f j * i * c j k) _
        (sym (ap₂ (λ a b. a + b * c j k) (rows_sum_ext j (with_last j (f j * i) g) g c k (λ l ll. with_last_other j (f j * i) g l ll)) (with_last_at j (f j * i) g))))
      where
        whole : (k < j) ⊎ (j ≤ k) → IsCongruent p (f k) (rows_sum j g c k + f j * i * c j k)
        whole (inl kj) =
            let y = f j * i * c j k in
            IsCongruent_trans (IsCongruent_of p (f k) (f k + 0) (omega arith))
            (IsCongruent_trans (IsCongruent_add (IsCongruent_refl p (f k)) (IsCongruent_sym (IsCongruent_minus p y pos)))
            (IsCongruent_trans (IsCongruent_of p (f k + (y + (p - 1) * y)) (f k + (p - 1) * y + y) (omega arith))
            (IsCongruent_add (h k kj) (IsCongruent_refl p y))))
        whole (inr jk) =
            let same : k ≡ j = omega arith in
            let z : IsCongruent p (rows_sum j g c j) 0 = rows_sum_zero j g c j (λ l lj. inr (beyond l j (omega arith) lj)) in
            subst (λ m. IsCongruent p (f m) (rows_sum j g c m + f j * i * c j m)) (sym same)
            (IsCongruent_trans (IsCongruent_of p (f j) (0 + f j * 1) (omega arith))
            (IsCongruent_trans (IsCongruent_add (IsCongruent_sym z) (IsCongruent_multiply (IsCongruent_refl p (f j)) (IsCongruent_sym one)))
            (IsCongruent_of p (rows_sum j g c j + f j * (c j j * i)) (rows_sum j g c j + f j * i * c j j) (omega arith))))
