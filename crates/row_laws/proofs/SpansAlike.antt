-- Lists of rows with one span
use Rattle.std.proofs.Common.{List, [], ap, arith, get_or, inl, inr, length, subst, suc, sym, ℕ, ◌*◌, ◌++◌, ◌+◌, ◌-◌, ◌<◌, ◌∙◌, ◌∷◌, ◌≡◌, ◌⊎◌}
use Rattle.std.proofs.lemmas.Grind.{get_or_moved}
use Rattle.std.proofs.lemmas.List.Sorted.{IsPermutation-sym}
use Rattle.std.specs.List.Sorted.{IsPermutation, apply_swaps}
use Rattle.residues.proofs.Congruences.{IsCongruent_add, IsCongruent_minus, IsCongruent_multiply, IsCongruent_of, IsCongruent_refl, IsCongruent_trans}
use Rattle.residues.specs.Residues.{IsCongruent}
use Rattle.monomials.specs.Exponents.{unit}
use Rattle.formal_sums.proofs.Sameness.{IsSame_sym, coefficient-scale_unit}
use Rattle.formal_sums.proofs.WeightedSums.{coefficient-append}
use Rattle.formal_sums.specs.FormalSums.{FormalSum, IsSame, Key, coefficient, scale}
use Rattle.bases.proofs.MoreMembers.{goes_or_stays, was_there}
use Rattle.row_laws.proofs.RowSpans.{IsInSpan_append, IsInSpan_itself, IsInSpan_same, IsInSpan_scale, IsInSpan_through}
use Rattle.row_laws.specs.Rows.{HasSameSpan, IsInSpan}

pub HasSameSpan_vectors :
    {n p : ℕ} (M E : List (FormalSum n)) → HasSameSpan p M E → (v : FormalSum n)
    → (IsInSpan p M v → IsInSpan p E v) × (IsInSpan p E v → IsInSpan p M v)
HasSameSpan_vectors M E h v = (IsInSpan_through E M h.inside v, IsInSpan_through M E h.outside v)

pub HasSameSpan_sym : {n p : ℕ} (M E : List (FormalSum n)) → HasSameSpan p M E → HasSameSpan p E M
HasSameSpan_sym M E h = record { inside = h.outside; outside = h.inside }

pub HasSameSpan_trans :
    {n p : ℕ} (L M E : List (FormalSum n)) → HasSameSpan p L M → HasSameSpan p M E → HasSameSpan p L E
HasSameSpan_trans L M E h g = record {
  inside = λ i lt. IsInSpan_through E M g.inside (get_or L i []) (h.inside i lt);
  outside = λ i lt. IsInSpan_through L M h.outside (get_or E i []) (g.outside i lt);
}

moved :
    {n p : ℕ} (M E : List (FormalSum n)) → IsPermutation M E → (i : ℕ) → i < length E
    → IsInSpan p M (get_or E i [])
moved {n} {p} M E h i lt = go (get_or_moved M h.moves i [] h.below (subst (λ L. i < length L) h.is lt))
  where
    go :
        (get_or (apply_swaps M h.moves) i [] ≡ get_or (apply_swaps M h.moves) i []) × ((j : ℕ) × (j < length M) × (get_or (apply_swaps M h.moves) i [] ≡ get_or M j []))
        → IsInSpan p M (get_or E i [])
    go (e, (j, lj, d)) = subst (IsInSpan p M) (sym (ap (λ L. get_or L i []) h.is ∙ d)) (IsInSpan_itself p M j)

pub HasSameSpan_permuted : {n p : ℕ} (M E : List (FormalSum n)) → IsPermutation M E → HasSameSpan p M E
HasSameSpan_permuted M E h = record { inside = moved E M (IsPermutation-sym M E h); outside = moved M E h }

-- the rows beside r are in the span with any row in its place
beside :
    {n p : ℕ} (A B : List (FormalSum n)) (t : FormalSum n) (i : ℕ) → i < length (A ++ B)
    → IsInSpan p (A ++ (t ∷ B)) (get_or (A ++ B) i [])
beside {n} {p} A B t i lt = go (was_there A B t i lt)
  where
    go :
        (j : ℕ) × (j < length (A ++ (t ∷ B))) × (get_or (A ++ (t ∷ B)) j [] ≡ get_or (A ++ B) i [])
        → IsInSpan p (A ++ (t ∷ B)) (get_or (A ++ B) i [])
    go (j, lj, e) = subst (IsInSpan p (A ++ (t ∷ B))) e (IsInSpan_itself p (A ++ (t ∷ B)) j)

-- what holds of r and the rows beside it
each_row :
    {n : ℕ} (P : FormalSum n → Type 0) (A B : List (FormalSum n)) (r : FormalSum n) → P r
    → ((i : ℕ) → i < length (A ++ B) → P (get_or (A ++ B) i [])) → (j : ℕ) → j < length (A ++ (r ∷ B))
    → P (get_or (A ++ (r ∷ B)) j [])
each_row {n} P A B r one others j lt = go (goes_or_stays A B r j lt)
  where
    go :
        (get_or (A ++ (r ∷ B)) j [] ≡ r) ⊎ ((i : ℕ) × (i < length (A ++ B)) × (get_or (A ++ B) i [] ≡ get_or (A ++ (r ∷ B)) j []))
        → P (get_or (A ++ (r ∷ B)) j [])
    go (inl e) = subst P (sym e) one
    go (inr (i, li, e)) = subst P e (others i li)

-- the row itself
middle : {n p : ℕ} (A B : List (FormalSum n)) (r : FormalSum n) → IsInSpan p (A ++ (r ∷ B)) r
middle {n} {p} [] B r = IsInSpan_itself p (r ∷ B) 0
middle {n} {p} (a ∷ A) B r = IsInSpan_through (a ∷ (A ++ (r ∷ B))) (A ++ (r ∷ B)) (λ i lt. IsInSpan_itself p (a ∷ (A ++ (r ∷ B))) (suc i)) r (middle A B r)

-- a row without coefficients
pub HasSameSpan_dropped :
    {n p : ℕ} (A B : List (FormalSum n)) (r : FormalSum n) → IsSame p r []
    → HasSameSpan p (A ++ (r ∷ B)) (A ++ B)
HasSameSpan_dropped {n} {p} A B r z = record {
  inside = each_row (IsInSpan p (A ++ B)) A B r (record { residues = []; sums = IsSame_sym z }) (λ i lt. IsInSpan_itself p (A ++ B) i);
  outside = beside A B r;
}

-- d times c times x, less y, is x where c d is 1 and the sum was x + y
undone : (p c d x y : ℕ) → 0 < p → IsCongruent p (c * d) 1 → IsCongruent p (d * (c * (x + y)) + (p - 1) * y) x
undone p c d x y pos one =
    IsCongruent_trans (IsCongruent_of p (d * (c * (x + y)) + (p - 1) * y) ((c * d) * (x + y) + (p - 1) * y) (again c d x y ((p - 1) * y)))
    (IsCongruent_trans (IsCongruent_add (IsCongruent_multiply one (IsCongruent_refl p (x + y))) (IsCongruent_refl p ((p - 1) * y)))
    (IsCongruent_trans (IsCongruent_of p (1 * (x + y) + (p - 1) * y) (x + (y + (p - 1) * y)) (omega arith))
    (IsCongruent_trans (IsCongruent_add (IsCongruent_refl p x) (IsCongruent_minus p y pos)) (IsCongruent_of p (x + 0) x (omega arith)))))
  where
    again : (c d x y z : ℕ) → d * (c * (x + y)) + z ≡ (c * d) * (x + y) + z
    again c d x y z = grind arith

-- a row replaced
pub HasSameSpan_replaced :
    {n p : ℕ} (c d : ℕ) (A B : List (FormalSum n)) (r s t : FormalSum n) → IsCongruent p (c * d) 1 → 0 < p
    → IsInSpan p (A ++ B) s → IsSame p t (scale c (unit n) (r ++ s))
    → HasSameSpan p (A ++ (r ∷ B)) (A ++ (t ∷ B))
HasSameSpan_replaced {n} {p} c d A B r s t one pos span same = record {
  inside = each_row (IsInSpan p (A ++ (t ∷ B))) A B r back (beside A B t);
  outside = each_row (IsInSpan p (A ++ (r ∷ B))) A B t forth (beside A B r);
}
  where
    with_row : (x : FormalSum n) → IsInSpan p (A ++ (x ∷ B)) s
    with_row x = IsInSpan_through (A ++ (x ∷ B)) (A ++ B) (beside A B x) s span

    forth : IsInSpan p (A ++ (r ∷ B)) t
    forth = IsInSpan_same (A ++ (r ∷ B)) (scale c (unit n) (r ++ s)) t (IsSame_sym same) (IsInSpan_scale (A ++ (r ∷ B)) c (r ++ s) (IsInSpan_append (A ++ (r ∷ B)) r s (middle A B r) (with_row r)))

    undo : IsSame p (scale d (unit n) t ++ scale (p - 1) (unit n) s) r
    undo = record { by_key = at }
      where
        at : (k : Key n) → IsCongruent p (coefficient (scale d (unit n) t ++ scale (p - 1) (unit n) s) k) (coefficient r k)
        at k =
            let x = coefficient r k in
            let y = coefficient s k in
            let e : coefficient (scale c (unit n) (r ++ s)) k ≡ c * (x + y) = coefficient-scale_unit c (r ++ s) k ∙ ap (λ z. c * z) (coefficient-append r s k) in
            IsCongruent_trans (IsCongruent_of p _ (d * coefficient t k + (p - 1) * y) (coefficient-append (scale d (unit n) t) (scale (p - 1) (unit n) s) k ∙ ap (λ z. z + coefficient (scale (p - 1) (unit n) s) k) (coefficient-scale_unit d t k) ∙ ap (λ z. d * coefficient t k + z) (coefficient-scale_unit (p - 1) s k)))
            (IsCongruent_trans (IsCongruent_add (IsCongruent_multiply (IsCongruent_refl p d) (IsCongruent_trans (same.by_key k) (IsCongruent_of p _ _ e))) (IsCongruent_refl p ((p - 1) * y)))
            (undone p c d x y pos one))

    back : IsInSpan p (A ++ (t ∷ B)) r
    back = IsInSpan_same (A ++ (t ∷ B)) (scale d (unit n) t ++ scale (p - 1) (unit n) s) r undo (IsInSpan_append (A ++ (t ∷ B)) (scale d (unit n) t) (scale (p - 1) (unit n) s) (IsInSpan_scale (A ++ (t ∷ B)) d t (middle A B t)) (IsInSpan_scale (A ++ (t ∷ B)) (p - 1) s (with_row t)))
