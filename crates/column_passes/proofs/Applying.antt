-- Steps applied to vectors and columns
use Rattle.std.specs.Prelude.{nat_eq}
use Rattle.std.proofs.Common.{Bool, List, [], ap, arith, cond, false, get_or, inl, inr, length, map, refl, subst, suc, sym, true, zero, ℕ, ◌*◌, ◌++◌}
use Rattle.std.proofs.Common.{◌-◌, ◌<◌, ◌∙◌, ◌∷◌, ◌≡◌, ◌⊎◌}
use Rattle.residues.proofs.Congruences.{IsCongruent_add, IsCongruent_multiply, IsCongruent_of, IsCongruent_refl, IsCongruent_sym, IsCongruent_trans}
use Rattle.residues.specs.Residues.{IsCongruent}
use Rattle.monomials.proofs.Monomials.{degree-times, degree-unit, degree_zero}
use Rattle.monomials.specs.Exponents.{Exponents, degree, times, unit}
use Rattle.formal_sums.proofs.Linear.{IsLinear, linear_after, linear_same}
use Rattle.formal_sums.proofs.Sameness.{IsSame_append, IsSame_of, IsSame_refl, IsSame_scale, IsSame_trans}
use Rattle.formal_sums.proofs.WeightedSums.{indicator_other, key_cases, weighted_sum_zero_mod}
use Rattle.formal_sums.specs.FormalSums.{FormalSum, IsSame, Key, coefficient, indicator, product, scale, shift, weighted_sum}
use Rattle.minimal_laws.proofs.Clearing.{get_or-remove_at}
use Rattle.minimal_laws.proofs.Rows.{close, linear_cleared, linear_without_row, skip}
use Rattle.minimal_laws.proofs.Splitting.{length-images}
use Rattle.minimal_laws.specs.Cancellation.{AreSameColumns, cleared, component, remove_at, split_map, without_row}
use Rattle.minimal_laws.specs.Minimal.{IsConstantAt}
use Rattle.betti_laws.proofs.Constants.{HasNoConstant}
use Rattle.term_lists.specs.Rings.{variables}
use Rattle.term_lists.specs.declared.key.Key.{Key as CodeKey}
use Rattle.term_lists.specs.declared.ring.Ring.{Ring}
use Rattle.column_passes.specs.Passing.{AreFirstSteps, IsFirstStep, Pivot, applied, left_by, left_by_all}

abbrev Terms : Type 0
Terms = List (CodeKey × ℕ)

-- ---- columns one by one the same
module _ {n : ℕ} (p : ℕ) where
  pub columns_trans : (F G H : List (FormalSum n)) → AreSameColumns p F G → AreSameColumns p G H → AreSameColumns p F H
  columns_trans F G H a b = record { count = a.count ∙ b.count; each = λ i. IsSame_trans (a.each i) (b.each i) }

  length-removed : (c : ℕ) (F H : List (FormalSum n)) → length F ≡ length H → length (remove_at c F) ≡ length (remove_at c H)
  length-removed c [] [] e = refl
  length-removed c [] (y ∷ H) e = absurd (omega (arith, e))
  length-removed c (x ∷ F) [] e = absurd (omega (arith, e))
  length-removed zero (x ∷ F) (y ∷ H) e = omega (arith, e)
  length-removed (suc c) (x ∷ F) (y ∷ H) e = ap suc (length-removed c F H (omega (arith, e)))

  pub removed_columns : (c : ℕ) (F H : List (FormalSum n)) → AreSameColumns p F H → AreSameColumns p (remove_at c F) (remove_at c H)
  removed_columns c F H h = record {
    count = length-removed c F H h.count;
    each = λ i. IsSame_trans (IsSame_of p _ _ (get_or-remove_at c F i []))
        (IsSame_trans (h.each (skip c i)) (IsSame_of p _ _ (sym (get_or-remove_at c H i []))));
  }

  pub image_columns :
      (f g : FormalSum n → FormalSum n) → f [] ≡ [] → g [] ≡ [] → ((v w : FormalSum n) → IsSame p v w → IsSame p (f v) (g w))
      → (F H : List (FormalSum n)) → AreSameColumns p F H → AreSameColumns p (map f F) (map g H)
  image_columns f g fz gz both F H h = record {
    count = length-images f F ∙ h.count ∙ sym (length-images g H);
    each = λ i. IsSame_trans (IsSame_of p _ _ (image f fz F i))
        (IsSame_trans (both (get_or F i []) (get_or H i []) (h.each i)) (IsSame_of p _ _ (sym (image g gz H i))));
  }
    where
      image : (f : FormalSum n → FormalSum n) → f [] ≡ [] → (F : List (FormalSum n)) (i : ℕ) → get_or (map f F) i [] ≡ f (get_or F i [])
      image f z [] i = sym z
      image f z (v ∷ F) zero = refl
      image f z (v ∷ F) (suc i) = image f z F i

  pub product_by : 0 < p → (u v w : FormalSum n) → IsSame p v w → IsSame p (product u v) (product u w)
  product_by pos [] v w e = IsSame_refl p []
  product_by pos (t ∷ u) v w e = IsSame_append (IsSame_scale pos t.1 t.0.1 e) (product_by pos u v w e)

  -- a vector cleared by the same column
  pub cleared_by : 0 < p → (r s : ℕ) (w w' v : FormalSum n) → IsSame p w w' → IsSame p (cleared p r s w v) (cleared p r s w' v)
  cleared_by pos r s w w' v e = IsSame_append (IsSame_refl p v) (product_by pos (scale ((p - 1) * s) (unit n) (component r v)) w w' e)

  -- ---- vectors without constants
  pub no_constant_at : (v : FormalSum n) (r : ℕ) → HasNoConstant p v → IsConstantAt p v r → ⊥
  no_constant_at v r none h = h.nonzero (none.by_row r)

  times_unit_left : (a b : Exponents n) → times a b ≡ unit n → a ≡ unit n
  times_unit_left a b e =
      degree_zero a (let x : degree (times a b) ≡ degree (unit n) = ap degree e in let y = degree-times a b in let z = degree-unit n in omega arith)

  -- cleared by whatever column, such a vector has none
  pub no_constant_cleared : (r s : ℕ) (w v : FormalSum n) → HasNoConstant p v → HasNoConstant p (cleared p r s w v)
  no_constant_cleared r s w v h = record {
    by_row = λ i. IsCongruent_trans (IsCongruent_of p _ _ ((linear_cleared p r s w).sums (indicator (i, unit n)) v))
        (weighted_sum_zero_mod _ v (λ k. at i k (key_cases (k.0, unit n) k)));
  }
    where
      row :
          (i : ℕ) (k : Key n) → ((k.0, unit n) ≡ k → ⊥) → (b : Bool)
          → IsCongruent p (cond b ((p - 1) * s * weighted_sum (λ l. indicator (i, unit n) (shift k.1 l)) w) 0) 0
      row i k ne false = IsCongruent_refl p 0
      row i k ne true =
          IsCongruent_trans
          (IsCongruent_multiply (IsCongruent_refl p ((p - 1) * s))
          (weighted_sum_zero_mod (λ l. indicator (i, unit n) (shift k.1 l)) w
          (λ l. inl (IsCongruent_of p _ 0
          (indicator_other (i, unit n) (shift k.1 l) (λ q. ne (ap (λ m. (k.0, m)) (sym (times_unit_left k.1 l.1 (sym (ap (λ z. z.1) q)))))))))))
          (IsCongruent_of p ((p - 1) * s * 0) 0 (omega arith))

      at :
          (i : ℕ) (k : Key n) → ((k.0, unit n) ≡ k) ⊎ ((k.0, unit n) ≡ k → ⊥)
          → IsCongruent p ((linear_cleared p r s w).adjoint (indicator (i, unit n)) k) 0 ⊎ IsCongruent p (coefficient v k) 0
      at i k (inl e) = inr (subst (λ x. IsCongruent p (coefficient v x) 0) e (h.by_row k.0))
      at i k (inr ne) = inl
          (IsCongruent_add (IsCongruent_of p (indicator (i, unit n) k) 0 (indicator_other (i, unit n) k (λ q. ne (ap (λ z. (k.0, z.1)) q))))
          (row i k ne (nat_eq k.0 r)))

  pub no_constant_without : (r : ℕ) (v : FormalSum n) → HasNoConstant p v → HasNoConstant p (without_row r v)
  no_constant_without r v h = record {
    by_row = λ i. IsCongruent_trans (IsCongruent_of p _ _ ((linear_without_row r).sums (indicator (i, unit n)) v))
        (weighted_sum_zero_mod _ v (λ k. at i k (key_cases (k.0, unit n) k)));
  }
    where
      row : (i : ℕ) (k : Key n) → ((k.0, unit n) ≡ k → ⊥) → (b : Bool) → IsCongruent p (cond b 0 (indicator (i, unit n) (close r k.0, k.1))) 0
      row i k ne true = IsCongruent_refl p 0
      row i k ne false = IsCongruent_of p _ 0 (indicator_other (i, unit n) (close r k.0, k.1) (λ q. ne (ap (λ z. (k.0, z.1)) q)))

      at :
          (i : ℕ) (k : Key n) → ((k.0, unit n) ≡ k) ⊎ ((k.0, unit n) ≡ k → ⊥)
          → IsCongruent p ((linear_without_row r).adjoint (indicator (i, unit n)) k) 0 ⊎ IsCongruent p (coefficient v k) 0
      at i k (inl e) = inr (subst (λ x. IsCongruent p (coefficient v x) 0) e (h.by_row k.0))
      at i k (inr ne) = inl (row i k ne (nat_eq k.0 r))

  pub no_constant_zero : HasNoConstant {n = n} p []
  no_constant_zero = record { by_row = λ i. IsCongruent_refl p 0 }

-- ---- steps
module _ (ring : Ring) where
  abbrev N : ℕ
  N = variables ring

  abbrev P : ℕ
  P = ring.modulus.value

  pub linear_applied : (s : Pivot (variables ring)) → IsLinear (applied ring s)
  linear_applied s = linear_after (linear_without_row s.row) (linear_cleared ring.modulus.value s.row s.inverse s.column)

  pub applied_same : 0 < ring.modulus.value → (s : Pivot (variables ring)) (v w : FormalSum (variables ring)) → IsSame ring.modulus.value v w
      → IsSame ring.modulus.value (applied ring s v) (applied ring s w)
  applied_same pos s v w e = linear_same pos (linear_applied s) e

  pub left_end : (steps : List (Pivot (variables ring))) (s : Pivot (variables ring)) (F : List (FormalSum (variables ring)))
      → left_by_all ring (steps ++ s ∷ []) F ≡ left_by ring s (left_by_all ring steps F)
  left_end [] s F = refl
  left_end (t ∷ steps) s F = left_end steps s (left_by ring t F)

  pub first_end :
      (F : List (FormalSum (variables ring))) (steps : List (Pivot (variables ring))) (s : Pivot (variables ring)) → AreFirstSteps ring F steps
      → IsFirstStep ring (left_by_all ring steps F) s
      → AreFirstSteps ring F (steps ++ s ∷ [])
  first_end F [] s h f = (f, tt)
  first_end F (t ∷ steps) s h f = (h.0, first_end (left_by ring t F) steps s h.1 f)

  pub left_same :
      0 < ring.modulus.value → (s : Pivot (variables ring)) (F H : List (FormalSum (variables ring))) → AreSameColumns ring.modulus.value F H
      → AreSameColumns ring.modulus.value (left_by ring s F) (left_by ring s H)
  left_same pos s F H h =
      image_columns ring.modulus.value (applied ring s) (applied ring s) refl refl (λ v w e. applied_same pos s v w e) _ _
      (removed_columns ring.modulus.value s.index F H h)

  -- a split of the laws leaves what the step leaves
  pub split_columns_same :
      0 < ring.modulus.value → (s : Pivot (variables ring)) (F : List (FormalSum (variables ring))) (degrees : List ℕ) → IsFirstStep ring F s
      → AreSameColumns ring.modulus.value (split_map ring.modulus.value s.row s.index s.inverse (record { columns = F; degrees = degrees })).columns
      (left_by ring s F)
  split_columns_same pos s F degrees f =
      let p = ring.modulus.value in
      image_columns p (λ v. without_row s.row (cleared p s.row s.inverse (get_or F s.index []) v)) (applied ring s) refl refl
      (λ v w e. IsSame_trans (linear_same pos (linear_without_row s.row) (cleared_by p pos s.row s.inverse _ _ v f.column)) (applied_same pos s v w e)) _ _
      (record { count = refl; each = λ i. IsSame_refl p _ })

-- ---- a constant of the same vector
pub constant_there : {n : ℕ} (p : ℕ) (v w : FormalSum n) (r : ℕ) → IsSame p v w → IsConstantAt p v r → IsConstantAt p w r
constant_there {n} p v w r e h = record {
  nonzero = λ z. h.nonzero (IsCongruent_trans (e.by_key (r, unit n)) z);
  alone = λ m ne. IsCongruent_trans (IsCongruent_sym (e.by_key (r, m))) (h.alone m ne);
}
