-- The constants of a cancellation are a cancellation of the constants
use Rattle.std.proofs.Common.{Bool, List, [], ap, arith, cond, false, get_or, inl, inr, length, map, refl, subst, suc, sym, true, true≢false, zero, ℕ, ◌&&◌, ◌*◌, ◌+◌, ◌-◌, ◌<◌, ◌∙◌, ◌∷◌, ◌≡◌, ◌≤◌, ◌⊎◌}
use Rattle.std.specs.Prelude.{drop, nat_eq}
use Rattle.residues.proofs.Congruences.{IsCongruent_decide, IsCongruent_of, IsCongruent_trans}
use Rattle.residues.specs.Residues.{IsCongruent, IsDomain}
use Rattle.monomials.proofs.Monomials.{same_exponents-refl, same_exponents-true, times-unit}
use Rattle.monomials.proofs.Weighing.{weighted_degree-unit, weighted_degree_zero}
use Rattle.monomials.specs.Exponents.{Exponents, same_exponents, times, unit}
use Rattle.monomials.specs.Weights.{weighted_degree}
use Rattle.formal_sums.proofs.Linear.{linear_same, weighted_sum_nothing}
use Rattle.formal_sums.proofs.Sameness.{IsSame_of, IsSame_refl, IsSame_sym, IsSame_trans, IsSame_weighted_sum}
use Rattle.formal_sums.proofs.WeightedSums.{indicator_other, weighted_sum_ext}
use Rattle.formal_sums.specs.FormalSums.{FormalSum, IsSame, Key, coefficient, indicator, shift, weighted_sum}
use Rattle.minimal_laws.proofs.Cancelling.{cancelled}
use Rattle.minimal_laws.proofs.Grading.{homogeneous_images, split_graded}
use Rattle.minimal_laws.proofs.OneCancellation.{one_cancellation, same_maps_trans}
use Rattle.minimal_laws.proofs.Rows.{close, linear_cleared, linear_without_row, weighted_sum_without_row}
use Rattle.minimal_laws.proofs.SameMaps.{same_graded}
use Rattle.minimal_laws.proofs.Searching.{cancellation_exists}
use Rattle.minimal_laws.proofs.Splitting.{get_or-images, length-images}
use Rattle.minimal_laws.specs.Cancellation.{AreSameColumns, AreSameMaps, IsCancelled, IsFirstConstant, cleared, done, keep, remove_at, split, step, trimmed, without_column, without_row, without_rows}
use Rattle.minimal_laws.specs.Gradings.{AreExact, AreGraded, GradedMap, GradedMaps, IsHomogeneous, first_columns}
use Rattle.minimal_laws.specs.Minimal.{HasConstant, IsConstantAt, IsMinimal, Presents}
use Rattle.betti_laws.proofs.Constants.{times_unit_left, weighted_sum_part}
use Rattle.betti_laws.proofs.Tables.{betti, domain_positive}
use Rattle.betti_laws.specs.ConstantParts.{constant_map, constant_maps, constant_part}
use Rattle.betti_laws.specs.Tables.{step_count}

two_tests : (b c : Bool) → ◌≡◌ {A = ℕ} (cond c (cond (b && c) 1 0) 0) (cond (b && c) 1 0)
two_tests true true = refl
two_tests true false = refl
two_tests false true = refl
two_tests false false = refl

two_turned : (b c : Bool) (x : ℕ) → ◌≡◌ {A = ℕ} (cond b 0 (cond c x 0)) (cond c (cond b 0 x) 0)
two_turned true true x = refl
two_turned true false x = refl
two_turned false true x = refl
two_turned false false x = refl

-- ---- vectors
module _ {n : ℕ} where
  pub coefficient_unit : (v : FormalSum n) (i : ℕ) → coefficient (constant_part v) (i, unit n) ≡ coefficient v (i, unit n)
  coefficient_unit v i = weighted_sum_part (indicator (i, unit n)) v ∙ weighted_sum_ext _ _ (λ k. two_tests (nat_eq i k.0) (same_exponents (unit n) k.1)) v

  coefficient_other :
      (v : FormalSum n) (i : ℕ) (m : Exponents n) → (m ≡ unit n → ⊥) → coefficient (constant_part v) (i, m) ≡ 0
  coefficient_other v i m ne = weighted_sum_part (indicator (i, m)) v ∙ weighted_sum_ext _ (λ k. 0) (λ k. at k (same_exponents (unit n) k.1) refl) v ∙ weighted_sum_nothing v
    where
      at : (k : Key n) (b : Bool) → same_exponents (unit n) k.1 ≡ b → cond b (indicator (i, m) k) 0 ≡ 0
      at k true e = indicator_other (i, m) k (λ q. ne (ap (λ z. z.1) q ∙ sym (same_exponents-true (unit n) k.1 e)))
      at k false e = refl

  module _ (p : ℕ) (pos : 0 < p) where
    part_same : (v w : FormalSum n) → IsSame p v w → IsSame p (constant_part v) (constant_part w)
    part_same v w e = record {
      by_key = λ x.
          let f = λ (k : Key n). cond (same_exponents (unit n) k.1) (indicator x k) 0 in
          IsCongruent_trans (IsCongruent_of p _ _ (weighted_sum_part (indicator x) v)) (IsCongruent_trans (IsSame_weighted_sum pos f v w e) (IsCongruent_of p _ _ (sym (weighted_sum_part (indicator x) w))));
    }

    part_without_row : (r : ℕ) (v : FormalSum n) → IsSame p (constant_part (without_row r v)) (without_row r (constant_part v))
    part_without_row r v = record {
      by_key = λ x.
          let f = λ (k : Key n). cond (same_exponents (unit n) k.1) (indicator x k) 0 in
          let g = λ (k : Key n). cond (nat_eq k.0 r) 0 (indicator x (close r k.0, k.1)) in
          IsCongruent_of p _ _
          (weighted_sum_part (indicator x) (without_row r v) ∙ weighted_sum_without_row r f v
          ∙ weighted_sum_ext _ _ (λ k. two_turned (nat_eq k.0 r) (same_exponents (unit n) k.1) (indicator x (close r k.0, k.1))) v
          ∙ sym (weighted_sum_part g v) ∙ sym (weighted_sum_without_row r (indicator x) (constant_part v)));
    }

    part_cleared :
        (r s : ℕ) (w v : FormalSum n)
        → IsSame p (constant_part (cleared p r s w v)) (cleared p r s (constant_part w) (constant_part v))
    part_cleared r s w v = record {
      by_key = λ x.
          let f = λ (k : Key n). cond (same_exponents (unit n) k.1) (indicator x k) 0 in
          let g = λ (k : Key n). indicator x k + cond (nat_eq k.0 r) ((p - 1) * s * weighted_sum (λ l. indicator x (shift k.1 l)) (constant_part w)) 0 in
          IsCongruent_of p _ _
          (weighted_sum_part (indicator x) (cleared p r s w v) ∙ (linear_cleared p r s w).sums f v
          ∙ weighted_sum_ext _ _ (λ k. at x k (same_exponents (unit n) k.1) refl) v
          ∙ sym (weighted_sum_part g v) ∙ sym ((linear_cleared p r s (constant_part w)).sums (indicator x) (constant_part v)));
    }
      where
        -- of a constant's multiple only the constants are constants
        inside :
            (x k : Key n) → same_exponents (unit n) k.1 ≡ true
            → weighted_sum (λ l. cond (same_exponents (unit n) (times k.1 l.1)) (indicator x (shift k.1 l)) 0) w ≡ weighted_sum (λ l. indicator x (shift k.1 l)) (constant_part w)
        inside x k e =
            weighted_sum_ext _ _ (λ l. ap (λ m. cond (same_exponents (unit n) m) (indicator x (shift k.1 l)) 0) (ap (λ a. times a l.1) (sym (same_exponents-true (unit n) k.1 e)) ∙ times-unit l.1)) w
            ∙ sym (weighted_sum_part (λ l. indicator x (shift k.1 l)) w)

        -- another multiple has no constants
        outside :
            (x k : Key n) → same_exponents (unit n) k.1 ≡ false
            → weighted_sum (λ l. cond (same_exponents (unit n) (times k.1 l.1)) (indicator x (shift k.1 l)) 0) w ≡ 0
        outside x k e = weighted_sum_ext _ (λ l. 0) (λ l. zero_at l (same_exponents (unit n) (times k.1 l.1)) refl) w ∙ weighted_sum_nothing w
          where
            zero_at :
                (l : Key n) (c : Bool) → same_exponents (unit n) (times k.1 l.1) ≡ c → cond c (indicator x (shift k.1 l)) 0 ≡ 0
            zero_at l true q =
                let u : k.1 ≡ unit n = times_unit_left k.1 l.1 (sym (same_exponents-true (unit n) (times k.1 l.1) q)) in
                absurd (true≢false (sym (ap (same_exponents (unit n)) u ∙ same_exponents-refl (unit n)) ∙ e))
            zero_at l false q = refl

        nothing : (b : Bool) (z q : ℕ) → z ≡ 0 → 0 + cond b (q * z) 0 ≡ 0
        nothing true z q e = rw e (omega arith)
        nothing false z q e = refl

        at :
            (x k : Key n) (b : Bool) → same_exponents (unit n) k.1 ≡ b
            → cond b (indicator x k) 0 + cond (nat_eq k.0 r) ((p - 1) * s * weighted_sum (λ l. cond (same_exponents (unit n) (times k.1 l.1)) (indicator x (shift k.1 l)) 0) w) 0 ≡ cond b (indicator x k + cond (nat_eq k.0 r) ((p - 1) * s * weighted_sum (λ l. indicator x (shift k.1 l)) (constant_part w)) 0) 0
        at x k true e = ap (λ z. indicator x k + cond (nat_eq k.0 r) ((p - 1) * s * z) 0) (inside x k e)
        at x k false e = nothing (nat_eq k.0 r) (weighted_sum (λ l. cond (same_exponents (unit n) (times k.1 l.1)) (indicator x (shift k.1 l)) 0) w) ((p - 1) * s) (outside x k e)

    -- ---- constants
    pub constant_there : (v : FormalSum n) (r : ℕ) → IsConstantAt p v r → IsConstantAt p (constant_part v) r
    constant_there v r h = record {
      nonzero = λ z. h.nonzero (IsCongruent_trans (IsCongruent_of p _ _ (sym (coefficient_unit v r))) z);
      alone = λ m ne. IsCongruent_of p _ 0 (coefficient_other v r m ne);
    }

    pub constant_back :
        (ws rows : List ℕ) (d : ℕ) (v : FormalSum n) → IsHomogeneous ws p rows d v → (r : ℕ) → IsConstantAt p (constant_part v) r
        → IsConstantAt p v r
    constant_back ws rows d v h r c = record {
      nonzero = there;
      alone = λ m ne. at m ne (IsCongruent_decide p (coefficient v (r, m)));
    }
      where
        there : IsCongruent p (coefficient v (r, unit n)) 0 → ⊥
        there z = c.nonzero (IsCongruent_trans (IsCongruent_of p _ _ (coefficient_unit v r)) z)

        at :
            (m : Exponents n) → (m ≡ unit n → ⊥)
            → IsCongruent p (coefficient v (r, m)) 0 ⊎ (IsCongruent p (coefficient v (r, m)) 0 → ⊥)
            → IsCongruent p (coefficient v (r, m)) 0
        at m ne (inl y) = y
        at m ne (inr y) = absurd (ne (weighted_degree_zero ws m (let a = h.degrees (r, unit n) there in let b = h.degrees (r, m) y in let e = weighted_degree-unit n ws in omega arith)))

    has_there : (maps : List (GradedMap n)) (k c r : ℕ) → HasConstant p maps k c r → HasConstant p (map constant_map maps) k c r
    has_there [] k c r h = elim h [ ]
    has_there (M ∷ maps) zero c r h = (
      (let lt : c < length M.columns = h.0 in omega (arith, length-images constant_part M.columns)),
      subst (λ v. IsConstantAt p v r) (sym (get_or-images constant_part M.columns c [])) (constant_there (get_or M.columns c []) r h.1),
    )
    has_there (M ∷ maps) (suc k) c r h = has_there maps k c r h

    has_back :
        (ws rows : List ℕ) (maps : List (GradedMap n)) (k c r : ℕ) → AreGraded ws p rows maps
        → HasConstant p (map constant_map maps) k c r → HasConstant p maps k c r
    has_back ws rows [] k c r g h = elim h [ ]
    has_back ws rows (M ∷ maps) zero c r g h =
        let lt : c < length M.columns = let q : c < length (map constant_part M.columns) = h.0 in omega (arith, length-images constant_part M.columns) in
        (lt, constant_back ws rows (get_or M.degrees c 0) (get_or M.columns c []) (g.0.each c lt) r (subst (λ v. IsConstantAt p v r) (get_or-images constant_part M.columns c []) h.1))
    has_back ws rows (M ∷ maps) (suc k) c r g h = has_back ws M.degrees maps k c r g.1 h

    first_there :
        (ws rows : List ℕ) (maps : List (GradedMap n)) (k c r : ℕ) → AreGraded ws p rows maps → IsFirstConstant p maps k c r
        → IsFirstConstant p (map constant_map maps) k c r
    first_there ws rows maps k c r g f = record {
      constant = has_there maps k c r f.constant;
      first_map = λ l b q lt h. f.first_map l b q lt (has_back ws rows maps l b q g h);
      first_column = λ b q lt h. f.first_column b q lt (has_back ws rows maps k b q g h);
      first_row = λ q lt h. f.first_row q lt (has_back ws rows maps k c q g h);
    }

    column_there :
        (k c : ℕ) (maps : List (GradedMap n))
        → get_or (first_columns (drop k (map constant_map maps))) c [] ≡ constant_part (get_or (first_columns (drop k maps)) c [])
    column_there zero c [] = refl
    column_there (suc k) c [] = refl
    column_there zero c (M ∷ maps) = get_or-images constant_part M.columns c []
    column_there (suc k) c (M ∷ maps) = column_there k c maps

    -- ---- lists of columns
    removed_images : (c : ℕ) (F : List (FormalSum n)) → remove_at c (map constant_part F) ≡ map constant_part (remove_at c F)
    removed_images c [] = refl
    removed_images zero (v ∷ F) = refl
    removed_images (suc c) (v ∷ F) = ap (λ H. constant_part v ∷ H) (removed_images c F)

    -- two maps of columns that agree on constant parts
    images_agree :
        (f g : FormalSum n → FormalSum n) → f [] ≡ [] → g [] ≡ [] → ((v : FormalSum n) → IsSame p (g (constant_part v)) (constant_part (f v)))
        → (F : List (FormalSum n)) → AreSameColumns p (map g (map constant_part F)) (map constant_part (map f F))
    images_agree f g fz gz both F = record {
      count = length-images g (map constant_part F) ∙ length-images constant_part F ∙ sym (length-images f F) ∙ sym (length-images constant_part (map f F));
      each = λ i. at F i;
    }
      where
        at :
            (F : List (FormalSum n)) (i : ℕ)
            → IsSame p (get_or (map g (map constant_part F)) i []) (get_or (map constant_part (map f F)) i [])
        at [] i = IsSame_refl p []
        at (v ∷ F) zero = both v
        at (v ∷ F) (suc i) = at F i

    part_through :
        (r s : ℕ) (w v : FormalSum n)
        → IsSame p (without_row r (cleared p r s (constant_part w) (constant_part v))) (constant_part (without_row r (cleared p r s w v)))
    part_through r s w v = IsSame_sym (IsSame_trans (part_without_row r (cleared p r s w v)) (linear_same pos (linear_without_row r) (part_cleared r s w v)))

    -- ---- the split
    pub columns_split :
        (r c s : ℕ) (F : List (FormalSum n))
        → AreSameColumns p (map (λ v. without_row r (cleared p r s (get_or (map constant_part F) c []) v)) (remove_at c (map constant_part F))) (map constant_part (map (λ v. without_row r (cleared p r s (get_or F c []) v)) (remove_at c F)))
    columns_split r c s F =
        subst (λ w. AreSameColumns p (map (λ v. without_row r (cleared p r s w v)) (remove_at c (map constant_part F))) (map constant_part (map (λ v. without_row r (cleared p r s (get_or F c []) v)) (remove_at c F)))) (sym (get_or-images constant_part F c []))
        (subst (λ H. AreSameColumns p (map (λ v. without_row r (cleared p r s (constant_part (get_or F c [])) v)) H) (map constant_part (map (λ v. without_row r (cleared p r s (get_or F c []) v)) (remove_at c F)))) (sym (removed_images c F))
        (images_agree (λ v. without_row r (cleared p r s (get_or F c []) v)) (λ v. without_row r (cleared p r s (constant_part (get_or F c [])) v)) refl refl (part_through r s (get_or F c [])) (remove_at c F)))

    same_columns : (F : List (FormalSum n)) → AreSameColumns p F F
    same_columns F = record { count = refl; each = λ i. IsSame_refl p (get_or F i []) }

    same_itself : (maps : List (GradedMap n)) → AreSameMaps p maps maps
    same_itself [] = tt
    same_itself (M ∷ maps) = (refl, same_columns M.columns, same_itself maps)

    rows_split :
        (c : ℕ) (maps : List (GradedMap n))
        → AreSameMaps p (without_rows c (map constant_map maps)) (map constant_map (without_rows c maps))
    rows_split c [] = tt
    rows_split c (M ∷ maps) = (refl, images_agree (without_row c) (without_row c) refl refl (λ v. IsSame_sym (part_without_row c v)) M.columns, same_itself (map constant_map maps))

    column_split :
        (k r : ℕ) (F : List (FormalSum n))
        → AreSameColumns p (without_column k r (map constant_part F)) (map constant_part (without_column k r F))
    column_split zero r F = subst (λ H. AreSameColumns p H (map constant_part (remove_at r F))) (sym (removed_images r F)) (same_columns (map constant_part (remove_at r F)))
    column_split (suc k) r F = same_columns (map constant_part F)

    split_there :
        (k r c s : ℕ) (rows : List ℕ) (maps : List (GradedMap n))
        → ((split p k r c s rows (map constant_map maps)).0 ≡ (split p k r c s rows maps).0) × AreSameMaps p (split p k r c s rows (map constant_map maps)).1 (map constant_map (split p k r c s rows maps).1)
    split_there k r c s rows [] = (refl, tt)
    split_there zero r c s rows (M ∷ maps) = (refl, (refl, columns_split r c s M.columns, rows_split c maps))
    split_there (suc k) r c s rows (M ∷ maps) =
        let more = split_there k r c s M.degrees maps in
        (refl, (more.0, column_split k r M.columns, more.1))

    -- ---- the end
    kept_there :
        (M : GradedMap n) (F : List (FormalSum n)) (maps : List (GradedMap n))
        → keep (constant_map M) (map constant_part F) (map constant_map maps) ≡ map constant_map (keep M F maps)
    kept_there M F (N ∷ maps) = refl
    kept_there M [] [] = refl
    kept_there M (v ∷ F) [] = refl

    trimmed_there : (maps : List (GradedMap n)) → trimmed (map constant_map maps) ≡ map constant_map (trimmed maps)
    trimmed_there [] = refl
    trimmed_there (M ∷ maps) = ap (keep (constant_map M) (map constant_part M.columns)) (trimmed_there maps) ∙ kept_there M M.columns (trimmed maps)

    maps_there :
        (maps others : List (GradedMap n)) → AreSameMaps p maps others
        → AreSameMaps p (map constant_map maps) (map constant_map others)
    maps_there [] [] h = tt
    maps_there [] (N ∷ others) h = elim h [ ]
    maps_there (M ∷ maps) [] h = elim h [ ]
    maps_there (M ∷ maps) (N ∷ others) h = (
      h.0,
      record {
        count = length-images constant_part M.columns ∙ h.1.count ∙ sym (length-images constant_part N.columns);
        each = λ i. IsSame_trans (IsSame_of p _ _ (get_or-images constant_part M.columns i []))
            (IsSame_trans (part_same (get_or M.columns i []) (get_or N.columns i []) (h.1.each i)) (IsSame_of p _ _ (sym (get_or-images constant_part N.columns i []))));
      },
      maps_there maps others h.2,
    )

    pub constants_cancelled :
        (ws : List ℕ) (C D : GradedMaps n) → IsCancelled p C D → AreGraded ws p C.positions C.maps
        → IsCancelled p (constant_maps C) (constant_maps D)
    constants_cancelled ws _ _ (done rows maps none) graded =
        subst (λ m. IsCancelled p (record { positions = rows; maps = map constant_map maps }) (record { positions = rows; maps = m })) (trimmed_there maps)
        (done rows (map constant_map maps) (λ k c r h. none k c r (has_back ws rows maps k c r graded h)))
    constants_cancelled ws _ _ (step rows maps others D k c r s first inverse same more) graded =
        let up = (split p k r c s rows maps).0 in
        let q = (split p k r c s rows maps).1 in
        let there = split_there k r c s rows maps in
        let next = constants_cancelled ws (record { positions = up; maps = others }) D more (same_graded p pos ws up q others same (split_graded p k c r s ws rows maps first.constant graded)) in
        step rows (map constant_map maps) (map constant_map others) (constant_maps D) k c r s (first_there ws rows maps k c r graded first)
        (IsCongruent_trans (IsCongruent_of p _ _ (ap (λ v. s * coefficient v (r, unit n)) (column_there k c maps) ∙ ap (λ x. s * x) (coefficient_unit (get_or (first_columns (drop k maps)) c []) r))) inverse)
        (same_maps_trans p _ (map constant_map q) (map constant_map others) there.1 (maps_there q others same))
        (subst (λ z. IsCancelled p (record { positions = z; maps = map constant_map others }) (constant_maps D)) (sym there.0) next)

  counts_there : (rows : List ℕ) (maps : List (GradedMap n)) (k d : ℕ) → step_count rows (map constant_map maps) k d ≡ step_count rows maps k d
  counts_there rows maps zero d = refl
  counts_there rows [] (suc k) d = refl
  counts_there rows (M ∷ maps) (suc k) d = counts_there M.degrees maps k d

  counts_same :
      (p : ℕ) (rows others : List ℕ) (maps more : List (GradedMap n)) (k d : ℕ) → rows ≡ others → AreSameMaps p maps more
      → step_count rows maps k d ≡ step_count others more k d
  counts_same p rows others maps more zero d e h = ap (λ x. step_count x maps zero d) e
  counts_same p rows others [] [] (suc k) d e h = refl
  counts_same p rows others [] (N ∷ more) (suc k) d e h = elim h [ ]
  counts_same p rows others (M ∷ maps) [] (suc k) d e h = elim h [ ]
  counts_same p rows others (M ∷ maps) (N ∷ more) (suc k) d e h = counts_same p M.degrees N.degrees maps more k d h.0 h.2

-- ---- grading
module _ {n : ℕ} (p : ℕ) where
  part_homogeneous : (ws rows : List ℕ) (d : ℕ) (v : FormalSum n) → IsHomogeneous ws p rows d v → IsHomogeneous ws p rows d (constant_part v)
  part_homogeneous ws rows d v h = record {
    rank = record { past = λ k le. past k le (same_exponents (unit n) k.1) refl };
    degrees = λ k nz. degrees k nz (same_exponents (unit n) k.1) refl;
  }
    where
      at_unit : (k : Key n) → same_exponents (unit n) k.1 ≡ true → coefficient (constant_part v) k ≡ coefficient v k
      at_unit k e =
          let u : unit n ≡ k.1 = same_exponents-true (unit n) k.1 e in
          ap (λ m. coefficient (constant_part v) (k.0, m)) (sym u) ∙ coefficient_unit v k.0 ∙ ap (λ m. coefficient v (k.0, m)) u

      at_other : (k : Key n) → same_exponents (unit n) k.1 ≡ false → coefficient (constant_part v) k ≡ 0
      at_other k e = coefficient_other v k.0 k.1 (λ q. true≢false (sym (ap (same_exponents (unit n)) q ∙ same_exponents-refl (unit n)) ∙ e))

      past : (k : Key n) → length rows ≤ k.0 → (b : Bool) → same_exponents (unit n) k.1 ≡ b → IsCongruent p (coefficient (constant_part v) k) 0
      past k le true e = IsCongruent_trans (IsCongruent_of p _ _ (at_unit k e)) (h.rank.past k le)
      past k le false e = IsCongruent_of p _ 0 (at_other k e)

      degrees :
          (k : Key n) → (IsCongruent p (coefficient (constant_part v) k) 0 → ⊥) → (b : Bool) → same_exponents (unit n) k.1 ≡ b
          → get_or rows k.0 0 + weighted_degree ws k.1 ≡ d
      degrees k nz true e = h.degrees k (λ z. nz (IsCongruent_trans (IsCongruent_of p _ _ (at_unit k e)) z))
      degrees k nz false e = absurd (nz (IsCongruent_of p _ 0 (at_other k e)))

  pub constants_graded : (ws rows : List ℕ) (maps : List (GradedMap n)) → AreGraded ws p rows maps → AreGraded ws p rows (map constant_map maps)
  constants_graded ws rows [] h = tt
  constants_graded ws rows (M ∷ maps) h = (
    homogeneous_images p constant_part refl rows rows M.degrees M.columns (part_homogeneous ws rows) h.0,
    constants_graded ws M.degrees maps h.1,
  )

module _ {n : ℕ} (p : ℕ) (domain : IsDomain p) where
  pub cancelled_constants :
      (ws : List ℕ) (C D : GradedMaps n) → IsCancelled p C D → AreGraded ws p C.positions C.maps
      → IsCancelled p (constant_maps C) (constant_maps D)
  cancelled_constants ws C D h graded = constants_cancelled p (domain_positive domain) ws C D h graded

  pub constant_table :
      (ws places : List ℕ) (A : List (FormalSum n)) (C D K E : GradedMaps n) → AreGraded ws p C.positions C.maps → AreExact p C.maps
      → Presents ws p C places A → K.positions ≡ C.positions → AreSameMaps p (map constant_map C.maps) K.maps → IsCancelled p K E
      → IsMinimal ws p D → Presents ws p D places A → (k d : ℕ)
      → step_count D.positions D.maps k d ≡ step_count E.positions E.maps k d
  constant_table ws places A C D K E graded exact P rows same h m Q k d =
      let pos = domain_positive domain in
      let some = cancellation_exists p domain C in
      let B = some.0 in
      let q = cancelled p pos places A C B some.1 graded exact P in
      let one = one_cancellation p pos (constant_maps C) K (constant_maps B) E (cancelled_constants ws C B some.1 graded) (sym rows, same) h in
      betti p domain places A D B m q.0 Q q.1 k d
      ∙ sym (counts_there B.positions B.maps k d)
      ∙ counts_same p B.positions E.positions (map constant_map B.maps) E.maps k d one.0 one.1
