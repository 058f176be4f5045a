-- A list of maps has one cancellation, up to the form of its vectors
use Rattle.std.proofs.Common.{List, [], ap, arith, get_or, inl, inr, length, map, refl, subst, suc, sym, zero, ℕ, ◌*◌, ◌-◌, ◌<◌, ◌∙◌, ◌∷◌, ◌≡◌, ◌⊎◌}
use Rattle.std.specs.Prelude.{drop}
use Rattle.residues.proofs.Congruences.{IsCongruent_multiply, IsCongruent_of, IsCongruent_refl, IsCongruent_sym, IsCongruent_trans}
use Rattle.residues.specs.Residues.{IsCongruent}
use Rattle.monomials.specs.Exponents.{unit}
use Rattle.formal_sums.proofs.Linear.{linear_same}
use Rattle.formal_sums.proofs.Multiplying.{IsSame_product}
use Rattle.formal_sums.proofs.Sameness.{IsSame_append, IsSame_of, IsSame_refl, IsSame_scale, IsSame_sym, IsSame_trans, coefficient-scale_unit}
use Rattle.formal_sums.specs.FormalSums.{Each, FormalSum, IsSame, coefficient, product, scale}
use Rattle.minimal_laws.proofs.Clearing.{get_or-remove_at}
use Rattle.minimal_laws.proofs.Rows.{skip, linear_component, linear_without_row}
use Rattle.minimal_laws.proofs.Splitting.{length-images}
use Rattle.minimal_laws.specs.Cancellation.{AreSameColumns, AreSameMaps, IsCancelled, IsFirstConstant, cleared, component, done, keep, remove_at, split, step, trimmed, without_column, without_row, without_rows}
use Rattle.minimal_laws.specs.Gradings.{GradedMap, GradedMaps, first_columns}
use Rattle.minimal_laws.specs.Minimal.{HasConstant, IsConstantAt}

-- the positions and, one by one, the maps are the same
abbrev pub IsSameList : {n : ℕ} → ℕ → GradedMaps n → GradedMaps n → Type 0
IsSameList p C D = (C.positions ≡ D.positions) × AreSameMaps p C.maps D.maps

cases : (a b : ℕ) → (a ≡ b) ⊎ ((a < b) ⊎ (b < a))
cases a b = grind arith

length-removed : {X Y : Type 0} (c : ℕ) (F : List X) (H : List Y) → length F ≡ length H → length (remove_at c F) ≡ length (remove_at c H)
length-removed c [] [] e = refl
length-removed c [] (y ∷ H) e = absurd (omega (arith, e))
length-removed c (x ∷ F) [] e = absurd (omega (arith, e))
length-removed zero (x ∷ F) (y ∷ H) e = omega (arith, e)
length-removed (suc c) (x ∷ F) (y ∷ H) e = ap suc (length-removed c F H (omega (arith, e)))

-- inverses of one number are one
one_inverse : (p s s' x x' : ℕ) → IsCongruent p x x' → IsCongruent p (s * x) 1 → IsCongruent p (s' * x') 1 → IsCongruent p s s'
one_inverse p s s' x x' e a b =
    IsCongruent_trans (IsCongruent_trans (IsCongruent_of p s (s * 1) (omega arith)) (IsCongruent_multiply (IsCongruent_refl p s) (IsCongruent_sym b)))
    (IsCongruent_trans (IsCongruent_of p (s * (s' * x')) (s' * (s * x')) (omega arith))
    (IsCongruent_trans (IsCongruent_multiply (IsCongruent_refl p s') (IsCongruent_trans (IsCongruent_multiply (IsCongruent_refl p s) (IsCongruent_sym e)) a)) (IsCongruent_of p (s' * 1) s' (omega arith))))

module _ {n : ℕ} (p : ℕ) where
  pub same_maps_sym : (maps others : List (GradedMap n)) → AreSameMaps p maps others → AreSameMaps p others maps
  same_maps_sym [] [] h = tt
  same_maps_sym [] (N ∷ others) h = elim h [ ]
  same_maps_sym (M ∷ maps) [] h = elim h [ ]
  same_maps_sym (M ∷ maps) (N ∷ others) h = (sym h.0, record { count = sym h.1.count; each = λ i. IsSame_sym (h.1.each i) }, same_maps_sym maps others h.2)

  pub same_maps_trans : (maps others more : List (GradedMap n)) → AreSameMaps p maps others → AreSameMaps p others more → AreSameMaps p maps more
  same_maps_trans [] [] [] h k = tt
  same_maps_trans [] [] (L ∷ more) h k = elim k [ ]
  same_maps_trans [] (N ∷ others) more h k = elim h [ ]
  same_maps_trans (M ∷ maps) [] more h k = elim h [ ]
  same_maps_trans (M ∷ maps) (N ∷ others) [] h k = elim k [ ]
  same_maps_trans (M ∷ maps) (N ∷ others) (L ∷ more) h k = (h.0 ∙ k.0, record { count = h.1.count ∙ k.1.count; each = λ i. IsSame_trans (h.1.each i) (k.1.each i) }, same_maps_trans maps others more h.2 k.2)

  -- ---- constants
  constant_same : (v w : FormalSum n) (r : ℕ) → IsSame p v w → IsConstantAt p v r → IsConstantAt p w r
  constant_same v w r e h = record {
    nonzero = λ z. h.nonzero (IsCongruent_trans (e.by_key (r, unit n)) z);
    alone = λ m ne. IsCongruent_trans (IsCongruent_sym (e.by_key (r, m))) (h.alone m ne);
  }

  has_same : (maps others : List (GradedMap n)) (k c r : ℕ) → AreSameMaps p maps others → HasConstant p maps k c r → HasConstant p others k c r
  has_same [] others k c r e h = elim h [ ]
  has_same (M ∷ maps) [] k c r e h = elim e [ ]
  has_same (M ∷ maps) (N ∷ others) zero c r e h = (subst (λ m. c < m) e.1.count h.0, constant_same _ _ r (e.1.each c) h.1)
  has_same (M ∷ maps) (N ∷ others) (suc k) c r e h = has_same maps others k c r e.2 h

  -- there is one first constant
  one_first : (maps : List (GradedMap n)) (k c r k' c' r' : ℕ) → IsFirstConstant p maps k c r → IsFirstConstant p maps k' c' r' → (k ≡ k') × (c ≡ c') × (r ≡ r')
  one_first maps k c r k' c' r' f g = at_map (cases k k')
    where
      at_row : (ek : k ≡ k') (ec : c ≡ c') → (r ≡ r') ⊎ ((r < r') ⊎ (r' < r)) → (k ≡ k') × (c ≡ c') × (r ≡ r')
      at_row ek ec (inl e) = (ek, ec, e)
      at_row ek ec (inr (inl lt)) = absurd (g.first_row r lt (subst (λ x. HasConstant p maps x c' r) ek (subst (λ x. HasConstant p maps k x r) ec f.constant)))
      at_row ek ec (inr (inr lt)) = absurd (f.first_row r' lt (subst (λ x. HasConstant p maps x c r') (sym ek) (subst (λ x. HasConstant p maps k' x r') (sym ec) g.constant)))

      at_column : (ek : k ≡ k') → (c ≡ c') ⊎ ((c < c') ⊎ (c' < c)) → (k ≡ k') × (c ≡ c') × (r ≡ r')
      at_column ek (inl e) = at_row ek e (cases r r')
      at_column ek (inr (inl lt)) = absurd (g.first_column c r lt (subst (λ x. HasConstant p maps x c r) ek f.constant))
      at_column ek (inr (inr lt)) = absurd (f.first_column c' r' lt (subst (λ x. HasConstant p maps x c' r') (sym ek) g.constant))

      at_map : (k ≡ k') ⊎ ((k < k') ⊎ (k' < k)) → (k ≡ k') × (c ≡ c') × (r ≡ r')
      at_map (inl e) = at_column e (cases c c')
      at_map (inr (inl lt)) = absurd (g.first_map k c r lt f.constant)
      at_map (inr (inr lt)) = absurd (f.first_map k' c' r' lt g.constant)

  first_same : (maps others : List (GradedMap n)) (k c r : ℕ) → AreSameMaps p maps others → IsFirstConstant p maps k c r → IsFirstConstant p others k c r
  first_same maps others k c r e f =
      let back = λ (l b q : ℕ). has_same others maps l b q (same_maps_sym maps others e) in
      record {
        constant = has_same maps others k c r e f.constant;
        first_map = λ l b q lt h. f.first_map l b q lt (back l b q h);
        first_column = λ b q lt h. f.first_column b q lt (back k b q h);
        first_row = λ q lt h. f.first_row q lt (back k c q h);
      }

  -- ---- lists of columns
  removed_same : (c : ℕ) (F H : List (FormalSum n)) → AreSameColumns p F H → AreSameColumns p (remove_at c F) (remove_at c H)
  removed_same c F H h = record {
    count = length-removed c F H h.count;
    each = λ i. IsSame_trans (IsSame_of p _ _ (get_or-remove_at c F i [])) (IsSame_trans (h.each (skip c i)) (IsSame_of p _ _ (sym (get_or-remove_at c H i []))));
  }

  images_same :
      (f g : FormalSum n → FormalSum n) → f [] ≡ [] → g [] ≡ [] → ((v w : FormalSum n) → IsSame p v w → IsSame p (f v) (g w))
      → (F H : List (FormalSum n)) → AreSameColumns p F H → AreSameColumns p (map f F) (map g H)
  images_same f g fz gz both F H h = record {
    count = length-images f F ∙ h.count ∙ sym (length-images g H);
    each = λ i. IsSame_trans (IsSame_of p _ _ (image f fz F i)) (IsSame_trans (both (get_or F i []) (get_or H i []) (h.each i)) (IsSame_of p _ _ (sym (image g gz H i))));
  }
    where
      image : (f : FormalSum n → FormalSum n) → f [] ≡ [] → (F : List (FormalSum n)) (i : ℕ) → get_or (map f F) i [] ≡ f (get_or F i [])
      image f z [] i = sym z
      image f z (v ∷ F) zero = refl
      image f z (v ∷ F) (suc i) = image f z F i

  -- ---- the split
  module _ (pos : 0 < p) where
    product_same : (u v w : FormalSum n) → IsSame p v w → IsSame p (product u v) (product u w)
    product_same [] v w e = IsSame_refl p []
    product_same (t ∷ u) v w e = IsSame_append (IsSame_scale pos t.1 t.0.1 e) (product_same u v w e)

    cleared_both :
        (r s s' : ℕ) (w w' v v' : FormalSum n) → IsCongruent p s s' → IsSame p w w' → IsSame p v v'
        → IsSame p (cleared p r s w v) (cleared p r s' w' v')
    cleared_both r s s' w w' v v' es ew ev =
        IsSame_append ev
        (IsSame_trans (IsSame_product pos (scale ((p - 1) * s) (unit n) (component r v)) (scale ((p - 1) * s') (unit n) (component r v')) w factor)
        (product_same (scale ((p - 1) * s') (unit n) (component r v')) w w' ew))
      where
        factor : IsSame p (scale ((p - 1) * s) (unit n) (component r v)) (scale ((p - 1) * s') (unit n) (component r v'))
        factor = record {
          by_key = λ k. IsCongruent_trans (IsCongruent_of p _ _ (coefficient-scale_unit ((p - 1) * s) (component r v) k))
              (IsCongruent_trans (IsCongruent_multiply (IsCongruent_multiply (IsCongruent_refl p (p - 1)) es) ((linear_same pos (linear_component r) ev).by_key k))
              (IsCongruent_of p _ _ (sym (coefficient-scale_unit ((p - 1) * s') (component r v') k))));
        }

    rows_same : (c : ℕ) (maps others : List (GradedMap n)) → AreSameMaps p maps others → AreSameMaps p (without_rows c maps) (without_rows c others)
    rows_same c [] [] h = tt
    rows_same c [] (N ∷ others) h = elim h [ ]
    rows_same c (M ∷ maps) [] h = elim h [ ]
    rows_same c (M ∷ maps) (N ∷ others) h = (h.0, images_same (without_row c) (without_row c) refl refl (λ v w e. linear_same pos (linear_without_row c) e) M.columns N.columns h.1, h.2)

    column_same : (k r : ℕ) (F H : List (FormalSum n)) → AreSameColumns p F H → AreSameColumns p (without_column k r F) (without_column k r H)
    column_same zero r F H h = removed_same r F H h
    column_same (suc k) r F H h = h

    pub split_same :
        (k r c s s' : ℕ) → IsCongruent p s s' → (rows rows' : List ℕ) (maps others : List (GradedMap n)) → rows ≡ rows' → AreSameMaps p maps others
        → ((split p k r c s rows maps).0 ≡ (split p k r c s' rows' others).0) × AreSameMaps p (split p k r c s rows maps).1 (split p k r c s' rows' others).1
    split_same k r c s s' es rows rows' [] [] e h = (e, tt)
    split_same k r c s s' es rows rows' [] (N ∷ others) e h = elim h [ ]
    split_same k r c s s' es rows rows' (M ∷ maps) [] e h = elim h [ ]
    split_same zero r c s s' es rows rows' (M ∷ maps) (N ∷ others) e h = (
      ap (remove_at r) e,
      (
        ap (remove_at c) h.0,
        images_same (λ v. without_row r (cleared p r s (get_or M.columns c []) v)) (λ v. without_row r (cleared p r s' (get_or N.columns c []) v)) refl refl
            (λ v w ev. linear_same pos (linear_without_row r) (cleared_both r s s' (get_or M.columns c []) (get_or N.columns c []) v w es (h.1.each c) ev))
            (remove_at c M.columns) (remove_at c N.columns) (removed_same c M.columns N.columns h.1),
        rows_same c maps others h.2,
      ),
    )
    split_same (suc k) r c s s' es rows rows' (M ∷ maps) (N ∷ others) e h =
        let more = split_same k r c s s' es M.degrees N.degrees maps others h.0 h.2 in
        (e, (more.0, column_same k r M.columns N.columns h.1, more.1))

    -- ---- the end
    keep_same :
        (M N : GradedMap n) (F H : List (FormalSum n)) (maps others : List (GradedMap n)) → M.degrees ≡ N.degrees → AreSameColumns p M.columns N.columns → length F ≡ length H
        → AreSameMaps p maps others → AreSameMaps p (keep M F maps) (keep N H others)
    keep_same M N F H (L ∷ maps) (K ∷ others) d h e more = (d, h, more)
    keep_same M N F H (L ∷ maps) [] d h e more = elim more [ ]
    keep_same M N F H [] (K ∷ others) d h e more = elim more [ ]
    keep_same M N [] [] [] [] d h e more = tt
    keep_same M N [] (w ∷ H) [] [] d h e more = absurd (omega (arith, e))
    keep_same M N (v ∷ F) [] [] [] d h e more = absurd (omega (arith, e))
    keep_same M N (v ∷ F) (w ∷ H) [] [] d h e more = (d, h, tt)

    trimmed_same : (maps others : List (GradedMap n)) → AreSameMaps p maps others → AreSameMaps p (trimmed maps) (trimmed others)
    trimmed_same [] [] h = tt
    trimmed_same [] (N ∷ others) h = elim h [ ]
    trimmed_same (M ∷ maps) [] h = elim h [ ]
    trimmed_same (M ∷ maps) (N ∷ others) h = keep_same M N M.columns N.columns (trimmed maps) (trimmed others) h.0 h.1 h.1.count (trimmed_same maps others h.2)

    column_at : (k c : ℕ) (maps others : List (GradedMap n)) → AreSameMaps p maps others → IsSame p (get_or (first_columns (drop k maps)) c []) (get_or (first_columns (drop k others)) c [])
    column_at k c [] [] h = IsSame_refl p _
    column_at k c [] (N ∷ others) h = elim h [ ]
    column_at k c (M ∷ maps) [] h = elim h [ ]
    column_at zero c (M ∷ maps) (N ∷ others) h = h.1.each c
    column_at (suc k) c (M ∷ maps) (N ∷ others) h = column_at k c maps others h.2

    abbrev AfterSplit : (up : List ℕ) (others : List (GradedMap n)) (k c r s : ℕ) (rows : List ℕ) (maps : List (GradedMap n)) → Type 0
    AfterSplit up others k c r s rows maps = (up ≡ (split p k r c s rows maps).0) × AreSameMaps p others (split p k r c s rows maps).1

    -- the same lists have the same cancellations
    pub one_cancellation : (C C' D D' : GradedMaps n) → IsCancelled p C D → IsSameList p C C' → IsCancelled p C' D' → IsSameList p D D'
    one_cancellation _ _ _ _ (done rows maps none) e (done rows' maps' none') = (e.0, trimmed_same maps maps' e.1)
    one_cancellation _ _ _ _ (done rows maps none) e (step rows' maps' others' D' k' c' r' s' first' inverse' same' more') =
        absurd (none k' c' r' (has_same maps' maps k' c' r' (same_maps_sym maps maps' e.1) first'.constant))
    one_cancellation _ _ _ _ (step rows maps others D k c r s first inverse same more) e (done rows' maps' none') =
        absurd (none' k c r (has_same maps maps' k c r e.1 first.constant))
    one_cancellation _ _ _ _ (step rows maps others D k c r s first inverse same more) e (step rows' maps' others' D' k' c' r' s' first' inverse' same' more') =
        let places = one_first maps' k c r k' c' r' (first_same maps maps' k c r e.1 first) first' in
        let at_r = λ (z : ℕ). IsCongruent p (s' * coefficient (get_or (first_columns (drop k maps')) c []) (z, unit n)) 1 in
        let at_c = λ (z : ℕ). IsCongruent p (s' * coefficient (get_or (first_columns (drop k maps')) z []) (r', unit n)) 1 in
        let at_k = λ (z : ℕ). IsCongruent p (s' * coefficient (get_or (first_columns (drop z maps')) c' []) (r', unit n)) 1 in
        let inverse_here = subst at_r (sym places.2) (subst at_c (sym places.1) (subst at_k (sym places.0) inverse')) in
        let es = one_inverse p s s' _ _ ((column_at k c maps maps' e.1).by_key (r, unit n)) inverse inverse_here in
        let both = split_same k r c s s' es rows rows' maps maps' e.0 e.1 in
        let up = (split p k r c s rows maps).0 in
        let split_maps = (split p k r c s rows maps).1 in
        let there = subst (λ z. AfterSplit up split_maps z c' r' s' rows' maps') places.0 (subst (λ z. AfterSplit up split_maps k z r' s' rows' maps') places.1 (subst (λ z. AfterSplit up split_maps k c z s' rows' maps') places.2 both)) in
        one_cancellation _ _ D D' more
        (there.0, same_maps_trans others split_maps others' (same_maps_sym split_maps others same) (same_maps_trans split_maps _ others' there.1 same')) more'

    -- ---- a list that needs no step
    full : (maps : List (GradedMap n)) → Each (λ M. 0 < length M.columns) maps → trimmed maps ≡ maps
    full [] h = refl
    full (M ∷ maps) h = ap (keep M M.columns) (full maps h.1) ∙ at M.columns maps h.0
      where
        at : (F : List (FormalSum n)) (maps : List (GradedMap n)) → 0 < length F → keep M F maps ≡ M ∷ maps
        at F (N ∷ maps) lt = refl
        at [] [] lt = absurd (omega (arith, lt))
        at (v ∷ F) [] lt = refl

    pub no_step : (C : GradedMaps n) → ((k c r : ℕ) → HasConstant p C.maps k c r → ⊥) → Each (λ M. 0 < length M.columns) C.maps → IsCancelled p C C
    no_step C none h = subst (λ maps. IsCancelled p C (record { positions = C.positions; maps = maps })) (full C.maps h) (done C.positions C.maps none)

    pub no_other : (C D : GradedMaps n) → IsCancelled p C D → ((k c r : ℕ) → HasConstant p C.maps k c r → ⊥) → Each (λ M. 0 < length M.columns) C.maps → D ≡ C
    no_other _ _ (done rows maps none) _ h = ap (λ m. record { positions = rows; maps = m }) (full maps h)
    no_other _ _ (step rows maps others D k c r s first inverse same more) none h = absurd (none k c r first.constant)
