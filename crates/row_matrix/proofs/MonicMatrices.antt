-- The matrix of rows that are divided vectors
use Rattle.std.proofs.Common.{Contains, Err, IfOk, List, Ok, Ordering, Result, [], ap, append-nil, arith, get_or, length, map, mod-eq_of_lt, refl, subst, suc, sym, zero, ℕ, ◌*◌, ◌+◌, ◌<◌, ◌∙◌, ◌∷◌, ◌≡◌, ◌≤◌}
use Rattle.std.proofs.lemmas.List.{get_or-map, get_or_default, length-map}
use Rattle.residues.proofs.Congruences.{IsCongruent_multiply, IsCongruent_of, IsCongruent_refl, IsCongruent_trans}
use Rattle.residues.specs.Residues.{IsCongruent, IsDomain}
use Rattle.monomials.specs.Exponents.{unit}
use Rattle.formal_sums.proofs.Combining.{Each_map}
use Rattle.formal_sums.proofs.Sameness.{IsSame_of, IsSame_refl, IsSame_sym, IsSame_trans, coefficient-scale_unit}
use Rattle.formal_sums.specs.Combinations.{combination}
use Rattle.formal_sums.specs.FormalSums.{Each, FormalSum, IsSame, Key, coefficient, scale}
use Rattle.orders.specs.KeyOrders.{IsKeyOrder}
use Rattle.bases.specs.Leads.{head_coefficient}
use Rattle.term_lists.proofs.Rescaling.{rescaled_sum, rescaled_vector}
use Rattle.term_lists.proofs.Scaling.{Each_at}
use Rattle.term_lists.specs.Multiples.{rescaled}
use Rattle.term_lists.specs.Vectors.{IsTerm, IsVector, sum_of, sums_of}
use Rattle.term_lists.specs.declared.key.Key.{Key as CodeKey}
use Rattle.zp_field.specs.Moduli.{IsInverse}
use Rattle.row_laws.proofs.RowSpans.{IsInSpan_itself, IsInSpan_same, IsInSpan_scale}
use Rattle.row_laws.specs.Rows.{HasSameSpan, IsInSpan}
use Rattle.row_matrix.proofs.PlacedRows.{entries_of_sum, placed_sum, placed_within, residue_of}
use Rattle.row_matrix.proofs.DividedRows.{inverse_positive, nonzero_has, one_first}
use Rattle.row_matrix.specs.MonicRows.{AreDivided, AreNamedRows, IsMadeMonic, IsNamedRow, first_source, nonzero_from}
use Rattle.row_matrix.specs.Placed.{IsPlacedMatrix, placed_entries, placed_row}
use Rattle.row_matrix.specs.Rows.{AreEntries, Entry, IsFromSources, IsMatrix, IsRow, MatrixShown, RowShown, column_key, first_column, row_sum, source_key, vector_of, vectors_of}

sum_residues : (n : ℕ) (ws : List ℕ) (p : ℕ) (v : List (CodeKey × ℕ)) → Each (IsTerm n ws p) v → Each (λ t. (0 < t.1) × (t.1 < p)) (sum_of n v)
sum_residues n ws p [] h = tt
sum_residues n ws p (t ∷ v) h = ((h.0.nonzero, h.0.reduced), sum_residues n ws p v h.1)

-- ---- lists and answers
pub ok_more : {A F : Type 0} (P Q : A → Type 0) (r : Result A F) → ((v : A) → P v → Q v) → IfOk r P → IfOk r Q
ok_more P Q (Ok v) h p = h v p
ok_more P Q (Err e) h p = tt

each_of_map : {X Y : Type 0} (f : X → Y) (P : X → Type 0) (Q : Y → Type 0) (xs : List X) → ((x : X) → P x → Q (f x)) → Each P xs → Each Q (map f xs)
each_of_map f P Q [] h e = tt
each_of_map f P Q (x ∷ xs) h e = (h x e.0, each_of_map f P Q xs h e.1)

sums_at : (n : ℕ) (list : List (List (CodeKey × ℕ))) (i : ℕ) → get_or (sums_of n list) i [] ≡ sum_of n (get_or list i [])
sums_at n [] zero = refl
sums_at n [] (suc i) = refl
sums_at n (v ∷ list) zero = refl
sums_at n (v ∷ list) (suc i) = sums_at n list i

-- ---- a vector and its multiple by a residue with an inverse
multiple_back :
    {n : ℕ} (p a c : ℕ) (v w : FormalSum n)
    → IsInverse p a c → 1 < p → IsSame p w (scale c (unit n) v) → IsSame p (scale a (unit n) w) v
multiple_back {n} p a c v w i lt h = record {
  by_key = λ k.
      IsCongruent_trans (IsCongruent_of p _ _ (coefficient-scale_unit a w k))
      (IsCongruent_trans (IsCongruent_multiply (IsCongruent_refl p a) (h.by_key k))
      (IsCongruent_trans (IsCongruent_of p _ _ (ap (λ x. a * x) (coefficient-scale_unit c v k) ∙ again (coefficient v k)))
      (IsCongruent_trans (IsCongruent_multiply one (IsCongruent_refl p (coefficient v k))) (IsCongruent_of p _ _ (once (coefficient v k))))));
}
  where
    again : (x : ℕ) → a * (c * x) ≡ a * c * x
    again x = omega arith

    once : (x : ℕ) → 1 * x ≡ x
    once x = omega arith

    one : IsCongruent p (a * c) 1
    one = record { same = i.one ∙ sym (mod-eq_of_lt lt) }

-- what is shown of a row over the columns
record IsMonicRow (n p : ℕ) (list : List (List (CodeKey × ℕ))) (m : MatrixShown) (r : RowShown) : Type 0 where
  row : IsRow p (length m.columns) m.inputs r
  divided : IsMadeMonic n p list r
  combined : IsFromSources n p (sums_of n list) m.columns r
  inside : IsInSpan p (sums_of n list) (vector_of n m.columns r)
  back : (a : ℕ) × IsSame p (scale a (unit n) (vector_of n m.columns r)) (sum_of n (get_or list (first_source r) []))

module _ (n : ℕ) (ws : List ℕ) (p : ℕ) (domain : IsDomain p) (compare : Key n → Key n → Ordering) (order : IsKeyOrder 0 compare)
    (list : List (List (CodeKey × ℕ))) (keys : List CodeKey) (rows : List RowShown) (m : MatrixShown)
    (vectors : Each (IsVector n ws p compare) list) (named : AreNamedRows n ws p list keys rows)
    (placed : IsPlacedMatrix n ws compare keys (length list) rows m) where
  monic_row : (r : RowShown) → IsNamedRow n p list keys r → IsMonicRow n p list m (placed_row placed.places r)
  monic_row r (h, g) = record {
    row = record {
      entries = entries_of_sum n p 0 compare order m.columns placed.numbering.descend es u
          (placed_within n ws compare keys m.columns placed.places r.entries placed.numbering g.known) sum scaled.descends
          (sum_residues n ws p (rescaled p h.factor v) scaled.each);
      monic = sym (residue_of (column_key n m.columns) es) ∙ ap head_coefficient sum ∙ one_first n p h.factor v domain.above_one h.inverse;
      sources = subst (AreEntries p 0 m.inputs) (sym h.sources)
          ((let z : 0 ≤ h.number = omega arith in z), positive, h.inverse.below, (let z : h.number + 1 ≤ m.inputs = omega (arith, h.within, placed.input_rows) in z));
    };
    divided = record { number = h.number; within = h.within; factor = h.factor; inverse = h.inverse; sources = h.sources };
    combined = IsSame_trans (IsSame_of p _ _ of_one) (IsSame_sym same);
    inside = IsInSpan_same (sums_of n list) (scale h.factor (unit n) (get_or (sums_of n list) h.number [])) (row_sum (column_key n m.columns) es)
        (IsSame_trans (IsSame_of p _ _ (ap (scale h.factor (unit n)) (sums_at n list h.number))) (IsSame_sym same))
        (IsInSpan_scale (sums_of n list) h.factor (get_or (sums_of n list) h.number []) (IsInSpan_itself p (sums_of n list) h.number));
    back = (
      head_coefficient (sum_of n v),
      subst (λ i. IsSame p (scale (head_coefficient (sum_of n v)) (unit n) (row_sum (column_key n m.columns) es)) (sum_of n (get_or list i []))) (sym source)
          (multiple_back p (head_coefficient (sum_of n v)) h.factor (sum_of n v) (row_sum (column_key n m.columns) es) h.inverse domain.above_one same),
    );
  }
    where
      v : List (CodeKey × ℕ)
      v = get_or list h.number []

      u : FormalSum n
      u = sum_of n (rescaled p h.factor v)

      es : List Entry
      es = placed_entries placed.places r.entries

      positive : 0 < h.factor
      positive = inverse_positive p (head_coefficient (sum_of n (get_or list h.number []))) h.factor domain.above_one h.inverse

      scaled : IsVector n ws p compare (rescaled p h.factor v)
      scaled = rescaled_vector n ws p h.factor compare v domain positive h.inverse.below
          (Each_at (IsVector n ws p compare) list h.number v vectors h.within (get_or_default list h.number [] v h.within))

      sum : row_sum (column_key n m.columns) es ≡ u
      sum = placed_sum n ws compare keys m.columns placed.places r.entries placed.numbering g.known ∙ g.sum

      same : IsSame p (row_sum (column_key n m.columns) es) (scale h.factor (unit n) (sum_of n v))
      same = IsSame_trans (IsSame_of p _ _ sum) (rescaled_sum n p h.factor v)

      source : first_source r ≡ h.number
      source = ap first_column h.sources

      of_one : combination (sums_of n list) (row_sum (source_key n) r.sources) ≡ scale h.factor (unit n) (sum_of n v)
      of_one =
          ap (λ xs. combination (sums_of n list) (row_sum (source_key n) xs)) h.sources
          ∙ append-nil (scale h.factor (unit n) (get_or (sums_of n list) h.number []))
          ∙ ap (scale h.factor (unit n)) (sums_at n list h.number)

  each : Each (IsMonicRow n p list m) m.rows
  each =
      subst (Each (IsMonicRow n p list m)) (sym placed.placed)
      (each_of_map (λ r. placed_row placed.places r) (IsNamedRow n p list keys) (IsMonicRow n p list m) rows monic_row named.each)

  pub is_matrix : IsMatrix n ws p compare m
  is_matrix = record {
    monomials = placed.numbering.monomials;
    descend = placed.numbering.descend;
    rows = Each_map (IsMonicRow n p list m) (IsRow p (length m.columns) m.inputs) m.rows (λ r h. h.row) each;
  }

  sources_kept : (rs : List RowShown) → map first_source (map (λ r. placed_row placed.places r) rs) ≡ map first_source rs
  sources_kept [] = refl
  sources_kept (r ∷ rs) = ap (λ xs. first_source r ∷ xs) (sources_kept rs)

  in_order : map first_source m.rows ≡ nonzero_from 0 list
  in_order = ap (map first_source) placed.placed ∙ sources_kept rows ∙ named.order

  pub are_divided : AreDivided n p list m.rows
  are_divided = record { each = Each_map (IsMonicRow n p list m) (IsMadeMonic n p list) m.rows (λ r h. h.divided) each; order = in_order }

  pub are_from_sources : Each (IsFromSources n p (sums_of n list) m.columns) m.rows
  are_from_sources = Each_map (IsMonicRow n p list m) (IsFromSources n p (sums_of n list) m.columns) m.rows (λ r h. h.combined) each

  no_row : RowShown
  no_row = record { entries = []; sources = [] }

  monic_at : (j : ℕ) → j < length m.rows → IsMonicRow n p list m (get_or m.rows j no_row)
  monic_at j lt = Each_at (IsMonicRow n p list m) m.rows j (get_or m.rows j no_row) each lt (get_or_default m.rows j no_row (get_or m.rows j no_row) lt)

  vector_at : (j : ℕ) → j < length m.rows → get_or (vectors_of n m.columns m.rows) j [] ≡ vector_of n m.columns (get_or m.rows j no_row)
  vector_at j lt = get_or-map (λ (r : RowShown). vector_of n m.columns r) m.rows j no_row [] lt

  vector_spanned : (i : ℕ) → i < length list → 0 < length (get_or list i []) → IsInSpan p (vectors_of n m.columns m.rows) (sum_of n (get_or list i []))
  vector_spanned i lt some =
      go (subst (λ xs. Contains xs i) (sym in_order)
      (subst (Contains (nonzero_from 0 list)) (let z : 0 + i ≡ i = omega arith in z) (nonzero_has 0 list i lt some)))
    where
      go : Contains (map first_source m.rows) i → IsInSpan p (vectors_of n m.columns m.rows) (sum_of n (get_or list i []))
      go (j, l, e) =
          let inside : j < length m.rows = subst (λ c. j < c) (length-map m.rows first_source) l in
          let h = monic_at j inside in
          let source : first_source (get_or m.rows j no_row) ≡ i = sym (get_or-map first_source m.rows j no_row i inside) ∙ e in
          IsInSpan_same (vectors_of n m.columns m.rows) (scale h.back.0 (unit n) (vector_of n m.columns (get_or m.rows j no_row))) (sum_of n (get_or list i []))
          (subst (λ k. IsSame p (scale h.back.0 (unit n) (vector_of n m.columns (get_or m.rows j no_row))) (sum_of n (get_or list k []))) source h.back.1)
          (IsInSpan_scale (vectors_of n m.columns m.rows) h.back.0 (vector_of n m.columns (get_or m.rows j no_row))
          (subst (IsInSpan p (vectors_of n m.columns m.rows)) (vector_at j inside) (IsInSpan_itself p (vectors_of n m.columns m.rows) j)))

  spanned : (i : ℕ) → i < length list → (v : List (CodeKey × ℕ)) → get_or list i [] ≡ v → IsInSpan p (vectors_of n m.columns m.rows) (sum_of n v)
  spanned i lt [] e = record { residues = []; sums = IsSame_refl p [] }
  spanned i lt (t ∷ v) e =
      subst (λ x. IsInSpan p (vectors_of n m.columns m.rows) (sum_of n x)) e
      (vector_spanned i lt (subst (λ x. 0 < length x) (sym e) (omega arith)))

  pub one_span : HasSameSpan p (sums_of n list) (vectors_of n m.columns m.rows)
  one_span = record {
    inside = λ i lt.
        subst (IsInSpan p (vectors_of n m.columns m.rows)) (sym (sums_at n list i))
        (spanned i (subst (λ c. i < c) (length-map list (λ v. sum_of n v)) lt) (get_or list i []) refl);
    outside = λ j lt.
        let inside : j < length m.rows = subst (λ c. j < c) (length-map m.rows (λ (r : RowShown). vector_of n m.columns r)) lt in
        subst (IsInSpan p (sums_of n list)) (sym (vector_at j inside)) (monic_at j inside).inside;
  }
