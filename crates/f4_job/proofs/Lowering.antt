-- The leads of new rows are below the least common multiples of the pairs
use Rattle.std.proofs.Common.{Bool, Contains, Less, List, [], ap, arith, get_or, inl, inr, length, refl, subst, suc, sym, zero, ℕ, ◌<◌, ◌∙◌, ◌∷◌, ◌≡◌, ◌⊎◌}
use Rattle.std.proofs.lemmas.List.{get_or-map, length-map}
use Rattle.residues.proofs.Congruences.{IsCongruent_of, IsCongruent_sym, IsCongruent_trans}
use Rattle.residues.specs.Residues.{IsCongruent}
use Rattle.monomials.specs.Exponents.{exponents_of}
use Rattle.formal_sums.proofs.Combining.{Each_map}
use Rattle.formal_sums.proofs.Items.{item_of}
use Rattle.formal_sums.specs.FormalSums.{Each, FormalSum, Key, coefficient, scale, shift}
use Rattle.orders.proofs.KeyOrdering.{less_of_greater}
use Rattle.orders.specs.KeyOrders.{Descends}
use Rattle.bases.proofs.Leading.{one_not_zero}
use Rattle.bases.specs.Leads.{head_key, leads}
use Rattle.bases.specs.Settings.{IsLawful, Setting}
use Rattle.term_lists.specs.Vectors.{IsVector, key_of, sum_of}
use Rattle.term_lists.specs.declared.key.Key.{Key as CodeKey}
use Rattle.module_vectors.specs.Trails.{HasKey, KeptProduct, no_product, kept_product_lead, kept_at}
use Rattle.pair_criteria.specs.declared.pair.Pair.{Pair as CodePair}
use Rattle.basis_steps.specs.Divisions.{IsKeyAtMost}
use Rattle.row_laws.proofs.NewRows.{find_row}
use Rattle.row_laws.specs.Jobs.{IsNewRows}
use Rattle.row_laws.specs.Rows.{row_combination}
use Rattle.row_matrix.specs.Rows.{IsRow, MatrixShown, RowShown, column_key, no_row, shown_row_at, vector_of, vectors_of}
use Rattle.row_reduce.proofs.Forms.{row_monic, row_normal}
use Rattle.row_reduce.specs.Echelons.{IsEchelonOf}
use Rattle.symbolic_prep.proofs.Matrices.{Each_index, contains_at}
use Rattle.symbolic_prep.proofs.Tracing.{traced_at}
use Rattle.symbolic_prep.specs.Plans.{product_sum}
use Rattle.symbolic_prep.specs.Prepared.{IsPrepared}
use Rattle.symbolic_prep.specs.Traces.{IsOfEarlier, IsOfPair}
use Rattle.vector_division.proofs.Occurring.{at_key, occurs}
use Rattle.f4_job.proofs.Flagging.{unflagged_from}
use Rattle.f4_job.proofs.News.{row_good}
use Rattle.f4_job.specs.Flags.{AreFlags, unflagged}
use Rattle.f4_job.specs.Solved.{IsBelowPairs}

module _ {n : ℕ} (S : Setting n) (lawful : IsLawful S) where
  -- no key of a vector is above its first one
  key_at_most : (v : FormalSum n) (l : Key n) → Descends S.compare v → HasKey v l → IsKeyAtMost S l (head_key v)
  key_at_most [] l d (i, lt, e) = absurd (omega arith)
  key_at_most (t ∷ v) l d (zero, lt, e) = inr (sym e)
  key_at_most (t ∷ v) l d (suc i, lt, e) =
      inl (at_key (λ k. S.compare k t.0 ≡ Less) v l (Each_map _ _ v (λ u g. less_of_greater lawful.order t.0 u.0 g) d.0) (i, omega arith, e))

  at_most_trans : (k l m : Key n) → IsKeyAtMost S k l → IsKeyAtMost S l m → IsKeyAtMost S k m
  at_most_trans k l m (inr e) b = subst (λ z. IsKeyAtMost S z m) (sym e) b
  at_most_trans k l m (inl a) (inr e) = inl (subst (λ z. S.compare k z ≡ Less) e a)
  at_most_trans k l m (inl a) (inl b) = inl (lawful.order.total.trans k l m a b)

  below_trans : (k l m : Key n) → S.compare k l ≡ Less → IsKeyAtMost S l m → S.compare k m ≡ Less
  below_trans k l m a (inr e) = subst (λ z. S.compare k z ≡ Less) e a
  below_trans k l m a (inl b) = lawful.order.total.trans k l m a b

  module _ (list : List (List (CodeKey × ℕ))) (vectors : Each (IsVector n S.weights S.modulus S.compare) list) (pairs : List CodePair) (products : List KeptProduct) where
    -- the key is at most the lcm of a pair
    abbrev IsWithin : Key n → Type 0
    IsWithin k = (x : CodePair) × Contains pairs x × IsKeyAtMost S k (key_of n x.lcm)

    in_product : (k l : Key n) (s : KeptProduct) → HasKey (sum_of n (get_or list s.0 [])) l → k ≡ shift (exponents_of n s.1.exponents) l
        → IsKeyAtMost S k (kept_product_lead n list s)
    in_product k l s has e =
        let d : Descends S.compare (sum_of n (get_or list s.0 [])) =
        (item_of (IsVector n S.weights S.modulus S.compare) list s.0 (record { each = tt; descends = tt }) vectors).descends in
        let t = exponents_of n s.1.exponents in
        subst (λ z. IsKeyAtMost S z (kept_product_lead n list s)) (sym e)
        (elim (key_at_most (sum_of n (get_or list s.0 [])) l d has) [
          | inl a ↦ inl (lawful.order.kept t l (head_key (sum_of n (get_or list s.0 []))) ∙ a)
          | inr a ↦ inr (ap (shift t) a)
        ])

    step_within :
        ((i : ℕ) → i < length products → IsOfPair n list pairs (kept_at products i) ⊎ IsOfEarlier n list products i (kept_at products i))
        → (fuel i : ℕ) → i < fuel → i < length products → IsWithin (kept_product_lead n list (kept_at products i))
    step_within traced zero i low lt = absurd (omega arith)
    step_within traced (suc fuel) i low lt = go (λ j l. step_within traced fuel j (omega arith) (omega arith)) (traced i lt)
      where
        go : ((j : ℕ) → j < i → IsWithin (kept_product_lead n list (kept_at products j)))
            → IsOfPair n list pairs (kept_at products i) ⊎ IsOfEarlier n list products i (kept_at products i)
            → IsWithin (kept_product_lead n list (kept_at products i))
        go ih (inl o) = (o.0, o.1.0, inr o.1.1)
        go ih (inr (j, l, has)) =
            let w = ih j l in (
              w.0,
              w.1,
              at_most_trans (kept_product_lead n list (kept_at products i)) (kept_product_lead n list (kept_at products j)) (key_of n w.0.lcm)
                  (in_product (kept_product_lead n list (kept_at products i)) has.0 (kept_at products j) has.1 has.2) w.2,
            )

-- the first key of a product that is not zero
product_first : (n : ℕ) (list : List (List (CodeKey × ℕ))) (s : KeptProduct) → 0 < length (get_or list s.0 [])
    → head_key (product_sum n list s) ≡ kept_product_lead n list s
product_first n list s some = go (get_or list s.0 []) some
  where
    go : (v : List (CodeKey × ℕ)) → 0 < length v
        → head_key (scale 1 (exponents_of n s.1.exponents) (sum_of n v)) ≡ shift (exponents_of n s.1.exponents) (head_key (sum_of n v))
    go [] lt = absurd (omega arith)
    go (t ∷ v) lt = refl

module _ (n : ℕ) (S : Setting n) (lawful : IsLawful S) (list : List (List (CodeKey × ℕ))) (vectors : Each (IsVector n S.weights S.modulus S.compare) list)
    (pairs : List CodePair) (m : MatrixShown) (products : List KeptProduct)
    (h : IsPrepared n S list pairs m products) (E : List RowShown) (form : IsEchelonOf S.modulus (length m.columns) m.inputs m.rows E)
    (flags : List Bool) (flagged : AreFlags m.rows flags)
    (new : IsNewRows (vectors_of n m.columns m.rows) (vectors_of n m.columns E) (vectors_of n m.columns (unflagged flags E))) where
  at : (rows : List RowShown) (i : ℕ) → i < length rows → get_or (vectors_of n m.columns rows) i [] ≡ vector_of n m.columns (shown_row_at rows i)
  at rows i lt = get_or-map (λ (r : RowShown). vector_of n m.columns r) rows i no_row [] lt

  size : (rows : List RowShown) → length (vectors_of n m.columns rows) ≡ length rows
  size rows = length-map rows (λ (r : RowShown). vector_of n m.columns r)

  good : (i : ℕ) → i < length m.rows → IsRow S.modulus (length m.columns) m.inputs (shown_row_at m.rows i)
  good i lt = row_good n m.inputs S lawful m.columns h.matrix.descend m.rows E flags h.matrix.rows form flagged m.rows h.matrix.rows i lt

  -- a key with a coefficient in a row is at most the row's lead, and this is within the pairs
  row_within : (i : ℕ) (k : Key n) → i < length m.rows → (IsCongruent S.modulus (coefficient (vector_of n m.columns (shown_row_at m.rows i)) k) 0 → ⊥)
      → (k ≡ head_key (vector_of n m.columns (shown_row_at m.rows i)) → ⊥) → IsBelowPairs S pairs k
  row_within i k lt nz other =
      let r = vector_of n m.columns (shown_row_at m.rows i) in
      let d : Descends S.compare (vector_of n m.columns (shown_row_at m.rows i)) =
      (row_normal n S lawful m.columns h.matrix.descend m.inputs (shown_row_at m.rows i) (good i lt)).descends in
      let l : i < length products = omega (arith, size m.rows, ap length h.vectors, length-map products (λ (s : KeptProduct). product_sum n list s)) in
      let is : vector_of n m.columns (shown_row_at m.rows i) ≡ product_sum n list (kept_at products i) =
      sym (at m.rows i lt) ∙ ap (λ xs. get_or xs i []) h.vectors ∙ get_or-map (λ (s : KeptProduct). product_sum n list s) products i no_product [] l in
      let first : head_key (vector_of n m.columns (shown_row_at m.rows i)) ≡ kept_product_lead n list (kept_at products i) =
      ap head_key is ∙ product_first n list (kept_at products i) (h.each_product i l).some in
      let w = step_within S lawful list vectors pairs products (traced_at n list pairs products h.traced) (suc i) i (omega arith) l in
      elim (occurs r k) [
        | inr z ↦ absurd (nz (IsCongruent_of S.modulus _ 0 z))
        | inl has ↦ elim (key_at_most S lawful r k d has) [
          | inr e ↦ absurd (other e)
          | inl less ↦ (
            w.0,
            w.1,
            below_trans S lawful k (kept_product_lead n list (kept_at products i)) (key_of n w.0.lcm)
                (subst (λ z. S.compare k z ≡ Less) first less) w.2,
          )
        ]
      ]

  each_low : (j : ℕ) → j < length (unflagged flags E) → IsBelowPairs S pairs (head_key (vector_of n m.columns (shown_row_at (unflagged flags E) j)))
  each_low j lt =
      let N = unflagged flags E in
      let o = unflagged_from flags E j lt in
      let r = shown_row_at E o.0 in
      let span = form.outside n (column_key n m.columns) o.0 o.1 in
      let goodE : IsRow S.modulus (length m.columns) m.inputs (shown_row_at E o.0) =
      row_good n m.inputs S lawful m.columns h.matrix.descend m.rows E flags h.matrix.rows form flagged E form.rows o.0 o.1 in
      let k : Key n = head_key (vector_of n m.columns (shown_row_at E o.0)) in
      let one = (row_monic n S lawful m.columns h.matrix.descend m.inputs (shown_row_at E o.0) goodE).one in
      subst (λ (x : RowShown). IsBelowPairs S pairs (head_key (vector_of n m.columns x))) o.2
      (elim (find_row {p = S.modulus} k span.residues (vectors_of n m.columns m.rows)) [
        | inl (i, l, nz) ↦
            let li : i < length m.rows = omega (arith, size m.rows) in
            row_within i k li (subst (λ v. IsCongruent S.modulus (coefficient v k) 0 → ⊥) (at m.rows i li) nz)
            (λ e. new.new j (omega (arith, size N)) (contains_at (vectors_of n m.columns m.rows) i (leads (vectors_of n m.columns N) j) l
            (ap head_key (at m.rows i li) ∙ sym e ∙ ap (λ (x : RowShown). head_key (vector_of n m.columns x)) o.2 ∙ ap head_key (sym (at N j lt)))))
        | inr z ↦ absurd (one_not_zero S lawful (IsCongruent_trans (IsCongruent_sym one)
            (IsCongruent_trans (IsCongruent_sym
            (subst (λ v. IsCongruent S.modulus (coefficient (row_combination span.residues (vectors_of n m.columns m.rows)) k) (coefficient v k))
            (at E o.0 o.1) (span.sums.by_key k))) z)))
      ])

  pub new_low : Each (λ r. IsBelowPairs S pairs (head_key (vector_of n m.columns r))) (unflagged flags E)
  new_low = Each_index (λ r. IsBelowPairs S pairs (head_key (vector_of n m.columns r))) (unflagged flags E) no_row each_low
