-- How many rows a plan has: no more than leads of their own and rows of pairs
use Rattle.std.proofs.Common.{Bool, List, [], ap, arith, get_or, inl, inr, length, refl, subst, sym, true, false, ℕ, ◌*◌, ◌+◌, ◌++◌, ◌-◌, ◌<◌, ◌∙◌, ◌∷◌, ◌≡◌, ◌≤◌}
use Rattle.std.proofs.lemmas.Bool.{cases_eq}
use Rattle.std.proofs.lemmas.List.{get_or_append_left, get_or_push, length_push}
use Rattle.formal_sums.proofs.WeightedSums.{Each_append}
use Rattle.formal_sums.specs.FormalSums.{Each}
use Rattle.term_lists.proofs.Parts.{Each_member}
use Rattle.term_lists.specs.declared.key.Key.{Key as CodeKey}
use Rattle.term_lists.specs.declared.key.Key.{Key as CodeKey}
use Rattle.module_vectors.specs.Trails.{KeptProduct}
use Rattle.row_matrix.specs.Rows.{RowShown, first_column, no_row}
use Rattle.symbolic_prep.specs.Plans.{IsPlan, lead_number}
use Rattle.symbolic_prep.specs.Counts.{IsSparse}

-- ---- one more row, with a lead that no row has
module _ (rows rows' : List RowShown) (chosen : List ℕ) (tops : ℕ) (r : RowShown) (more : rows' ≡ rows ++ r ∷ []) where
  old_lead : (i : ℕ) → i < length rows → lead_number rows' i ≡ lead_number rows i
  old_lead i lt = ap (λ (x : RowShown). first_column x.entries) (ap (λ xs. get_or xs i no_row) more ∙ get_or_append_left rows (r ∷ []) no_row i lt)

  new_lead : lead_number rows' (length rows) ≡ first_column r.entries
  new_lead = ap (λ (x : RowShown). first_column x.entries) (ap (λ xs. get_or xs (length rows) no_row) more ∙ get_or_push rows r no_row (length rows) refl)

  size : length rows' ≡ length rows + 1
  size = ap length more ∙ length_push rows r

  widen : (xs : List ℕ) → Each (λ i. i < length rows) xs → Each (λ i. i < length rows') xs
  widen [] h = tt
  widen (x ∷ xs) h = (omega (arith, h.0, size), widen xs h.1)

  pub sparse_push :
      IsSparse rows chosen tops
      → ((i : ℕ) → i < length rows → lead_number rows i ≡ first_column r.entries → ⊥)
      → IsSparse rows' (chosen ++ length rows ∷ []) tops
  sparse_push h fresh = record {
    within = Each_append (λ i. i < length rows') chosen (length rows ∷ []) (widen chosen h.within) (omega (arith, size), tt);
    distinct = apart;
    few = omega (arith, h.few, size, length_push chosen (length rows));
  }
    where
      known : (j : ℕ) → j < length chosen → get_or chosen j 0 < length rows
      known j lt = Each_member (λ i. i < length rows) chosen j 0 h.within lt

      front : (j : ℕ) → j < length chosen → lead_number rows' (get_or (chosen ++ length rows ∷ []) j 0) ≡ lead_number rows (get_or chosen j 0)
      front j lt =
          ap (lead_number rows') (get_or_append_left chosen (length rows ∷ []) 0 j lt) ∙ old_lead (get_or chosen j 0) (known j lt)

      back : (k : ℕ) → k ≡ length chosen → lead_number rows' (get_or (chosen ++ length rows ∷ []) k 0) ≡ first_column r.entries
      back k e = ap (lead_number rows') (get_or_push chosen (length rows) 0 k (sym e)) ∙ new_lead

      apart :
          (j k : ℕ) → j < k → k < length (chosen ++ length rows ∷ [])
          → lead_number rows' (get_or (chosen ++ length rows ∷ []) j 0) ≡ lead_number rows' (get_or (chosen ++ length rows ∷ []) k 0) → ⊥
      apart j k lt bound e =
          let s = length_push chosen (length rows) in
          elim (cases_eq k (length chosen)) [
            | inl last ↦
                let lj : j < length chosen = omega arith in
                fresh (get_or chosen j 0) (known j lj) (sym (front j lj) ∙ e ∙ back k last)
            | inr ne ↦
                let lk : k < length chosen = omega arith in
                let lj : j < length chosen = omega arith in
                h.distinct j k lt lk (sym (front j lj) ∙ e ∙ front k lk)
          ]

-- ---- the rows of pairs
pub sparse_start :
    (rows : List RowShown) (pairs : ℕ) → 0 < pairs → 0 < length rows → length rows ≤ 2 * pairs → IsSparse rows (0 ∷ []) (2 * pairs - 1)
sparse_start rows pairs some there size = record {
  within = (omega arith, tt);
  distinct = λ j k lt bound. absurd (omega (arith, bound, lt));
  few = omega arith;
}

-- a key that is not marked is the lead of no row
pub not_a_lead :
    (n : ℕ) (ws : List ℕ) (list : List (List (CodeKey × ℕ))) (keys : List CodeKey) (rows : List RowShown) (products : List KeptProduct) (led : List Bool)
    (lead cursor : ℕ)
    → IsPlan n ws list keys rows products led → (get_or led cursor false ≡ true → ⊥) → lead ≡ cursor
    → (i : ℕ) → i < length rows → lead_number rows i ≡ lead → ⊥
not_a_lead n ws list keys rows products led lead cursor h free e i lt same =
    free (subst (λ c. get_or led c false ≡ true) (same ∙ e) (h.leads i lt))
