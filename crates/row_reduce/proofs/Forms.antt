-- Echelon forms by columns in the words of the base
use Rattle.std.proofs.Common.{Equal, Greater, List, [], ap, arith, get_or, inl, inr, length, refl, suc, sym, ℕ, ◌+◌, ◌<◌, ◌∙◌, ◌∷◌, ◌≡◌}
use Rattle.std.proofs.lemmas.Bool.{cases_eq, cases_lt}
use Rattle.std.proofs.lemmas.List.{get_or-map, get_or_default, length-map}
use Rattle.formal_sums.specs.FormalSums.{Each, FormalSum}
use Rattle.orders.proofs.KeyOrdering.{equal_itself}
use Rattle.orders.specs.KeyOrders.{Descends}
use Rattle.bases.proofs.NormalForms.{IsMonicLead_normal}
use Rattle.bases.specs.Leads.{HasReducedResidues, IsMonicLead, IsNormal, head_coefficient, head_key}
use Rattle.bases.specs.Settings.{IsLawful, Setting}
use Rattle.term_lists.proofs.Scaling.{Each_at}
use Rattle.term_lists.specs.declared.key.Key.{Key as CodeKey}
use Rattle.row_laws.specs.Jobs.{IsEchelonForm}
use Rattle.row_laws.specs.Rows.{HasDistinctLeads}
use Rattle.row_matrix.specs.Rows.{AreEntries, Descend, Entry, IsRow, RowShown}
use Rattle.row_matrix.specs.Rows.{column_key, first_column, first_residue, no_row, row_sum, shown_row_at, vector_of, vectors_of}
use Rattle.dense_reduction.proofs.Entries.{entries_from, entries_within, first_below}
use Rattle.dense_reduction.specs.Pivots.{lead_column}
use Rattle.row_reduce.specs.Echelons.{IsEchelonOf}

module _ (n : ℕ) (S : Setting n) (lawful : IsLawful S) (columns : List CodeKey) (descend : Descend n S.compare columns) where
  -- entries whose columns ascend descend
  pub row_descends : (low : ℕ) (es : List Entry) → AreEntries S.modulus low (length columns) es → Descends S.compare (row_sum (column_key n columns) es)
  row_descends low [] h = tt
  row_descends low (e ∷ es) h = (behind es (entries_from S.modulus (e.0 + 1) (length columns) e.0 es h.3 (omega arith)) (entries_within S.modulus (e.0 + 1) (length columns) es h.3), row_descends (e.0 + 1) es h.3)
    where
      behind : (xs : List Entry) → Each (λ x. e.0 < x.0) xs → Each (λ x. (x.0 < length columns) × (x.1 < S.modulus)) xs → Each (λ u. S.compare (column_key n columns e.0) u.0 ≡ Greater) (row_sum (column_key n columns) xs)
      behind [] a b = tt
      behind (x ∷ xs) a b = (descend e.0 x.0 a.0 b.0.0, behind xs a.1 b.1)

  row_residues : (low : ℕ) (es : List Entry) → AreEntries S.modulus low (length columns) es → HasReducedResidues S (row_sum (column_key n columns) es)
  row_residues low [] h = tt
  row_residues low (e ∷ es) h = ((h.1, h.2), row_residues (e.0 + 1) es h.3)

  residue_first : (es : List Entry) → head_coefficient (row_sum (column_key n columns) es) ≡ first_residue es
  residue_first [] = refl
  residue_first (e ∷ es) = refl

  pub key_first : (es : List Entry) → first_residue es ≡ 1 → head_key (row_sum (column_key n columns) es) ≡ column_key n columns (first_column es)
  key_first [] e = absurd (omega arith)
  key_first (x ∷ es) e = refl

  -- the vector of a row is in normal form, and monic
  pub row_normal : (inputs : ℕ) (r : RowShown) → IsRow S.modulus (length columns) inputs r → IsNormal S (vector_of n columns r)
  row_normal inputs r h = record { descends = row_descends 0 r.entries h.entries; residues = row_residues 0 r.entries h.entries }

  pub row_monic : (inputs : ℕ) (r : RowShown) → IsRow S.modulus (length columns) inputs r → IsMonicLead S (vector_of n columns r) (head_key (vector_of n columns r))
  row_monic inputs r h = IsMonicLead_normal S lawful (vector_of n columns r) (row_normal inputs r h) (residue_first r.entries ∙ h.monic)

  rows_monic : (inputs : ℕ) (E : List RowShown) → Each (IsRow S.modulus (length columns) inputs) E → Each (λ v. IsMonicLead S v (head_key v)) (vectors_of n columns E)
  rows_monic inputs [] h = tt
  rows_monic inputs (r ∷ E) h = (row_monic inputs r h.0, rows_monic inputs E h.1)

  -- columns with one key are one
  pub one_column : (a b : ℕ) → a < length columns → b < length columns → column_key n columns a ≡ column_key n columns b → a ≡ b
  one_column a b la lb e = elim (cases_eq a b) [
    | inl f ↦ f
    | inr ne ↦ elim (cases_lt a b) [
      | inl lt ↦ absurd (clash a b e (descend a b lt lb))
      | inr ge ↦ absurd (clash b a (sym e) (descend b a (omega arith) la))
    ]
  ]
    where
      clash : (x y : ℕ) → column_key n columns x ≡ column_key n columns y → S.compare (column_key n columns x) (column_key n columns y) ≡ Greater → ⊥
      clash x y f g = let q : S.compare (column_key n columns x) (column_key n columns y) ≡ Equal = ap (S.compare (column_key n columns x)) (sym f) ∙ equal_itself lawful.order (column_key n columns x) in let z : Equal ≡ Greater = sym q ∙ g in cc

  distinct_leads : (vs : List (FormalSum n)) → ((j k : ℕ) → j < k → k < length vs → head_key (get_or vs j []) ≡ head_key (get_or vs k []) → ⊥) → HasDistinctLeads vs
  distinct_leads [] h = tt
  distinct_leads (v ∷ vs) h = (first vs (λ k lt e. h 0 (suc k) (omega arith) (omega arith) e), distinct_leads vs (λ j k lt l e. h (suc j) (suc k) (omega arith) (omega arith) e))
    where
      first : (ws : List (FormalSum n)) → ((k : ℕ) → k < length ws → head_key v ≡ head_key (get_or ws k []) → ⊥) → Each (λ f. head_key v ≡ head_key f → ⊥) ws
      first [] g = tt
      first (w ∷ ws) g = (g 0 (omega arith), first ws (λ k lt e. g (suc k) (omega arith) e))

  pub echelon_form :
      (inputs : ℕ) (M E : List RowShown)
      → IsEchelonOf S.modulus (length columns) inputs M E → IsEchelonForm S (vectors_of n columns M) (vectors_of n columns E)
  echelon_form inputs M E h = record {
    echelon = record {
      monic = rows_monic inputs E h.rows;
      distinct = distinct_leads (vectors_of n columns E) apart;
    };
    span = record {
      inside = λ i lt. h.inside n (column_key n columns) i (omega (arith, length-map M (λ (r : RowShown). vector_of n columns r)));
      outside = λ k lt. h.outside n (column_key n columns) k (omega (arith, length-map E (λ (r : RowShown). vector_of n columns r)));
    };
  }
    where
      size : length (vectors_of n columns E) ≡ length E
      size = length-map E (λ (r : RowShown). vector_of n columns r)

      good : (k : ℕ) → k < length E → IsRow S.modulus (length columns) inputs (shown_row_at E k)
      good k lt = Each_at (IsRow S.modulus (length columns) inputs) E k (shown_row_at E k) h.rows lt (get_or_default E k no_row (shown_row_at E k) lt)

      lead : (k : ℕ) → k < length E → head_key (get_or (vectors_of n columns E) k []) ≡ column_key n columns (lead_column E k)
      lead k lt = ap head_key (get_or-map (λ (r : RowShown). vector_of n columns r) E k no_row [] lt) ∙ key_first (shown_row_at E k).entries (good k lt).monic

      below : (k : ℕ) → k < length E → lead_column E k < length columns
      below k lt = let g = good k lt in first_below S.modulus (length columns) (shown_row_at E k).entries g.entries g.monic

      apart : (j k : ℕ) → j < k → k < length (vectors_of n columns E) → head_key (get_or (vectors_of n columns E) j []) ≡ head_key (get_or (vectors_of n columns E) k []) → ⊥
      apart j k lt l e =
          let lk : k < length E = omega (arith, size) in
          let lj : j < length E = omega arith in
          h.apart j k lt lk (one_column (lead_column E j) (lead_column E k) (below j lj) (below k lk) (sym (lead j lj) ∙ e ∙ lead k lk))
