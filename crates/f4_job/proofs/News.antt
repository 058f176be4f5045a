-- The rows of an echelon form whose lead no row of the matrix has
use Rattle.std.proofs.Common.{Bool, List, [], ap, arith, false, get_or, inl, inr, length, sym, true, true≢false, ℕ, ◌<◌, ◌∙◌, ◌≡◌}
use Rattle.std.proofs.lemmas.List.{get_or-map, get_or_default, length-map}
use Rattle.formal_sums.specs.FormalSums.{Each}
use Rattle.bases.specs.Leads.{head_key, leads}
use Rattle.bases.specs.Settings.{IsLawful, Setting}
use Rattle.term_lists.proofs.Scaling.{Each_at}
use Rattle.term_lists.specs.declared.key.Key.{Key as CodeKey}
use Rattle.row_laws.proofs.Jobs.{ContainsLead_row}
use Rattle.row_laws.specs.Jobs.{IsNewRows}
use Rattle.row_matrix.specs.Rows.{Descend, IsRow, RowShown, column_key, no_row, shown_row_at, vector_of, vectors_of}
use Rattle.dense_reduction.proofs.Entries.{first_below}
use Rattle.dense_reduction.specs.Pivots.{lead_column}
use Rattle.row_reduce.proofs.Forms.{key_first, one_column}
use Rattle.row_reduce.specs.Echelons.{IsEchelonOf}
use Rattle.symbolic_prep.proofs.Matrices.{contains_at}
use Rattle.f4_job.specs.Flags.{AreFlags, unflagged}
use Rattle.f4_job.proofs.Flagging.{unflagged_all, unflagged_each, unflagged_from}

-- ---- the rows of the echelon form without a flag are the new ones
module _ (n inputs : ℕ) (S : Setting n) (lawful : IsLawful S) (columns : List CodeKey) (descend : Descend n S.compare columns) (M E : List RowShown)
    (flags : List Bool)
    (good : Each (IsRow S.modulus (length columns) inputs) M) (form : IsEchelonOf S.modulus (length columns) inputs M E) (set_at : AreFlags M flags) where
  N : List RowShown
  N = unflagged flags E

  size : (rows : List RowShown) → length (vectors_of n columns rows) ≡ length rows
  size rows = length-map rows (λ (r : RowShown). vector_of n columns r)

  at : (rows : List RowShown) (i : ℕ) → i < length rows → get_or (vectors_of n columns rows) i [] ≡ vector_of n columns (shown_row_at rows i)
  at rows i lt = get_or-map (λ (r : RowShown). vector_of n columns r) rows i no_row [] lt

  pub row_good : (rows : List RowShown) → Each (IsRow S.modulus (length columns) inputs) rows → (i : ℕ) → i < length rows
      → IsRow S.modulus (length columns) inputs (shown_row_at rows i)
  row_good rows h i lt = Each_at (IsRow S.modulus (length columns) inputs) rows i (shown_row_at rows i) h lt (get_or_default rows i no_row (shown_row_at rows i) lt)

  pub lead : (rows : List RowShown) → Each (IsRow S.modulus (length columns) inputs) rows → (i : ℕ) → i < length rows
      → leads (vectors_of n columns rows) i ≡ column_key n columns (lead_column rows i)
  lead rows h i lt = ap head_key (at rows i lt) ∙ key_first n S lawful columns descend (shown_row_at rows i).entries (row_good rows h i lt).monic

  pub below : (rows : List RowShown) → Each (IsRow S.modulus (length columns) inputs) rows → (i : ℕ) → i < length rows → lead_column rows i < length columns
  below rows h i lt = let g = row_good rows h i lt in first_below S.modulus (length columns) (shown_row_at rows i).entries g.entries g.monic

  new_good : Each (IsRow S.modulus (length columns) inputs) (unflagged flags E)
  new_good = unflagged_each (IsRow S.modulus (length columns) inputs) flags E form.rows

  pub news : IsNewRows (vectors_of n columns M) (vectors_of n columns E) (vectors_of n columns (unflagged flags E))
  news = record {
    rows = λ k lt.
        let l : k < length (unflagged flags E) = omega (arith, size (unflagged flags E)) in
        let o = unflagged_from flags E k l in
        (o.0, omega (arith, o.1, size E), at E o.0 o.1 ∙ ap (λ (r : RowShown). vector_of n columns r) o.2 ∙ sym (at (unflagged flags E) k l));
    new = λ k lt has.
        let l : k < length (unflagged flags E) = omega (arith, size (unflagged flags E)) in
        let o = unflagged_from flags E k l in
        let r = ContainsLead_row (vectors_of n columns M) (leads (vectors_of n columns (unflagged flags E)) k) has in
        let lr : r.0 < length M = omega (arith, r.1, size M) in
        let same : lead_column M r.0 ≡ lead_column (unflagged flags E) k =
        one_column n S lawful columns descend (lead_column M r.0) (lead_column (unflagged flags E) k) (below M good r.0 lr)
        (below (unflagged flags E) new_good k l)
        (sym (lead M good r.0 lr) ∙ r.2 ∙ lead (unflagged flags E) new_good k l) in
        let z : true ≡ false = sym (set_at.leads r.0 lr) ∙ ap (λ c. get_or flags c false) same ∙ o.3 in
        true≢false z;
    all = λ j lt.
        let l : j < length E = omega (arith, size E) in
        elim (unflagged_all flags E j l) [
          | inl f ↦
              let o = set_at.set (lead_column E j) f in
              inl (contains_at (vectors_of n columns M) o.0 (leads (vectors_of n columns E) j) (omega (arith, o.1, size M))
              (lead M good o.0 o.1 ∙ ap (column_key n columns) o.2 ∙ sym (lead E form.rows j l)))
          | inr h ↦ inr (
            h.0,
            omega (arith, h.1, size (unflagged flags E)),
            at (unflagged flags E) h.0 h.1
                ∙ ap (λ (r : RowShown). vector_of n columns r) h.2 ∙ sym (at E j l),
          )
        ];
  }
