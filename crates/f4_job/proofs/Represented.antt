-- The new rows with the members represent the pairs
use Rattle.std.proofs.Common.{Bool, List, [], ap, append-nil, arith, get_or, inl, inr, length, map, subst, sym, ℕ, ◌++◌, ◌<◌, ◌∙◌, ◌∷◌, ◌≡◌}
use Rattle.std.proofs.lemmas.Bool.{cases_lt}
use Rattle.std.proofs.lemmas.List.{get_or-map, get_or_default, length-map}
use Rattle.residues.proofs.Congruences.{IsCongruent_sym, IsCongruent_trans}
use Rattle.monomials.specs.Exponents.{unit}
use Rattle.formal_sums.proofs.Combining.{scale-one}
use Rattle.formal_sums.proofs.Sameness.{IsSame_of}
use Rattle.formal_sums.specs.Combinations.{combination}
use Rattle.formal_sums.specs.FormalSums.{Each, FormalSum, IsOfRank, scale}
use Rattle.bases.proofs.Leading.{one_not_zero}
use Rattle.bases.proofs.NormalForms.{IsMonicLead_normal}
use Rattle.bases.specs.Leads.{IsMonicLead, IsMonicList, IsNormal, head_key, leads}
use Rattle.bases.specs.Representations.{HasLcmRepresentation}
use Rattle.bases.specs.Settings.{IsLawful, Setting}
use Rattle.term_lists.proofs.Scaling.{Each_at}
use Rattle.term_lists.specs.Vectors.{IsVector, sum_of, sums_of}
use Rattle.term_lists.specs.declared.key.Key.{Key as CodeKey}
use Rattle.module_vectors.specs.Trails.{KeptProduct}
use Rattle.pair_criteria.specs.declared.pair.Pair.{Pair as CodePair}
use Rattle.row_laws.proofs.Jobs.{job_representation}
use Rattle.row_laws.proofs.NewRows.{IsMonicList_new}
use Rattle.row_laws.specs.Jobs.{HasPairRows, IsEchelonForm, IsNewRows}
use Rattle.vector_division.proofs.Members.{sums_at}
use Rattle.row_matrix.specs.Rows.{IsFromSources, IsRow, MatrixShown, RowShown}
use Rattle.row_matrix.specs.Rows.{column_key, first_column, no_row, row_sum, shown_row_at, source_key, vector_of, vectors_of}
use Rattle.dense_reduction.proofs.Entries.{first_below, monic_entries}
use Rattle.dense_reduction.specs.Underway.{AreRowsCombined}
use Rattle.row_reduce.proofs.Forms.{echelon_form}
use Rattle.row_reduce.specs.Echelons.{IsEchelonOf}
use Rattle.symbolic_prep.proofs.Matrices.{Each_index}
use Rattle.symbolic_prep.specs.Plans.{IsMemberPair, product_sum}
use Rattle.symbolic_prep.specs.Prepared.{IsMonicVector, IsPrepared}
use Rattle.f4_job.specs.Flags.{AreFlags, unflagged}
use Rattle.f4_job.specs.Solved.{AreNewRows}
use Rattle.term_lists.proofs.NormalVectors.{residues_of}
use Rattle.f4_job.proofs.Counting.{new_few}
use Rattle.f4_job.proofs.Flagging.{unflagged_each}
use Rattle.f4_job.proofs.Lowering.{new_low}
use Rattle.f4_job.proofs.News.{news}

-- ---- members that are monic
module _ (n : ℕ) (S : Setting n) (lawful : IsLawful S) (list : List (List (CodeKey × ℕ)))
    (vectors : Each (IsVector n S.weights S.modulus S.compare) list) (monic : Each (IsMonicVector n) list)
    (ranks : (i : ℕ) → i < length (sums_of n list) → IsOfRank S.modulus S.rank (get_or (sums_of n list) i [])) where
  lead_one : (i : ℕ) → i < length (sums_of n list) → IsMonicLead S (get_or (sums_of n list) i []) (leads (sums_of n list) i)
  lead_one i lt =
      let l : i < length list = omega (arith, length-map list (λ (v : List (CodeKey × ℕ)). sum_of n v)) in
      let v = Each_at (IsVector n S.weights S.modulus S.compare) list i (get_or list i []) vectors l (get_or_default list i [] (get_or list i []) l) in
      let m = Each_at (IsMonicVector n) list i (get_or list i []) monic l (get_or_default list i [] (get_or list i []) l) in
      let normal : IsNormal S (sum_of n (get_or list i [])) =
      record { descends = v.descends; residues = residues_of n S.weights S.modulus (get_or list i []) v.each } in
      subst (λ w. IsMonicLead S w (head_key w)) (sym (sums_at n list i)) (IsMonicLead_normal S lawful (sum_of n (get_or list i [])) normal m.1)

  pub members_monic : IsMonicList S (sums_of n list)
  members_monic = record {
    monic = lead_one;
    ranked = λ i lt. elim (cases_lt (leads (sums_of n list) i).0 S.rank) [
      | inl l ↦ l
      | inr ge ↦ absurd (one_not_zero S lawful (IsCongruent_trans (IsCongruent_sym (lead_one i lt).one) ((ranks i lt).past (leads (sums_of n list) i) ge)))
    ];
  }

-- ---- all of it
module _ (n : ℕ) (S : Setting n) (lawful : IsLawful S) (list : List (List (CodeKey × ℕ))) (pairs : List CodePair) (m : MatrixShown) (products : List KeptProduct)
    (flags : List Bool) (E : List RowShown)
    (vectors : Each (IsVector n S.weights S.modulus S.compare) list) (monic : Each (IsMonicVector n) list) (of_pairs : Each (IsMemberPair n S.weights list) pairs)
    (h : IsPrepared n S list pairs m products) (form : IsEchelonOf S.modulus (length m.columns) m.inputs m.rows E) (flagged : AreFlags m.rows flags) where
  abbrev F : List (FormalSum n)
  F = map (λ (s : KeptProduct). product_sum n list s) products

  count : m.inputs ≡ length products
  count = h.inputs ∙ sym (length-map m.rows (λ (r : RowShown). vector_of n m.columns r)) ∙ ap length h.vectors
      ∙ length-map products (λ (s : KeptProduct). product_sum n list s)

  itself : (i : ℕ) → i < length m.rows → IsFromSources n S.modulus F m.columns (shown_row_at m.rows i)
  itself i lt = IsSame_of S.modulus _ _ (
      ap (λ es. combination F (row_sum (source_key n) es)) (h.sources i lt) ∙ append-nil (scale 1 (unit n) (get_or F i [])) ∙ scale-one (get_or F i [])
      ∙ ap (λ xs. get_or xs i []) (sym h.vectors) ∙ get_or-map (λ (r : RowShown). vector_of n m.columns r) m.rows i no_row [] lt)

  from : AreRowsCombined S.modulus F (column_key n m.columns) m.rows
  from = Each_index (IsFromSources n S.modulus F m.columns) m.rows no_row itself

  new : IsNewRows (vectors_of n m.columns m.rows) (vectors_of n m.columns E) (vectors_of n m.columns (unflagged flags E))
  new = news n m.inputs S lawful m.columns h.matrix.descend m.rows E flags h.matrix.rows form flagged

  echelon : IsEchelonForm S (vectors_of n m.columns m.rows) (vectors_of n m.columns E)
  echelon = echelon_form n S lawful m.columns h.matrix.descend m.inputs m.rows E form

  each :
      ((i : ℕ) → i < length (sums_of n list) → IsOfRank S.modulus S.rank (get_or (sums_of n list) i []))
      → (ps : List CodePair) → Each (IsMemberPair n S.weights list) ps
      → Each (λ (x : CodePair). HasPairRows S.modulus (sums_of n list) (vectors_of n m.columns m.rows) x.i x.j) ps
      → Each (λ (x : CodePair). HasLcmRepresentation S (sums_of n list ++ vectors_of n m.columns (unflagged flags E)) x.i x.j) ps
  each ranks [] a b = tt
  each ranks (x ∷ ps) a b = (
    (let G = sums_of n list in
        let M = vectors_of n m.columns m.rows in
        let V = vectors_of n m.columns E in
        let N = vectors_of n m.columns (unflagged flags E) in
        let size : length (sums_of n list) ≡ length list = length-map list (λ (v : List (CodeKey × ℕ)). sum_of n v) in
        job_representation S lawful G M V N (members_monic n S lawful list vectors monic ranks)
        (IsMonicList_new S lawful G M V N echelon new ranks h.products) h.products echelon new x.i x.j
        (subst (λ c. x.i < c) (sym size) a.0.left) (subst (λ c. x.j < c) (sym size) a.0.right)
        (ap (λ (v : FormalSum n). (head_key v).0) (sums_at n list x.i) ∙ a.0.position
        ∙ ap (λ (v : FormalSum n). (head_key v).0) (sym (sums_at n list x.j))) b.0),
    each ranks ps a.1 b.1,
  )

  pub solved : AreNewRows n S list pairs products m.columns (unflagged flags E)
  solved = record {
    monomials = h.matrix.monomials;
    descend = h.matrix.descend;
    each_product = h.each_product;
    traced = h.traced;
    rows_good = subst (λ c. Each (IsRow S.modulus (length m.columns) c) (unflagged flags E)) count
        (unflagged_each (IsRow S.modulus (length m.columns) m.inputs) flags E form.rows);
    combined = unflagged_each (IsFromSources n S.modulus F m.columns) flags E (form.combined n F (column_key n m.columns) from);
    few = λ some. new_few n S lawful m.columns h.matrix.descend m.inputs m.rows E flags h.matrix.rows form flagged (length pairs) (h.few some);
    low = new_low n S lawful list vectors pairs m products h E form flags flagged new;
    represented = λ ranks. each ranks pairs of_pairs h.pair_rows;
  }

-- the rows begin within the columns
pub begin_within : (p columns inputs : ℕ) (rows : List RowShown) → Each (IsRow p columns inputs) rows
    → Each (λ (r : RowShown). (0 < length r.entries) × (first_column r.entries < columns)) rows
begin_within p columns inputs [] h = tt
begin_within p columns inputs (r ∷ rows) h =
    (((monic_entries p 0 columns r.entries h.0.entries h.0.monic).2, first_below p columns r.entries h.0.entries h.0.monic), begin_within p columns inputs rows h.1)
