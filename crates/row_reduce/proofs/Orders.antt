-- Rows in another order
use Rattle.std.proofs.Common.{List, [], ap, arith, get_or, length, subst, sym, ℕ, ◌<◌, ◌∙◌, ◌≡◌}
use Rattle.std.proofs.lemmas.List.{get_or-map, get_or_default, length-map}
use Rattle.std.proofs.lemmas.List.Elements.{Contains-get_or}
use Rattle.std.proofs.lemmas.List.Sorted.{Contains-permutation, IsPermutation-sym, length_permutation}
use Rattle.std.specs.List.Sorted.{IsPermutation}
use Rattle.formal_sums.specs.FormalSums.{Key}
use Rattle.term_lists.proofs.Gathers.{Each_permutation}
use Rattle.row_laws.proofs.RowSpans.{IsInSpan_itself, IsInSpan_through}
use Rattle.row_laws.specs.Rows.{IsInSpan}
use Rattle.row_matrix.specs.Rows.{RowShown, first_column, no_row, row_sum, shown_row_at}
use Rattle.dense_reduction.specs.Pivots.{row_vectors}
use Rattle.row_reduce.specs.Echelons.{IsEchelonOf}

-- a row of the one list is a row of the other
row_moved : (A B : List RowShown) → IsPermutation A B → (i : ℕ) → i < length A → (j : ℕ) × (j < length B) × (shown_row_at B j ≡ shown_row_at A i)
row_moved A B h i lt =
    let there = Contains-permutation A B (shown_row_at A i) h (Contains-get_or A i no_row lt) in
    (there.0, there.1, get_or_default B there.0 no_row (shown_row_at A i) there.1 ∙ there.2)

pub vector_at : {n : ℕ} (key : ℕ → Key n) (A : List RowShown) (i : ℕ) → i < length A → get_or (row_vectors key A) i [] ≡ row_sum key (shown_row_at A i).entries
vector_at key A i lt = get_or-map (λ (x : RowShown). row_sum key x.entries) A i no_row [] lt

-- an echelon form of rows is one of them in another order
pub echelon_permuted :
    (p columns inputs : ℕ) (M N E : List RowShown) → IsPermutation M N → IsEchelonOf p columns inputs N E → IsEchelonOf p columns inputs M E
echelon_permuted p columns inputs M N E same h = record {
  rows = h.rows;
  apart = h.apart;
  few = omega (arith, h.few, length_permutation M N same);
  leads = λ i lt.
      let m = row_moved M N same i lt in
      let k = h.leads m.0 m.1 in
      (k.0, k.1, k.2 ∙ ap (λ (r : RowShown). first_column r.entries) m.2);
  inside = λ n key i lt.
      let m = row_moved M N same i lt in
      subst (IsInSpan p (row_vectors key E)) (vector_at key N m.0 m.1 ∙ ap (λ (r : RowShown). row_sum key r.entries) m.2 ∙ sym (vector_at key M i lt)) (h.inside n key m.0 m.1);
  outside = λ n key k lt.
      IsInSpan_through (row_vectors key M) (row_vectors key N)
      (λ i l.
      let l' : i < length N = omega (arith, l, length-map N (λ (x : RowShown). row_sum key x.entries)) in
      let m = row_moved N M (IsPermutation-sym M N same) i l' in
      subst (IsInSpan p (row_vectors key M)) (vector_at key M m.0 m.1 ∙ ap (λ (r : RowShown). row_sum key r.entries) m.2 ∙ sym (vector_at key N i l')) (IsInSpan_itself p (row_vectors key M) m.0))
      (get_or (row_vectors key E) k []) (h.outside n key k lt);
  combined = λ n F key from. h.combined n F key (Each_permutation _ M N same from);
}
