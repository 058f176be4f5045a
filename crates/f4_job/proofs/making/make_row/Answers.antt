use Rattle.std.proofs.Common.{List, ap, length, map, subst, sym, ◌∙◌, ◌<◌}
use Rattle.std.specs.List.Sorted.{IsPermutation}
use Rattle.formal_sums.proofs.Sameness.{IsSame_of, IsSame_trans}
use Rattle.formal_sums.specs.FormalSums.{Each}
use Rattle.term_lists.proofs.Gathers.{Each_permutation}
use Rattle.term_lists.specs.Rings.{variables}
use Rattle.term_lists.specs.Vectors.{AreTermsOver, IsMonomialOver, sum_of}
use Rattle.row_matrix.specs.Rows.{Entry}
use Rattle.vector_division.specs.Reductions.{term_of}
use Rattle.vector_division.specs.declared.reduction.ScaledProduct.{ScaledProduct}
use Rattle.f4_job.proofs.MadeRows.{columns_within, parts_over, parts_permuted, parts_same, source_terms_over, source_terms_sum, terms_over, terms_sum, vector_same}
use Rattle.f4_job.specs.Made.{entry_term, source_parts}
use Rattle.f4_job.proofs.making.make_row.Goals as goal

pub row_terms-requires : goal.row_terms-requires
row_terms-requires c =
    let p = c.args.ring.now.modulus.value in
    let columns = c.args.columns.now in
    subst (Each (λ (e : Entry). e.0 < length columns)) (sym c.entries.ensures)
    (columns_within p 0 (length columns) c.args.row.now.entries c.requires.row.entries)

pub from_terms-requires : goal.from_terms-requires
from_terms-requires c =
    let columns = c.args.columns.now in
    subst (AreTermsOver c.args.ring.now) (sym (c.in_ok-terms.ensures ∙ ap (map (λ (e : Entry). entry_term columns e)) c.entries.ensures))
    (terms_over c.args.ring.now columns 0 c.args.row.now.entries c.requires.columns c.requires.row.entries)

pub source_terms-requires : goal.source_terms-requires
source_terms-requires c =
    let p = c.args.ring.now.modulus.value in
    let products = c.args.products.now in
    subst (Each (λ (e : Entry). e.0 < length products)) (sym c.deref.ensures.value)
    (Each_permutation (λ (e : Entry). e.0 < length products) c.args.row.now.sources c.in_ok-sources.sources.items
    (subst (λ es. IsPermutation es c.in_ok-sources.sources.items) c.sources.ensures c.in_ok-sources.ensures)
    (columns_within p 0 (length products) c.args.row.now.sources c.requires.row.sources))

pub from_terms-requires-2 : goal.from_terms-requires-2
from_terms-requires-2 c =
    let ring = c.args.ring.now in
    let products = c.args.products.now in
    let es = c.args.row.now.sources in
    let fs = c.in_ok-sources.sources.items in
    subst (AreTermsOver ring)
    (sym (c.in_ok-cofactors.ensures ∙ ap (λ (ss : List Entry). map term_of (source_parts products ss)) c.deref.ensures.value))
    (source_terms_over ring (source_parts products fs)
    (Each_permutation (λ (q : ScaledProduct). IsMonomialOver ring q.monomial × (q.residue < ring.modulus.value))
    (source_parts products es) (source_parts products fs)
    (parts_permuted products es fs (subst (λ xs. IsPermutation xs fs) c.sources.ensures c.in_ok-sources.ensures))
    (parts_over ring products 0 es c.requires.products c.requires.row.sources)))

pub returns : goal.returns
returns c =
    let ring = c.args.ring.now in
    let n = variables ring in
    let columns = c.args.columns.now in
    let products = c.args.products.now in
    let r = c.args.row.now in
    let is = ap (sum_of n) (c.in_ok-terms.ensures ∙ ap (map (λ (e : Entry). entry_term columns e)) c.entries.ensures) ∙ terms_sum n columns r.entries in
    let fs = c.in_ok-sources.sources.items in
    let cofactors = ap (sum_of n) (c.in_ok-cofactors.ensures ∙ ap (λ (ss : List Entry). map term_of (source_parts products ss)) c.deref.ensures.value)
    ∙ source_terms_sum n (source_parts products fs) in
    record {
      vector = c.in_ok-vector.ensures.vector;
      sum = vector_same ring columns (length products) r c.in_ok-vector.vector c.requires.descend c.requires.row c.in_ok-vector.ensures.vector
          (IsSame_trans c.in_ok-vector.ensures.same (IsSame_of ring.modulus.value _ _ is));
      products = c.in_ok-products.ensures.vector;
      made = IsSame_trans c.in_ok-products.ensures.same
          (IsSame_trans (IsSame_of ring.modulus.value _ _ cofactors)
          (parts_same n ring.modulus.value products r.sources fs
          (subst (λ es. IsPermutation es fs) c.sources.ensures c.in_ok-sources.ensures)));
    }
