-- Rows of a matrix as rows of an outcome
use Rattle.std.proofs.Common.{List, [], ap, get_or, length, map, refl, sym, take, ℕ, ◌*◌, ◌++◌, ◌+◌, ◌<◌, ◌∙◌, ◌∷◌, ◌≡◌}
use Rattle.std.proofs.lemmas.List.{get_or_default, map-append, map_more}
use Rattle.std.proofs.lemmas.List.Sorted.{IsPermutation-map, sum_by-IsPermutation}
use Rattle.std.proofs.lemmas.List.Sums.{sum_by-cons}
use Rattle.std.specs.List.{sum_by}
use Rattle.std.specs.List.Sorted.{IsPermutation}
use Rattle.residues.proofs.Congruences.{IsCongruent_of}
use Rattle.monomials.specs.Exponents.{exponents_of}
use Rattle.formal_sums.specs.FormalSums.{Each, FormalSum, IsSame, Key, Term, indicator, weighted_sum}
use Rattle.bases.proofs.NormalForms.{normal_unique}
use Rattle.member_products.proofs.Ranks.{ring_lawful}
use Rattle.term_lists.proofs.NormalVectors.{residues_of}
use Rattle.term_lists.proofs.Parts.{Each_member}
use Rattle.term_lists.specs.Rings.{ring_comparison, setting, variables}
use Rattle.term_lists.specs.Vectors.{AreTermsOver, IsMonomialOver, IsVectorOver, StandsFor, sum_of}
use Rattle.term_lists.specs.declared.key.Key.{Key as CodeKey}
use Rattle.term_lists.specs.declared.ring.Ring.{Ring}
use Rattle.module_vectors.specs.Trails.{KeptProduct, kept_at, no_product}
use Rattle.monomial_orders.specs.Kept.{IsWeighed, Monomial}
use Rattle.member_products.specs.declared.member.Reduct.{Reduct as CodeReduct}
use Rattle.row_matrix.specs.Hashes.{no_key}
use Rattle.row_matrix.specs.Rows.{AreEntries, AreKeys, Descend, Entry, IsRow, RowShown, column_key, row_sum, vector_of}
use Rattle.dense_reduction.proofs.Entries.{entries_within}
use Rattle.row_reduce.proofs.Forms.{row_normal}
use Rattle.vector_division.specs.Reductions.{cofactors_of, term_of}
use Rattle.vector_division.specs.declared.reduction.ScaledProduct.{ScaledProduct}
use Rattle.f4_job.specs.Made.{AreMadeRows, AreWeighedProducts, IsMadeRow, entry_term, source_part, source_parts}

-- the terms stand for the row's vector
pub terms_sum : (n : ℕ) (columns : List CodeKey) (es : List Entry) → sum_of n (map (λ e. entry_term columns e) es) ≡ row_sum (column_key n columns) es
terms_sum n columns [] = refl
terms_sum n columns (e ∷ es) = ap (λ v. (column_key n columns e.0, e.1) ∷ v) (terms_sum n columns es)

pub columns_within : (p low high : ℕ) (es : List Entry) → AreEntries p low high es → Each (λ e. e.0 < high) es
columns_within p low high es h = go es (entries_within p low high es h)
  where
    go : (xs : List Entry) → Each (λ x. (x.0 < high) × (x.1 < p)) xs → Each (λ e. e.0 < high) xs
    go [] w = tt
    go (x ∷ xs) w = (w.0.0, go xs w.1)

pub terms_over : (ring : Ring) (columns : List CodeKey) (low : ℕ) (es : List Entry)
    → AreKeys (variables ring) ring.weights columns → AreEntries ring.modulus.value low (length columns) es
    → AreTermsOver ring (map (λ e. entry_term columns e) es)
terms_over ring columns low [] k h = tt
terms_over ring columns low (e ∷ es) k h =
    let w = entries_within ring.modulus.value low (length columns) (e ∷ es) h in (
      (Each_member (λ (c : CodeKey). IsWeighed (variables ring) ring.weights c.monomial) columns e.0 no_key k w.0.0, w.0.1),
      terms_over ring columns
          (e.0 + 1) es k h.3,
    )

pub parts_over : (ring : Ring) (products : List KeptProduct) (low : ℕ) (es : List Entry)
    → AreWeighedProducts (variables ring) ring.weights products → AreEntries ring.modulus.value low (length products) es
    → Each (λ (q : ScaledProduct). IsMonomialOver ring q.monomial × (q.residue < ring.modulus.value)) (source_parts products es)
parts_over ring products low [] k h = tt
parts_over ring products low (e ∷ es) k h =
    let w = entries_within ring.modulus.value low (length products) (e ∷ es) h in
    ((Each_member (λ (s : KeptProduct). IsWeighed (variables ring) ring.weights s.1) products e.0 no_product k w.0.0, w.0.1), parts_over ring products (e.0 + 1) es k h.3)

-- the sources as terms stand for the sum of their products
pub source_terms_sum : (n : ℕ) (qs : List ScaledProduct) → sum_of n (map term_of qs) ≡ cofactors_of n qs
source_terms_sum n [] = refl
source_terms_sum n (q ∷ qs) = ap (λ l. ((q.index, exponents_of n q.monomial.exponents), q.residue) ∷ l) (source_terms_sum n qs)

pub source_terms_over :
    (ring : Ring) (qs : List ScaledProduct) → Each (λ q. IsMonomialOver ring q.monomial × (q.residue < ring.modulus.value)) qs → AreTermsOver ring (map term_of qs)
source_terms_over ring [] h = tt
source_terms_over ring (q ∷ qs) h = (h.0, source_terms_over ring qs h.1)

-- one source more, whose product is s
pub source_terms_more :
    (products : List KeptProduct) (sources : List Entry) (i : ℕ) (s : KeptProduct) (monomial : Monomial) (terms more : List (CodeKey × ℕ))
    → i < length sources → (get_or sources i (0, 0)).0 < length products
    → s ≡ get_or products (get_or sources i (0, 0)).0 s → monomial ≡ s.1 → terms ≡ map term_of (source_parts products (take i sources))
    → more ≡ terms ++ ((record { position = s.0; monomial = monomial }, (get_or sources i (0, 0)).1) ∷ [])
    → more ≡ map term_of (source_parts products (take (i + 1) sources))
source_terms_more products sources i s monomial terms more lt known is em es e =
    let source : Entry = get_or sources i (0, 0) in
    let product : s ≡ kept_at products source.0 = is ∙ get_or_default products source.0 s no_product known in
    e ∙ (λ j. es j ++ ((record { position = s.0; monomial = em j }, source.1) ∷ []))
    ∙ ap (λ (q : KeptProduct). map term_of (source_parts products (take i sources)) ++ ((record { position = q.0; monomial = q.1 }, source.1) ∷ [])) product
    ∙ sym (ap (map term_of) (map_more (λ (x : Entry). source_part products x) sources i (0, 0) lt)
    ∙ map-append term_of (source_parts products (take i sources)) (source_part products source ∷ []))

-- ---- the terms of a sum in another order
weighted_by : {n : ℕ} (f : Key n → ℕ) (v : FormalSum n) → weighted_sum f v ≡ sum_by (λ (t : Term n). t.1 * f t.0) v
weighted_by f [] = refl
weighted_by {n} f (t ∷ v) = ap (λ x. t.1 * f t.0 + x) (weighted_by f v) ∙ sym (sum_by-cons (λ (t : Term n). t.1 * f t.0) t v)

same_permuted : {n : ℕ} (p : ℕ) (v w : FormalSum n) → IsPermutation v w → IsSame p w v
same_permuted {n} p v w h = record {
  by_key = λ k. IsCongruent_of p _ _
      (weighted_by (indicator k) w ∙ sum_by-IsPermutation (λ (t : Term n). t.1 * indicator k t.0) v w h ∙ sym (weighted_by (indicator k) v));
}

-- sources in another order have the same products
pub parts_permuted :
    (products : List KeptProduct) (es fs : List Entry) → IsPermutation es fs → IsPermutation (source_parts products es) (source_parts products fs)
parts_permuted products es fs h = IsPermutation-map (λ (e : Entry). source_part products e) es fs h

-- and stand for the same sum
pub parts_same :
    (n p : ℕ) (products : List KeptProduct) (es fs : List Entry) → IsPermutation es fs
    → IsSame p (cofactors_of n (source_parts products fs)) (cofactors_of n (source_parts products es))
parts_same n p products es fs h =
    same_permuted p (cofactors_of n (source_parts products es)) (cofactors_of n (source_parts products fs))
    (IsPermutation-map (λ (q : ScaledProduct). ((q.index, exponents_of n q.monomial.exponents), q.residue))
    (source_parts products es) (source_parts products fs) (parts_permuted products es fs h))

-- the vector of these terms is the row's
pub vector_same : (ring : Ring) (columns : List CodeKey) (inputs : ℕ) (r : RowShown) (v : List (CodeKey × ℕ))
    → Descend (variables ring) (ring_comparison ring (variables ring)) columns → IsRow ring.modulus.value (length columns) inputs r
    → IsVectorOver ring (ring_comparison ring) v → StandsFor ring v (vector_of (variables ring) columns r)
    → sum_of (variables ring) v ≡ vector_of (variables ring) columns r
vector_same ring columns inputs r v descend good over sum =
    let n = variables ring in
    let normal = row_normal n (setting ring n (ring_comparison ring n) 0) (ring_lawful ring 0) columns descend inputs r good in
    normal_unique (setting ring n (ring_comparison ring n) 0) (ring_lawful ring 0) (sum_of n v) (vector_of n columns r) over.descends normal.descends
    (residues_of n ring.weights ring.modulus.value v over.each) normal.residues sum

-- one row more
pub made_more : (ring : Ring) (columns : List CodeKey) (products : List KeptProduct) (rs : List RowShown) (ms : List CodeReduct) (r : RowShown) (m : CodeReduct)
    → AreMadeRows ring columns products rs ms → IsMadeRow ring columns products r m → AreMadeRows ring columns products (rs ++ r ∷ []) (ms ++ m ∷ [])
made_more ring columns products [] [] r m h g = (g, tt)
made_more ring columns products [] (x ∷ ms) r m h g = absurd h
made_more ring columns products (x ∷ rs) [] r m h g = absurd h
made_more ring columns products (x ∷ rs) (y ∷ ms) r m h g = (h.0, made_more ring columns products rs ms r m h.1 g)
