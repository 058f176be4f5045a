-- There is one canonical resolution
use Rattle.std.proofs.Common.{List, [], ap, ap₂, arith, get_or, length, refl, subst, suc, sym, zero, ℕ, ◌+◌, ◌<◌, ◌∙◌, ◌∷◌, ◌≡◌}
use Rattle.residues.proofs.Congruences.{IsCongruent_of, IsCongruent_sym, IsCongruent_trans}
use Rattle.formal_sums.proofs.Combining.{IsMember_itself, IsMember_same, IsMember_through, IsMember_zero, combination-nothing}
use Rattle.formal_sums.proofs.OfRank.{IsOfRank_member}
use Rattle.formal_sums.proofs.Sameness.{IsSame_sym}
use Rattle.formal_sums.specs.Combinations.{IsMember}
use Rattle.formal_sums.specs.FormalSums.{FormalSum, IsOfRank, IsSame, coefficient}
use Rattle.orders.proofs.Lexicographic.{lex_order}
use Rattle.orders.proofs.Positions.{pot_order}
use Rattle.orders.specs.KeyOrders.{pot}
use Rattle.orders.specs.MonomialOrders.{lex}
use Rattle.bases.proofs.Leading.{one_not_zero, positive}
use Rattle.bases.specs.Bases.{IsReducedSet}
use Rattle.bases.specs.Leads.{IsMonicList, leads}
use Rattle.bases.specs.Settings.{IsLawful, Setting}
use Rattle.reduced_unique.proofs.Uniqueness.{IsReducedBy_unique, IsReducedSet_generated}
use Rattle.syzygy_laws.proofs.SyzygyLeads.{IsLawful_induced}
use Rattle.syzygy_laws.specs.Syzygies.{induced_setting}
use Rattle.resolution_laws.proofs.Bound.{IsMonicList_reduced, columns_ranked}
use Rattle.resolution_laws.proofs.Starts.{start_whole}
use Rattle.resolution_laws.specs.Resolutions.{IsCanonical, IsCanonicalFrom, IsCanonicalMap, IsCanonicalStart, IsCanonicalStartFrom, IsExact, IsExactFrom}

canonical_map_unique :
    {n : ℕ} (S : Setting n) → IsLawful S → (F G H : List (FormalSum n)) → IsCanonicalMap S F G
    → IsCanonicalMap S F H → G ≡ H
canonical_map_unique {n} S lawful F G H g h =
    IsReducedBy_unique S lawful 0 (pot lex) (pot_order 0 lex (lex_order n)) F G H g.basis h.basis

-- a map is not empty where the kernel is zero
no_more :
    {n : ℕ} (S : Setting n) → IsLawful S → (F H : List (FormalSum n)) → IsExact S.modulus F []
    → IsExact S.modulus F H → IsCanonicalMap (induced_setting S F) H H → ⊥
no_more {n} S lawful F H last exact map =
    let m : IsMember S.modulus [] (get_or H 0 []) = last.generated (get_or H 0 []) (exact.syzygies (get_or H 0 []) (IsMember_itself S.modulus H 0 map.columns)) in
    one_not_zero S lawful (IsCongruent_trans (IsCongruent_sym (map.basis.reduced.monic 0 map.columns).one) (IsCongruent_trans (IsCongruent_sym (m.sums.by_key (leads H 0))) (IsCongruent_of S.modulus _ 0 (ap (λ v. coefficient v (leads H 0)) (combination-nothing m.cofactors)))))

start_from_unique :
    {n : ℕ} (count : ℕ) (maps others : List (List (FormalSum n))) (S : Setting n) → IsLawful S → (F G : List (FormalSum n))
    → IsMonicList S G → IsReducedSet S F G → IsCanonicalStartFrom S G count maps → IsCanonicalStartFrom S G count others
    → maps ≡ others
start_from_unique zero maps others S lawful F G list reduced h k = h ∙ sym k
start_from_unique (suc count) [] [] S lawful F G list reduced h k = refl
start_from_unique (suc count) [] (K ∷ others) S lawful F G list reduced h k = absurd (no_more S lawful G K h k.0 k.1)
start_from_unique (suc count) (H ∷ maps) [] S lawful F G list reduced h k = absurd (no_more S lawful G H k h.0 h.1)
start_from_unique {n} (suc count) (H ∷ maps) (K ∷ others) S lawful F G list reduced h k =
    let up : IsLawful (induced_setting S G) = IsLawful_induced S lawful G list in
    let one : H ≡ K = canonical_map_unique (induced_setting S G) up H H K h.1 (record {
      columns = k.1.columns;
      basis = record { reduced = IsReducedSet_generated (induced_setting S G) K H K (λ v m. h.0.generated v (k.0.syzygies v m)) (λ v m. k.0.generated v (h.0.syzygies v m)) k.1.basis.reduced; descends = k.1.basis.descends };
    }) in
    ap₂ ◌∷◌ one (start_from_unique count maps others (induced_setting S G) up H H
    (IsMonicList_reduced (induced_setting S G) up H H (columns_ranked S lawful F G list reduced H h.0 h.1.basis.reduced) h.1.basis.reduced) h.1.basis.reduced h.2
    (subst (λ L. IsCanonicalStartFrom (induced_setting S G) L count others) (sym one) k.2))

nonzero :
    {n : ℕ} (S : Setting n) → IsLawful S → (A H : List (FormalSum n))
    → ((i : ℕ) → i < length A → IsSame S.modulus (get_or A i []) []) → IsCanonicalMap S A H → ⊥
nonzero {n} S lawful A H z map =
    let m : IsMember S.modulus A (get_or H 0 []) = map.basis.reduced.basis.members 0 map.columns in
    let e : IsMember S.modulus [] (get_or H 0 []) = IsMember_through (positive S lawful) [] A (λ i h. IsMember_same [] [] (get_or A i []) (IsSame_sym (z i h)) (IsMember_zero S.modulus [])) (get_or H 0 []) m in
    one_not_zero S lawful (IsCongruent_trans (IsCongruent_sym (map.basis.reduced.monic 0 map.columns).one) (IsCongruent_trans (IsCongruent_sym (e.sums.by_key (leads H 0))) (IsCongruent_of S.modulus _ 0 (ap (λ v. coefficient v (leads H 0)) (combination-nothing e.cofactors)))))

-- a module has one start of so many maps
pub start_unique :
    {n : ℕ} (S : Setting n) → IsLawful S → (A : List (FormalSum n))
    → ((i : ℕ) → i < length A → IsOfRank S.modulus S.rank (get_or A i []))
    → (count : ℕ) (maps others : List (List (FormalSum n))) → IsCanonicalStart S A count maps → IsCanonicalStart S A count others → maps ≡ others
start_unique S lawful A rank zero maps others h k = h ∙ sym k
start_unique S lawful A rank (suc count) [] [] h k = refl
start_unique S lawful A rank (suc count) [] (K ∷ others) h k = absurd (nonzero S lawful A K h k.0)
start_unique S lawful A rank (suc count) (H ∷ maps) [] h k = absurd (nonzero S lawful A H k h.0)
start_unique {n} S lawful A rank (suc count) (H ∷ maps) (K ∷ others) h k =
    let one : H ≡ K = canonical_map_unique S lawful A H K h.0 k.0 in
    let ranked = λ (i : ℕ) (q : i < length H). IsOfRank_member {p = S.modulus} S.rank A rank (get_or H i []) (h.0.basis.reduced.basis.members i q) in
    ap₂ ◌∷◌ one (start_from_unique count maps others S lawful A H (IsMonicList_reduced S lawful A H ranked h.0.basis.reduced) h.0.basis.reduced h.1 (subst (λ L. IsCanonicalStartFrom S L count others) (sym one) k.1))

-- the whole is a start
pub canonical_unique :
    {n : ℕ} (S : Setting n) → IsLawful S → (A : List (FormalSum n))
    → ((i : ℕ) → i < length A → IsOfRank S.modulus S.rank (get_or A i []))
    → (maps others : List (List (FormalSum n))) → IsCanonical S A maps → IsCanonical S A others → maps ≡ others
canonical_unique S lawful A rank maps others h k =
    start_unique S lawful A rank (length maps + length others) maps others (start_whole S A (length maps + length others) maps h (omega arith))
    (start_whole S A (length maps + length others) others k (omega arith))

-- a zero module has the list without maps, and no other
pub canonical_zero :
    {n : ℕ} (S : Setting n) → IsLawful S → (A : List (FormalSum n))
    → ((i : ℕ) → i < length A → IsSame S.modulus (get_or A i []) []) → (maps : List (List (FormalSum n))) → IsCanonical S A maps → maps ≡ []
canonical_zero S lawful A z [] h = refl
canonical_zero S lawful A z (H ∷ maps) h = absurd (nonzero S lawful A H z h.0)

-- a canonical resolution is one
pub canonical_exact :
    {n : ℕ} (maps : List (List (FormalSum n))) (S : Setting n) (F : List (FormalSum n))
    → IsCanonicalFrom S F maps → IsExactFrom S.modulus F maps
canonical_exact [] S F h = h
canonical_exact (H ∷ maps) S F h = (h.0, canonical_exact maps (induced_setting S F) H h.2)
