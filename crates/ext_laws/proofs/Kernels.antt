-- Kernels and images of transposed maps
use Rattle.std.proofs.Common.{List, [], ap, arith, get_or, inl, inr, length, subst, sym, ℕ, ◌+◌, ◌<◌, ◌∙◌, ◌≡◌, ◌≤◌, ◌⊎◌}
use Rattle.std.proofs.lemmas.Bool.{cases_lt}
use Rattle.std.proofs.lemmas.List.{get_or_past}
use Rattle.residues.proofs.Congruences.{IsCongruent_of, IsCongruent_trans}
use Rattle.residues.specs.Residues.{IsCongruent}
use Rattle.monomials.specs.Exponents.{Exponents}
use Rattle.formal_sums.proofs.Combining.{Each_map}
use Rattle.formal_sums.proofs.OfRank.{IsOfRank_of, IsSyzygy_member, coefficient_past}
use Rattle.formal_sums.specs.Combinations.{IsMember, IsSyzygy}
use Rattle.formal_sums.specs.FormalSums.{Each, FormalSum, HasRank, IsOfRank, IsSame, Key, coefficient}
use Rattle.operation_laws.proofs.Linear.{Each_at, Each_tabulate}
use Rattle.operation_laws.proofs.Quotient.{get_or-listed, length-listed}
use Rattle.ext_laws.specs.Transposes.{IsInTransposedKernel, pairing, row_from, rows_of}
use Rattle.ext_laws.proofs.Pairing.{pairing-nothing}
use Rattle.ext_laws.proofs.Rows.{pairing_rank, row_pairing, row_rank, rows_combination}

-- there are as many rows as the rank
pub rows_count : {n : ℕ} (m : ℕ) (C : List (FormalSum n)) → length (rows_of m C) ≡ m
rows_count m C = length-listed 0 m (λ i. row_from i 0 C)

pub row_at : {n : ℕ} (m : ℕ) (C : List (FormalSum n)) (i : ℕ) → i < m → get_or (rows_of m C) i [] ≡ row_from i 0 C
row_at m C i lt = let zero_plus : 0 + i ≡ i = omega arith in get_or-listed [] 0 m (λ i. row_from i 0 C) i lt ∙ ap (λ i. row_from i 0 C) zero_plus

-- a pairing is zero where its coefficients at position 0 are
pairing_zero :
    {n p : ℕ} (v c : FormalSum n) → ((x : Exponents n) → IsCongruent p (coefficient (pairing v c) (0, x)) 0) → IsSame p (pairing v c) []
pairing_zero {n} {p} v c h = record { by_key = λ k. go k (cases_lt k.0 1) }
  where
    go : (k : Key n) → (k.0 < 1) ⊎ (1 ≤ k.0) → IsCongruent p (coefficient (pairing v c) k) 0
    go k (inl lt) = subst (λ i. IsCongruent p (coefficient (pairing v c) (i, k.1)) 0) (let q : 0 ≡ k.0 = omega arith in q) (h k.1)
    go k (inr le) = IsCongruent_of p _ 0 (coefficient_past 1 (pairing v c) (pairing_rank v c) k le)

module _ {n p : ℕ} (m : ℕ) (C : List (FormalSum n)) (ranks : Each (HasRank m) C) (v : FormalSum n) where
  pub kernel_to : IsInTransposedKernel p m C v → IsSyzygy p (rows_of m C) v
  kernel_to h = record {
    rank = subst (λ r. IsOfRank p r v) (sym (rows_count m C)) h.0;
    vanishes = record { by_key = λ k. IsCongruent_trans (IsCongruent_of p _ _ (rows_combination m C ranks v k.0 k.1)) (at k (cases_lt k.0 (length C))) };
  }
    where
      at : (k : Key n) → (k.0 < length C) ⊎ (length C ≤ k.0) → IsCongruent p (coefficient (pairing v (get_or C k.0 [])) (0, k.1)) 0
      at k (inl lt) = (Each_at (λ c. IsSame p (pairing v c) []) [] C h.1 k.0 lt).by_key (0, k.1)
      at k (inr le) = IsCongruent_of p _ 0 (ap (λ c. coefficient (pairing v c) (0, k.1)) (get_or_past C k.0 [] le) ∙ ap (λ w. coefficient w (0, k.1)) (pairing-nothing v))

  pub kernel_from : IsSyzygy p (rows_of m C) v → IsInTransposedKernel p m C v
  kernel_from h = (
    subst (λ r. IsOfRank p r v) (rows_count m C) h.rank,
    Each_tabulate (λ c. IsSame p (pairing v c) []) [] C
        (λ l lt. pairing_zero v (get_or C l []) (λ x. IsCongruent_trans (IsCongruent_of p _ _ (sym (rows_combination m C ranks v l x))) (h.vanishes.by_key (l, x)))),
  )

-- what the rows of F generate is in the kernel of the transposed H, where the columns of H are syzygies of those of F
pub image_inside :
    {n p : ℕ} → 0 < p → (m : ℕ) (F H : List (FormalSum n)) → Each (HasRank (length F)) H → Each (IsSyzygy p F) H
    → (v : FormalSum n) → IsMember p (rows_of m F) v → IsInTransposedKernel p (length F) H v
image_inside {n} {p} pos m F H ranks complex v inside =
    kernel_from (length F) H ranks v (IsSyzygy_member pos (rows_of (length F) H) (rows_of m F) each v inside)
  where
    row_inside : (i : ℕ) → IsInTransposedKernel p (length F) H (row_from i 0 F)
    row_inside i = (
      IsOfRank_of p (length F) (row_from i 0 F) (row_rank i 0 F (length F) (omega arith)),
      Each_map (IsSyzygy p F) (λ h. IsSame p (pairing (row_from i 0 F) h) []) H
          (λ h s. pairing_zero (row_from i 0 F) h (λ x. IsCongruent_trans (IsCongruent_of p _ _ (row_pairing i F h x)) (s.vanishes.by_key (i, x)))) complex,
    )

    each : (i : ℕ) → i < length (rows_of m F) → IsSyzygy p (rows_of (length F) H) (get_or (rows_of m F) i [])
    each i lt =
        subst (IsSyzygy p (rows_of (length F) H)) (sym (row_at m F i (let q = rows_count m F in omega (arith, q, lt))))
        (kernel_to (length F) H ranks (row_from i 0 F) (row_inside i))

-- zero is in each kernel
pub zero_inside :
    {n p : ℕ} → 0 < p → (m : ℕ) (C : List (FormalSum n)) → Each (HasRank m) C → (v : FormalSum n) → IsMember p [] v
    → IsInTransposedKernel p m C v
zero_inside {n} {p} pos m C ranks v inside =
    kernel_from m C ranks v (IsSyzygy_member pos (rows_of m C) [] (λ i lt. absurd (omega arith)) v inside)
