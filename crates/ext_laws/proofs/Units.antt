-- The whole free module, and presentations of the zero module
use Rattle.std.proofs.Common.{Greater, Less, List, [], ap, append-nil, ap₂, arith, get_or, inl, inr, length, refl, subst, sym, ℕ, ◌++◌, ◌+◌, ◌<◌, ◌∙◌, ◌∷◌, ◌≡◌, ◌≤◌, ◌⊎◌}
use Rattle.std.proofs.lemmas.Bool.{cases_lt}
use Rattle.std.specs.Prelude.{◌↔◌}
use Rattle.residues.proofs.Congruences.{IsCongruent_of}
use Rattle.residues.specs.Residues.{IsCongruent}
use Rattle.monomials.proofs.Monomials.{times-unit, times_comm}
use Rattle.monomials.specs.Exponents.{unit}
use Rattle.formal_sums.proofs.Combining.{IsMember_itself, IsMember_same, scale-one}
use Rattle.formal_sums.proofs.OfRank.{HasRank_kept, IsOfRank_member, IsOfRank_of, IsMember_of, IsSame_kept, kept}
use Rattle.formal_sums.proofs.Sameness.{IsSame_of, IsSame_refl, IsSame_trans}
use Rattle.formal_sums.proofs.WeightedSums.{indicator_other, indicator_same}
use Rattle.formal_sums.specs.Combinations.{IsMember, combination}
use Rattle.formal_sums.specs.FormalSums.{Each, FormalSum, HasRank, IsOfRank, Key, coefficient, indicator, scale}
use Rattle.orders.proofs.KeyOrdering.{not_itself}
use Rattle.orders.specs.KeyOrders.{KeyDivides}
use Rattle.bases.proofs.Leading.{IsLead_of_monic, positive}
use Rattle.bases.specs.Bases.{IsCovered, IsReducedBasis, IsReducedSet}
use Rattle.bases.specs.Leads.{IsLead, IsMonicLead, IsNormal, head_key, leads}
use Rattle.bases.specs.Settings.{IsLawful, Setting}
use Rattle.reduced_unique.proofs.Uniqueness.{IsReducedBasis_unique, IsReducedSet_generated}
use Rattle.operation_laws.proofs.Linear.{Each_tabulate, IsMember_by}
use Rattle.operation_laws.proofs.Quotient.{get_or-listed, length-listed}
use Rattle.operation_laws.proofs.Saturate.{single_vector}
use Rattle.operation_laws.specs.Operations.{IsSyzygyModulo, basis_vector}
use Rattle.ext_laws.specs.Transposes.{HasDescendingUnits, unit_vectors}

pub units_count : (n m : ℕ) → length (unit_vectors {n = n} m) ≡ m
units_count n m = length-listed 0 m basis_vector

pub unit_at : (n m i : ℕ) → i < m → get_or (unit_vectors {n = n} m) i [] ≡ basis_vector i
unit_at n m i lt = let zero_plus : 0 + i ≡ i = omega arith in get_or-listed [] 0 m basis_vector i lt ∙ ap basis_vector zero_plus

-- ---- members
units_combination : {n : ℕ} (m : ℕ) (v : FormalSum n) → HasRank m v → combination (unit_vectors m) v ≡ v
units_combination m [] h = refl
units_combination {n} m (t ∷ v) h = ap₂ ◌++◌ (ap (scale t.1 t.0.1) (unit_at n m t.0.0 h.0) ∙ single_vector t) (units_combination m v h.1)

pub whole_from : {n : ℕ} (p m : ℕ) (v : FormalSum n) → IsOfRank p m v → IsMember p (unit_vectors m) v
whole_from {n} p m v h = record {
  cofactors = kept m v;
  positions = subst (λ r. HasRank r (kept m v)) (sym (units_count n m)) (HasRank_kept m v);
  sums = IsSame_trans (IsSame_of p _ _ (units_combination m (kept m v) (HasRank_kept m v))) (IsSame_kept m v h);
}

pub whole_to : {n : ℕ} (p m : ℕ) (v : FormalSum n) → IsMember p (unit_vectors m) v → IsOfRank p m v
whole_to {n} p m v a = IsOfRank_member m (unit_vectors m) each v a
  where
    each : (i : ℕ) → i < length (unit_vectors {n = n} m) → IsOfRank p m (get_or (unit_vectors {n = n} m) i [])
    each i lt =
        let small : i < m = let q = units_count n m in omega (arith, q, lt) in
        subst (IsOfRank p m) (sym (unit_at n m i small)) (IsOfRank_of p m (basis_vector i) (small, tt))

-- ---- the reduced basis
unit_coefficient : {n : ℕ} (i : ℕ) (k : Key n) → (k ≡ (i, unit n) → ⊥) → coefficient (basis_vector i) k ≡ 0
unit_coefficient {n} i k ne = let z : indicator k (i, unit n) ≡ 0 = indicator_other k (i, unit n) ne in omega (arith, z)

unit_one : (n i : ℕ) → coefficient (basis_vector {n = n} i) (i, unit n) ≡ 1
unit_one n i = let z : indicator (i, unit n) (i, unit n) ≡ 1 = indicator_same (i, unit n) (i, unit n) refl in omega (arith, z)

unit_divides : {n : ℕ} (k : Key n) → KeyDivides (k.0, unit n) k
unit_divides {n} k = (k.1, ap (λ e. (k.0, e)) (times_comm k.1 (unit n) ∙ times-unit k.1))

module _ {n : ℕ} (S : Setting n) (lawful : IsLawful S) (descending : HasDescendingUnits S) where
  unit_monic : (i : ℕ) → IsMonicLead S (basis_vector i) (i, unit n)
  unit_monic i = record {
    one = IsCongruent_of S.modulus _ 1 (unit_one n i);
    above = λ l less. IsCongruent_of S.modulus _ 0 (unit_coefficient i l (λ e. not_itself lawful.order (i, unit n) (subst (λ k. S.compare (i, unit n) k ≡ Less) e less)));
  }

  unit_normal : (i : ℕ) → IsNormal S (basis_vector i)
  unit_normal i = record { descends = (tt, tt); residues = ((let z : 0 < 1 = omega arith in z, lawful.domain.above_one), tt) }

  units_reduced : IsReducedSet S (unit_vectors S.rank) (unit_vectors S.rank)
  units_reduced = record {
    basis = record { members = λ i h. IsMember_itself S.modulus (unit_vectors S.rank) i h; covers = λ v k a lead. covered v k a lead (cases_lt k.0 S.rank) };
    normal = λ i h. subst (IsNormal S) (sym (at i h)) (unit_normal i);
    monic = λ i h. monic i h;
    apart = λ i j k hi hj ne d.
        subst (λ g. IsCongruent S.modulus (coefficient g k) 0) (sym (at i hi))
        (IsCongruent_of S.modulus _ 0 (unit_coefficient i k (λ e. ne (sym (ap (λ x. x.0) e) ∙ sym (ap (λ x. x.0) d.1) ∙ ap (λ g. (head_key g).0) (at j hj)))));
  }
    where
      small : (i : ℕ) → i < length (unit_vectors {n = n} S.rank) → i < S.rank
      small i h = let q = units_count n S.rank in omega (arith, q, h)

      at : (i : ℕ) → i < length (unit_vectors {n = n} S.rank) → get_or (unit_vectors {n = n} S.rank) i [] ≡ basis_vector i
      at i h = unit_at n S.rank i (small i h)

      monic : (i : ℕ) → i < length (unit_vectors {n = n} S.rank) → IsMonicLead S (get_or (unit_vectors S.rank) i []) (leads (unit_vectors S.rank) i)
      monic i h = subst (λ g. IsMonicLead S g (head_key g)) (sym (at i h)) (unit_monic i)

      covered : (v : FormalSum n) (k : Key n) → IsMember S.modulus (unit_vectors S.rank) v → IsLead S v k → (k.0 < S.rank) ⊎ (S.rank ≤ k.0) → IsCovered S (unit_vectors S.rank) k
      covered v k a lead (inl lt) =
          let h : k.0 < length (unit_vectors {n = n} S.rank) = let q = units_count n S.rank in omega (arith, q, lt) in
          (k.0, h, IsLead_of_monic S lawful (monic k.0 h), subst (λ g. KeyDivides (head_key g) k) (sym (at k.0 h)) (unit_divides k))
      covered v k a lead (inr le) = absurd (lead.nonzero ((whole_to S.modulus S.rank v a).past k le))

  pub units_basis : IsReducedBasis S (unit_vectors S.rank) (unit_vectors S.rank)
  units_basis = record {
    reduced = units_reduced;
    descends = λ i j lt h.
        let q = units_count n S.rank in
        let a = unit_at n S.rank i (omega (arith, q, h, lt)) in
        let b = unit_at n S.rank j (omega (arith, q, h)) in
        subst (λ f. S.compare (head_key f) (leads (unit_vectors S.rank) j) ≡ Greater) (sym a)
        (subst (λ g. S.compare (i, unit n) (head_key g) ≡ Greater) (sym b) (descending i j lt));
  }

  -- ---- presentations of zero
  module _ (Z I Q : List (FormalSum n)) (rank : S.rank ≡ length Z) (basis : IsReducedBasis S Q Q)
      (relations : (a : FormalSum n) → IsMember S.modulus Q a ↔ IsSyzygyModulo S.modulus Z I a) where
    -- e_i takes Z to its member i
    unit_combination : (i : ℕ) → combination Z (basis_vector i) ≡ get_or Z i []
    unit_combination i = append-nil (scale 1 (unit n) (get_or Z i [])) ∙ scale-one (get_or Z i [])

    pub zero_to : Q ≡ unit_vectors (length Z) → Each (IsMember S.modulus I) Z
    zero_to e = Each_tabulate (IsMember S.modulus I) [] Z (λ i lt.
        let a : IsMember S.modulus (unit_vectors (length Z)) (basis_vector i) = whole_from S.modulus (length Z) (basis_vector i) (IsOfRank_of S.modulus (length Z) (basis_vector i) (lt, tt)) in
        let r : IsSyzygyModulo S.modulus Z I (basis_vector i) = (relations (basis_vector i)).0 (subst (λ K. IsMember S.modulus K (basis_vector i)) (sym e) a) in
        IsMember_same I _ (get_or Z i []) (IsSame_of S.modulus _ _ (unit_combination i)) r.1)

    pub zero_from : Each (IsMember S.modulus I) Z → Q ≡ unit_vectors (length Z)
    zero_from h = IsReducedBasis_unique S lawful Q Q (unit_vectors S.rank) basis whole ∙ ap unit_vectors rank
      where
        inside : (v : FormalSum n) → IsMember S.modulus (unit_vectors S.rank) v → IsMember S.modulus Q v
        inside v a =
            let r : IsOfRank S.modulus (length Z) v = subst (λ m. IsOfRank S.modulus m v) rank (whole_to S.modulus S.rank v a) in
            (relations v).1 (r, IsMember_by (positive S lawful) I Z h (combination Z v) (IsMember_of Z v (combination Z v) (IsSame_refl S.modulus (combination Z v))))

        outside : (v : FormalSum n) → IsMember S.modulus Q v → IsMember S.modulus (unit_vectors S.rank) v
        outside v a = whole_from S.modulus S.rank v (subst (λ m. IsOfRank S.modulus m v) (sym rank) ((relations v).0 a).0)

        whole : IsReducedBasis S Q (unit_vectors S.rank)
        whole = record { reduced = IsReducedSet_generated S (unit_vectors S.rank) Q (unit_vectors S.rank) inside outside units_basis.reduced; descends = units_basis.descends }
