-- Covered keys and vectors without covered terms
use Rattle.std.proofs.Common.{List, [], arith, get_or, inl, inr, length, length-append, refl, subst, suc, sym, zero, ℕ, ◌++◌, ◌+◌, ◌<◌, ◌↔◌, ◌∷◌, ◌≡◌, ◌⊎◌}
use Rattle.std.proofs.Math.Seq.{get_or-append_seam}
use Rattle.residues.proofs.Congruences.{IsCongruent_of, IsCongruent_refl, IsCongruent_trans}
use Rattle.residues.specs.Residues.{IsCongruent}
use Rattle.formal_sums.proofs.WeightedSums.{indicator_other, key_cases}
use Rattle.formal_sums.specs.FormalSums.{Each, FormalSum, Key, Term, coefficient, indicator}
use Rattle.orders.specs.KeyOrders.{Descends, KeyDivides}
use Rattle.bases.proofs.Leading.{IsLead_of_monic}
use Rattle.bases.proofs.NormalForms.{IsNormal_lead, head_lead, none_from}
use Rattle.bases.specs.Bases.{HasFreeTerms, IsCovered, IsReducedSet}
use Rattle.bases.specs.Leads.{HasReducedResidues, IsLead, IsMonicList, IsNormal, head_key, leads}
use Rattle.bases.specs.Settings.{IsLawful, Setting}

-- zero has no lead
pub lead_of_zero : {n : ℕ} (S : Setting n) (v : FormalSum n) (k : Key n) → v ≡ [] → IsLead S v k → ⊥
lead_of_zero S v k e lead = lead.nonzero (subst (λ w. IsCongruent S.modulus (coefficient w k) 0) (sym e) (IsCongruent_refl S.modulus 0))

-- a member of a monic list covers what its lead divides
pub IsCovered_monic :
    {n : ℕ} (S : Setting n) → IsLawful S → (G : List (FormalSum n)) → IsMonicList S G → (i : ℕ) (k : Key n)
    → i < length G → KeyDivides (leads G i) k → IsCovered S G k
IsCovered_monic S lawful G list i k h d = (i, h, IsLead_of_monic S lawful (list.monic i h), d)

-- at a covered key nothing stands
pub HasFreeTerms_of_terms :
    {n : ℕ} (S : Setting n) (G : List (FormalSum n)) (v : FormalSum n)
    → Each (λ t. IsCovered S G t.0 → ⊥) v → HasFreeTerms S G v
HasFreeTerms_of_terms {n = n} S G v h k c = IsCongruent_of S.modulus _ 0 (none v h)
  where
    none : (v : FormalSum n) → Each (λ t. IsCovered S G t.0 → ⊥) v → coefficient v k ≡ 0
    none [] h = refl
    none (t ∷ v) h =
        let rest = none v h.1 in
        let first : indicator k t.0 ≡ 0 = indicator_other k t.0 (λ e. h.0 (subst (IsCovered S G) e c)) in
        rw (first, rest) (omega arith)

module _ {n : ℕ} (S : Setting n) (lawful : IsLawful S) (G : List (FormalSum n)) where
  -- behind its first term too
  free_tail : (t : Term n) (v : FormalSum n) → Descends S.compare (t ∷ v) → HasFreeTerms S G (t ∷ v) → HasFreeTerms S G v
  free_tail t v h free k c = go (key_cases k t.0)
    where
      go : (k ≡ t.0) ⊎ (k ≡ t.0 → ⊥) → IsCongruent S.modulus (coefficient v k) 0
      go (inl e) = IsCongruent_of S.modulus _ 0 (none_from S lawful t.0 k v h.0 (inr (sym e)))
      go (inr ne) =
          let z : indicator k t.0 ≡ 0 = indicator_other k t.0 ne in
          let d : coefficient v k ≡ coefficient (t ∷ v) k = rw z (omega arith) in
          IsCongruent_trans (IsCongruent_of S.modulus _ _ d) (free k c)

  -- no term of a vector in normal form is covered where it has nothing at covered keys
  terms_free :
      (v : FormalSum n)
      → Descends S.compare v → HasReducedResidues S v → HasFreeTerms S G v → Each (λ t. IsCovered S G t.0 → ⊥) v
  terms_free [] h r free = tt
  terms_free (t ∷ v) h r free = (
    λ c. (head_lead S lawful t v h r).nonzero (free t.0 c),
    terms_free v h.1 r.1 (free_tail t v h free),
  )

  pub terms_of_HasFreeTerms : (v : FormalSum n) → IsNormal S v → HasFreeTerms S G v → Each (λ t. IsCovered S G t.0 → ⊥) v
  terms_of_HasFreeTerms v normal = terms_free v normal.descends normal.residues

  -- of vectors in normal form those that are not empty cover what their first keys divide
  pub IsCovered_normal :
      ((i : ℕ) → i < length G → IsNormal S (get_or G i [])) → (k : Key n)
      → IsCovered S G k ↔ ((i : ℕ) × (i < length G) × (get_or G i [] ≡ [] → ⊥) × KeyDivides (leads G i) k)
  IsCovered_normal normal k = (
    λ c. (c.0, c.1, λ e. lead_of_zero S (get_or G c.0 []) (leads G c.0) e c.2, c.3),
    λ c. (c.0, c.1, IsNormal_lead S lawful (get_or G c.0 []) (normal c.0 c.1) c.2, c.3),
  )

-- a member that is not g stands among the others
another :
    {n : ℕ} (G H : List (FormalSum n)) (g : FormalSum n) (i : ℕ) → i < length (G ++ H)
    → (j : ℕ) × (j < length (G ++ (g ∷ H))) × (length G ≡ j → ⊥) × (get_or (G ++ H) i [] ≡ get_or (G ++ (g ∷ H)) j [])
another [] H g i h = (suc i, omega arith, λ e. omega arith, refl)
another (x ∷ G) H g zero h = (0, omega arith, λ e. omega arith, refl)
another (x ∷ G) H g (suc i) h =
    let r = another G H g i (omega arith) in
    (suc r.0, omega (arith, r.1), λ e. r.2 (omega arith), r.3)

-- no lead of the others divides a term of a member of a reduced set
pub HasFreeTerms_reduced :
    {n : ℕ} (S : Setting n) (F G H : List (FormalSum n)) (g : FormalSum n) → IsReducedSet S F (G ++ (g ∷ H))
    → HasFreeTerms S (G ++ H) g
HasFreeTerms_reduced S F G H g reduced k (i, h, lead, d) =
    let r = another G H g i h in
    let here : length G < length (G ++ (g ∷ H)) = omega (arith, length-append G (g ∷ H)) in
    subst (λ v. IsCongruent S.modulus (coefficient v k) 0) (get_or-append_seam G g H [])
    (reduced.apart (length G) r.0 k here r.1 r.2 (subst (λ v. KeyDivides (head_key v) k) r.3 d))
