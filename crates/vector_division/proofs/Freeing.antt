-- What a rest without keys that leads divide is in the words of the base
use Rattle.std.proofs.Common.{List, [], get_or, length, ℕ, ◌<◌, ◌↔◌}
use Rattle.formal_sums.proofs.Combining.{Each_map}
use Rattle.formal_sums.specs.FormalSums.{FormalSum, Key}
use Rattle.bases.proofs.FreeTerms.{HasFreeTerms_of_terms, lead_of_zero, terms_of_HasFreeTerms}
use Rattle.bases.proofs.NormalForms.{IsNormal_lead}
use Rattle.bases.specs.Bases.{HasFreeTerms, IsCovered}
use Rattle.bases.specs.Leads.{IsNormal, leads}
use Rattle.bases.specs.Settings.{IsLawful, Setting}
use Rattle.vector_division.specs.Divisions.{IsFreeOfLeads, IsUncovered}

-- what is uncovered, the list does not cover
pub not_covered : {n : ℕ} (S : Setting n) (G : List (FormalSum n)) (k : Key n) → IsUncovered G k → IsCovered S G k → ⊥
not_covered S G k u (i, lt, lead, d) = u i lt (λ e. lead_of_zero S (get_or G i []) (leads G i) e lead) d

-- a vector whose keys are uncovered has free terms
pub HasFreeTerms_of_uncovered :
    {n : ℕ} (S : Setting n) (G : List (FormalSum n)) (v : FormalSum n) → IsFreeOfLeads G v → HasFreeTerms S G v
HasFreeTerms_of_uncovered S G v h = HasFreeTerms_of_terms S G v (Each_map _ _ v (λ t u. not_covered S G t.0 u) h)

module _ {n : ℕ} (S : Setting n) (lawful : IsLawful S) (G : List (FormalSum n)) (normal : (i : ℕ) → i < length G → IsNormal S (get_or G i [])) where
  -- back, of vectors in normal form
  uncovered_of : (k : Key n) → (IsCovered S G k → ⊥) → IsUncovered G k
  uncovered_of k never i lt ne d = never (i, lt, IsNormal_lead S lawful (get_or G i []) (normal i lt) ne, d)

  pub uncovered_normal : (k : Key n) → IsUncovered G k ↔ (IsCovered S G k → ⊥)
  uncovered_normal k = (not_covered S G k, uncovered_of k)

  pub free_normal : (v : FormalSum n) → IsNormal S v → IsFreeOfLeads G v ↔ HasFreeTerms S G v
  free_normal v nv = (
    HasFreeTerms_of_uncovered S G v,
    λ h. Each_map _ _ v (λ t never. uncovered_of t.0 never) (terms_of_HasFreeTerms S lawful G v nv h),
  )
