-- What makes a map exact: its columns are syzygies, and their leads cover the pairs' leads (UAG chapter 6, section 1)
use Rattle.std.proofs.Common.{List, [], arith, get_or, length, subst, sym, ℕ, ◌<◌, ◌∙◌, ◌∷◌, ◌≡◌}
use Rattle.formal_sums.proofs.Combining.{IsMember_itself}
use Rattle.formal_sums.proofs.OfRank.{IsSyzygy_append, IsSyzygy_member, IsSyzygy_scale}
use Rattle.formal_sums.specs.Combinations.{IsSyzygy}
use Rattle.formal_sums.specs.FormalSums.{FormalSum, Key, scale}
use Rattle.orders.proofs.KeyOrdering.{KeyDivides_trans}
use Rattle.bases.proofs.Leading.{positive}
use Rattle.bases.specs.Bases.{IsCovered, IsGroebnerBasis}
use Rattle.bases.specs.Leads.{IsLead, IsMonicList, IsNormal, leads}
use Rattle.bases.specs.Settings.{IsLawful, Setting}
use Rattle.buchberger_criterion.proofs.Criterion.{IsGroebnerBasis_criterion}
use Rattle.buchberger_criterion.proofs.OrderedPairs.{HasLcmRepresentations_ordered}
use Rattle.division_laws.proofs.Generating.{generated}
use Rattle.syzygy_laws.proofs.SyzygyLeads.{IsLawful_induced, syzygy_lead}
use Rattle.syzygy_laws.specs.Syzygies.{IsPairLead, induced_setting, pair_lead_key}
use Rattle.resolution_laws.specs.Resolutions.{IsCanonical, IsExact}

module _ {n : ℕ} (S : Setting n) (lawful : IsLawful S) (F : List (FormalSum n)) (list : IsMonicList S F) where
  pub exact_of_pairs :
      (H : List (FormalSum n)) → IsMonicList (induced_setting S F) H
      → ((c : ℕ) → c < length H → IsSyzygy S.modulus F (get_or H c []))
      → ((i j : ℕ) → i < j → j < length F → (leads F i).0 ≡ (leads F j).0 → IsCovered (induced_setting S F) H (pair_lead_key F i j))
      → IsExact S.modulus F H
  exact_of_pairs H monic syzygies pairs = record {
    syzygies = IsSyzygy_member (positive S lawful) F H syzygies;
    generated = generated (induced_setting S F) (IsLawful_induced S lawful F list) H monic (IsSyzygy S.modulus F) (λ v c m i h r. IsSyzygy_append F v (scale c m (get_or H i [])) r (IsSyzygy_scale (positive S lawful) F c m (get_or H i []) (syzygies i h)))
        (λ v k r l. covers v k r l (syzygy_lead S lawful F list v k r l));
  }
    where
      covers :
          (v : FormalSum n) (k : Key n) → IsSyzygy S.modulus F v → IsLead (induced_setting S F) v k
          → IsPairLead F k → IsCovered (induced_setting S F) H k
      covers v k r l (j, lt, hj, at, d) = by (pairs k.0 j lt hj at)
        where
          by : IsCovered (induced_setting S F) H (pair_lead_key F k.0 j) → IsCovered (induced_setting S F) H k
          by (i, hi, first, e) = (i, hi, first, KeyDivides_trans (leads H i) _ k e d)

  -- and they are a Gröbner basis of the syzygies
  pub basis_of_pairs :
      (H : List (FormalSum n)) → IsMonicList (induced_setting S F) H
      → ((c : ℕ) → c < length H → IsSyzygy S.modulus F (get_or H c []))
      → ((i j : ℕ) → i < j → j < length F → (leads F i).0 ≡ (leads F j).0 → IsCovered (induced_setting S F) H (pair_lead_key F i j))
      → IsGroebnerBasis (induced_setting S F) H H
  basis_of_pairs H monic syzygies pairs = record {
    members = IsMember_itself S.modulus H;
    covers = λ v k m lead. covers k (syzygy_lead S lawful F list v k (IsSyzygy_member (positive S lawful) F H syzygies v m) lead);
  }
    where
      covers : (k : Key n) → IsPairLead F k → IsCovered (induced_setting S F) H k
      covers k (j, lt, hj, at, d) = by (pairs k.0 j lt hj at)
        where
          by : IsCovered (induced_setting S F) H (pair_lead_key F k.0 j) → IsCovered (induced_setting S F) H k
          by (i, hi, first, e) = (i, hi, first, KeyDivides_trans (leads H i) _ k e d)

-- ---- one monic vector resolves its module
pub canonical_vector :
    {n : ℕ} (S : Setting n) → IsLawful S → (g : FormalSum n) → IsNormal S g → (list : IsMonicList S (g ∷ []))
    → IsCanonical S (g ∷ []) ((g ∷ []) ∷ [])
canonical_vector {n} S lawful g normal list = (
  record {
    columns = omega arith;
    basis = record {
      reduced = record {
        basis = IsGroebnerBasis_criterion S lawful (g ∷ []) list (HasLcmRepresentations_ordered S lawful (g ∷ []) (λ i j lt h e. absurd (omega arith)));
        normal = λ i h. subst (λ x. IsNormal S (get_or (g ∷ []) x [])) (zero_is i h) normal;
        monic = list.monic;
        apart = λ i j k hi hj ne d. absurd (ne (sym (zero_is i hi) ∙ zero_is j hj));
      };
      descends = λ i j lt h. absurd (omega arith);
    };
  },
  exact_of_pairs S lawful (g ∷ []) list [] (record { monic = λ i h. absurd (omega arith); ranked = λ i h. absurd (omega arith) }) (λ c h. absurd (omega arith)) (λ i j lt h e. absurd (omega arith)),
)
  where
    zero_is : (i : ℕ) → i < 1 → 0 ≡ i
    zero_is i h = omega arith
