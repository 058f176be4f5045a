-- Equal reduced bases and equal modules
use Rattle.std.proofs.Common.{List, [], get_or, inl, inr, length, subst, sym, ℕ, ◌<◌, ◌≡◌, ◌≤◌, ◌⊎◌}
use Rattle.std.proofs.lemmas.Bool.{cases_lt}
use Rattle.residues.proofs.Congruences.{IsCongruent_sym, IsCongruent_trans}
use Rattle.formal_sums.proofs.Combining.{IsMember_itself, IsMember_through}
use Rattle.formal_sums.proofs.OfRank.{IsOfRank_member}
use Rattle.formal_sums.specs.Combinations.{IsMember, IsSameModule}
use Rattle.formal_sums.specs.FormalSums.{FormalSum, IsOfRank}
use Rattle.bases.proofs.Leading.{one_not_zero, positive}
use Rattle.bases.specs.Bases.{IsReducedBasis, IsReducedSet}
use Rattle.bases.specs.Leads.{IsMonicList, leads}
use Rattle.bases.specs.Settings.{IsLawful, Setting}
use Rattle.division_laws.proofs.Generating.{IsGroebnerBasis_generates}
use Rattle.reduced_unique.proofs.Uniqueness.{IsReducedBasis_unique, IsReducedSet_generated}

module _ {n : ℕ} (S : Setting n) (lawful : IsLawful S) where
  -- lists of one module have one reduced basis
  pub IsReducedBasis_same : (F H G : List (FormalSum n)) → IsSameModule S.modulus F H → IsReducedBasis S F G → IsReducedBasis S H G
  IsReducedBasis_same F H G same r = record {
    reduced = IsReducedSet_generated S F H G (IsMember_through (positive S lawful) H F same.inside) (IsMember_through (positive S lawful) F H same.outside) r.reduced;
    descends = r.descends;
  }

  -- a reduced set of a module of the rank is a monic list
  pub IsMonicList_reduced :
      (F G : List (FormalSum n))
      → ((i : ℕ) → i < length F → IsOfRank S.modulus S.rank (get_or F i [])) → IsReducedSet S F G
      → IsMonicList S G
  IsMonicList_reduced F G ranks r = record { monic = r.monic; ranked = λ i h. ranked i h (cases_lt (leads G i).0 S.rank) }
    where
      ranked : (i : ℕ) → i < length G → ((leads G i).0 < S.rank) ⊎ (S.rank ≤ (leads G i).0) → (leads G i).0 < S.rank
      ranked i h (inl lt) = lt
      ranked i h (inr le) =
          let z = (IsOfRank_member S.rank F ranks (get_or G i []) (r.basis.members i h)).past (leads G i) le in
          absurd (one_not_zero S lawful (IsCongruent_trans (IsCongruent_sym (r.monic i h).one) z))

  -- and it generates the module
  generates :
      (F G : List (FormalSum n))
      → ((i : ℕ) → i < length F → IsOfRank S.modulus S.rank (get_or F i [])) → IsReducedBasis S F G
      → (i : ℕ) → i < length F → IsMember S.modulus G (get_or F i [])
  generates F G ranks r i h = IsGroebnerBasis_generates S lawful F G (IsMonicList_reduced F G ranks r.reduced) r.reduced.basis (get_or F i []) (IsMember_itself S.modulus F i h)

  -- the members of F are in the module of H, where both have the reduced basis G
  half :
      (F H G : List (FormalSum n))
      → ((i : ℕ) → i < length F → IsOfRank S.modulus S.rank (get_or F i [])) → IsReducedBasis S F G
      → IsReducedBasis S H G → (i : ℕ) → i < length F → IsMember S.modulus H (get_or F i [])
  half F H G ranks r s i h = IsMember_through (positive S lawful) H G s.reduced.basis.members (get_or F i []) (generates F G ranks r i h)

  pub IsSameModule_equal :
      (F H G K : List (FormalSum n))
      → ((i : ℕ) → i < length F → IsOfRank S.modulus S.rank (get_or F i []))
      → ((i : ℕ) → i < length H → IsOfRank S.modulus S.rank (get_or H i []))
      → IsReducedBasis S F G → IsReducedBasis S H K → G ≡ K → IsSameModule S.modulus F H
  IsSameModule_equal F H G K f h r s e =
      let s' : IsReducedBasis S H G = subst (IsReducedBasis S H) (sym e) s in
      record { inside = half F H G f r s'; outside = half H F G h s' r }

  pub equal_IsSameModule :
      (F H G K : List (FormalSum n))
      → IsReducedBasis S F G → IsReducedBasis S H K → IsSameModule S.modulus F H → G ≡ K
  equal_IsSameModule F H G K r s same = IsReducedBasis_unique S lawful H G K (IsReducedBasis_same F H G same r) s
