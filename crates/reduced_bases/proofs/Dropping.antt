-- A Gröbner basis without the members whose leads others cover
use Rattle.std.proofs.Common.{List, [], get_or, inl, inr, length, subst, sym, ℕ, ◌++◌, ◌<◌, ◌∷◌, ◌≡◌, ◌⊎◌}
use Rattle.monomials.specs.Exponents.{unit}
use Rattle.formal_sums.proofs.Sameness.{shift-unit}
use Rattle.formal_sums.specs.Combinations.{IsMember}
use Rattle.formal_sums.specs.FormalSums.{FormalSum, Key}
use Rattle.orders.proofs.KeyOrdering.{KeyDivides_trans}
use Rattle.orders.specs.KeyOrders.{KeyDivides}
use Rattle.bases.proofs.MoreMembers.{goes_or_stays, was_there}
use Rattle.bases.specs.Bases.{IsCovered, IsGroebnerBasis}
use Rattle.bases.specs.Leads.{IsLead, head_key, leads}
use Rattle.bases.specs.Settings.{Setting}
use Rattle.reduced_bases.specs.Interreduction.{CoversLeads}

-- what leads of G cover, the leads that cover these do
pub IsCovered_through :
    {n : ℕ} (S : Setting n) (G H : List (FormalSum n)) (k : Key n) → CoversLeads S H G → IsCovered S G k → IsCovered S H k
IsCovered_through S G H k covers (i, h, lead, d) = go (covers i h lead)
  where
    go : IsCovered S H (leads G i) → IsCovered S H k
    go (j, h', lead', e) = (j, h', lead', KeyDivides_trans (leads H j) (leads G i) k e d)

-- a key is covered by itself
pub KeyDivides_refl : {n : ℕ} (k : Key n) → KeyDivides k k
KeyDivides_refl {n} k = (unit n, shift-unit k)

pub IsGroebnerBasis_dropped :
    {n : ℕ} (S : Setting n) (F G H : List (FormalSum n)) → IsGroebnerBasis S F G
    → ((i : ℕ) → i < length H → IsMember S.modulus F (get_or H i [])) → CoversLeads S H G → IsGroebnerBasis S F H
IsGroebnerBasis_dropped S F G H basis inside covers = record {
  members = inside;
  covers = λ v k a lead. IsCovered_through S G H k covers (basis.covers v k a lead);
}

-- one member less
pub IsGroebnerBasis_dropped_one :
    {n : ℕ} (S : Setting n) (F G H : List (FormalSum n)) (g : FormalSum n) → IsGroebnerBasis S F (G ++ (g ∷ H))
    → IsCovered S (G ++ H) (head_key g) → IsGroebnerBasis S F (G ++ H)
IsGroebnerBasis_dropped_one S F G H g basis covered = IsGroebnerBasis_dropped S F (G ++ (g ∷ H)) (G ++ H) basis inside covers
  where
    inside : (i : ℕ) → i < length (G ++ H) → IsMember S.modulus F (get_or (G ++ H) i [])
    inside i h = go (was_there G H g i h)
      where
        go :
            (j : ℕ) × (j < length (G ++ (g ∷ H))) × (get_or (G ++ (g ∷ H)) j [] ≡ get_or (G ++ H) i [])
            → IsMember S.modulus F (get_or (G ++ H) i [])
        go (j, lt, e) = subst (IsMember S.modulus F) e (basis.members j lt)

    covers : CoversLeads S (G ++ H) (G ++ (g ∷ H))
    covers j h lead = go (goes_or_stays G H g j h)
      where
        go :
            (get_or (G ++ (g ∷ H)) j [] ≡ g) ⊎ ((i : ℕ) × (i < length (G ++ H)) × (get_or (G ++ H) i [] ≡ get_or (G ++ (g ∷ H)) j []))
            → IsCovered S (G ++ H) (leads (G ++ (g ∷ H)) j)
        go (inl e) = subst (λ v. IsCovered S (G ++ H) (head_key v)) (sym e) covered
        go (inr (i, lt, e)) = (i, lt, subst (λ v. IsLead S v (head_key v)) (sym e) lead, subst (λ v. KeyDivides (leads (G ++ H) i) (head_key v)) e (KeyDivides_refl (leads (G ++ H) i)))
