-- The members of a list by their leads
use Rattle.std.specs.Ordering.{nat_cmp, ordering_then}
use Rattle.std.specs.Prelude.{Contains, List, [], get_or, length, ⊤, ℕ, ◌<◌, ◌∷◌, ◌≡◌}
use Rattle.std.specs.declared.cmp.Ordering.{Ordering}
use Rattle.std.specs.declared.cmp.Ordering.TheVariants.{Greater, Less}
use Rattle.formal_sums.specs.FormalSums.{Each, Key}
use Rattle.orders.specs.KeyOrders.{KeyDivides}
use Rattle.bases.specs.Leads.{head_key}
use Rattle.term_lists.specs.Vectors.{sum_of}
use Rattle.term_lists.specs.declared.key.Key.{Key as CodeKey}
use Rattle.module_vectors.specs.Trails.{lead_at}

-- each of these members has a lead: it is not zero
abbrev pub HaveLeads : List (List (CodeKey × ℕ)) → List ℕ → Type 0
HaveLeads list indices = Each (λ i. 0 < length (get_or list i [])) indices

-- each of these vectors is zero or has the lead of a vector of the list
abbrev pub HaveLeadsOf : ℕ → List (List (CodeKey × ℕ)) → List (List (CodeKey × ℕ)) → Type 0
HaveLeadsOf n list vectors =
    Each (λ v. 0 < length v → (i : ℕ) × (0 < length (get_or list i [])) × (head_key (sum_of n v) ≡ lead_at n list i)) vectors

-- 0 for a vector with a lead, 1 for zero
abbrev pub lack_of_lead : List (CodeKey × ℕ) → ℕ
lack_of_lead [] = 1
lack_of_lead (t ∷ v) = 0

-- two members by their leads; those that have none come last
abbrev pub by_lead : (n : ℕ) → (Key n → Key n → Ordering) → List (List (CodeKey × ℕ)) → ℕ → ℕ → Ordering
by_lead n compare list i j =
    ordering_then (nat_cmp (lack_of_lead (get_or list i [])) (lack_of_lead (get_or list j []))) (compare (lead_at n list i) (lead_at n list j))

-- no lead is above that of a later member
abbrev pub LeadsRise : (n : ℕ) → (Key n → Key n → Ordering) → List (List (CodeKey × ℕ)) → List ℕ → Type 0
LeadsRise n compare list [] = ⊤
LeadsRise n compare list (i ∷ order) =
    Each (λ j. compare (lead_at n list i) (lead_at n list j) ≡ Greater → ⊥) order × LeadsRise n compare list order

-- the lead of one of these members divides that of member i
abbrev pub IsCoveredBy : (n : ℕ) → List (List (CodeKey × ℕ)) → List ℕ → ℕ → Type 0
IsCoveredBy n list kept i = (j : ℕ) × Contains kept j × KeyDivides (lead_at n list j) (lead_at n list i)

-- the leads strictly ascend, and none divides a later one
abbrev pub HaveApartLeads : (n : ℕ) → (Key n → Key n → Ordering) → List (List (CodeKey × ℕ)) → List ℕ → Type 0
HaveApartLeads n compare list [] = ⊤
HaveApartLeads n compare list (i ∷ kept) =
    Each (λ j. (compare (lead_at n list i) (lead_at n list j) ≡ Less) × (KeyDivides (lead_at n list i) (lead_at n list j) → ⊥)) kept
    × HaveApartLeads n compare list kept

-- by ascending leads, a minimal choice of members that are not zero, whose leads cover those of all such members
-- (IVA chapter 2, section 7)
pub record AreNeeded (n : ℕ) (compare : Key n → Key n → Ordering) (list : List (List (CodeKey × ℕ))) (kept : List ℕ) : Type 0 where
  pub within : Each (λ i. i < length list) kept
  pub leads : HaveLeads list kept
  pub apart : HaveApartLeads n compare list kept
  pub covers : (i : ℕ) → i < length list → 0 < length (get_or list i []) → IsCoveredBy n list kept i

-- the same of the members up to here, where `rest` are still to come by ascending leads
pub record AreNeededSoFar (n : ℕ) (compare : Key n → Key n → Ordering) (list : List (List (CodeKey × ℕ))) (done rest kept : List ℕ) : Type 0 where
  pub within : Each (λ i. i < length list) kept
  pub leads : HaveLeads list kept
  pub apart : HaveApartLeads n compare list kept
  pub covers : Each (λ i. IsCoveredBy n list kept i) done
  pub up_to : Each (λ k. Each (λ j. compare (lead_at n list k) (lead_at n list j) ≡ Greater → ⊥) rest) kept
  pub rises : LeadsRise n compare list rest
