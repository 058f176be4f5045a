-- Pairs that need not be looked at: they have an lcm representation (IVA chapter 2, sections 9 and 10)
use Rattle.std.specs.Prelude.{List, [], get_or, length, ℕ, ◌<◌, ◌≡◌}
use Rattle.monomials.specs.Exponents.{lcm, times}
use Rattle.formal_sums.specs.FormalSums.{FormalSum, HasRank, Key}
use Rattle.bases.specs.Leads.{IsMonicList, leads}
use Rattle.bases.specs.Representations.{HasLcmRepresentation, key_lcm}
use Rattle.bases.specs.Settings.{IsLawful, Setting}

-- the product criterion applies: rank 1, one position, and the monomials have no variable in common
abbrev pub ProductCriterionApplies : {n : ℕ} → ℕ → Key n → Key n → Type 0
ProductCriterionApplies rank k l = (rank ≡ 1) × (k.0 ≡ l.0) × (times k.1 l.1 ≡ lcm k.1 l.1)

-- members i and j of a monic list of this rank, whose leads are k and l
pub record AreMembers {n : ℕ} (S : Setting n) (G : List (FormalSum n)) (rank i j : ℕ) (k l : Key n) : Type 0 where
  pub lawful : IsLawful S
  pub rank_is : S.rank ≡ rank
  pub monic : IsMonicList S G
  pub known_left : i < length G
  pub known_right : j < length G
  pub rank_left : HasRank rank (get_or G i [])
  pub rank_right : HasRank rank (get_or G j [])
  pub lead_left : leads G i ≡ k
  pub lead_right : leads G j ≡ l

-- any two such members have an lcm representation
abbrev pub SparesByProduct : {n : ℕ} → ℕ → Key n → Key n → Type 0
SparesByProduct {n} rank k l =
    (S : Setting n) (G : List (FormalSum n)) (i j : ℕ) → AreMembers S G rank i j k l → HasLcmRepresentation S G i j

-- members i and j whose leads have the least common multiple l, and a member m whose lead is k, and with which both have an lcm representation
pub record AreChained {n : ℕ} (S : Setting n) (G : List (FormalSum n)) (i j m : ℕ) (k l : Key n) : Type 0 where
  pub lawful : IsLawful S
  pub together : (leads G i).0 ≡ (leads G j).0
  pub lcm : key_lcm (leads G i) (leads G j) ≡ l
  pub lead : leads G m ≡ k
  pub left : HasLcmRepresentation S G i m
  pub right : HasLcmRepresentation S G m j

-- any two such members have an lcm representation
abbrev pub SparesByChain : {n : ℕ} → Key n → Key n → Type 0
SparesByChain {n} k l =
    (S : Setting n) (G : List (FormalSum n)) (i j m : ℕ) → AreChained S G i j m k l → HasLcmRepresentation S G i j
