-- To which pair of its new member each new pair yields first, as code finds it
use Rattle.std.specs.Prelude.{List, MatchOption, None, Option, get_or, length, ℕ, ◌<◌, ◌≡◌, ◌≤◌, ◌⊎◌}
use Rattle.formal_sums.specs.FormalSums.{Each, FormalSum}
use Rattle.basis_steps.specs.Criteria.{IsPair}
use Rattle.basis_steps.specs.Drops.{YieldsTo}
use Rattle.basis_steps.specs.Updates.{IsOfGroup, Remains, YieldsFirstTo}
use Rattle.pair_updates.specs.Dropping.{IsPairWithBits}
use Rattle.pair_updates.specs.Leads.{LeadsShown, sums_shown}

-- the numbers rise
abbrev pub NumbersRise : List ℕ → Type 0
NumbersRise cs = (x y : ℕ) → x < y → y < length cs → get_or cs x 0 < get_or cs y 0

-- c stands in the list at index `from` or behind it
pub record StandsFrom (cs : List ℕ) (from c : ℕ) : Type 0 where
  pub at : ℕ
  pub late : from ≤ at
  pub within : at < length cs
  pub is : get_or cs at 0 ≡ c

-- c is the first of the members cs, from index `from` on, to whose pair with h that of i yields
pub record IsFirstFrom {n : ℕ} (G : List (FormalSum n)) (h i : ℕ) (cs : List ℕ) (from c : ℕ) : Type 0 where
  pub stands : StandsFrom cs from c
  pub yields : YieldsTo G h i c
  pub before : (x : ℕ) → from ≤ x → x < stands.at → YieldsTo G h i (get_or cs x 0) → ⊥

-- the first of them, or there is none
abbrev pub IsFirstAmong : {n : ℕ} → List (FormalSum n) → (h i : ℕ) → List ℕ → ℕ → Option ℕ → Type 0
IsFirstAmong G h i cs from first =
    MatchOption first ((x : ℕ) → from ≤ x → x < length cs → YieldsTo G h i (get_or cs x 0) → ⊥) (IsFirstFrom G h i cs from)

-- the first of all members to whose pair with h that of i yields, or it yields to none below i
abbrev pub IsLowerYield : {n : ℕ} → List (FormalSum n) → (h i : ℕ) → Option ℕ → Type 0
IsLowerYield G h i first = MatchOption first ((l : ℕ) → l < i → YieldsTo G h i l → ⊥) (λ j. (j < i) × YieldsFirstTo G h i j)

-- of the members below k: to which lower one the pair of each yields first, and in their order those whose pairs yield to no lower one
pub record AreLowerYields (m : LeadsShown) (h k : ℕ) (firsts : List (Option ℕ)) (active : List ℕ) : Type 0 where
  pub len : length firsts ≡ k
  pub each : (i : ℕ) → i < k → IsLowerYield (sums_shown m) h i (get_or firsts i None)
  pub rises : NumbersRise active
  pub within : Each (λ c. c < k) active
  pub none : (x : ℕ) → x < length active → get_or firsts (get_or active x 0) None ≡ None
  pub all : (i : ℕ) → i < k → get_or firsts i None ≡ None → IsPair (sums_shown m) (i, h) → StandsFrom active 0 i

-- the first member to whose pair with h that of i yields; or there is no such pair, or it waits among the active ones from index k on, or it yields to none and is left
abbrev pub IsYieldSettled : {n : ℕ} → List (FormalSum n) → (h : ℕ) → List ℕ → ℕ → List ℕ → ℕ → Option ℕ → Type 0
IsYieldSettled G h active k left i first =
    MatchOption first ((IsPair G (i, h) → ⊥) ⊎ (StandsFrom active k i ⊎ (Remains G h i × StandsFrom left 0 i))) (YieldsFirstTo G h i)

-- of all members, where of the active ones those before index k were looked at
pub record AreSettled (m : LeadsShown) (h : ℕ) (active : List ℕ) (k : ℕ) (firsts : List (Option ℕ)) (left : List ℕ) : Type 0 where
  pub len : length firsts ≡ h
  pub each : (i : ℕ) → i < h → IsYieldSettled (sums_shown m) h active k left i (get_or firsts i None)
  pub rises : NumbersRise left
  pub low : (x y : ℕ) → x < length left → k ≤ y → y < length active → get_or left x 0 < get_or active y 0
  pub within : Each (λ c. c < h) left

-- for each earlier member the first to whose pair with h its own yields, and in their order those whose pairs yield to none
pub record AreFirstYields (m : LeadsShown) (h : ℕ) (firsts : List (Option ℕ)) (left : List ℕ) : Type 0 where
  pub len : length firsts ≡ h
  pub each : (i : ℕ) → i < h → MatchOption (get_or firsts i None) (IsPair (sums_shown m) (i, h) → Remains (sums_shown m) h i) (YieldsFirstTo (sums_shown m) h i)
  pub rises : NumbersRise left
  pub within : Each (λ c. c < h) left
  pub all : (i : ℕ) → IsPair (sums_shown m) (i, h) → Remains (sums_shown m) h i → StandsFrom left 0 i

-- the members cs rise, and each whose pair with h is of the group of that of i is one of them
pub record HasGroup {n : ℕ} (G : List (FormalSum n)) (h i : ℕ) (cs : List ℕ) : Type 0 where
  pub rises : NumbersRise cs
  pub all : (l : ℕ) → IsOfGroup G h i l → StandsFrom cs 0 l

-- members below k whose pairs with h are pairs, each with its bits
pub record AreActive (m : LeadsShown) (h : ℕ) (members above : List ℕ) : Type 0 where
  pub len : length above ≡ length members
  pub each : (x : ℕ) → x < length members → IsPairWithBits m (record { i = get_or members x 0; j = h; above = get_or above x 0 })
