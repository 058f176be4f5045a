-- Pairs that are dropped as a new member comes, each for a third member (Gebauer and Möller 1988)
use Rattle.std.specs.Prelude.{List, length, ℕ, ◌+◌, ◌<◌, ◌≡◌, ◌⊎◌}
use Rattle.formal_sums.specs.FormalSums.{Each, FormalSum, Key}
use Rattle.orders.specs.KeyOrders.{KeyDivides}
use Rattle.bases.specs.Leads.{leads}
use Rattle.bases.specs.Settings.{Setting}
use Rattle.basis_steps.specs.Criteria.{AreCovered, IsPair, ProductApplies, lcm_of}
use Rattle.queue_updates.specs.declared.Update.{Update}
use Rattle.queue_updates.specs.declared.Update.TheVariants.{Gebauer, Plain}
use Rattle.basis_steps.specs.Pairs.{Drop, Pair, count, pair_of, pairs_dropped}

-- the one key divides the other, which is another
pub record DividesProperly {n : ℕ} (k l : Key n) : Type 0 where
  pub divides : KeyDivides k l
  pub other : k ≡ l → ⊥

-- the later member, and then the earlier one, is below that of the other pair
abbrev pub IsLowerPair : Pair → Pair → Type 0
IsLowerPair x y = (x.1 < y.1) ⊎ ((x.1 ≡ y.1) × (x.0 < y.0))

-- the lcm of the one pair properly divides that of the other; or both are one, and the one has lower members
abbrev pub IsEarlier : {n : ℕ} → List (FormalSum n) → Pair → Pair → Type 0
IsEarlier G x y = DividesProperly (lcm_of G x) (lcm_of G y) ⊎ ((lcm_of G x ≡ lcm_of G y) × IsLowerPair x y)

-- the one pair is earlier than the other, or the product criterion applies to it
abbrev pub IsSettledBefore : {n : ℕ} → Setting n → List (FormalSum n) → Pair → Pair → Type 0
IsSettledBefore S G x y = IsEarlier G x y ⊎ ProductApplies S G x

-- the lead of a third member k divides the pair's lcm, and both pairs with k are earlier, or the product criterion applies to them (Gebauer and Möller 1988)
pub record Follows {n : ℕ} (S : Setting n) (G : List (FormalSum n)) (x : Pair) (k : ℕ) : Type 0 where
  pub within : k < length G
  pub left : k ≡ x.0 → ⊥
  pub right : k ≡ x.1 → ⊥
  pub divides : KeyDivides (leads G k) (lcm_of G x)
  pub with_left : IsSettledBefore S G (pair_of x.0 k) x
  pub with_right : IsSettledBefore S G (pair_of k x.1) x

-- each dropped pair is one of members, and follows
abbrev pub AreFollowed : {n : ℕ} → Setting n → List (FormalSum n) → List Drop → Type 0
AreFollowed S G drops = Each (λ d. IsPair G d.0 × Follows S G d.0 d.1) drops

-- each pair of members waits or has an lcm representation; or, where new members drop pairs, it was dropped, and then it follows
abbrev pub AreCoveredBy : {n : ℕ} → Update → Setting n → List (FormalSum n) → (Pair → ℕ) → List Drop → Type 0
AreCoveredBy Plain S G waits drops = AreCovered S G waits
AreCoveredBy Gebauer S G waits drops = AreCovered S G (λ x. waits x + count x (pairs_dropped drops)) × AreFollowed S G drops

-- ---- the three rules, by which a new member drops pairs

-- a pair of earlier members leaves for member h: the lead of h divides its lcm, which is none of those of h with either
pub record LeavesFor {n : ℕ} (G : List (FormalSum n)) (h : ℕ) (x : Pair) : Type 0 where
  pub divides : KeyDivides (leads G h) (lcm_of G x)
  pub left : lcm_of G (x.0, h) ≡ lcm_of G x → ⊥
  pub right : lcm_of G (x.1, h) ≡ lcm_of G x → ⊥

-- a pair of i and the new member h yields to that of j and h, whose lcm properly divides its own
pub record YieldsTo {n : ℕ} (G : List (FormalSum n)) (h i j : ℕ) : Type 0 where
  pub pair : IsPair G (j, h)
  pub divides : DividesProperly (lcm_of G (j, h)) (lcm_of G (i, h))

-- a pair of i and the new member h stands behind that of c and h: both have one lcm, and the product criterion applies to that of c, or c is before i
pub record StandsBehind {n : ℕ} (S : Setting n) (G : List (FormalSum n)) (h i c : ℕ) : Type 0 where
  pub pair : IsPair G (c, h)
  pub other : c ≡ i → ⊥
  pub same : lcm_of G (c, h) ≡ lcm_of G (i, h)
  pub first : (c < i) ⊎ ProductApplies S G (c, h)
