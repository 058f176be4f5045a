-- Which pairs are queued as members come: all of them, or those that the three rules leave (Gebauer and Möller 1988)
use Rattle.std.specs.Prelude.{Contains, List, length, suc, zero, ℕ, ◌++◌, ◌-◌, ◌<◌, ◌≡◌, ◌≤◌, ◌⊎◌}
use Rattle.formal_sums.specs.FormalSums.{Each, FormalSum}
use Rattle.bases.specs.Settings.{Setting}
use Rattle.basis_steps.specs.Criteria.{IsPair, ProductApplies, lcm_of}
use Rattle.basis_steps.specs.Drops.{LeavesFor, YieldsTo}
use Rattle.basis_steps.specs.Pairs.{Drop, Pair, count, pairs_dropped}
use Rattle.basis_steps.specs.Queues.{IsSorted, QueuesNewPairs}
use Rattle.queue_updates.specs.declared.Update.{Update}
use Rattle.queue_updates.specs.declared.Update.TheVariants.{Gebauer, Plain}

-- j is the first member to whose pair with the new member h that of i yields
pub record YieldsFirstTo {n : ℕ} (G : List (FormalSum n)) (h i j : ℕ) : Type 0 where
  pub yields : YieldsTo G h i j
  pub first : (l : ℕ) → l < j → YieldsTo G h i l → ⊥

-- the pair of i and h yields to none
abbrev pub Remains : {n : ℕ} → List (FormalSum n) → ℕ → ℕ → Type 0
Remains G h i = (j : ℕ) → YieldsTo G h i j → ⊥

-- the pairs of i and of l with h are of one group: they have one lcm
pub record IsOfGroup {n : ℕ} (G : List (FormalSum n)) (h i l : ℕ) : Type 0 where
  pub pair : IsPair G (l, h)
  pub same : lcm_of G (l, h) ≡ lcm_of G (i, h)

-- c is the first of the group of i and h to which the product criterion applies
pub record IsFirstSpared {n : ℕ} (S : Setting n) (G : List (FormalSum n)) (h i c : ℕ) : Type 0 where
  pub member : IsOfGroup G h i c
  pub applies : ProductApplies S G (c, h)
  pub first : (l : ℕ) → l < c → IsOfGroup G h i l → ProductApplies S G (l, h) → ⊥

-- c is the first of the group of i and h, to none of which the product criterion applies
pub record IsFirstLive {n : ℕ} (S : Setting n) (G : List (FormalSum n)) (h i c : ℕ) : Type 0 where
  pub member : IsOfGroup G h i c
  pub live : (l : ℕ) → IsOfGroup G h i l → ProductApplies S G (l, h) → ⊥
  pub first : (l : ℕ) → l < c → IsOfGroup G h i l → ⊥

-- the pair of i and h is dropped for k: it yields to that of k first; or it remains, and k is another that stands for its group
abbrev pub IsNewDrop : {n : ℕ} → Setting n → List (FormalSum n) → (h i k : ℕ) → Type 0
IsNewDrop S G h i k =
    YieldsFirstTo G h i k
    ⊎ (Remains G h i × (k ≡ i → ⊥) × (IsFirstSpared S G h i k ⊎ IsFirstLive S G h i k))

-- what becomes of a queued pair x as member h comes, where these are dropped and it is queued so often then: it leaves for h, or stays
abbrev pub BecomesOld : {n : ℕ} → List (FormalSum n) → (h : ℕ) → List Drop → (before after : ℕ) → Pair → Type 0
BecomesOld G h added before after x =
    (LeavesFor G h x × Contains added (x, h) × (after ≡ 0))
    ⊎ ((LeavesFor G h x → ⊥) × (after ≡ before))

-- what becomes of the new pair of i and h: it is dropped; or it remains and is the first of its group, spared by the product criterion or queued
abbrev pub BecomesNew : {n : ℕ} → Setting n → List (FormalSum n) → (h : ℕ) → List Drop → (after : ℕ) → ℕ → Type 0
BecomesNew S G h added after i =
    ((k : ℕ) × IsNewDrop S G h i k × Contains added ((i, h), k) × (after ≡ 0))
    ⊎ (Remains G h i × ((IsFirstSpared S G h i i × (after ≡ 0)) ⊎ (IsFirstLive S G h i i × (after ≡ 1))))

-- a drop by one of the rules: of a queued pair for h, or of a new pair
abbrev pub IsDropBy : {n : ℕ} → Setting n → List (FormalSum n) → (h : ℕ) → List Pair → Drop → Type 0
IsDropBy S G h queue d =
    ((0 < count d.0 queue) × LeavesFor G h d.0 × (d.1 ≡ h))
    ⊎ ((i : ℕ) × (d.0 ≡ (i, h)) × IsPair G (i, h) × IsNewDrop S G h i d.1)

-- the update with member h: what leaves the queue and what joins it, and what is dropped, each pair once
pub record UpdatesWith {n : ℕ} (S : Setting n) (G : List (FormalSum n)) (h : ℕ) (old : List Pair) (drops : List Drop) (new : List Pair) (later : List Drop) : Type 0 where
  pub added : List Drop
  pub appended : later ≡ drops ++ added
  pub by_rule : Each (IsDropBy S G h old) added
  pub once : (x : Pair) → count x (pairs_dropped added) ≤ 1
  pub earlier : (x : Pair) → 0 < count x old → BecomesOld G h added (count x old) (count x new) x
  pub new_pairs : (i : ℕ) → IsPair G (i, h) → BecomesNew S G h added (count (i, h) new) i
  pub no_others : (x : Pair) → 0 < count x new → (0 < count x old) ⊎ ((x.1 ≡ h) × IsPair G x)

-- the updates with the m members from h on, in their order
abbrev pub UpdatesInTurn : {n : ℕ} → Setting n → List (FormalSum n) → (h m : ℕ) → List Pair → List Drop → List Pair → List Drop → Type 0
UpdatesInTurn S G h zero old drops new later = (new ≡ old) × (later ≡ drops)
UpdatesInTurn S G h (suc m) old drops new later =
    (middle : List Pair) × (between : List Drop) × UpdatesWith S G h old drops middle between × UpdatesInTurn S G (suc h) m middle between new later

-- the updates with the members behind the first k, and the queue in order
pub record Updates {n : ℕ} (S : Setting n) (k : ℕ) (G : List (FormalSum n)) (old : List Pair) (drops : List Drop) (new : List Pair) (later : List Drop) : Type 0 where
  pub sorted : IsSorted S G new
  pub in_turn : UpdatesInTurn S G k (length G - k) old drops new later

-- what is queued and dropped as the members behind the first k come
abbrev pub QueuesPairs : {n : ℕ} → Update → Setting n → ℕ → List (FormalSum n) → List Pair → List Drop → List Pair → List Drop → Type 0
QueuesPairs Plain S k G old drops new later = QueuesNewPairs S k G old new × (later ≡ drops)
QueuesPairs Gebauer S k G old drops new later = Updates S k G old drops new later
