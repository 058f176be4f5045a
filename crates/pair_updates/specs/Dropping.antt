-- Pairs that new members drop, and the pairs of a new member, as code keeps them
use Rattle.std.specs.Prelude.{List, MatchOption, None, Option, get_or, length, map, ℕ, ◌<◌, ◌≡◌}
use Rattle.formal_sums.specs.FormalSums.{FormalSum}
use Rattle.bases.specs.Settings.{Setting}
use Rattle.basis_steps.specs.Criteria.{IsPair}
use Rattle.basis_steps.specs.Pairs.{Drop, Pair}
use Rattle.basis_steps.specs.Updates.{IsFirstLive, IsFirstSpared, IsNewDrop, Remains}
use Rattle.pair_updates.specs.Leads.{LeadsShown, sums_shown}
use Rattle.pair_updates.specs.Rows.{bits_above}
use Rattle.pair_updates.specs.declared.meeting.NewPair.{NewPair}
use Rattle.pair_updates.specs.declared.dropped.Dropped.{Dropped}
use Rattle.pair_updates.specs.declared.dropping.Fate.{Fate}
use Rattle.pair_updates.specs.declared.dropping.Fate.TheVariants as fates

-- the dropped pairs, each with the member that it was dropped for
abbrev pub drops_of : List Dropped → List Drop
drops_of ds = map (λ d. ((d.i, d.j), d.k)) ds

-- the indices of a new pair
abbrev pub new_pair_of : NewPair → Pair
new_pair_of x = (x.i, x.j)

-- a pair of members, with the bits that say where its earlier lead exceeds the new one
pub record IsPairWithBits (m : LeadsShown) (x : NewPair) : Type 0 where
  pub pair : IsPair (sums_shown m) (new_pair_of x)
  pub above : x.above ≡ bits_above m x.i x.j

-- the bits of the pair of member i and the new member h, or nothing where their leads stand at two positions
abbrev pub IsNewPair : LeadsShown → (h i : ℕ) → Option ℕ → Type 0
IsNewPair m h i bits = MatchOption bits (IsPair (sums_shown m) (i, h) → ⊥) (λ a. IsPairWithBits m (record { i = i; j = h; above = a }))

-- those of each earlier member and the new member h, in their order
pub record AreNewPairs (m : LeadsShown) (h : ℕ) (pairs : List (Option ℕ)) : Type 0 where
  pub len : length pairs ≡ h
  pub each : (i : ℕ) → i < h → IsNewPair m h i (get_or pairs i None)

-- the pair is one of those of its new member
pub record IsNewIn (m : LeadsShown) (news : List (Option ℕ)) (x : NewPair) : Type 0 where
  pub pairs : AreNewPairs m x.j news
  pub met : IsPairWithBits m x

-- what becomes of the pair of i and h: there is none; it is dropped for k; or it remains and is the first of its group, spared by the product criterion or queued (Gebauer and Möller 1988)
abbrev pub IsFate : {n : ℕ} → Setting n → List (FormalSum n) → (h i : ℕ) → Fate → Type 0
IsFate S G h i fates.Apart = IsPair G (i, h) → ⊥
IsFate S G h i fates.Queued = IsPair G (i, h) × Remains G h i × IsFirstLive S G h i i
IsFate S G h i fates.Spared = IsPair G (i, h) × Remains G h i × IsFirstSpared S G h i i
IsFate S G h i (fates.Dropped k) = IsPair G (i, h) × IsNewDrop S G h i k
