-- Queued pairs
use Rattle.std.specs.Prelude.{List, map, ℕ, ◌<◌, ◌≡◌}
use Rattle.monomial_orders.specs.Kept.{IsWeighed}
use Rattle.term_lists.specs.Vectors.{key_of}
use Rattle.pair_criteria.specs.declared.pair.Pair.{Pair as CodePair}
use Rattle.basis_steps.specs.Criteria.{IsPair, lcm_of}
use Rattle.basis_steps.specs.Pairs.{Pair}
use Rattle.pair_updates.specs.Leads.{LeadsShown, sums_shown}

-- the indices of a pair
abbrev pub index_pair_of : CodePair → Pair
index_pair_of x = (x.i, x.j)

-- the indices of each pair
abbrev pub pairs_of : List CodePair → List Pair
pairs_of xs = map (λ x. index_pair_of x) xs

-- two of so many members, the earlier first
abbrev pub AreIndices : ℕ → Pair → Type 0
AreIndices count x = (x.0 < x.1) × (x.1 < count)

-- the pair keeps the least common multiple of its leads, with its degree by the weights
pub record HasLcm (m : LeadsShown) (x : CodePair) : Type 0 where
  pub weighed : IsWeighed m.variables m.weights x.lcm.monomial
  pub lcm : key_of m.variables x.lcm ≡ lcm_of (sums_shown m) (index_pair_of x)

-- a pair of leads at one position, which has its lcm
pub record IsRealPair (m : LeadsShown) (x : CodePair) : Type 0 where
  pub pair : IsPair (sums_shown m) (index_pair_of x)
  pub lcm : HasLcm m x
