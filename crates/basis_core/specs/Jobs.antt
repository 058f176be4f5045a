-- What a worker takes: pairs of members that it has
use Rattle.std.specs.Prelude.{List, length, ℕ, ◌<◌, ◌≡◌}
use Rattle.formal_sums.specs.FormalSums.{Each}
use Rattle.monomial_orders.specs.Kept.{IsWeighed}
use Rattle.term_lists.specs.Rings.{variables}
use Rattle.term_lists.specs.Vectors.{key_of}
use Rattle.pair_criteria.specs.declared.pair.Pair.{Pair as CodePair}
use Rattle.basis_steps.specs.Criteria.{IsPair, lcm_of}
use Rattle.basis_steps.specs.Divisions.{IsMonicMember}
use Rattle.basis_steps.specs.States.{vectors}
pub use Rattle.pair_updates.specs.Pairs.{index_pair_of, pairs_of}
use Rattle.basis_core.specs.Members.{Shared, MemberShown, members_of, setting_of}

-- what contracts see of a job
pub record JobShown : Type 0 where
  pub shared : Shared
  pub worker : ℕ
  pub members : List MemberShown
  pub pairs : List CodePair

-- the pair keeps the least common multiple of its leads, by these weights
pub record HasLcmOfMembers (n : ℕ) (ws : List ℕ) (ms : List MemberShown) (x : CodePair) : Type 0 where
  pub weighed : IsWeighed n ws x.lcm.monomial
  pub lcm : key_of n x.lcm ≡ lcm_of (vectors (members_of n ms)) (index_pair_of x)

-- at least one pair; the members are monic; the pairs are of two of them with leads at one position, and have their lcms
pub record IsJob (n : ℕ) (j : JobShown) : Type 0 where
  pub some : 0 < length j.pairs
  pub monic : Each (IsMonicMember (setting_of n j.shared)) (vectors (members_of n j.members))
  pub real : Each (IsPair (vectors (members_of n j.members))) (pairs_of j.pairs)
  pub lcms : Each (HasLcmOfMembers n j.shared.ring.weights j.members) j.pairs

-- the same, in the number of variables of the job's ring
abbrev pub IsJobOver : JobShown → Type 0
IsJobOver j = IsJob (variables j.shared.ring) j
