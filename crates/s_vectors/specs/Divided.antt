-- A pair's S-vector and what its division by the members leaves
use Rattle.std.specs.Prelude.{List, [], get_or, length, map, ℕ, ◌%◌, ◌++◌, ◌-◌, ◌≡◌}
use Rattle.std.specs.declared.cmp.Ordering.TheVariants.{Less}
use Rattle.formal_sums.specs.Combinations.{combination}
use Rattle.formal_sums.specs.FormalSums.{Each, FormalSum, IsSame, Key}
use Rattle.bases.specs.Leads.{IsLead}
use Rattle.bases.specs.Representations.{IsLower, s_vector}
use Rattle.term_lists.specs.Rings.{ring_comparison, variables}
use Rattle.term_lists.specs.Vectors.{IsVectorOver, StandsFor, key_of, sum_of, sums_of}
use Rattle.term_lists.specs.declared.key.Key.{Key as CodeKey}
use Rattle.module_vectors.specs.Trails.{IsMet, KeptProduct}
use Rattle.pair_criteria.specs.declared.pair.Pair.{Pair as CodePair}
use Rattle.vector_division.specs.Reductions.{cofactors_of, unscaled}
use Rattle.vector_division.specs.declared.reduction.ScaledProduct.{ScaledProduct}
use Rattle.basis_steps.specs.Criteria.{IsPair}
use Rattle.basis_steps.specs.Divisions.{IsMonicMember}
use Rattle.basis_steps.specs.States.{vectors}
use Rattle.basis_core.specs.Jobs.{HasLcmOfMembers, index_pair_of}
use Rattle.basis_core.specs.Members.{MembersShown, members_of, setting_of}
use Rattle.basis_core.specs.Rows.{vectors_in}
use Rattle.s_vectors.specs.Parts.{ArePairParts, IsPart}
use Rattle.s_vectors.specs.PairProducts.{ArePairProducts}

-- the members are monic, and the pair is one of them and has its lcm
pub record AreOfPair (m : MembersShown) (x : CodePair) : Type 0 where
  pub monic : Each (IsMonicMember (setting_of (variables m.shared.ring) m.shared)) (vectors (members_of (variables m.shared.ring) m.list))
  pub real : IsPair (vectors (members_of (variables m.shared.ring) m.list)) (index_pair_of x)
  pub lcm : HasLcmOfMembers (variables m.shared.ring) m.shared.ring.weights m.list x

-- the same product with the residue of -c for c
abbrev pub negated : ℕ → ScaledProduct → ScaledProduct
negated p q = record { index = q.index; residue = (p - q.residue) % p; monomial = q.monomial }

-- each key of v is one of these products
abbrev pub HasKeysMet : (n : ℕ) → List (CodeKey × ℕ) → List (List (CodeKey × ℕ)) → List KeptProduct → Type 0
HasKeysMet n v list products = Each (λ t. IsMet n [] list products t.0) (sum_of n v)

-- v is the S-vector, the sum of these two parts
pub record IsTopVector (m : MembersShown) (x : CodePair) (parts : List ScaledProduct) (v : List (CodeKey × ℕ)) : Type 0 where
  pub two : ArePairParts (variables m.shared.ring) m.shared.ring.weights m.shared.ring.modulus.value (vectors_in m.list) x parts
  pub vector : IsVectorOver m.shared.ring (ring_comparison m.shared.ring) v
  pub sum : StandsFor m.shared.ring v (combination (sums_of (variables m.shared.ring) (vectors_in m.list)) (cofactors_of (variables m.shared.ring) parts))

-- products below the lcm and the rest make up the S-vector, and the rest has a lower lead
pub record IsRestOf {n : ℕ} (m : MembersShown) (x : CodePair) (rest : FormalSum n) : Type 0 where
  pub lower : FormalSum n
  pub below : Each (IsLower (setting_of n m.shared) (sums_of n (vectors_in m.list)) (key_of n x.lcm)) lower
  pub whole :
      IsSame m.shared.ring.modulus.value (combination (sums_of n (vectors_in m.list)) lower ++ rest)
      (s_vector m.shared.ring.modulus.value (get_or (sums_of n (vectors_in m.list)) x.i []) (get_or (sums_of n (vectors_in m.list)) x.j []))
  pub low : (k : Key n) → IsLead (setting_of n m.shared) rest k → ring_comparison m.shared.ring n k (key_of n x.lcm) ≡ Less

-- the parts, which come of the pair, make up what is left of its S-vector
pub record IsDivided (m : MembersShown) (x : CodePair) (parts : List ScaledProduct) (rest : List (CodeKey × ℕ)) : Type 0 where
  pub products : ArePairProducts (variables m.shared.ring) m.shared.ring.weights (vectors_in m.list) (key_of (variables m.shared.ring) x.lcm) (map unscaled parts)
  pub each : Each (IsPart (variables m.shared.ring) m.shared.ring.weights m.shared.ring.modulus.value (length m.list)) parts
  pub vector : IsVectorOver m.shared.ring (ring_comparison m.shared.ring) rest
  pub sum : StandsFor m.shared.ring rest (combination (sums_of (variables m.shared.ring) (vectors_in m.list)) (cofactors_of (variables m.shared.ring) parts))
  pub left : IsRestOf m x (sum_of (variables m.shared.ring) rest)
