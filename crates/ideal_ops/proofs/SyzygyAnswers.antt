-- Quotients and colons are syzygies modulo a list
use Rattle.std.proofs.Common.{List, [], ap, arith, length, subst, sym, ℕ, ◌*◌, ◌∙◌, ◌∷◌, ◌≡◌}
use Rattle.std.proofs.lemmas.List.{length-map}
use Rattle.std.specs.Prelude.{◌↔◌}
use Rattle.formal_sums.specs.Combinations.{IsMember}
use Rattle.formal_sums.specs.FormalSums.{Each, FormalSum, HasRank, IsOfRank, product}
use Rattle.bases.proofs.Leading.{positive}
use Rattle.bases.specs.Settings.{IsLawful}
use Rattle.operation_laws.proofs.OneMarkRuns.{modulo_multiples, modulo_stack}
use Rattle.operation_laws.proofs.Quotient.{length-listed}
use Rattle.operation_laws.proofs.Running.{blocks_rank, multiples_rank, stacked_rank, through}
use Rattle.operation_laws.specs.Operations.{IsSyzygyModulo, basis_vector, blocks, multiples_of, stacked}
use Rattle.term_lists.specs.Rings.{ring_comparison, setting, variables}
use Rattle.term_lists.specs.Vectors.{HasPositions, sum_of, sums_of}
use Rattle.term_lists.specs.declared.ring.Ring.{Ring}
use Rattle.groebner_iface.specs.Runs.{IsReducedBasisOf}
use Rattle.syzygy_engine.specs.Answers.{IsBasisOfThose}
use Rattle.syzygy_engine.specs.Marking.{position_ring}
use Rattle.syzygy_engine.specs.Runs.{AreVectorsFor}
use Rattle.syzygy_engine.proofs.Generated.{lawful_at}
use Rattle.syzygy_engine.proofs.Marks.{lawful_by_position}
use Rattle.syzygy_engine.proofs.ModuloRuns.{syzygies_for}
use Rattle.syzygy_engine.proofs.Standing.{Terms, ranks_of_positions}
use Rattle.syzygy_engine.proofs.VectorLists.{positions_for}

-- a basis of the vectors with a property is one of those with another that says the same
same_property :
    (ring : Ring) (r m : ℕ) (P Q : FormalSum (variables ring) → Type 0) (answer : List Terms) → r ≡ m → IsBasisOfThose ring r P answer
    → ((v : FormalSum (variables ring)) → P v ↔ Q v) → IsBasisOfThose ring m Q answer
same_property ring r m P Q answer e b same = record {
  basis = subst (λ k. IsReducedBasisOf ring k answer answer) e b.basis;
  members = λ v. through (b.members v) (same v);
}

-- ---- the quotient
module _ (ring : Ring) (rank : ℕ) (f : Terms) (list heads members : List Terms) (lawful : IsLawful (setting ring (variables ring) (ring_comparison ring (variables ring)) 0))
    (x : AreVectorsFor ring (multiples_of rank (sum_of (variables ring) f)) heads) (y : AreVectorsFor (position_ring ring) (sums_of (variables ring) list) members) where
  abbrev u : FormalSum (variables ring)
  u = sum_of (variables ring) f

  pub multiples_positions : Each (HasPositions rank) heads
  multiples_positions = positions_for ring rank (lawful_at ring rank lawful) heads (multiples_of rank u) x (multiples_rank rank u)

  pub members_positions : Each (HasPositions rank) list → Each (HasPositions rank) members
  members_positions low = positions_for (position_ring ring) rank (lawful_by_position ring rank lawful) members (sums_of (variables ring) list) y (ranks_of_positions (variables ring) rank list low)

  pub basis_of_quotient :
      (answer : List Terms)
      → IsBasisOfThose ring (length heads) (IsSyzygyModulo ring.modulus.value (sums_of (variables ring) heads) (sums_of (variables ring) members)) answer
      → IsBasisOfThose ring rank (λ v. IsOfRank ring.modulus.value rank v × IsMember ring.modulus.value (sums_of (variables ring) list) (product (sum_of (variables ring) f) v)) answer
  basis_of_quotient answer b =
      let n = variables ring in
      let pos = positive (setting ring n (ring_comparison ring n) 0) lawful in
      same_property ring (length heads) rank _ _ answer (x.stand.count ∙ length-listed 0 rank (λ j. product u (basis_vector j))) b
      (λ v. through (syzygies_for ring rank heads members (multiples_of rank u) (sums_of n list) x y pos v) (modulo_multiples pos rank u (sums_of n list) v))

-- ---- the colon
module _ (ring : Ring) (rank : ℕ) (list by heads members : List Terms) (lawful : IsLawful (setting ring (variables ring) (ring_comparison ring (variables ring)) 0))
    (low : Each (HasPositions rank) list) (by_low : Each (HasPositions rank) by)
    (x : AreVectorsFor ring (stacked rank 0 (sums_of (variables ring) by) ∷ []) heads)
    (y : AreVectorsFor (position_ring ring) (blocks rank 0 (length by) (sums_of (variables ring) list)) members) where
  abbrev n : ℕ
  n = variables ring

  abbrev F : List (FormalSum (variables ring))
  F = sums_of (variables ring) list

  abbrev C : List (FormalSum (variables ring))
  C = sums_of (variables ring) by

  ranks : Each (HasRank rank) (sums_of (variables ring) list)
  ranks = ranks_of_positions n rank list low

  by_ranks : Each (HasRank rank) (sums_of (variables ring) by)
  by_ranks = ranks_of_positions n rank by by_low

  count : length (sums_of (variables ring) by) ≡ length by
  count = length-map by (λ v. sum_of n v)

  pub stacked_positions : Each (HasPositions (rank * length by)) heads
  stacked_positions =
      let q = rank * length by in
      let e : rank * length C ≡ q = ap (λ s. rank * s) count in
      positions_for ring q (lawful_at ring q lawful) heads (stacked rank 0 C ∷ []) x (stacked_rank rank 0 C q (omega (arith, e)) by_ranks, tt)

  pub blocks_positions : Each (HasPositions (rank * length by)) members
  blocks_positions =
      let q = rank * length by in
      positions_for (position_ring ring) q (lawful_by_position ring q lawful) members (blocks rank 0 (length by) F) y (blocks_rank rank 0 (length by) F q (omega arith) ranks)

  pub basis_of_colon :
      (answer : List Terms)
      → IsBasisOfThose ring (length heads) (IsSyzygyModulo ring.modulus.value (sums_of (variables ring) heads) (sums_of (variables ring) members)) answer
      → IsBasisOfThose ring 1 (λ v. IsOfRank ring.modulus.value 1 v
      × Each (λ c. IsMember ring.modulus.value (sums_of (variables ring) list) (product v c)) (sums_of (variables ring) by)) answer
  basis_of_colon answer b =
      let pos = positive (setting ring n (ring_comparison ring n) 0) lawful in
      let X = stacked rank 0 C ∷ [] in
      let one : length heads ≡ 1 = omega (arith, x.stand.count) in
      let y' = subst (λ s. AreVectorsFor (position_ring ring) (blocks rank 0 s F) members) (sym count) y in
      same_property ring (length heads) 1 _ _ answer one b
      (λ v. through (syzygies_for ring (rank * length C) heads members X (blocks rank 0 (length C) F) x y' pos v) (modulo_stack pos rank F ranks C by_ranks v))
