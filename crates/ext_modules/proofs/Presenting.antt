-- The kernel, its relations modulo the image, and whether these present zero
use Rattle.std.proofs.Common.{List, [], ap, arith, get_or, length, subst, sym, true, ℕ, ◌<◌, ◌∙◌, ◌∷◌, ◌≡◌, Bool}
use Rattle.std.proofs.lemmas.List.{length-map}
use Rattle.std.specs.Prelude.{◌↔◌}
use Rattle.formal_sums.proofs.Combining.{IsMember_same, IsMember_through, IsMember_zero, IsSame_combination_members, combination-nothing}
use Rattle.formal_sums.proofs.Sameness.{IsSame_of, IsSame_sym, IsSame_trans}
use Rattle.formal_sums.specs.Combinations.{IsMember, IsSyzygy, combination}
use Rattle.formal_sums.specs.FormalSums.{Each, FormalSum, HasRank, IsOfRank, IsSame}
use Rattle.bases.proofs.Leading.{positive}
use Rattle.bases.specs.Bases.{IsReducedBasis}
use Rattle.bases.specs.Settings.{IsLawful, Setting}
use Rattle.operation_laws.proofs.Linear.{Each_tabulate}
use Rattle.operation_laws.specs.Operations.{IsSyzygyModulo}
use Rattle.ext_laws.proofs.Kernels.{kernel_from, kernel_to, rows_count}
use Rattle.ext_laws.proofs.Units.{unit_at, units_basis, units_count, whole_from, whole_to, zero_from, zero_to}
use Rattle.ext_laws.specs.Transposes.{IsInTransposedKernel, rows_of, unit_vectors}
use Rattle.term_lists.specs.Rings.{ring_comparison, setting, variables}
use Rattle.term_lists.specs.Vectors.{HasPositions, sum_of, sums_of}
use Rattle.term_lists.specs.declared.ring.Ring.{Ring}
use Rattle.vector_division.proofs.Members.{sums_at}
use Rattle.groebner_iface.specs.Runs.{IsReducedBasisOf}
use Rattle.syzygy_engine.specs.Answers.{IsBasisOfThose}
use Rattle.syzygy_engine.specs.Kernels.{GeneratesSyzygies}
use Rattle.syzygy_engine.specs.Marking.{position_ring}
use Rattle.syzygy_engine.specs.Runs.{AreVectorsFor}
use Rattle.syzygy_engine.proofs.Generated.{lawful_at}
use Rattle.syzygy_engine.proofs.Standing.{ranks_of_positions, stand_module}
use Rattle.resolution_maps.specs.Inducing.{Columns}
use Rattle.ext_modules.specs.Ext.{AreExtRelations, image_of}
use Rattle.ext_modules.specs.Units.{AreUnits}
use Rattle.ext_modules.proofs.Putting.{Terms}
use Rattle.ext_modules.proofs.UnitLists.{descending}

-- lists that are the same one by one have the same syzygies
syzygy_same :
    {n p : ℕ} → 0 < p → (F G : List (FormalSum n)) → length F ≡ length G → ((i : ℕ) → IsSame p (get_or F i []) (get_or G i [])) → (a : FormalSum n)
    → IsSyzygy p F a → IsSyzygy p G a
syzygy_same {n} {p} pos F G e same a h = record {
  rank = subst (λ m. IsOfRank p m a) e h.rank;
  vanishes = IsSame_trans (IsSame_sym (IsSame_combination_members pos F G same a)) h.vanishes;
}

module _ (ring : Ring) (lawful : IsLawful (setting ring (variables ring) (ring_comparison ring (variables ring)) 0)) where
  -- ---- the kernel
  pub kernel_is :
      (count : ℕ) (columns rows answer : List Terms) → Each (HasPositions count) columns → AreVectorsFor ring (rows_of count (sums_of (variables ring) columns)) rows
      → IsReducedBasisOf ring (length rows) answer answer → GeneratesSyzygies ring.modulus.value (sums_of (variables ring) rows) (sums_of (variables ring) answer)
      → IsBasisOfThose ring count (IsInTransposedKernel ring.modulus.value count (sums_of (variables ring) columns)) answer
  kernel_is count columns rows answer low stand basis generate = record {
    basis = subst (λ m. IsReducedBasisOf ring m answer answer) (stand.stand.count ∙ rows_count count (sums_of (variables ring) columns)) basis;
    members = λ v. (
      λ a. kernel_from count (sums_of (variables ring) columns) ranks v (syzygy_same pos (sums_of (variables ring) rows) (rows_of count (sums_of (variables ring) columns)) all same v ((generate v).0 a)),
      λ k. (generate v).1
          (syzygy_same pos (rows_of count (sums_of (variables ring) columns)) (sums_of (variables ring) rows) (sym all) (λ i. IsSame_sym (same i)) v
          (kernel_to count (sums_of (variables ring) columns) ranks v k)),
    );
  }
    where
      pos : 0 < ring.modulus.value
      pos = positive (setting ring (variables ring) (ring_comparison ring (variables ring)) 0) lawful

      ranks : Each (HasRank count) (sums_of (variables ring) columns)
      ranks = ranks_of_positions (variables ring) count columns low

      all : length (sums_of (variables ring) rows) ≡ length (rows_of count (sums_of (variables ring) columns))
      all = length-map rows (λ v. sum_of (variables ring) v) ∙ stand.stand.count

      same : (i : ℕ) → IsSame ring.modulus.value (get_or (sums_of (variables ring) rows) i []) (get_or (rows_of count (sums_of (variables ring) columns)) i [])
      same i = IsSame_trans (IsSame_of ring.modulus.value _ _ (sums_at (variables ring) rows i)) (stand.stand.each i)

  -- where no map comes out of a step, the kernel is the whole module
  pub whole_is :
      (count : ℕ) (list : List Terms) (C : List (FormalSum (variables ring))) → C ≡ [] → AreUnits ring count list
      → IsBasisOfThose ring count (IsInTransposedKernel ring.modulus.value count C) list
  whole_is count list C none h = subst (λ D. IsBasisOfThose ring count (IsInTransposedKernel ring.modulus.value count D) list) (sym none) (record {
    basis = record {
      vectors = h.vectors;
      positions = positions_of_ranks list (subst (Each (HasRank count)) (sym h.units) unit_ranks);
      basis =
          subst (λ L. IsReducedBasis (setting ring (variables ring) (ring_comparison ring (variables ring)) count) L L) (sym h.units)
          (units_basis (setting ring (variables ring) (ring_comparison ring (variables ring)) count) (lawful_at ring count lawful) (descending ring count));
    };
    members = λ v. (
      λ a. (whole_to ring.modulus.value count v (subst (λ L. IsMember ring.modulus.value L v) h.units a), tt),
      λ k. subst (λ L. IsMember ring.modulus.value L v) (sym h.units) (whole_from ring.modulus.value count v k.0),
    );
  })
    where
      unit_ranks : Each (HasRank count) (unit_vectors {n = variables ring} count)
      unit_ranks = Each_tabulate (HasRank count) [] (unit_vectors {n = variables ring} count) (λ i lt.
          let small : i < count = let q = units_count (variables ring) count in omega (arith, q, lt) in
          subst (HasRank count) (sym (unit_at (variables ring) count i small)) (small, tt))

      position_of_rank : (v : Terms) → HasRank count (sum_of (variables ring) v) → HasPositions count v
      position_of_rank [] k = tt
      position_of_rank (t ∷ v) k = (k.0, position_of_rank v k.1)

      positions_of_ranks : (list : List Terms) → Each (HasRank count) (sums_of (variables ring) list) → Each (HasPositions count) list
      positions_of_ranks [] k = tt
      positions_of_ranks (v ∷ list) k = (position_of_rank v k.0, positions_of_ranks list k.1)

  -- ---- the relations
  -- of no generators
  pub relations_none : (rank : ℕ) (maps : Columns) (k : ℕ) (kernel : List Terms) → length kernel ≡ 0 → AreExtRelations ring rank maps k kernel []
  relations_none rank maps k [] e = none (image_of ring rank maps k)
    where
      none : (I : List (FormalSum (variables ring))) → IsBasisOfThose ring 0 (IsSyzygyModulo ring.modulus.value [] I) []
      none I = record {
        basis = record {
          vectors = tt;
          positions = tt;
          basis = units_basis (setting ring (variables ring) (ring_comparison ring (variables ring)) 0) lawful (descending ring 0);
        };
        members = λ v. (
          λ a. (whole_to ring.modulus.value 0 v a, IsMember_same I [] (combination [] v) (IsSame_of ring.modulus.value _ _ (sym (combination-nothing v))) (IsMember_zero ring.modulus.value I)),
          λ h. whole_from ring.modulus.value 0 v h.0,
        );
      }
  relations_none rank maps k (v ∷ kernel) e = absurd (omega (arith, e))

  -- modulo vectors that stand for those that generate the image
  pub relations_are :
      (rank : ℕ) (maps : Columns) (k : ℕ) (kernel members relations : List Terms) → AreVectorsFor (position_ring ring) (image_of ring rank maps k) members
      → IsBasisOfThose ring (length kernel) (IsSyzygyModulo ring.modulus.value (sums_of (variables ring) kernel) (sums_of (variables ring) members)) relations
      → AreExtRelations ring rank maps k kernel relations
  relations_are rank maps k kernel members relations stand h = record {
    basis = h.basis;
    members = λ v.
        let I = image_of ring rank maps k in
        let M = sums_of (variables ring) members in
        let w = combination (sums_of (variables ring) kernel) v in
        let same = stand_module (position_ring ring) members I stand.stand in (
          λ a. let s = (h.members v).0 a in (s.0, IsMember_through pos I M same.inside w s.1),
          λ s. (h.members v).1 (s.0, IsMember_through pos M I same.outside w s.1),
        );
  }
    where
      pos : 0 < ring.modulus.value
      pos = positive (setting ring (variables ring) (ring_comparison ring (variables ring)) 0) lawful

  -- ---- zero
  pub zero_is :
      (rank : ℕ) (maps : Columns) (k : ℕ) (kernel relations : List Terms) (is_zero : Bool) → AreExtRelations ring rank maps k kernel relations
      → (is_zero ≡ true) ↔ (sums_of (variables ring) relations ≡ unit_vectors (length kernel))
      → (is_zero ≡ true) ↔ Each (IsMember ring.modulus.value (image_of ring rank maps k)) (sums_of (variables ring) kernel)
  zero_is rank maps k kernel relations is_zero h test =
      let S : Setting (variables ring) = setting ring (variables ring) (ring_comparison ring (variables ring)) (length kernel) in
      let own = lawful_at ring (length kernel) lawful in
      let Z : List (FormalSum (variables ring)) = sums_of (variables ring) kernel in
      let I : List (FormalSum (variables ring)) = image_of ring rank maps k in
      let Q : List (FormalSum (variables ring)) = sums_of (variables ring) relations in
      let all : length kernel ≡ length (sums_of (variables ring) kernel) = sym (length-map kernel (λ v. sum_of (variables ring) v)) in (
        λ e. zero_to S own (descending ring (length kernel)) Z I Q all h.basis.basis h.members (test.0 e ∙ ap (λ m. unit_vectors {n = variables ring} m) all),
        λ inside. test.1 (zero_from S own (descending ring (length kernel)) Z I Q all h.basis.basis h.members inside ∙ ap (λ m. unit_vectors {n = variables ring} m) (sym all)),
      )
