-- The syzygies of a list are those modulo no vectors
use Rattle.std.proofs.Common.{List, [], ap, append-nil, inl, inr, length, subst, subst₂, ℕ, ◌+◌, ◌++◌, ◌∙◌, ◌≡◌}
use Rattle.std.proofs.lemmas.List.{length-map}
use Rattle.std.specs.Prelude.{◌↔◌}
use Rattle.formal_sums.proofs.Combining.{IsMember_same, IsMember_zero, combination-nothing}
use Rattle.formal_sums.proofs.Sameness.{IsSame_of, IsSame_sym, IsSame_trans}
use Rattle.formal_sums.specs.Combinations.{IsSyzygy, combination}
use Rattle.formal_sums.specs.FormalSums.{FormalSum}
use Rattle.bases.specs.Settings.{IsLawful}
use Rattle.syzygy_laws.specs.Syzygies.{marked}
use Rattle.operation_laws.proofs.Running.{through}
use Rattle.operation_laws.specs.Operations.{IsSyzygyModulo}
use Rattle.term_lists.specs.Rings.{ring_comparison, setting, variables}
use Rattle.term_lists.specs.Vectors.{sum_of, sums_of}
use Rattle.term_lists.specs.declared.ring.Ring.{Ring}
use Rattle.groebner_iface.specs.Runs.{IsReducedBasisOf}
use Rattle.syzygy_engine.specs.Answers.{IsBasisOfThose}
use Rattle.syzygy_engine.specs.Kernels.{GeneratesSyzygies, IsSyzygyRun}
use Rattle.syzygy_engine.specs.Marking.{AreMarked, position_ring}
use Rattle.syzygy_engine.specs.Modulo.{AreModuloRuns}
use Rattle.syzygy_engine.specs.Runs.{AreVectorsFor}
use Rattle.syzygy_engine.proofs.Generated.{kernel_of_run}
use Rattle.syzygy_engine.proofs.Standing.{Terms}

modulo_nothing : {n p : ℕ} (F : List (FormalSum n)) (a : FormalSum n) → IsSyzygyModulo p F [] a ↔ IsSyzygy p F a
modulo_nothing {n} {p} F a = (
  λ h. record { rank = h.0; vanishes = IsSame_trans (IsSame_sym h.1.sums) (IsSame_of p (combination [] h.1.cofactors) [] (combination-nothing h.1.cofactors)) },
  λ s. (s.rank, IsMember_same [] [] (combination F a) (IsSame_sym s.vanishes) (IsMember_zero p [])),
)

pub generates_syzygies :
    (ring : Ring) (list answer : List Terms) → IsBasisOfThose ring (length list) (IsSyzygyModulo ring.modulus.value (sums_of (variables ring) list) []) answer
    → GeneratesSyzygies ring.modulus.value (sums_of (variables ring) list) (sums_of (variables ring) answer)
generates_syzygies ring list answer b = λ a. through (b.members a) (modulo_nothing (sums_of (variables ring) list) a)

-- ---- the runs
module _ (ring : Ring) (q : ℕ) (list : List Terms) (lawful : IsLawful (setting ring (variables ring) (ring_comparison ring (variables ring)) 0)) where
  abbrev F : List (FormalSum (variables ring))
  F = sums_of (variables ring) list

  rank_is : q + length (sums_of (variables ring) list) ≡ q + length list
  rank_is = ap (λ s. q + s) (length-map list (λ v. sum_of (variables ring) v))

  marks : (done : List Terms) → AreVectorsFor (position_ring ring) (marked q 0 (sums_of (variables ring) list) ++ []) done → AreMarked ring q list done
  marks done h =
      let k = subst (λ (G : List (FormalSum (variables ring))). AreVectorsFor (position_ring ring) G done) (append-nil (marked q 0 F)) h in
      record { vectors = k.vectors; marks = record { count = k.stand.count; each = k.stand.each } }

  pub syzygy_runs : (r : Ring) (m : ℕ) (l : List Terms) → AreModuloRuns ring q (sums_of (variables ring) list) [] r m l → IsSyzygyRun ring q list r m l
  syzygy_runs r m l (inl h) = inl (h.0, h.1 ∙ rank_is, marks l h.2)
  syzygy_runs r m l (inr k) =
      let run = subst₂ (λ r m. IsReducedBasisOf r m k.first_list k.basis) k.before.0 (k.before.1 ∙ rank_is) k.reduced in
      inr (k.own_ring, k.own_rank ∙ length-map list (λ v. sum_of (variables ring) v), k.kept.vectors, kernel_of_run ring q list k.first_list k.basis l lawful (marks k.first_list k.before.2) run k.kept.stand)
