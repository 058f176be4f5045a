-- The reduced basis of vectors of the rank is what a run gives; runs on lists that generate one module
use Rattle.std.proofs.Common.{List, [], ap, arith, get_or, inl, inr, length, ℕ, ◌*◌, ◌<◌, ◌∙◌, ◌∷◌, ◌≡◌, ◌≤◌, ◌⊎◌}
use Rattle.residues.proofs.Congruences.{IsCongruent_of, IsCongruent_sym, IsCongruent_trans}
use Rattle.residues.specs.Residues.{IsCongruent}
use Rattle.formal_sums.proofs.WeightedSums.{indicator_other}
use Rattle.formal_sums.specs.Combinations.{IsMember, combination}
use Rattle.formal_sums.specs.FormalSums.{Each, FormalSum, HasRank, Key, coefficient, indicator}
use Rattle.orders.specs.KeyOrders.{Descends}
use Rattle.bases.proofs.Leading.{one_not_zero, positive}
use Rattle.bases.proofs.NormalForms.{head_lead}
use Rattle.bases.specs.Bases.{IsReducedBasis}
use Rattle.bases.specs.Leads.{HasReducedResidues, IsMonicLead, head_key}
use Rattle.bases.specs.Settings.{IsLawful, Setting}
use Rattle.formal_sums.proofs.OfRank.{coefficient_past}
use Rattle.syzygy_laws.proofs.Marking.{combination_rank}
use Rattle.operation_laws.proofs.Linear.{Each_at, Each_tabulate, IsMember_by}
use Rattle.operation_laws.specs.Operations.{IsRun}

-- a normal form of a vector of rank m has the rank
normal_rank :
    {n : ℕ} (S : Setting n) → IsLawful S → (m : ℕ) (v : FormalSum n) → Descends S.compare v → HasReducedResidues S v
    → ((k : Key n) → m ≤ k.0 → IsCongruent S.modulus (coefficient v k) 0) → HasRank m v
normal_rank S lawful m [] d r z = tt
normal_rank {n} S lawful m (t ∷ v) d r z = (low, normal_rank S lawful m v d.1 r.1 rest)
  where
    cases : (a : ℕ) → (a < m) ⊎ (m ≤ a)
    cases a = grind arith

    low : t.0.0 < m
    low = go (cases t.0.0)
      where
        go : (t.0.0 < m) ⊎ (m ≤ t.0.0) → t.0.0 < m
        go (inl h) = h
        go (inr h) = absurd ((head_lead S lawful t v d r).nonzero (z t.0 h))

    rest : (k : Key n) → m ≤ k.0 → IsCongruent S.modulus (coefficient v k) 0
    rest k le =
        let o : indicator k t.0 ≡ 0 = indicator_other k t.0 (λ e. let q : k.0 ≡ t.0.0 = ap (λ x. x.0) e in absurd (omega (arith, q, le, low))) in
        IsCongruent_trans (IsCongruent_of S.modulus (coefficient v k) (coefficient (t ∷ v) k) (let y : t.1 * indicator k t.0 ≡ 0 = ap (λ x. t.1 * x) o ∙ omega arith in omega (arith, y))) (z k le)

head_rank : {n : ℕ} (S : Setting n) → IsLawful S → (m : ℕ) (v : FormalSum n) → HasRank m v → IsMonicLead S v (head_key v) → (head_key v).0 < m
head_rank S lawful m [] h lead = absurd (one_not_zero S lawful (IsCongruent_sym lead.one))
head_rank S lawful m (t ∷ v) h lead = h.0

-- the reduced basis of vectors of the rank is what a run gives
pub run_of : {n : ℕ} (S : Setting n) → IsLawful S → (F G : List (FormalSum n)) → Each (HasRank S.rank) F → IsReducedBasis S F G → IsRun S F G
run_of {n} S lawful F G ranks basis = record {
  reduced = basis;
  list = record { monic = basis.reduced.monic; ranked = λ i h. head_rank S lawful S.rank (get_or G i []) (rank i h) (basis.reduced.monic i h) };
  ranks = Each_tabulate (HasRank S.rank) [] G rank;
}
  where
    rank : (i : ℕ) → i < length G → HasRank S.rank (get_or G i [])
    rank i h =
        let m = basis.reduced.basis.members i h in
        let w : HasRank S.rank (combination F m.cofactors) = combination_rank S.rank F m.cofactors m.positions (Each_at (HasRank S.rank) [] F ranks) in
        normal_rank S lawful S.rank (get_or G i []) (basis.reduced.normal i h).descends (basis.reduced.normal i h).residues
        (λ k le. IsCongruent_trans (IsCongruent_sym (m.sums.by_key k)) (IsCongruent_of S.modulus _ 0 (coefficient_past S.rank (combination F m.cofactors) w k le)))

-- a run on another list of the module gives the same
pub run_same : {n : ℕ} (S : Setting n) → IsLawful S → (F H G : List (FormalSum n)) → Each (IsMember S.modulus F) H → Each (IsMember S.modulus H) F → IsRun S F G → IsRun S H G
run_same S lawful F H G inside outside run = record {
  reduced = record {
    reduced = record {
      basis = record {
        members = λ i h. IsMember_by (positive S lawful) H F outside (get_or G i []) (run.reduced.reduced.basis.members i h);
        covers = λ v k m lead. run.reduced.reduced.basis.covers v k (IsMember_by (positive S lawful) F H inside v m) lead;
      };
      normal = run.reduced.reduced.normal;
      monic = run.reduced.reduced.monic;
      apart = run.reduced.reduced.apart;
    };
    descends = run.reduced.descends;
  };
  list = run.list;
  ranks = run.ranks;
}
