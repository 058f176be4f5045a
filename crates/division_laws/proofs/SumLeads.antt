-- Leads of sums
use Rattle.std.proofs.Common.{Less, ◌++◌, ◌+◌, ◌≡◌, ℕ, arith}
use Rattle.residues.proofs.Congruences.{IsCongruent_add, IsCongruent_of, IsCongruent_refl, IsCongruent_sym, IsCongruent_trans}
use Rattle.residues.specs.Residues.{IsCongruent}
use Rattle.formal_sums.proofs.WeightedSums.{coefficient-append}
use Rattle.formal_sums.specs.FormalSums.{FormalSum, Key, coefficient}
use Rattle.bases.specs.Leads.{IsLead}
use Rattle.bases.specs.Settings.{IsLawful, Setting}

-- where the second summand has nothing at a key, the sum has there what the first one has
pub coefficient_left : {n : ℕ} (p : ℕ) (v w : FormalSum n) (x : Key n) → IsCongruent p (coefficient w x) 0 → IsCongruent p (coefficient (v ++ w) x) (coefficient v x)
coefficient_left p v w x h =
    IsCongruent_trans (IsCongruent_of p _ _ (coefficient-append v w x))
    (IsCongruent_trans (IsCongruent_add (IsCongruent_refl p (coefficient v x)) h) (IsCongruent_of p (coefficient v x + 0) (coefficient v x) (omega arith)))

pub lead_bounded :
    {n : ℕ} (S : Setting n) (v w : FormalSum n) (k l m : Key n)
    → IsLead S v k → IsLead S w l → IsLead S (v ++ w) m → S.compare k m ≡ Less → S.compare l m ≡ Less → ⊥
lead_bounded S v w k l m hv hw hs a b = hs.nonzero (IsCongruent_trans (coefficient_left S.modulus v w m (hw.above m b)) (hv.above m a))

pub lead_greater :
    {n : ℕ} (S : Setting n) (v w : FormalSum n) (k l : Key n)
    → IsLawful S → IsLead S v k → IsLead S w l → S.compare l k ≡ Less → IsLead S (v ++ w) k
lead_greater S v w k l lawful hv hw e = record {
  nonzero = λ z. hv.nonzero (IsCongruent_trans (IsCongruent_sym (coefficient_left S.modulus v w k (hw.above k e))) z);
  above = λ x d. IsCongruent_trans (coefficient_left S.modulus v w x (hw.above x (lawful.order.total.trans l k x e d))) (hv.above x d);
}
