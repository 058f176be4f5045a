-- What a member keeps has at most one proof
use Rattle.std.specs.Prelude.{List, length, ℕ}
use Rattle.std.specs.Coded.{Coded-set, coded_ℕ, Π_prop}
use Rattle.residues.specs.Residues.{IsCongruent}
use Rattle.formal_sums.specs.FormalSums.{FormalSum, IsSame, coefficient}
use Rattle.term_lists.specs.declared.key.Key.{Key as CodeKey}
use Rattle.term_lists.specs.declared.ring.Ring.{Ring}
use Rattle.member_products.specs.Propositions.{IsRanked-prop}
use Rattle.cofactor_track.specs.Members.{IsCombined}

IsCongruent-prop : (p a b : ℕ) → IsProp (IsCongruent p a b)
IsCongruent-prop p a b = λ h g i. record { same = Coded-set coded_ℕ _ _ h.same g.same i }

IsSame-prop : {n : ℕ} (p : ℕ) (v w : FormalSum n) → IsProp (IsSame p v w)
IsSame-prop p v w = λ h g i. record { by_key = Π_prop (λ k. IsCongruent-prop p (coefficient v k) (coefficient w k)) h.by_key g.by_key i }

pub IsCombined-prop :
    (ring : Ring) (rank : ℕ) (generators : List (List (CodeKey × ℕ))) (v a : List (CodeKey × ℕ))
    → IsProp (IsCombined ring rank generators v a)
IsCombined-prop ring rank generators v a = λ h g i. record {
  vector = IsRanked-prop ring rank v h.vector g.vector i;
  cof = IsRanked-prop ring (length generators) a h.cof g.cof i;
  sums = IsSame-prop _ _ _ h.sums g.sums i;
}
