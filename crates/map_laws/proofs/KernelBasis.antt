-- The members of a reduced basis that have the second variables alone are a reduced basis of what the module has there
use Rattle.std.proofs.Common.{List, ap, ap₂, arith, length, refl, sym, ℕ, ◌++◌, ◌+◌, ◌∙◌, ◌≡◌, ◌≤◌}
use Rattle.residues.proofs.Congruences.{IsCongruent_of, IsCongruent_trans}
use Rattle.monomials.specs.Exponents.{times}
use Rattle.formal_sums.specs.Combinations.{IsMember}
use Rattle.formal_sums.specs.FormalSums.{FormalSum, Key}
use Rattle.orders.specs.KeyOrders.{KeyDivides, top}
use Rattle.orders.specs.WeightedOrders.{weighted_elimination, weighted_grevlex}
use Rattle.bases.proofs.Leading.{positive}
use Rattle.bases.specs.Bases.{HasFreeTerms, IsCovered, IsReducedBasis}
use Rattle.bases.specs.Leads.{IsLead}
use Rattle.bases.specs.Settings.{IsLawful, Setting}
use Rattle.division_laws.proofs.Keeping.{IsDownClosed_elimination}
use Rattle.division_laws.specs.Elimination.{has_none_of_first}
use Rattle.operation_laws.proofs.KeptBases.{AreKeptKeys, kept_covered, kept_covers, kept_reduced}
use Rattle.operation_laws.proofs.Running.{lawful_elimination}
use Rattle.operation_laws.specs.Operations.{HasKeptKeys, IsRun, elimination_setting}
use Rattle.map_laws.proofs.Places.{after-behind, after-times, behind-times}
use Rattle.map_laws.proofs.SecondOrder.{coefficient_second, compare_second}
use Rattle.map_laws.proofs.SecondVariables.{in_second_kept, second_again, second_key, second_key_again, second_to}
use Rattle.map_laws.specs.Graphs.{behind, exponents_from, from_second, of_second}

-- multiples of keys of the second variables
divides_second : {n : ℕ} (m : ℕ) (k l : Key n) → KeyDivides k l → KeyDivides (second_key m k) (second_key m l)
divides_second {n} m k l (e, d) = (behind m n e, ap₂ (λ i x. (i, x)) (ap (λ x. x.0) d) (sym (behind-times m n e k.1) ∙ ap (λ x. behind m n x.1) d))

divides_back : {n : ℕ} (m : ℕ) (k l : Key n) → n + n ≤ m → KeyDivides (second_key m k) (second_key m l) → KeyDivides k l
divides_back {n} m k l le (e, d) = (
  exponents_from n n e,
  ap₂ (λ i x. (i, x)) (ap (λ x. x.0) d)
      (ap (times (exponents_from n n e)) (sym (after-behind m n k.1 le)) ∙ sym (after-times n n e (behind m n k.1)) ∙ ap (λ x. exponents_from n n x.1) d ∙ after-behind m n l.1 le),
)

-- the key of the ring's own variables
abbrev own_key : {m : ℕ} → (n : ℕ) → Key m → Key n
own_key n l = (l.0, exponents_from n n l.1)

module _ {n m : ℕ} (S : Setting n) (vs : List ℕ) (lawful : IsLawful S) (two : m ≡ n + n) (order : S.compare ≡ top (weighted_grevlex vs)) (size : length vs ≡ n) where
  abbrev T : Setting m
  T = elimination_setting (vs ++ vs) m n S

  lawful_T : IsLawful T
  lawful_T = lawful_elimination (vs ++ vs) m n S lawful

  le : n + n ≤ m
  le = omega (arith, two)

  keys : AreKeptKeys S T (has_none_of_first n) (second_key m) (own_key n)
  keys = record {
    closed = IsDownClosed_elimination T (vs ++ vs) n refl;
    there = λ l h. second_key_again n l two h;
    back = λ k. ap (λ e. (k.0, e)) (after-behind m n k.1 le);
    compare = λ k l hk hl. compare_second m vs k l size two ∙ sym (ap (λ c. c k l) order);
    divides = divides_second m;
    divides_back = λ k l d. divides_back m k l le d;
  }

  module _ (L G : List (FormalSum m)) (run : IsRun (elimination_setting (vs ++ vs) m n S) L G) where
    covers : (a : FormalSum n) (k : Key n) → IsMember S.modulus (of_second n G) a → IsLead S a k → IsCovered S (of_second n G) k
    covers a k member lead =
        kept_covers S (vs ++ vs) (top (weighted_elimination (vs ++ vs) n)) (has_none_of_first n) (second_key m) (own_key n) keys lawful lawful_T L G run.reduced a k
        (second_to S (vs ++ vs) L G lawful two run a member) (in_second_kept m S.modulus a) lead

    pub second_reduced : IsReducedBasis S (of_second n G) (of_second n G)
    second_reduced = kept_reduced S (vs ++ vs) (top (weighted_elimination (vs ++ vs) n)) (has_none_of_first n) (second_key m) (own_key n) keys lawful lawful_T L G run.reduced covers

    pub second_free :
        (w : FormalSum m)
        → HasFreeTerms (elimination_setting (vs ++ vs) m n S) G w → HasKeptKeys S.modulus (has_none_of_first n) w
        → HasFreeTerms S (of_second n G) (from_second n w)
    second_free w free kept = λ k c.
        IsCongruent_trans (IsCongruent_of S.modulus _ _ (sym (coefficient_second m (from_second n w) k le)))
        (IsCongruent_trans ((second_again (positive S lawful) n two w kept).by_key (second_key m k))
        (free (second_key m k)
        (kept_covered S (vs ++ vs) (top (weighted_elimination (vs ++ vs) n)) (has_none_of_first n) (second_key m) (own_key n) keys lawful lawful_T L G run.reduced k c)))
