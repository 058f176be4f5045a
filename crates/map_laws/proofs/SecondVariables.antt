-- The members of a basis that have the second variables alone, in fewer variables
use Rattle.std.proofs.Common.{Bool, List, [], ap, ap₂, arith, false, inl, inr, refl, sym, true, true≢false, ℕ, ◌*◌, ◌+◌, ◌-◌, ◌<◌, ◌∙◌, ◌∷◌, ◌≡◌, ◌≤◌, ◌⊎◌}
use Rattle.std.specs.Prelude.{IsTrue}
use Rattle.residues.proofs.Congruences.{IsCongruent_of, IsCongruent_of_minus, IsCongruent_trans}
use Rattle.residues.specs.Residues.{IsCongruent}
use Rattle.monomials.proofs.Monomials.{and_left, and_right, same_exponents-refl, same_exponents-true}
use Rattle.monomials.specs.Exponents.{Exponents, same_exponents, unit}
use Rattle.formal_sums.proofs.Combining.{Each_map, IsMember_same, IsMember_scale}
use Rattle.formal_sums.proofs.Linear.{weighted_sum_agree}
use Rattle.formal_sums.proofs.Sameness.{IsSame_append, IsSame_of, IsSame_refl, IsSame_trans, coefficient-scale_unit, shift-unit}
use Rattle.formal_sums.proofs.WeightedSums.{indicator_other, weighted_sum-scale, weighted_sum_ext}
use Rattle.formal_sums.specs.Combinations.{IsMember}
use Rattle.formal_sums.specs.FormalSums.{Each, FormalSum, HasRank, IsSame, Key, coefficient, indicator, scale}
use Rattle.bases.proofs.Leading.{positive}
use Rattle.bases.specs.Settings.{IsLawful, Setting}
use Rattle.division_laws.proofs.Keeping.{IsDownClosed_elimination}
use Rattle.division_laws.specs.Elimination.{has_none_of_first}
use Rattle.syzygy_laws.specs.Kernels.{all_kept}
use Rattle.operation_laws.proofs.Eliminate.{Each_kept, kept_generates, kept_inside}
use Rattle.operation_laws.proofs.Linear.{Each_both, Each_of, Each_of_map, Each_to_map, IsLinear, IsLinear_after, IsMember_each, IsMember_linear, linear_append}
use Rattle.operation_laws.proofs.RankFacts.{eliminated_rank}
use Rattle.operation_laws.proofs.Running.{lawful_elimination}
use Rattle.operation_laws.specs.Operations.{HasKeptKeys, IsRun, eliminated, elimination_setting}
use Rattle.map_laws.proofs.Evaluating.{IsLinear_from_second, IsLinear_in_second, from_second-scale, in_second-scale}
use Rattle.map_laws.proofs.Modulo.{coefficient-less, less}
use Rattle.map_laws.proofs.Places.{after-behind, behind-after, none_behind}
use Rattle.map_laws.specs.Graphs.{behind, exponents_from, from_second, in_second, of_second}

-- ---- linear maps and multiples
pub linear_multiple :
    {n m : ℕ} (p : ℕ) (L : FormalSum n → FormalSum m) → IsLinear L → (c : ℕ) (v : FormalSum n)
    → IsSame p (L (scale c (unit n) v)) (scale c (unit m) (L v))
linear_multiple {n} {m} p L linear c v = record {
  by_key = λ k. IsCongruent_of p _ _
      (linear.by_weight (indicator k) (scale c (unit n) v) ∙ weighted_sum-scale (linear.weight (indicator k)) c (unit n) v
      ∙ ap (λ x. c * x) (weighted_sum_ext _ (linear.weight (indicator k)) (λ l. ap (linear.weight (indicator k)) (shift-unit l)) v ∙ sym (linear.by_weight (indicator k) v))
      ∙ sym (coefficient-scale_unit c (L v) k));
}

pub linear_less :
    {n m : ℕ} (p : ℕ) (L : FormalSum n → FormalSum m) → IsLinear L → (v w : FormalSum n)
    → IsSame p (L (less p v w)) (less p (L v) (L w))
linear_less {n} {m} p L linear v w =
    IsSame_trans (linear_append p L linear v (scale (p - 1) (unit n) w)) (IsSame_append (IsSame_refl p (L v)) (linear_multiple p L linear (p - 1) w))

pub same_of_less : {n p : ℕ} → 0 < p → (v w : FormalSum n) → IsSame p (less p v w) [] → IsSame p v w
same_of_less {n} {p} pos v w h = record {
  by_key = λ k. IsCongruent_of_minus pos (IsCongruent_trans (IsCongruent_of p _ _ (sym (coefficient-less p v w k))) (h.by_key k));
}

-- linear maps that agree at each kept key agree where the keys are kept
same_kept :
    {n m p : ℕ} → 0 < p → (keep : Key n → Bool) (L M : FormalSum n → FormalSum m) → IsLinear L → IsLinear M
    → ((k : Key n) → keep k ≡ true → IsSame p (L ((k, 1) ∷ [])) (M ((k, 1) ∷ []))) → (v : FormalSum n) → HasKeptKeys p keep v
    → IsSame p (L v) (M v)
same_kept {n} {m} {p} pos keep L M l r same v kept = record {
  by_key = λ x. rw (l.by_weight (indicator x) v, r.by_weight (indicator x) v) (weighted_sum_agree pos (l.weight (indicator x)) (r.weight (indicator x)) v (λ k. at x k (keep k) refl));
}
  where
    at : (x : Key m) (k : Key n) (b : Bool) → keep k ≡ b → IsCongruent p (l.weight (indicator x) k) (r.weight (indicator x) k) ⊎ IsCongruent p (coefficient v k) 0
    at x k true e =
        inl (IsCongruent_trans (IsCongruent_of p _ (coefficient (L ((k, 1) ∷ [])) x) (let q = l.by_weight (indicator x) ((k, 1) ∷ []) in omega (arith, q)))
        (IsCongruent_trans ((same k e).by_key x) (IsCongruent_of p _ _ (let q = r.by_weight (indicator x) ((k, 1) ∷ []) in omega (arith, q)))))
    at x k false e = inr (kept k e)

-- ---- there and back
pub from_in_second : {n : ℕ} (m : ℕ) → n + n ≤ m → (v : FormalSum n) → from_second n (in_second m v) ≡ v
from_in_second m le [] = refl
from_in_second {n} m le (t ∷ v) = ap₂ (λ e r. ((t.0.0, e), t.1) ∷ r) (after-behind m n t.0.1 le) (from_in_second m le v)

none_true : {m : ℕ} (n : ℕ) (k : Key m) → m ≡ n + n → has_none_of_first n k ≡ true → behind m n (exponents_from n n k.1) ≡ k.1
none_true {m} n k two h = behind-after n n k.1 two (same_exponents-true _ (unit m) h)

pub in_from_second :
    {m : ℕ} (n : ℕ) → m ≡ n + n → (w : FormalSum m) → all_kept (has_none_of_first n) w ≡ true → in_second m (from_second n w) ≡ w
in_from_second n two [] h = refl
in_from_second {m} n two (t ∷ w) h =
    ap₂ (λ e r. ((t.0.0, e), t.1) ∷ r) (none_true n t.0 two (and_left _ _ h)) (in_from_second n two w (and_right _ _ h))

-- the key of the second variables
abbrev pub second_key : {n : ℕ} → (m : ℕ) → Key n → Key m
second_key {n} m k = (k.0, behind m n k.1)

pub second_key_kept : {n : ℕ} (m : ℕ) (k : Key n) → has_none_of_first n (second_key m k) ≡ true
second_key_kept {n} m k = ap (λ e. same_exponents e (unit m)) (none_behind m n k.1) ∙ same_exponents-refl (unit m)

pub second_key_again : {m : ℕ} (n : ℕ) (k : Key m) → m ≡ n + n → has_none_of_first n k ≡ true → second_key m (k.0, exponents_from n n k.1) ≡ k
second_key_again n k two h = ap (λ e. (k.0, e)) (none_true n k two h)

pub in_second_none : {n : ℕ} (m : ℕ) (v : FormalSum n) (k : Key m) → has_none_of_first n k ≡ false → coefficient (in_second m v) k ≡ 0
in_second_none m [] k off = refl
in_second_none {n} m (t ∷ v) k off =
    let x : Key m = second_key m t.0 in
    let z : indicator k x ≡ 0 = indicator_other k x (λ d. true≢false (sym (second_key_kept m t.0) ∙ ap (has_none_of_first n) (sym d) ∙ off)) in
    let y : coefficient (in_second m v) k ≡ 0 = in_second_none m v k off in
    rw z (omega (arith, y))

pub in_second_kept : {n : ℕ} (m p : ℕ) (v : FormalSum n) → HasKeptKeys p (has_none_of_first n) (in_second m v)
in_second_kept m p v = λ k off. IsCongruent_of p _ _ (in_second_none m v k off)

-- what has the second variables alone, up to sameness
pub second_again :
    {m p : ℕ} → 0 < p → (n : ℕ) → m ≡ n + n → (w : FormalSum m) → HasKeptKeys p (has_none_of_first n) w
    → IsSame p (in_second m (from_second n w)) w
second_again {m} {p} pos n two =
    same_kept pos (has_none_of_first n) (λ w. in_second m (from_second n w)) (λ w. w)
    (IsLinear_after (from_second n) (in_second m) (IsLinear_from_second n) (IsLinear_in_second m)) (record { weight = λ f. f; by_weight = λ f v. refl })
    (λ k h. IsSame_of p _ _ (ap (λ e. ((k.0, e), 1) ∷ []) (none_true n k two h)))

HasRank_from_second : {m : ℕ} (n r : ℕ) (v : FormalSum m) → HasRank r v → HasRank r (from_second n v)
HasRank_from_second n r [] h = tt
HasRank_from_second n r (t ∷ v) h = (h.0, HasRank_from_second n r v h.1)

-- ---- the members with the second variables alone generate what the module has there
module _ {n m : ℕ} (S : Setting n) (ws : List ℕ) (L G : List (FormalSum m)) (lawful : IsLawful S) (two : m ≡ n + n) (run : IsRun (elimination_setting ws m n S) L G) where
  pub second_rank : Each (HasRank S.rank) (of_second n G)
  second_rank =
      Each_of_map (HasRank S.rank) (from_second n) (eliminated n G)
      (Each_map (HasRank S.rank) (λ v. HasRank S.rank (from_second n v)) (eliminated n G) (HasRank_from_second n S.rank) (eliminated_rank S.rank n G run.ranks))

  frees : Each (λ g. Unit {0} × IsTrue (all_kept (has_none_of_first n) g)) (eliminated n G)
  frees = Each_kept (λ g. Unit {0}) (has_none_of_first n) G (Each_of (λ g. Unit {0}) G (λ g. tt))

  pub second_to : (v : FormalSum n) → IsMember S.modulus (of_second n G) v → IsMember S.modulus L (in_second m v)
  second_to v a =
      let T = elimination_setting ws m n S in
      let K : List (FormalSum m) = eliminated n G in
      kept_inside T (lawful_elimination ws m n S lawful) L G run.list run.reduced.reduced.normal run.reduced.reduced.basis (has_none_of_first n) (IsDownClosed_elimination T ws n refl) (in_second m v)
      (IsMember_linear (positive S lawful) (in_second m) (IsLinear_in_second m) (of_second n G) K
      (Each_of_map (λ g. (c : ℕ) (e : Exponents n) → IsMember S.modulus K (in_second m (scale c e g))) (from_second n) K
      (Each_both (IsMember S.modulus K) (λ g. Unit {0} × IsTrue (all_kept (has_none_of_first n) g)) (λ g. (c : ℕ) (e : Exponents n) → IsMember S.modulus K (in_second m (scale c e (from_second n g)))) K
      (λ g h free c e. IsMember_same K (scale c (behind m n e) g) _
      (IsSame_of S.modulus _ _ (ap (scale c (behind m n e)) (sym (in_from_second n two g free.1)) ∙ sym (in_second-scale m c e (from_second n g))))
      (IsMember_scale (positive S lawful) K c (behind m n e) g h))
      (IsMember_each S.modulus K) frees)) v a)

  pub second_from : (v : FormalSum n) → IsMember S.modulus L (in_second m v) → IsMember S.modulus (of_second n G) v
  second_from v a =
      let T = elimination_setting ws m n S in
      let K : List (FormalSum m) = eliminated n G in
      let R : List (FormalSum n) = of_second n G in
      IsMember_same R (from_second n (in_second m v)) v (IsSame_of S.modulus _ _ (from_in_second m (omega (arith, two)) v))
      (IsMember_linear (positive S lawful) (from_second n) (IsLinear_from_second n) K R
      (Each_map (λ g. IsMember S.modulus R (from_second n g)) (λ g. (c : ℕ) (e : Exponents m) → IsMember S.modulus R (from_second n (scale c e g))) K
      (λ g h c e. IsMember_same R (scale c (exponents_from n n e) (from_second n g)) _ (IsSame_of S.modulus _ _ (sym (from_second-scale n c e g))) (IsMember_scale (positive S lawful) R c (exponents_from n n e) (from_second n g) h))
      (Each_to_map (IsMember S.modulus R) (from_second n) K (IsMember_each S.modulus R))) (in_second m v)
      (kept_generates T (lawful_elimination ws m n S lawful) L G run.list run.reduced.reduced.normal run.reduced.reduced.basis (has_none_of_first n) (IsDownClosed_elimination T ws n refl) (in_second m v) a (in_second_kept m S.modulus v)))
