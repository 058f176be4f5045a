-- Lists whose first vectors have the same leads
use Rattle.std.proofs.Common.{Less, List, [], ap, arith, cond, sym, ℕ, ◌<◌, ◌∙◌, ◌∷◌, ◌≡◌, ◌≤◌}
use Rattle.std.specs.Ordering.{nat_cmp, ordering_then}
use Rattle.monomials.specs.Weights.{weighted_degree}
use Rattle.formal_sums.specs.FormalSums.{Each, FormalSum}
use Rattle.bases.specs.Leads.{leads}
use Rattle.bases.specs.Representations.{key_lcm}
use Rattle.bases.specs.Settings.{Setting}
use Rattle.basis_steps.proofs.Counting.{is_same_pair-refl}
use Rattle.basis_steps.specs.Criteria.{lcm_of}
use Rattle.basis_steps.specs.Pairs.{Pair, count, is_same_pair}
use Rattle.basis_steps.specs.Queues.{IsSorted, compare_pairs}
use Rattle.pair_criteria.specs.declared.pair.Pair.{Pair as CodePair}
use Rattle.pair_updates.specs.Pairs.{AreIndices, index_pair_of, pairs_of}

stands_first : (x : Pair) (xs : List Pair) → 0 < count x (x ∷ xs)
stands_first x xs =
    let e : ◌≡◌ {A = ℕ} (cond (is_same_pair x x) 1 0) 1 = ap (λ b. cond b 1 0) (is_same_pair-refl x) in
    omega (arith, e)

-- what holds of each pair that stands in a list holds of each of the list
pub each_counted : (P : Pair → Type 0) (xs : List Pair) → ((x : Pair) → 0 < count x xs → P x) → Each P xs
each_counted P [] h = tt
each_counted P (x ∷ xs) h = (h x (stands_first x xs), each_counted P xs (λ y l. h y (omega (arith, l))))

pub each_queued : (P : Pair → Type 0) (xs : List CodePair) → Each P (pairs_of xs) → Each (λ x. P (index_pair_of x)) xs
each_queued P [] h = tt
each_queued P (x ∷ xs) h = (h.0, each_queued P xs h.1)

pub each_within : (k m : ℕ) (xs : List Pair) → k ≤ m → Each (AreIndices k) xs → Each (AreIndices m) xs
each_within k m [] l h = tt
each_within k m (x ∷ xs) l h = (((h.0).0, omega (arith, (h.0).1)), each_within k m xs l h.1)

-- ---- the same leads up to a number
module _ {n : ℕ} (S T : Setting n) (weights : S.weights ≡ T.weights) (compare : S.compare ≡ T.compare) (G H : List (FormalSum n)) (k : ℕ)
    (same : (i : ℕ) → i < k → leads G i ≡ leads H i) where
  pub lcm_same : (x : Pair) → AreIndices k x → lcm_of G x ≡ lcm_of H x
  lcm_same x h =
      let l : x.0 < k = omega (arith, h.0, h.1) in
      λ t. key_lcm (same x.0 l t) (same x.1 h.1 t)

  compare_same : (x y : Pair) → AreIndices k x → AreIndices k y → compare_pairs S G x y ≡ compare_pairs T H x y
  compare_same x y h j =
      let lx : lcm_of G x ≡ lcm_of H x = lcm_same x h in
      let ly : lcm_of G y ≡ lcm_of H y = lcm_same y j in
      λ t. ordering_then (nat_cmp (weighted_degree (weights t) (lx t).1) (weighted_degree (weights t) (ly t).1))
      (ordering_then (compare t (0, (lx t).1) (0, (ly t).1)) (ordering_then (nat_cmp x.1 y.1) (nat_cmp x.0 y.0)))

  pub sorted_same : (xs : List Pair) → Each (AreIndices k) xs → IsSorted S G xs → IsSorted T H xs
  sorted_same [] w h = tt
  sorted_same (x ∷ xs) w h = (first xs w.1 h.0, sorted_same xs w.1 h.1)
    where
      first : (ys : List Pair) → Each (AreIndices k) ys → Each (λ y. compare_pairs S G x y ≡ Less) ys → Each (λ y. compare_pairs T H x y ≡ Less) ys
      first [] v h = tt
      first (y ∷ ys) v h = (sym (compare_same x y w.0 v.0) ∙ h.0, first ys v.1 h.1)
