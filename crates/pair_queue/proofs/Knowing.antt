-- What is known of the pairs of a list
use Rattle.std.proofs.Common.{Bool, List, [], ap, arith, cond, get_or, length, refl, suc, take, true, zero, ℕ, ◌++◌, ◌+◌, ◌<◌, ◌∷◌, ◌≡◌, ◌≤◌}
use Rattle.formal_sums.specs.FormalSums.{Each}
use Rattle.pair_criteria.specs.declared.pair.Pair.{Pair as CodePair}
use Rattle.basis_steps.specs.Criteria.{IsPair}
use Rattle.basis_steps.proofs.Counting.{is_same_pair-refl}
use Rattle.basis_steps.specs.Pairs.{Pair, count, is_same_pair}
use Rattle.pair_updates.proofs.Leading.{leads_length}
use Rattle.pair_updates.specs.Leads.{LeadsShown, sums_shown}
use Rattle.pair_updates.specs.Pairs.{IsRealPair, index_pair_of, pairs_of, AreIndices}
use Rattle.pair_queue.specs.Skipping.{IsKnown, IsSpared, NoneIsSpared}

pub indices_of : (m : LeadsShown) (xs : List CodePair) (k : ℕ) → k ≡ length m.keys → Each (IsRealPair m) xs → Each (λ x. AreIndices k (index_pair_of x)) xs
indices_of m [] k e h = tt
indices_of m (x ∷ xs) k e h = ((h.0.pair.ordered, omega (arith, e, h.0.pair.within, leads_length m.variables m.keys)), indices_of m xs k e h.1)

pub indices_queued : (m : LeadsShown) (xs : List CodePair) → Each (IsRealPair m) xs → Each (AreIndices (length m.keys)) (pairs_of xs)
indices_queued m [] h = tt
indices_queued m (x ∷ xs) h = ((h.0.pair.ordered, omega (arith, h.0.pair.within, leads_length m.variables m.keys)), indices_queued m xs h.1)

-- to the first so many pairs no criterion applies: to some by what is known, to the others as they are due
pub none_due :
    (m : LeadsShown) (w d : Pair → Bool) (xs : List CodePair) (before count : ℕ)
    → NoneIsSpared m w (take before (pairs_of xs))
    → ((k : ℕ) (x : CodePair) → before ≤ k → k < count → x ≡ get_or xs k x → d (index_pair_of x) ≡ true)
    → Each (IsKnown m w d) (pairs_of xs) → NoneIsSpared m w (take count (pairs_of xs))
none_due m w d [] before zero none due known = tt
none_due m w d [] before (suc count) none due known = tt
none_due m w d (x ∷ xs) before zero none due known = tt
none_due m w d (x ∷ xs) zero (suc count) none due known = (
  known.0.free (due 0 x (omega arith) (omega arith) refl),
  none_due m w d xs zero count tt (λ k y l h e. due (suc k) y (omega arith) (omega (arith, h)) e) known.1,
)
none_due m w d (x ∷ xs) (suc before) (suc count) none due known = (
  none.0,
  none_due m w d xs before count none.1 (λ k y l h e. due (suc k) y (omega (arith, l)) (omega (arith, h)) e) known.1,
)

-- after a pass
pub known_passed :
    (m : LeadsShown) (f d w e : Pair → Bool) (p : Pair) (xs : List Pair)
    → ((x : Pair) → x.0 < x.1 → (is_same_pair x p ≡ true → IsSpared m f x) → IsKnown m f d x → IsKnown m w e x)
    → ((x : Pair) → is_same_pair x p ≡ true → IsSpared m f x)
    → Each (IsPair (sums_shown m)) xs → Each (IsKnown m f d) xs → Each (IsKnown m w e) xs
known_passed m f d w e p [] pass same real known = tt
known_passed m f d w e p (x ∷ xs) pass same real known = (pass x real.0.ordered (same x) known.0, known_passed m f d w e p xs pass same real.1 known.1)

pub each_left : (P : Pair → Type 0) (xs ys : List Pair) → Each P (xs ++ ys) → Each P xs
each_left P [] ys h = tt
each_left P (x ∷ xs) ys h = (h.0, each_left P xs ys h.1)

pub each_without : (P : Pair → Type 0) (front back : List Pair) (x : Pair) → Each P (front ++ (x ∷ back)) → Each P (front ++ back)
each_without P [] back x h = h.1
each_without P (y ∷ front) back x h = (h.0, each_without P front back x h.1)

pub each_here : (P : Pair → Type 0) (front back : List Pair) (x : Pair) → Each P (front ++ (x ∷ back)) → P x
each_here P [] back x h = h.0
each_here P (y ∷ front) back x h = each_here P front back x h.1

-- of the pairs of a list none is among those that wait elsewhere
pub known_apart :
    (m : LeadsShown) (f d w e : Pair → Bool) (xs out : List Pair)
    → ((x : Pair) → count x xs + count x out ≤ 1)
    → ((x : Pair) → x.0 < x.1 → count x out ≡ 0 → IsKnown m f d x → IsKnown m w e x)
    → Each (AreIndices (length m.keys)) xs → Each (IsKnown m f d) xs → Each (IsKnown m w e) xs
known_apart m f d w e [] out once pass within known = tt
known_apart m f d w e (x ∷ xs) out once pass within known =
    let one : ◌≡◌ {A = ℕ} (cond (is_same_pair x x) 1 0) 1 = ap (λ b. cond b 1 0) (is_same_pair-refl x) in (
      pass x within.0.0 (omega (arith, one, once x)) known.0,
      known_apart m f d w e xs out (λ y. omega (arith, once y)) pass within.1 known.1,
    )
