-- Which criteria apply where a pair waits no more
use Rattle.std.proofs.Common.{Bool, List, ap, arith, false, inl, inr, refl, sym, true, ℕ, ◌<◌, ◌∙◌, ◌≡◌, ◌≤◌, ◌⊎◌}
use Rattle.std.proofs.lemmas.Bool.{cases_lt}
use Rattle.formal_sums.specs.FormalSums.{FormalSum}
use Rattle.bases.specs.Settings.{Setting}
use Rattle.basis_steps.proofs.Counting.{is_same_pair-true}
use Rattle.basis_steps.specs.Criteria.{ChainApplies, CriterionApplies}
use Rattle.basis_steps.specs.Pairs.{Pair, is_same_pair, pair_of}
use Rattle.pair_queue.proofs.Tabling.{flagged_cleared, flagged_other}
use Rattle.pair_queue.specs.Tables.{flag_cleared, flagged}

-- the two members of a pair
pub members_of_pair : (i k : ℕ) (x : Pair) → pair_of i k ≡ x → ((i ≡ x.0) × (k ≡ x.1)) ⊎ ((i ≡ x.1) × (k ≡ x.0))
members_of_pair i k x e = go (cases_lt i k)
  where
    go : (i < k) ⊎ (k ≤ i) → ((i ≡ x.0) × (k ≡ x.1)) ⊎ ((i ≡ x.1) × (k ≡ x.0))
    go (inl l) = inl (let a = ap (λ (p : Pair). p.0) e in omega (arith, a), let b = ap (λ (p : Pair). p.1) e in omega (arith, b))
    go (inr m) = inr (let b = ap (λ (p : Pair). p.1) e in omega (arith, b), let a = ap (λ (p : Pair). p.0) e in omega (arith, a))

module _ {n : ℕ} (S : Setting n) (G : List (FormalSum n)) (before : Pair → Bool) (x y : Pair) where
  -- a criterion that applies goes on to apply
  pub spared_still : CriterionApplies S G (flagged before) y → CriterionApplies S G (flagged (flag_cleared before x)) y
  spared_still (inl p) = inl p
  spared_still (inr (k, c)) = inr (
    k,
    record {
      within = c.within;
      left = c.left;
      right = c.right;
      divides = c.divides;
      with_left = omega (arith, c.with_left, flagged_cleared before x (pair_of y.0 k));
      with_right = omega (arith, c.with_right, flagged_cleared before x (pair_of k y.1));
    },
  )

  -- a chain that did not apply before the pair x waited no more goes by a member of x, and x shares the other with y
  abbrev IsBy : ℕ → Type 0
  IsBy k = ((k ≡ x.1) × ((y.0 ≡ x.0) ⊎ (y.1 ≡ x.0))) ⊎ ((k ≡ x.0) × ((y.0 ≡ x.1) ⊎ (y.1 ≡ x.1)))

  pub chain_by : (k : ℕ) → (ChainApplies G (flagged before) y k → ⊥) → ChainApplies G (flagged (flag_cleared before x)) y k → IsBy k
  chain_by k not h = go (is_same_pair (pair_of y.0 k) x) refl (is_same_pair (pair_of k y.1) x) refl
    where
      other : (z : Pair) → is_same_pair z x ≡ false → flagged (flag_cleared before x) z ≡ 0 → flagged before z ≡ 0
      other z e f = sym (flagged_other before x z e) ∙ f

      left : ((y.0 ≡ x.0) × (k ≡ x.1)) ⊎ ((y.0 ≡ x.1) × (k ≡ x.0)) → IsBy k
      left (inl q) = inl (q.1, inl q.0)
      left (inr q) = inr (q.1, inl q.0)

      right : ((k ≡ x.0) × (y.1 ≡ x.1)) ⊎ ((k ≡ x.1) × (y.1 ≡ x.0)) → IsBy k
      right (inl q) = inr (q.0, inr q.1)
      right (inr q) = inl (q.0, inr q.1)

      go : (a : Bool) → is_same_pair (pair_of y.0 k) x ≡ a → (b : Bool) → is_same_pair (pair_of k y.1) x ≡ b → IsBy k
      go true d b e = left (members_of_pair y.0 k x (is_same_pair-true (pair_of y.0 k) x d))
      go false d true e = right (members_of_pair k y.1 x (is_same_pair-true (pair_of k y.1) x e))
      go false d false e = absurd (not (record {
        within = h.within;
        left = h.left;
        right = h.right;
        divides = h.divides;
        with_left = other (pair_of y.0 k) d h.with_left;
        with_right = other (pair_of k y.1) e h.with_right;
      }))
