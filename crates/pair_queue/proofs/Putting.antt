-- A table of which one flag changes, and chains by a third member
use Rattle.std.proofs.Common.{Bool, List, ap, arith, cond, false, inl, inr, length, refl, subst, sym, true, ℕ, ◌+◌, ◌<◌, ◌∙◌, ◌≡◌, ◌≤◌, ◌⊎◌}
use Rattle.std.specs.Prelude.{ltb, max, min}
use Rattle.std.proofs.lemmas.Bool.{cases_lt, false≢true, lt-ltb}
use Rattle.formal_sums.specs.FormalSums.{FormalSum}
use Rattle.orders.specs.KeyOrders.{KeyDivides}
use Rattle.bases.specs.Leads.{leads}
use Rattle.bases.specs.Settings.{Setting}
use Rattle.basis_steps.proofs.Counting.{is_same_pair-refl, is_same_pair-true, pair_ordered, pair_swapped}
use Rattle.basis_steps.specs.Criteria.{ChainApplies, CriterionApplies, lcm_of}
use Rattle.basis_steps.specs.Pairs.{Pair, is_same_pair, pair_of}
use Rattle.pair_queue.proofs.Sparing.{chain_by, spared_still}
use Rattle.pair_queue.specs.Tables.{flag_cleared, flagged}

-- ---- one flag changed
module _ (f g : Pair → Bool) (p : Pair) (b : Bool) (h : (x : Pair) → g x ≡ cond (is_same_pair x p) b (f x)) where
  pub put_other : (x : Pair) → is_same_pair x p ≡ false → g x ≡ f x
  put_other x e = h x ∙ ap (λ z. cond z b (f x)) e

  pub put_here : g p ≡ b
  put_here = h p ∙ ap (λ z. cond z b (f p)) (is_same_pair-refl p)

pub put_fewer : (f g : Pair → Bool) (p : Pair) → ((x : Pair) → g x ≡ cond (is_same_pair x p) false (f x)) → (x : Pair) → g x ≡ true → f x ≡ true
put_fewer f g p h x t = go (is_same_pair x p) refl
  where
    go : (b : Bool) → is_same_pair x p ≡ b → f x ≡ true
    go true e = absurd (false≢true (sym (h x ∙ ap (λ z. cond z false (f x)) e) ∙ t))
    go false e = sym (h x ∙ ap (λ z. cond z false (f x)) e) ∙ t

-- ---- chains by a third member
pub not_flagged : (f : Pair → Bool) (x : Pair) → f x ≡ false → flagged f x ≡ 0
not_flagged f x e = ap (λ b. cond b 1 0) e

pub no_flag : (f : Pair → Bool) (x : Pair) → flagged f x ≡ 0 → f x ≡ true → ⊥
no_flag f x z t = let one : ◌≡◌ {A = ℕ} (flagged f x) 1 = ap (λ b. cond b 1 0) t in omega (arith, one, z)

pub swapped : (i k : ℕ) → pair_of i k ≡ pair_of k i
swapped i k = λ j. (low j, high j)
  where
    low : min i k ≡ min k i
    low = omega arith

    high : max i k ≡ max k i
    high = omega arith

-- neither pair of the third member waits
pub chain_third : {n : ℕ} (G : List (FormalSum n)) (w : Pair → ℕ) (a d k : ℕ) → ChainApplies G w (pair_of a d) k → w (pair_of k d) ≡ 0
chain_third G w a d k h = go (cases_lt d a)
  where
    go : (d < a) ⊎ (a ≤ d) → w (pair_of k d) ≡ 0
    go (inl l) =
        let e : (pair_of a d).0 ≡ d = omega (arith, l) in
        ap w (swapped k d ∙ ap (λ z. pair_of z k) (sym e)) ∙ h.with_left
    go (inr l) =
        let e : (pair_of a d).1 ≡ d = omega (arith, l) in
        ap w (ap (λ z. pair_of k z) (sym e)) ∙ h.with_right

pub made_chain :
    {n : ℕ} (G : List (FormalSum n)) (w : Pair → ℕ) (a c k : ℕ)
    → k < length G → (a ≡ k → ⊥) → (k ≡ c → ⊥) → KeyDivides (leads G k) (lcm_of G (pair_of a c))
    → w (pair_of a k) ≡ 0 → w (pair_of k c) ≡ 0 → ChainApplies G w (pair_of a c) k
made_chain G w a c k known not_a not_c divides first second = go (cases_lt c a)
  where
    go : (c < a) ⊎ (a ≤ c) → ChainApplies G w (pair_of a c) k
    go (inl l) =
        let low : (pair_of a c).0 ≡ c = omega (arith, l) in
        let high : (pair_of a c).1 ≡ a = omega (arith, l) in
        record {
          within = known;
          left = λ e. not_c (e ∙ low);
          right = λ e. not_a (sym (e ∙ high));
          divides = divides;
          with_left = ap w (ap (λ z. pair_of z k) low ∙ swapped c k) ∙ second;
          with_right = ap w (ap (λ z. pair_of k z) high ∙ swapped k a) ∙ first;
        }
    go (inr l) =
        let low : (pair_of a c).0 ≡ a = omega (arith, l) in
        let high : (pair_of a c).1 ≡ c = omega (arith, l) in
        record {
          within = known;
          left = λ e. not_a (sym (e ∙ low));
          right = λ e. not_c (e ∙ high);
          divides = divides;
          with_left = ap w (ap (λ z. pair_of z k) low) ∙ first;
          with_right = ap w (ap (λ z. pair_of k z) high) ∙ second;
        }

pub either : (b : Bool) → (b ≡ true) ⊎ (b ≡ false)
either true = inl refl
either false = inr refl

-- ---- a pair that waits no more
module _ {n : ℕ} (S : Setting n) (G : List (FormalSum n)) (before w : Pair → Bool) (i j : ℕ) (now : w ≡ flag_cleared before (i, j)) where
  -- what is known of y after both passes
  pub still_shut :
      (due mid late last : Pair → Bool) (y : Pair)
      → ((x : Pair) → mid x ≡ cond (is_same_pair x (i, j)) false (due x))
      → ((x : Pair) → late x ≡ false → mid x ≡ true → ChainApplies G (flagged w) x j)
      → ((x : Pair) → last x ≡ false → late x ≡ true → ChainApplies G (flagged w) x i)
      → (is_same_pair y (i, j) ≡ true → CriterionApplies S G (flagged before) y)
      → (due y ≡ false → CriterionApplies S G (flagged before) y)
      → last y ≡ false → CriterionApplies S G (flagged w) y
  still_shut due mid late last y put first second same known e = go (either (late y)) (either (mid y)) (either (is_same_pair y (i, j)))
    where
      still : CriterionApplies S G (flagged before) y → CriterionApplies S G (flagged w) y
      still h = subst (λ f. CriterionApplies S G (flagged f) y) (sym now) (spared_still S G before (i, j) y h)

      go : (late y ≡ true) ⊎ (late y ≡ false) → (mid y ≡ true) ⊎ (mid y ≡ false) → (is_same_pair y (i, j) ≡ true) ⊎ (is_same_pair y (i, j) ≡ false)
          → CriterionApplies S G (flagged w) y
      go (inl a) b d = inr (i, second y e a)
      go (inr a) (inl b) d = inr (j, first y a b)
      go (inr a) (inr b) (inl d) = still (same d)
      go (inr a) (inr b) (inr d) = still (known (sym (put_other due mid (i, j) false put y d) ∙ b))

  pub still_free :
      (due late last : Pair → Bool) (y : Pair) → y.0 < y.1
      → ((x : Pair) → late x ≡ true → due x ≡ true)
      → ((x : Pair) → last x ≡ true → late x ≡ true)
      → ((c : ℕ) → late (pair_of i c) ≡ true → ChainApplies G (flagged w) (pair_of i c) j → ⊥)
      → ((c : ℕ) → last (pair_of j c) ≡ true → ChainApplies G (flagged w) (pair_of j c) i → ⊥)
      → (due y ≡ true → CriterionApplies S G (flagged before) y → ⊥)
      → last y ≡ true → CriterionApplies S G (flagged w) y → ⊥
  still_free due late last y lt fewer less first second known e (inl p) = known (fewer y (less y e)) (inl p)
  still_free due late last y lt fewer less first second known e (inr (k, h)) =
      go (chain_by S G before (i, j) y k (λ q. known (fewer y (less y e)) (inr (k, q))) (subst (λ f. ChainApplies G (flagged f) y k) now h))
    where
      with_first : (m : ℕ) → y.0 ≡ m → pair_of m y.1 ≡ y
      with_first m q = ap (λ z. pair_of z y.1) (sym q) ∙ pair_ordered y.0 y.1 lt

      with_second : (m : ℕ) → y.1 ≡ m → pair_of m y.0 ≡ y
      with_second m q = ap (λ z. pair_of z y.0) (sym q) ∙ pair_swapped y.1 y.0 lt

      by_first : (c : ℕ) → pair_of i c ≡ y → k ≡ j → ⊥
      by_first c is q = first c (ap late is ∙ less y e) (subst (λ (z : Pair × ℕ). ChainApplies G (flagged w) z.0 z.1) (λ t. (sym is t, q t)) h)

      by_second : (c : ℕ) → pair_of j c ≡ y → k ≡ i → ⊥
      by_second c is q = second c (ap last is ∙ e) (subst (λ (z : Pair × ℕ). ChainApplies G (flagged w) z.0 z.1) (λ t. (sym is t, q t)) h)

      go : ((k ≡ j) × ((y.0 ≡ i) ⊎ (y.1 ≡ i))) ⊎ ((k ≡ i) × ((y.0 ≡ j) ⊎ (y.1 ≡ j))) → ⊥
      go (inl (q, inl f)) = by_first y.1 (with_first i f) q
      go (inl (q, inr f)) = by_first y.0 (with_second i f) q
      go (inr (q, inl f)) = by_second y.1 (with_first j f) q
      go (inr (q, inr f)) = by_second y.0 (with_second j f) q

-- ---- pairs that are flagged one after another
pub set_more : (n m : ℕ) (b h : Bool) → m ≡ n + (cond b 1 0 + 0) → cond b true (cond (ltb 0 n) true h) ≡ cond (ltb 0 m) true h
set_more n m true h e = sym (ap (λ t. cond t true h) (lt-ltb 0 m (omega (arith, e))))
set_more n m false h e = let same : n ≡ m = omega (arith, e) in ap (λ k. cond (ltb 0 k) true h) same

module _ (d e : Pair → Bool) (p : Pair) (b : Bool) (n m : Pair → ℕ) (put : (y : Pair) → e y ≡ cond (is_same_pair y p) b (d y))
    (more : (y : Pair) → m y ≡ n y + (cond (is_same_pair y p) 1 0 + 0)) where
  pub others_more : (old : Pair → Bool) → ((y : Pair) → n y ≡ 0 → d y ≡ old y) → (y : Pair) → m y ≡ 0 → e y ≡ old y
  others_more old h y z = go (either (is_same_pair y p))
    where
      go : (is_same_pair y p ≡ true) ⊎ (is_same_pair y p ≡ false) → e y ≡ old y
      go (inl t) = (let one : ◌≡◌ {A = ℕ} (cond (is_same_pair y p) 1 0) 1 = ap (λ s. cond s 1 0) t in absurd (omega (arith, one, more y, z)))
      go (inr t) = put_other d e p b put y t ∙ h y (omega (arith, more y, z))

  pub each_more : (v : Bool) (Q : Pair → Type 0) → (b ≡ v → Q p) → ((y : Pair) → 0 < n y → d y ≡ v → Q y) → (y : Pair) → 0 < m y → e y ≡ v → Q y
  each_more v Q here h y l is = go (either (is_same_pair y p))
    where
      go : (is_same_pair y p ≡ true) ⊎ (is_same_pair y p ≡ false) → Q y
      go (inl t) =
          let same : y ≡ p = is_same_pair-true y p t in
          subst Q (sym same) (here (sym (put_here d e p b put) ∙ ap e (sym same) ∙ is))
      go (inr t) =
          let none : ◌≡◌ {A = ℕ} (cond (is_same_pair y p) 1 0) 0 = ap (λ s. cond s 1 0) t in
          h y (omega (arith, none, more y, l)) (sym (put_other d e p b put y t) ∙ is)
