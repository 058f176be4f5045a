-- The products of a merge: what is done, and what is left of both sides
use Rattle.std.proofs.Common.{Equal, Greater, Less, List, Ordering, [], ap, ap₂, append-nil, append_assoc, arith, get_or, length, mod-lt, refl, subst, subst₂, sym, ℕ, ◌%◌, ◌*◌, ◌++◌, ◌+◌, ◌<◌, ◌∙◌, ◌∷◌, ◌≡◌}
use Rattle.residues.proofs.Congruences.{IsCongruent_add, IsCongruent_mod, IsCongruent_multiply, IsCongruent_of, IsCongruent_refl, IsCongruent_sym, IsCongruent_trans}
use Rattle.residues.specs.Residues.{IsCongruent}
use Rattle.formal_sums.proofs.Sameness.{IsSame_of, IsSame_refl, IsSame_trans}
use Rattle.formal_sums.proofs.WeightedSums.{Each_append, coefficient-append}
use Rattle.formal_sums.specs.FormalSums.{FormalSum, IsSame, Key, Term, coefficient, indicator}
use Rattle.orders.proofs.KeyOrdering.{greater_of_less}
use Rattle.orders.specs.KeyOrders.{Descends, IsKeyOrder}
use Rattle.term_lists.proofs.Descending.{IsOver, descends_between, descends_key, descends_skip, over_first}
use Rattle.term_lists.specs.Merging.{Merging}
use Rattle.term_lists.specs.Vectors.{IsTerm, IsVector, key_of, sum_of}
use Rattle.term_lists.specs.declared.key.Key.{Key as CodeKey}

pub sum_of-append :
    (n : ℕ) (v w : List (CodeKey × ℕ)) → sum_of n (v ++ w) ≡ sum_of n v ++ sum_of n w
sum_of-append n [] w = refl
sum_of-append n (t ∷ v) w = ap (λ r. (key_of n t.0, t.1) ∷ r) (sum_of-append n v w)

module _ {n : ℕ} (p : ℕ) where
  -- the first of the right side goes to the end of what is done
  same_right :
      (o : FormalSum n) (x : Term n) (a b : FormalSum n)
      → IsSame p ((o ++ (x ∷ [])) ++ (a ++ b)) (o ++ (a ++ (x ∷ b)))
  same_right o x a b = record {
    by_key = λ l.
        let z = x.1 * indicator l x.0 in
        let left : coefficient ((o ++ (x ∷ [])) ++ (a ++ b)) l ≡ z + (coefficient o l + (coefficient a l + coefficient b l)) = omega (arith, coefficient-append (o ++ (x ∷ [])) (a ++ b) l, coefficient-append o (x ∷ []) l, coefficient-append a b l) in
        let right : coefficient (o ++ (a ++ (x ∷ b))) l ≡ z + (coefficient o l + (coefficient a l + coefficient b l)) = omega (arith, coefficient-append o (a ++ (x ∷ b)) l, coefficient-append a (x ∷ b) l) in
        IsCongruent_of p _ _ (left ∙ sym right);
  }

  -- two terms with one key become their sum
  same_both :
      (o : FormalSum n) (k : Key n) (c d e : ℕ) (a b : FormalSum n)
      → IsCongruent p c (d + e)
      → IsSame p ((o ++ ((k, c) ∷ [])) ++ (a ++ b)) (o ++ (((k, d) ∷ a) ++ ((k, e) ∷ b)))
  same_both o k c d e a b h = record {
    by_key = λ l.
        let x = indicator l k in
        let r = coefficient o l + (coefficient a l + coefficient b l) in
        let left : coefficient ((o ++ ((k, c) ∷ [])) ++ (a ++ b)) l ≡ c * x + r = omega (arith, coefficient-append (o ++ ((k, c) ∷ [])) (a ++ b) l, coefficient-append o ((k, c) ∷ []) l, coefficient-append a b l) in
        let right : coefficient (o ++ (((k, d) ∷ a) ++ ((k, e) ∷ b))) l ≡ (d + e) * x + r = omega (arith, coefficient-append o (((k, d) ∷ a) ++ ((k, e) ∷ b)) l, coefficient-append a ((k, e) ∷ b) l) in
        IsCongruent_trans (IsCongruent_of p _ _ left) (IsCongruent_trans (IsCongruent_add (IsCongruent_multiply h (IsCongruent_refl p x)) (IsCongruent_refl p r)) (IsCongruent_of p _ _ (sym right)));
  }

  -- or nothing
  same_gone :
      (o : FormalSum n) (k : Key n) (d e : ℕ) (a b : FormalSum n)
      → IsCongruent p (d + e) 0 → IsSame p (o ++ (a ++ b)) (o ++ (((k, d) ∷ a) ++ ((k, e) ∷ b)))
  same_gone o k d e a b h = record {
    by_key = λ l.
        let x = indicator l k in
        let r = coefficient o l + (coefficient a l + coefficient b l) in
        let left : coefficient (o ++ (a ++ b)) l ≡ 0 * x + r = omega (arith, coefficient-append o (a ++ b) l, coefficient-append a b l) in
        let right : coefficient (o ++ (((k, d) ∷ a) ++ ((k, e) ∷ b))) l ≡ (d + e) * x + r = omega (arith, coefficient-append o (((k, d) ∷ a) ++ ((k, e) ∷ b)) l, coefficient-append a ((k, e) ∷ b) l) in
        IsCongruent_trans (IsCongruent_of p _ _ left) (IsCongruent_trans (IsCongruent_add (IsCongruent_multiply (IsCongruent_sym h) (IsCongruent_refl p x)) (IsCongruent_refl p r)) (IsCongruent_of p _ _ (sym right)));
  }

module _ (n : ℕ) (ws : List ℕ) (p : ℕ) (compare : Key n → Key n → Ordering) where
  abbrev Terms : Type 0
  Terms = List (CodeKey × ℕ)

  pub merging_start :
      (a b : Terms)
      → IsVector n ws p compare a → IsVector n ws p compare b
      → Merging n ws p compare [] a b (sum_of n a ++ sum_of n b)
  merging_start a b ha hb = record {
    done_terms = tt;
    left_terms = ha.each;
    right_terms = hb.each;
    left_descends = ha.descends;
    right_descends = hb.descends;
    sums = IsSame_refl p _;
  }

  -- the first of the left side goes over, where it is above the right side
  pub merging_left :
      (o a b : Terms) (w : FormalSum n) (t : CodeKey × ℕ)
      → Merging n ws p compare o (t ∷ a) b w → IsOver compare (key_of n t.0) (sum_of n b)
      → Merging n ws p compare (o ++ t ∷ []) a b w
  merging_left o a b w t h over =
      let x : Term n = (key_of n t.0, t.1) in
      let d = sum_of n o in
      let v = sum_of n a in
      let u = sum_of n b in
      let pushed : sum_of n (o ++ t ∷ []) ≡ d ++ (x ∷ []) = sum_of-append n o (t ∷ []) in
      record {
        done_terms = Each_append (IsTerm n ws p) o (t ∷ []) h.done_terms (h.left_terms.0, tt);
        left_terms = h.left_terms.1;
        right_terms = h.right_terms;
        left_descends = subst (Descends compare) (sym (ap (λ z. z ++ v) pushed ∙ append_assoc d (x ∷ []) v)) h.left_descends;
        right_descends = subst (Descends compare) (sym (ap (λ z. z ++ u) pushed ∙ append_assoc d (x ∷ []) u)) (descends_between compare d x v u h.left_descends h.right_descends over);
        sums = IsSame_trans (IsSame_of p _ _ (ap (λ z. z ++ (v ++ u)) pushed ∙ append_assoc d (x ∷ []) (v ++ u))) h.sums;
      }

  -- the first of the right side goes over, where it is above the left side
  pub merging_right :
      (o a b : Terms) (w : FormalSum n) (t : CodeKey × ℕ)
      → Merging n ws p compare o a (t ∷ b) w → IsOver compare (key_of n t.0) (sum_of n a)
      → Merging n ws p compare (o ++ t ∷ []) a b w
  merging_right o a b w t h over =
      let x : Term n = (key_of n t.0, t.1) in
      let d = sum_of n o in
      let v = sum_of n a in
      let u = sum_of n b in
      let pushed : sum_of n (o ++ t ∷ []) ≡ d ++ (x ∷ []) = sum_of-append n o (t ∷ []) in
      record {
        done_terms = Each_append (IsTerm n ws p) o (t ∷ []) h.done_terms (h.right_terms.0, tt);
        left_terms = h.left_terms;
        right_terms = h.right_terms.1;
        left_descends = subst (Descends compare) (sym (ap (λ z. z ++ v) pushed ∙ append_assoc d (x ∷ []) v)) (descends_between compare d x u v h.right_descends h.left_descends over);
        right_descends = subst (Descends compare) (sym (ap (λ z. z ++ u) pushed ∙ append_assoc d (x ∷ []) u)) h.right_descends;
        sums = IsSame_trans (IsSame_of p _ _ (ap (λ z. z ++ (v ++ u)) pushed)) (IsSame_trans (same_right p d x v u) h.sums);
      }

  -- the first two have one key, and their sum goes over
  pub merging_both :
      (o a b : Terms) (w : FormalSum n) (t s : CodeKey × ℕ) (c : ℕ)
      → Merging n ws p compare o (t ∷ a) (s ∷ b) w → key_of n t.0 ≡ key_of n s.0 → 0 < c → c < p
      → IsCongruent p c (t.1 + s.1) → Merging n ws p compare (o ++ (t.0, c) ∷ []) a b w
  merging_both o a b w t s c h e pos lt same =
      let k = key_of n t.0 in
      let d = sum_of n o in
      let v = sum_of n a in
      let u = sum_of n b in
      let x : Term n = (k, c) in
      let pushed : sum_of n (o ++ (t.0, c) ∷ []) ≡ d ++ (x ∷ []) = sum_of-append n o ((t.0, c) ∷ []) in
      let hl : Descends compare (d ++ (x ∷ v)) = descends_key compare d k t.1 c v h.left_descends in
      let hr : Descends compare (d ++ (x ∷ u)) = descends_key compare d k s.1 c u (subst (λ z. Descends compare (d ++ ((z, s.1) ∷ u))) (sym e) h.right_descends) in
      let hs : IsSame p (d ++ (((k, t.1) ∷ v) ++ ((k, s.1) ∷ u))) w = subst (λ z. IsSame p (d ++ (((k, t.1) ∷ v) ++ ((z, s.1) ∷ u))) w) (sym e) h.sums in
      record {
        done_terms = Each_append (IsTerm n ws p) o ((t.0, c) ∷ []) h.done_terms (record { weighed = h.left_terms.0.weighed; nonzero = pos; reduced = lt }, tt);
        left_terms = h.left_terms.1;
        right_terms = h.right_terms.1;
        left_descends = subst (Descends compare) (sym (ap (λ z. z ++ v) pushed ∙ append_assoc d (x ∷ []) v)) hl;
        right_descends = subst (Descends compare) (sym (ap (λ z. z ++ u) pushed ∙ append_assoc d (x ∷ []) u)) hr;
        sums = IsSame_trans (IsSame_of p _ _ (ap (λ z. z ++ (v ++ u)) pushed)) (IsSame_trans (same_both p d k c t.1 s.1 v u same) hs);
      }

  -- the first two have one key, and cancel
  pub merging_gone :
      (o a b : Terms) (w : FormalSum n) (t s : CodeKey × ℕ)
      → Merging n ws p compare o (t ∷ a) (s ∷ b) w → key_of n t.0 ≡ key_of n s.0
      → IsCongruent p (t.1 + s.1) 0 → Merging n ws p compare o a b w
  merging_gone o a b w t s h e same =
      let k = key_of n t.0 in
      let d = sum_of n o in
      let v = sum_of n a in
      let u = sum_of n b in
      let hs : IsSame p (d ++ (((k, t.1) ∷ v) ++ ((k, s.1) ∷ u))) w = subst (λ z. IsSame p (d ++ (((k, t.1) ∷ v) ++ ((z, s.1) ∷ u))) w) (sym e) h.sums in
      record {
        done_terms = h.done_terms;
        left_terms = h.left_terms.1;
        right_terms = h.right_terms.1;
        left_descends = descends_skip compare d (k, t.1) v h.left_descends;
        right_descends = descends_skip compare d (key_of n s.0, s.1) u h.right_descends;
        sums = IsSame_trans (same_gone p d k t.1 s.1 v u same) hs;
      }

  -- what is left of one side alone follows
  pub merging_end_left :
      (o a : Terms) (w : FormalSum n)
      → Merging n ws p compare o a [] w → IsVector n ws p compare (o ++ a) × IsSame p (sum_of n (o ++ a)) w
  merging_end_left o a w h = (
    record {
      each = Each_append (IsTerm n ws p) o a h.done_terms h.left_terms;
      descends = subst (Descends compare) (sym (sum_of-append n o a)) h.left_descends;
    },
    IsSame_trans (IsSame_of p _ _ (sum_of-append n o a ∙ ap (λ z. sum_of n o ++ z) (sym (append-nil (sum_of n a))))) h.sums,
  )

  pub merging_end_right :
      (o b : Terms) (w : FormalSum n)
      → Merging n ws p compare o [] b w → IsVector n ws p compare (o ++ b) × IsSame p (sum_of n (o ++ b)) w
  merging_end_right o b w h = (
    record {
      each = Each_append (IsTerm n ws p) o b h.done_terms h.right_terms;
      descends = subst (Descends compare) (sym (sum_of-append n o b)) h.right_descends;
    },
    IsSame_trans (IsSame_of p _ _ (sum_of-append n o b)) h.sums,
  )

-- ---- the products as the code meets them: x and y are read from the fronts, t and s are taken
module _ (n : ℕ) (ws : List ℕ) (p : ℕ) (C : (m : ℕ) → Key m → Key m → Ordering) (r : ℕ) (order : IsKeyOrder r (C n)) where
  abbrev M : List (CodeKey × ℕ) → List (CodeKey × ℕ) → List (CodeKey × ℕ) → FormalSum n → Type 0
  M o a b w = Merging n ws p (C n) o a b w

  pub step_greater :
      (o a b a' : List (CodeKey × ℕ)) (w : FormalSum n) (x y t : CodeKey × ℕ)
      → 0 < length b → x ≡ get_or a 0 x → y ≡ get_or b 0 y → a ≡ t ∷ a'
      → Greater ≡ C n (key_of n x.0) (key_of n y.0)
      → M o a b w → M (o ++ t ∷ []) a' b w
  step_greater o a [] a' w x y t lb hx hy e gt h = absurd (omega arith)
  step_greater o a (z ∷ b) a' w x y t lb hx hy e gt h =
      let h1 : M o (t ∷ a') (z ∷ b) w = subst (λ q. M o q (z ∷ b) w) e h in
      let xt : x ≡ t = hx ∙ ap (λ q. get_or q 0 x) e in
      let g : C n (key_of n t.0) (key_of n z.0) ≡ Greater = ap₂ (λ q s. C n (key_of n q.0) (key_of n s.0)) (sym xt) (sym hy) ∙ sym gt in
      merging_left n ws p (C n) o a' (z ∷ b) w t h1 (over_first (C n) order (key_of n t.0) (sum_of n o) (key_of n z.0, z.1) (sum_of n b) g h1.right_descends)

  pub step_less :
      (o a b b' : List (CodeKey × ℕ)) (w : FormalSum n) (x y t : CodeKey × ℕ)
      → 0 < length a → x ≡ get_or a 0 x → y ≡ get_or b 0 y → b ≡ t ∷ b'
      → Less ≡ C n (key_of n x.0) (key_of n y.0)
      → M o a b w → M (o ++ t ∷ []) a b' w
  step_less o [] b b' w x y t la hx hy e lt h = absurd (omega arith)
  step_less o (z ∷ a) b b' w x y t la hx hy e lt h =
      let h1 : M o (z ∷ a) (t ∷ b') w = subst (λ q. M o (z ∷ a) q w) e h in
      let yt : y ≡ t = hy ∙ ap (λ q. get_or q 0 y) e in
      let l : C n (key_of n z.0) (key_of n t.0) ≡ Less = ap₂ (λ q s. C n (key_of n q.0) (key_of n s.0)) (sym hx) (sym yt) ∙ sym lt in
      let g : C n (key_of n t.0) (key_of n z.0) ≡ Greater = greater_of_less order (key_of n z.0) (key_of n t.0) l in
      merging_right n ws p (C n) o (z ∷ a) b' w t h1 (over_first (C n) order (key_of n t.0) (sum_of n o) (key_of n z.0, z.1) (sum_of n a) g h1.left_descends)

  one_key :
      (o a' b' : List (CodeKey × ℕ)) (w : FormalSum n) (x y t s : CodeKey × ℕ)
      → x ≡ t → y ≡ s → M o (t ∷ a') (s ∷ b') w
      → Equal ≡ C n (key_of n x.0) (key_of n y.0)
      → key_of n t.0 ≡ key_of n s.0
  one_key o a' b' w x y t s xt ys h eq =
      order.exact (key_of n t.0) (key_of n s.0) (ap₂ (λ q s. C n (key_of n q.0) (key_of n s.0)) (sym xt) (sym ys) ∙ sym eq)

  pub step_sum :
      (o a b a' b' : List (CodeKey × ℕ)) (w : FormalSum n) (x y t s : CodeKey × ℕ) (c : ℕ)
      → x ≡ get_or a 0 x → y ≡ get_or b 0 y → a ≡ t ∷ a' → b ≡ s ∷ b'
      → Equal ≡ C n (key_of n x.0) (key_of n y.0)
      → c ≡ (t.1 + s.1) % p → 0 < c → M o a b w → M (o ++ (t.0, c) ∷ []) a' b' w
  step_sum o a b a' b' w x y t s c hx hy ea eb eq ec pos h =
      let h1 : M o (t ∷ a') (s ∷ b') w = subst₂ (λ q z. M o q z w) ea eb h in
      let k = one_key o a' b' w x y t s (hx ∙ ap (λ q. get_or q 0 x) ea) (hy ∙ ap (λ q. get_or q 0 y) eb) h1 eq in
      let low : t.1 < p = h1.left_terms.0.reduced in
      let p0 : 0 < p = omega arith in
      let lt : c < p = subst (λ z. z < p) (sym ec) (mod-lt (t.1 + s.1) p0) in
      let same : IsCongruent p c (t.1 + s.1) = IsCongruent_trans (IsCongruent_of p _ _ ec) (IsCongruent_mod p (t.1 + s.1)) in
      merging_both n ws p (C n) o a' b' w t s c h1 k pos lt same

  pub step_gone :
      (o a b a' b' : List (CodeKey × ℕ)) (w : FormalSum n) (x y t s : CodeKey × ℕ) (c : ℕ)
      → x ≡ get_or a 0 x → y ≡ get_or b 0 y → a ≡ t ∷ a' → b ≡ s ∷ b'
      → Equal ≡ C n (key_of n x.0) (key_of n y.0)
      → c ≡ (t.1 + s.1) % p → c ≡ 0 → M o a b w → M o a' b' w
  step_gone o a b a' b' w x y t s c hx hy ea eb eq ec z h =
      let h1 : M o (t ∷ a') (s ∷ b') w = subst₂ (λ q z. M o q z w) ea eb h in
      let k = one_key o a' b' w x y t s (hx ∙ ap (λ q. get_or q 0 x) ea) (hy ∙ ap (λ q. get_or q 0 y) eb) h1 eq in
      let same : IsCongruent p (t.1 + s.1) 0 = IsCongruent_trans (IsCongruent_sym (IsCongruent_mod p (t.1 + s.1))) (IsCongruent_of p _ 0 (sym ec ∙ z)) in
      merging_gone n ws p (C n) o a' b' w t s h1 k same
