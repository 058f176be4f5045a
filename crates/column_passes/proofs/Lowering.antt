-- A row leaves the terms of a vector
use Rattle.std.specs.Ordering.{nat_cmp, ordering_then}
use Rattle.std.specs.Prelude.{nat_eq, nat_lt}
use Rattle.std.proofs.Common.{Bool, Greater, List, [], ap, arith, cond, drop, false, filter, get_or, length, not, refl, set, suc, sym, take, true}
use Rattle.std.proofs.Common.{zero, ℕ, ◌++◌, ◌+◌, ◌-◌, ◌<◌, ◌==◌, ◌∙◌, ◌∷◌, ◌≡◌}
use Rattle.std.proofs.lemmas.Bool.Decides.{nat_tests}
use Rattle.monomials.specs.Exponents.{Exponents, exponents_of}
use Rattle.formal_sums.specs.FormalSums.{Each}
use Rattle.orders.specs.KeyOrders.{Descends}
use Rattle.minimal_laws.proofs.Rows.{close}
use Rattle.minimal_laws.specs.Cancellation.{without_row}
use Rattle.monomial_orders.specs.Comparisons.{comparison, key_comparison}
use Rattle.monomial_orders.specs.declared.order.ModOrder.{ModOrder}
use Rattle.monomial_orders.specs.declared.order.ModOrder.TheVariants.{Pot, Top}
use Rattle.monomial_orders.specs.declared.order.Order.{Order}
use Rattle.term_lists.specs.Rings.{ring_comparison, variables}
use Rattle.term_lists.specs.Vectors.{IsTerm, IsVectorOver, sum_of}
use Rattle.term_lists.specs.declared.key.Key.{Key as CodeKey}
use Rattle.term_lists.specs.declared.ring.Ring.{Ring}
use Rattle.column_passes.specs.Clearing.{lowered_behind}

abbrev Terms : Type 0
Terms = List (CodeKey × ℕ)

abbrev pub low : ℕ → CodeKey × ℕ → CodeKey × ℕ
low r t = (record { position = cond (nat_lt t.0.position r) t.0.position (t.0.position - 1); monomial = t.0.monomial }, t.1)

-- the terms in other rows, at the positions that are left to them
abbrev pub without_terms : ℕ → Terms → Terms
without_terms r [] = []
without_terms r (t ∷ v) = cond (nat_eq t.0.position r) (without_terms r v) (low r t ∷ without_terms r v)

pub lowered_filter : (r : ℕ) (v : Terms) → lowered_behind r (filter (λ (t : CodeKey × ℕ). not (t.0.position == r)) v) ≡ without_terms r v
lowered_filter r [] = refl
lowered_filter r (t ∷ v) = go (nat_eq t.0.position r) (lowered_filter r v)
  where
    go :
        (b : Bool) → lowered_behind r (filter (λ (t : CodeKey × ℕ). not (t.0.position == r)) v) ≡ without_terms r v
        → lowered_behind r (cond (not b) (t ∷ filter (λ (t : CodeKey × ℕ). not (t.0.position == r)) v) (filter (λ (t : CodeKey × ℕ). not (t.0.position == r)) v))
        ≡ cond b (without_terms r v) (low r t ∷ without_terms r v)
    go true e = e
    go false e = ap (λ z. low r t ∷ z) e

-- they stand for the vector without the row
pub without_sum : (n r : ℕ) (v : Terms) → sum_of n (without_terms r v) ≡ without_row r (sum_of n v)
without_sum n r [] = refl
without_sum n r (t ∷ v) = go (nat_eq t.0.position r) (without_sum n r v)
  where
    go :
        (b : Bool) → sum_of n (without_terms r v) ≡ without_row r (sum_of n v)
        → sum_of n (cond b (without_terms r v) (low r t ∷ without_terms r v))
        ≡ cond b (without_row r (sum_of n v)) (((close r t.0.position, exponents_of n t.0.monomial.exponents), t.1) ∷ without_row r (sum_of n v))
    go true e = e
    go false e = ap (λ z. ((close r t.0.position, exponents_of n t.0.monomial.exponents), t.1) ∷ z) e

-- and are a vector: positions keep their order
terms_without : (n : ℕ) (ws : List ℕ) (p r : ℕ) (v : Terms) → Each (IsTerm n ws p) v → Each (IsTerm n ws p) (without_terms r v)
terms_without n ws p r [] h = tt
terms_without n ws p r (t ∷ v) h = go (nat_eq t.0.position r) (terms_without n ws p r v h.1)
  where
    go : (b : Bool) → Each (IsTerm n ws p) (without_terms r v) → Each (IsTerm n ws p) (cond b (without_terms r v) (low r t ∷ without_terms r v))
    go true m = m
    go false m = (record { weighed = h.0.weighed; nonzero = h.0.nonzero; reduced = h.0.reduced }, m)

close_compares : (r i j : ℕ) → nat_eq i r ≡ false → nat_eq j r ≡ false → nat_cmp (close r i) (close r j) ≡ nat_cmp i j
close_compares r i j a b = grind (arith, nat_tests)

key_compares :
    (m : ModOrder) (o : Order) (ws : List ℕ) (n r : ℕ) (i j : ℕ) (a b : Exponents n) → nat_eq i r ≡ false → nat_eq j r ≡ false
    → key_comparison m o ws n (close r i, a) (close r j, b) ≡ key_comparison m o ws n (i, a) (j, b)
key_compares Pot o ws n r i j a b e f = ap (λ c. ordering_then c (comparison o ws n a b)) (close_compares r j i f e)
key_compares Top o ws n r i j a b e f = ap (λ c. ordering_then (comparison o ws n a b) c) (close_compares r j i f e)

module _ (ring : Ring) (r : ℕ) where
  below_without :
      (i : ℕ) (a : Exponents (variables ring)) (v : Terms) → nat_eq i r ≡ false
      → Each (λ u. ring_comparison ring (variables ring) (i, a) u.0 ≡ Greater) (sum_of (variables ring) v)
      → Each (λ u. ring_comparison ring (variables ring) (close r i, a) u.0 ≡ Greater) (sum_of (variables ring) (without_terms r v))
  below_without i a [] other h = tt
  below_without i a (t ∷ v) other h = go (nat_eq t.0.position r) refl (below_without i a v other h.1)
    where
      go :
          (b : Bool) → nat_eq t.0.position r ≡ b
          → Each (λ u. ring_comparison ring (variables ring) (close r i, a) u.0 ≡ Greater) (sum_of (variables ring) (without_terms r v))
          → Each (λ u. ring_comparison ring (variables ring) (close r i, a) u.0 ≡ Greater)
          (sum_of (variables ring) (cond b (without_terms r v) (low r t ∷ without_terms r v)))
      go true e m = m
      go false e m = (
        key_compares ring.module_order ring.order ring.weights (variables ring) r i t.0.position a
            (exponents_of (variables ring) t.0.monomial.exponents) other e ∙ h.0,
        m,
      )

  descends_without :
      (v : Terms) → Descends (ring_comparison ring (variables ring)) (sum_of (variables ring) v)
      → Descends (ring_comparison ring (variables ring)) (sum_of (variables ring) (without_terms r v))
  descends_without [] h = tt
  descends_without (t ∷ v) h = go (nat_eq t.0.position r) refl (descends_without v h.1)
    where
      go :
          (b : Bool) → nat_eq t.0.position r ≡ b → Descends (ring_comparison ring (variables ring)) (sum_of (variables ring) (without_terms r v))
          → Descends (ring_comparison ring (variables ring)) (sum_of (variables ring) (cond b (without_terms r v) (low r t ∷ without_terms r v)))
      go true e m = m
      go false e m = (below_without t.0.position (exponents_of (variables ring) t.0.monomial.exponents) v e h.0, m)

  pub vector_without_row : (v : Terms) → IsVectorOver ring (ring_comparison ring) v → IsVectorOver ring (ring_comparison ring) (without_terms r v)
  vector_without_row v h =
      record { each = terms_without (variables ring) ring.weights ring.modulus.value r v h.each; descends = descends_without v h.descends }

-- ---- the loop that lowers positions in place
lowered_get :
    (r : ℕ) (xs : Terms) (i : ℕ) (d : CodeKey × ℕ) → i < length xs → get_or (lowered_behind r (take i xs) ++ drop i xs) i d ≡ get_or xs i d
lowered_get r [] i d lt = absurd (omega arith)
lowered_get r (x ∷ xs) zero d lt = refl
lowered_get r (x ∷ xs) (suc i) d lt = lowered_get r xs i d (omega arith)

lowered_set :
    (r : ℕ) (xs : Terms) (i : ℕ) (t : CodeKey × ℕ) → i < length xs → t ≡ get_or xs i t
    → set (lowered_behind r (take i xs) ++ drop i xs) i (low r t) ≡ lowered_behind r (take (suc i) xs) ++ drop (suc i) xs
lowered_set r [] i t lt e = absurd (omega arith)
lowered_set r (x ∷ xs) zero t lt e = ap (λ y. low r y ∷ xs) e
lowered_set r (x ∷ xs) (suc i) t lt e = ap (λ z. low r x ∷ z) (lowered_set r xs i t (omega arith) e)

-- x is read, and y is where the position is written
pub lowered_step :
    (r : ℕ) (xs ys : Terms) (i q : ℕ) (x y : CodeKey × ℕ) → i < length xs → ys ≡ lowered_behind r (take i xs) ++ drop i xs → x ≡ get_or ys i x → y ≡ get_or ys i y
    → q ≡ cond (nat_lt x.0.position r) x.0.position (x.0.position - 1)
    → set ys i (record { position = q; monomial = y.0.monomial }, y.1) ≡ lowered_behind r (take (i + 1) xs) ++ drop (i + 1) xs
lowered_step r xs ys i q x y lt e hx hy eq =
    let ex : x ≡ get_or xs i x = hx ∙ ap (λ z. get_or z i x) e ∙ lowered_get r xs i x lt in
    let ey : y ≡ get_or xs i y = hy ∙ ap (λ z. get_or z i y) e ∙ lowered_get r xs i y lt in
    let xy : y ≡ x = ey ∙ same xs i y x lt ∙ sym ex in
    let j : suc i ≡ i + 1 = omega arith in
    ap (λ z. set z i (record { position = q; monomial = y.0.monomial }, y.1)) e
    ∙ ap (λ (z : ℕ). set (lowered_behind r (take i xs) ++ drop i xs) i (record { position = z; monomial = y.0.monomial }, y.1)) eq
    ∙ ap (λ (z : CodeKey × ℕ). set (lowered_behind r (take i xs) ++ drop i xs) i
    (record { position = cond (nat_lt x.0.position r) x.0.position (x.0.position - 1); monomial = z.0.monomial }, z.1)) xy
    ∙ lowered_set r xs i x lt ex ∙ ap (λ k. lowered_behind r (take k xs) ++ drop k xs) j
  where
    same : (xs : Terms) (i : ℕ) (d d' : CodeKey × ℕ) → i < length xs → get_or xs i d ≡ get_or xs i d'
    same [] i d d' lt = absurd (omega arith)
    same (z ∷ xs) zero d d' lt = refl
    same (z ∷ xs) (suc i) d d' lt = same xs i d d' (omega arith)
