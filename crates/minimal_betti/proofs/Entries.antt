-- The terms of a vector in one row
use Rattle.std.specs.Cmp.{nat_cmp_is}
use Rattle.std.specs.Ordering.{nat_cmp, ordering_then}
use Rattle.std.specs.Prelude.{Contains, nat_eq}
use Rattle.std.proofs.Common.{Bool, Equal, Greater, List, [], ap, arith, cond, eq-eqb, eqb-true, false, get_or, inl, inr, length, map, refl, subst, subst₂}
use Rattle.std.proofs.Common.{suc, sym, take, true, zero, ℕ, ◌++◌, ◌+◌, ◌<◌, ◌∙◌, ◌∷◌, ◌≡◌}
use Rattle.std.proofs.lemmas.List.{append-nil, get_or_default, take_more}
use Rattle.monomials.specs.Exponents.{Exponents, exponents_of}
use Rattle.formal_sums.specs.FormalSums.{Each}
use Rattle.minimal_laws.specs.Cancellation.{component}
use Rattle.orders.specs.KeyOrders.{Descends}
use Rattle.monomial_orders.specs.Comparisons.{comparison, key_comparison}
use Rattle.monomial_orders.specs.Kept.{IsWeighed, Monomial}
use Rattle.monomial_orders.specs.declared.order.ModOrder.{ModOrder}
use Rattle.monomial_orders.specs.declared.order.ModOrder.TheVariants.{Pot, Top}
use Rattle.monomial_orders.specs.declared.order.Order.{Order}
use Rattle.term_lists.proofs.Scaling.{Each_at}
use Rattle.term_lists.specs.Rings.{ring_comparison, variables}
use Rattle.term_lists.specs.Stops.{HasMonomial, IsTooGreat}
use Rattle.term_lists.specs.Vectors.{AreVectorsOver, IsTerm, IsVectorOver, sum_of}
use Rattle.term_lists.specs.declared.ring.Ring.{Ring}
use Rattle.term_lists.specs.declared.key.Key.{Key as CodeKey}
use Rattle.module_vectors.specs.Trails.{IsStart}
use Rattle.module_vectors.specs.declared.trail.KeptTrail.{KeptTrail}
use Rattle.module_vectors.specs.declared.trail.TrailStart.{TrailStart}
use Rattle.module_vectors.specs.declared.trail.TrailStart.TheVariants.{Product}
use Rattle.column_passes.specs.Clearing.{IsMonomialAt}
use Rattle.column_passes.specs.declared.constants.Constant.{Constant}
use Rattle.column_passes.proofs.Clearings.{nat_eq-other}
use Rattle.column_passes.proofs.Lists.{each_in}
use Rattle.minimal_betti.specs.Stopping.{IsKeptInRow, at_zero}
use Rattle.minimal_betti.specs.Minimising.{IsClearingTrail}

abbrev Terms : Type 0
Terms = List (CodeKey × ℕ)

abbrev pub in_row : ℕ → Terms → Terms
in_row r [] = []
in_row r (t ∷ v) = cond (nat_eq t.0.position r) (at_zero t ∷ in_row r v) (in_row r v)

in_row-append : (r : ℕ) (v w : Terms) → in_row r (v ++ w) ≡ in_row r v ++ in_row r w
in_row-append r [] w = refl
in_row-append r (t ∷ v) w = go (nat_eq t.0.position r) (in_row-append r v w)
  where
    go :
        (b : Bool) → in_row r (v ++ w) ≡ in_row r v ++ in_row r w
        → cond b (at_zero t ∷ in_row r (v ++ w)) (in_row r (v ++ w)) ≡ cond b (at_zero t ∷ in_row r v) (in_row r v) ++ in_row r w
    go true e = ap (λ z. at_zero t ∷ z) e
    go false e = e

pub row_more :
    (r : ℕ) (v old new : Terms) (i : ℕ) (t : CodeKey × ℕ) → i < length v → t ≡ get_or v i t
    → old ≡ in_row r (take i v) → IsKeptInRow r t old new → new ≡ in_row r (take (i + 1) v)
row_more r v old new i t lt is h k =
    one k ∙ ap (λ z. z ++ in_row r (t ∷ [])) h ∙ sym (in_row-append r (take i v) (t ∷ []))
    ∙ ap (in_row r) (sym (take_more v i t lt ∙ ap (λ x. take i v ++ x ∷ []) (sym is)))
  where
    one : IsKeptInRow r t old new → new ≡ old ++ in_row r (t ∷ [])
    one (inl a) = let q : nat_eq t.0.position r ≡ true = eq-eqb t.0.position r a.0 in a.1 ∙ ap (λ b. old ++ cond b (at_zero t ∷ []) []) (sym q)
    one (inr a) = let q : nat_eq t.0.position r ≡ false = nat_eq-other t.0.position r a.0 in a.1 ∙ sym (append-nil old)
        ∙ ap (λ b. old ++ cond b (at_zero t ∷ []) []) (sym q)

-- they stand for the entry
pub entry_is : (n r : ℕ) (v : Terms) → sum_of n (in_row r v) ≡ component r (sum_of n v)
entry_is n r [] = refl
entry_is n r (t ∷ v) = go (nat_eq t.0.position r) (entry_is n r v)
  where
    go :
        (b : Bool) → sum_of n (in_row r v) ≡ component r (sum_of n v)
        → sum_of n (cond b (at_zero t ∷ in_row r v) (in_row r v)) ≡ cond b (((0, exponents_of n t.0.monomial.exponents), t.1) ∷ component r (sum_of n v))
        (component r (sum_of n v))
    go true e = ap (λ z. ((0, exponents_of n t.0.monomial.exponents), t.1) ∷ z) e
    go false e = e

-- they are a vector
terms_row : (n : ℕ) (ws : List ℕ) (p r : ℕ) (v : Terms) → Each (IsTerm n ws p) v → Each (IsTerm n ws p) (in_row r v)
terms_row n ws p r [] h = tt
terms_row n ws p r (t ∷ v) h = go (nat_eq t.0.position r) (terms_row n ws p r v h.1)
  where
    go : (b : Bool) → Each (IsTerm n ws p) (in_row r v) → Each (IsTerm n ws p) (cond b (at_zero t ∷ in_row r v) (in_row r v))
    go true m = (record { weighed = h.0.weighed; nonzero = h.0.nonzero; reduced = h.0.reduced }, m)
    go false m = m

-- keys at one position compare as at position 0
position_moved :
    (m : ModOrder) (o : Order) (ws : List ℕ) (n r : ℕ) (a b : Exponents n) → key_comparison m o ws n (r, a) (r, b) ≡ key_comparison m o ws n (0, a) (0, b)
position_moved Pot o ws n r a b =
    let e : nat_cmp r r ≡ nat_cmp 0 0 = sym (nat_cmp_is r r Equal refl) ∙ nat_cmp_is 0 0 Equal refl in
    ap (λ c. ordering_then c (comparison o ws n a b)) e
position_moved Top o ws n r a b =
    let e : nat_cmp r r ≡ nat_cmp 0 0 = sym (nat_cmp_is r r Equal refl) ∙ nat_cmp_is 0 0 Equal refl in
    ap (λ c. ordering_then (comparison o ws n a b) c) e

module _ (ring : Ring) (r : ℕ) where
  abbrev N : ℕ
  N = variables ring

  below_row :
      (a : Exponents (variables ring)) (v : Terms) → Each (λ u. ring_comparison ring (variables ring) (r, a) u.0 ≡ Greater) (sum_of (variables ring) v)
      → Each (λ u. ring_comparison ring (variables ring) (0, a) u.0 ≡ Greater) (sum_of (variables ring) (in_row r v))
  below_row a [] h = tt
  below_row a (t ∷ v) h = go (nat_eq t.0.position r) refl (below_row a v h.1)
    where
      go :
          (b : Bool) → nat_eq t.0.position r ≡ b
          → Each (λ u. ring_comparison ring (variables ring) (0, a) u.0 ≡ Greater) (sum_of (variables ring) (in_row r v))
          → Each (λ u. ring_comparison ring (variables ring) (0, a) u.0 ≡ Greater) (sum_of (variables ring) (cond b (at_zero t ∷ in_row r v) (in_row r v)))
      go true e m =
          let exponents = exponents_of (variables ring) t.0.monomial.exponents in
          let at : t.0.position ≡ r = eqb-true t.0.position r e in (
            sym (position_moved ring.module_order ring.order ring.weights (variables ring) r a exponents)
                ∙ subst (λ i. ring_comparison ring (variables ring) (r, a) (i, exponents) ≡ Greater) at h.0,
            m,
          )
      go false e m = m

  descends_row : (v : Terms) → Descends (ring_comparison ring (variables ring)) (sum_of (variables ring) v)
      → Descends (ring_comparison ring (variables ring)) (sum_of (variables ring) (in_row r v))
  descends_row [] h = tt
  descends_row (t ∷ v) h = go (nat_eq t.0.position r) refl (descends_row v h.1)
    where
      go :
          (b : Bool) → nat_eq t.0.position r ≡ b → Descends (ring_comparison ring (variables ring)) (sum_of (variables ring) (in_row r v))
          → Descends (ring_comparison ring (variables ring)) (sum_of (variables ring) (cond b (at_zero t ∷ in_row r v) (in_row r v)))
      go true e m =
          let exponents = exponents_of (variables ring) t.0.monomial.exponents in
          let at : t.0.position ≡ r = eqb-true t.0.position r e in (
            below_row exponents v
                (subst (λ i. Each (λ u. ring_comparison ring (variables ring) (i, exponents) u.0 ≡ Greater) (sum_of (variables ring) v)) at h.0),
            m,
          )
      go false e m = m

  pub vector_row : (v : Terms) → IsVectorOver ring (ring_comparison ring) v → IsVectorOver ring (ring_comparison ring) (in_row r v)
  vector_row v h = record { each = terms_row (variables ring) ring.weights ring.modulus.value r v h.each; descends = descends_row v h.descends }

-- and have each monomial of the row
contains_row : (r : ℕ) (v : Terms) (t : CodeKey × ℕ) → t.0.position ≡ r → Contains v t → Contains (in_row r v) (at_zero t)
contains_row r [] t e (i, lt, f) = absurd (omega (arith, lt))
contains_row r (u ∷ v) t e (zero, lt, f) =
    let q : nat_eq u.0.position r ≡ true = eq-eqb u.0.position r (ap (λ (z : CodeKey × ℕ). z.0.position) f ∙ e) in
    subst (λ b. Contains (cond b (at_zero u ∷ in_row r v) (in_row r v)) (at_zero t)) (sym q) (0, omega arith, ap at_zero f)
contains_row r (u ∷ v) t e (suc i, lt, f) = go (nat_eq u.0.position r) (contains_row r v t e (i, omega (arith, lt), f))
  where
    go : (b : Bool) → Contains (in_row r v) (at_zero t) → Contains (cond b (at_zero u ∷ in_row r v) (in_row r v)) (at_zero t)
    go true (j, l, g) = (suc j, omega (arith, l), g)
    go false c = c

pub monomial_row : (r : ℕ) (v : Terms) (m : Monomial) → IsMonomialAt r v m → HasMonomial (in_row r v) m
monomial_row r v m h = (at_zero h.0, contains_row r v h.0 h.2 h.1, h.3)

-- ---- the trail of one product
weighed_at : (n : ℕ) (ws : List ℕ) (p : ℕ) (v : Terms) (m : Monomial) → Each (IsTerm n ws p) v → HasMonomial v m → IsWeighed n ws m
weighed_at n ws p v m h (t, c, e) = subst (IsWeighed n ws) e (each_in (IsTerm n ws p) v t h c).weighed

pub clearing_is :
    (ring : Ring) (columns : List Terms) (at : Constant) (i : ℕ) (entry : Terms) (factor last : Monomial) (t : KeptTrail)
    → AreVectorsOver ring (ring_comparison ring) columns → at.column < length columns → i < length columns → (i ≡ at.column → ⊥)
    → IsMonomialAt at.row (get_or columns i []) factor → HasMonomial entry factor → IsVectorOver ring (ring_comparison ring) entry
    → sum_of (variables ring) entry ≡ component at.row (sum_of (variables ring) (get_or columns i []))
    → HasMonomial (get_or columns at.column []) last → IsTooGreat factor last
    → t.ring ≡ ring → t.rank ≡ 0 → t.generators ≡ [] → t.below.items ≡ [] → t.start ≡ Product → t.vector ≡ entry → t.members ≡ columns
    → t.products.items ≡ (at.column, factor) ∷ [] → t.last ≡ last → IsClearingTrail ring at.column at.row t
clearing_is ring columns at i entry factor last t vectors inside index apart of_row of_entry vector entry_of of_column great er ek eg eb es ev em ep el =
    let n = variables ring in
    let p = ring.modulus.value in
    let column_at : (c : ℕ) → c < length columns → IsVectorOver ring (ring_comparison ring) (get_or columns c []) =
    λ c lt. Each_at _ columns c (get_or columns c []) vectors lt (get_or_default columns c [] (get_or columns c []) lt)
    in
    let wf : IsWeighed n ring.weights factor = weighed_at n ring.weights p (get_or columns i []) factor (column_at i index).each
    (of_row.0, of_row.1, of_row.3) in
    let wl : IsWeighed n ring.weights last = weighed_at n ring.weights p (get_or columns at.column []) last (column_at at.column inside).each of_column in
    record {
      trail = (
        (at.column, factor),
        [],
        record {
          products = ep;
          known = (subst (λ (m : List Terms). at.column < length m) (sym em) inside, tt);
          variables = (subst (λ (r : Ring). IsWeighed (variables r) r.weights factor) (sym er) wf, tt);
          begins = subst (λ (s : TrailStart). IsStart (variables t.ring) s t.vector t.members (at.column, factor) []) (sym es)
              (subst (λ (z : Terms). HasMonomial z factor) (sym ev) of_entry, refl);
          met = tt;
          last = subst₂ (λ (m : List Terms) (l : Monomial). HasMonomial (get_or m at.column []) l) (sym em) (sym el) of_column;
          last_variables = subst₂ (λ (r : Ring) (l : Monomial). IsWeighed (variables r) r.weights l) (sym er) (sym el) wl;
          too_great = subst (λ (l : Monomial). IsTooGreat factor l) (sym el) great;
        },
      );
      over = er;
      rank_none = ek;
      generators = eg;
      below = eb;
      start = es;
      columns = subst (AreVectorsOver ring (ring_comparison ring)) (sym em) vectors;
      other = i;
      inside = subst (λ (m : List Terms). i < length m) (sym em) index;
      apart = apart;
      vector = subst (IsVectorOver ring (ring_comparison ring)) (sym ev) vector;
      entry = ap (sum_of n) ev ∙ entry_of ∙ ap (λ (m : List Terms). component at.row (sum_of n (get_or m i []))) (sym em);
      product = ap (map (λ (s : ℕ × Monomial). s.0)) ep;
    }
