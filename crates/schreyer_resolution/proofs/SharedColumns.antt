-- A column by quotients that strictly descend
use Rattle.std.proofs.Common.{List, [], ap, ap₂, arith, drop, get_or, length, map, mod-eq_of_lt, mod-lt, refl, subst, suc, sym, take, Greater, ℕ, ◌%◌, ◌+◌, ◌++◌, ◌-◌, ◌<◌, ◌≤◌, ◌∙◌, ◌∷◌, ◌≡◌}
use Rattle.std.specs.declared.cmp.Ordering.{Ordering}
use Rattle.std.proofs.lemmas.List.{get_or_default, length-map, map-append}
use Rattle.monomials.specs.Exponents.{exponents_of}
use Rattle.formal_sums.specs.Combinations.{IsSyzygy, combination}
use Rattle.formal_sums.specs.FormalSums.{Each, FormalSum, HasRank, IsSame, Key, scale}
use Rattle.formal_sums.proofs.Combining.{Each_map}
use Rattle.formal_sums.proofs.WeightedSums.{Each_append}
use Rattle.orders.proofs.KeyOrdering.{greater_trans}
use Rattle.orders.specs.KeyOrders.{Descends, IsKeyOrder, induced}
use Rattle.bases.specs.Leads.{IsMonicList, head_coefficient, head_key, leads}
use Rattle.bases.specs.Settings.{IsLawful}
use Rattle.term_lists.proofs.NormalVectors.{residues_of}
use Rattle.term_lists.proofs.Scaling.{take_item}
use Rattle.term_lists.specs.Rings.{setting, variables}
use Rattle.term_lists.specs.Vectors.{AreVectorsOver, HasPositions, IsMonomialOver, IsTerm, IsVectorOver, key_of, sum_of, sums_of}
use Rattle.term_lists.specs.declared.key.Key.{Key as CodeKey}
use Rattle.term_lists.specs.declared.ring.Ring.{Ring}
use Rattle.vector_division.proofs.Members.{sums_at}
use Rattle.vector_division.specs.Reductions.{cofactors_of}
use Rattle.vector_division.specs.declared.reduction.ScaledProduct.{ScaledProduct}
use Rattle.resolution_maps.specs.Inducing.{Tower, tower_comparison}
use Rattle.induced_leads.specs.PairLeads.{ArePairLeads, IsPairKey}
use Rattle.induced_leads.proofs.Pushing.{length-pushed, pushed_default}
use Rattle.schreyer_resolution.proofs.Making.{negated, terms_negated, whole_syzygy}
use Rattle.schreyer_resolution.proofs.FirstMaps.{pair_at}
use Rattle.schreyer_resolution.proofs.Trailing.{key_inside}
use Rattle.schreyer_resolution.specs.Columns.{AreColumnsTo, IsColumnOf, negated_term}
use Rattle.numbered_sums.specs.ProductEntries.{AreReduced}
use Rattle.schreyer_resolution.specs.declared.products.Product.{Product}
use Rattle.schreyer_resolution.specs.Sharing.{AreLastQuotients, AreColumnsMade, IsLastQuotient, IsColumnMade}
use Rattle.schreyer_resolution.specs.Steps.{IsLastDivisor}
use Rattle.schreyer_resolution.specs.Turns.{product_term, quotient_at, quotients_at}

abbrev Terms : Type 0
Terms = List (CodeKey × ℕ)

module _ (ring : Ring) (cols : List Terms) where
  abbrev n : ℕ
  n = variables ring

  abbrev p : ℕ
  p = ring.modulus.value

  abbrev F : List (FormalSum (variables ring))
  F = sums_of (variables ring) cols

  -- the terms behind the lead
  terms_of : (qs : List ScaledProduct) → Each (IsLastQuotient ring cols) qs → Each (IsTerm (variables ring) ring.weights ring.modulus.value) (map (negated_term ring.modulus.value) qs)
  terms_of [] h = tt
  terms_of (q ∷ qs) h =
      let r = h.0.reduced in
      let s = h.0.nonzero in
      let pos : 0 < p = omega (arith, r) in
      let low : p - q.residue < p = omega (arith, r, s) in
      let is : (p - q.residue) % p ≡ p - q.residue = mod-eq_of_lt low in (
        record { weighed = h.0.weighed; nonzero = omega (arith, is, r); reduced = mod-lt (p - q.residue) pos },
        terms_of qs h.1,
      )

  pub column_terms_over :
      (key : CodeKey) (qs : List ScaledProduct) → 1 < ring.modulus.value → IsMonomialOver ring key.monomial → Each (IsLastQuotient ring cols) qs
      → Each (IsTerm (variables ring) ring.weights ring.modulus.value) ((key, 1) ∷ map (negated_term ring.modulus.value) qs)
  column_terms_over key qs one w h = (record { weighed = w; nonzero = omega arith; reduced = one }, terms_of qs h)

  places : (qs : List ScaledProduct) → Each (IsLastQuotient ring cols) qs → HasPositions (length cols) (map (negated_term ring.modulus.value) qs)
  places [] h = tt
  places (q ∷ qs) h = (h.0.index, places qs h.1)

  pub column_places : (key : CodeKey) (qs : List ScaledProduct) → key.position < length cols → Each (IsLastQuotient ring cols) qs → HasPositions (length cols) ((key, 1) ∷ map (negated_term ring.modulus.value) qs)
  column_places key qs lt h = (lt, places qs h)

  lasts : (qs : List ScaledProduct) → Each (IsLastQuotient ring cols) qs → Each (λ t. IsLastDivisor F t.0) (sum_of (variables ring) (map (negated_term ring.modulus.value) qs))
  lasts [] h = tt
  lasts (q ∷ qs) h = (h.0.last, lasts qs h.1)

  ranks : (qs : List ScaledProduct) → Each (IsLastQuotient ring cols) qs → HasRank (length F) (cofactors_of (variables ring) qs)
  ranks [] h = tt
  ranks (q ∷ qs) h = (let i = h.0.index in omega (arith, i, length-map cols (λ v. sum_of (variables ring) v)), ranks qs h.1)

  residues : (qs : List ScaledProduct) → Each (IsLastQuotient ring cols) qs → Each (λ t. t.1 < ring.modulus.value) (cofactors_of (variables ring) qs)
  residues [] h = tt
  residues (q ∷ qs) h = (h.0.reduced, residues qs h.1)

  -- terms that strictly descend, 1 at the key and the quotients with the other sign, are the column
  pub column_by_quotients :
      (compare : (m : ℕ) → Key m → Key m → Ordering) (rank : ℕ) → IsLawful (setting ring (variables ring) (compare (variables ring)) rank)
      → IsMonicList (setting ring (variables ring) (compare (variables ring)) rank) (sums_of (variables ring) cols)
      → (key : CodeKey) → IsPairKey (sums_of (variables ring) cols) (key_of (variables ring) key) → (qs : List ScaledProduct) → AreLastQuotients ring cols key qs
      → (t : Tower) (items : Terms) → tower_comparison t (variables ring) ≡ induced (compare (variables ring)) (leads (sums_of (variables ring) cols))
      → items ≡ (key, 1) ∷ map (negated_term ring.modulus.value) qs → IsVectorOver ring (tower_comparison t) items
      → IsColumnOf ring compare cols key items
  column_by_quotients compare rank lawful monic key pair qs h t items above is v =
      let K = key_of (variables ring) key in
      let S = setting ring (variables ring) (compare (variables ring)) rank in
      let here : sum_of (variables ring) items ≡ (K, 1) ∷ sum_of (variables ring) (map (negated_term ring.modulus.value) qs) = ap (sum_of (variables ring)) is in
      let whole : sum_of (variables ring) items ≡ (K, 1) ∷ negated ring.modulus.value (cofactors_of (variables ring) qs) = here ∙ ap (λ z. (K, 1) ∷ z) (terms_negated (variables ring) ring.modulus.value qs) in
      let same : IsSame ring.modulus.value (scale 1 (exponents_of (variables ring) key.monomial.exponents) (get_or F key.position [])) (combination F (cofactors_of (variables ring) qs)) =
      subst (λ w. IsSame ring.modulus.value (scale 1 (exponents_of (variables ring) key.monomial.exponents) w) (combination F (cofactors_of (variables ring) qs))) (sym (sums_at (variables ring) cols key.position)) h.sum in
      record {
        lead = ap head_key here;
        one = ap head_coefficient here;
        normal = record { descends = subst (λ o. Descends o (sum_of (variables ring) items)) above v.descends; residues = residues_of (variables ring) ring.weights ring.modulus.value items v.each };
        syzygy = subst (IsSyzygy ring.modulus.value F) (sym whole) (whole_syzygy S lawful F monic K pair (cofactors_of (variables ring) qs) (ranks qs h.each) (residues qs h.each) same);
        last = subst (λ (w : FormalSum (variables ring)). Each (λ t. IsLastDivisor F t.0) (drop 1 w)) (sym here) (lasts qs h.each);
      }

-- ---- terms that strictly descend
last_of : {X : Type 0} (P : X → Type 0) (xs : List X) (x : X) → Each P (xs ++ x ∷ []) → P x
last_of P [] x h = h.0
last_of P (y ∷ xs) x h = last_of P xs x h.1

-- one more below the last one
descends_pushed :
    {n : ℕ} (compare : Key n → Key n → Ordering) → IsKeyOrder 0 compare → (v : FormalSum n) (a b : Key n × ℕ)
    → Descends compare (v ++ a ∷ []) → compare a.0 b.0 ≡ Greater → Descends compare ((v ++ a ∷ []) ++ b ∷ [])
descends_pushed compare order [] a b h g = ((g, tt), (tt, tt))
descends_pushed compare order (t ∷ v) a b h g = (
  Each_append _ (v ++ a ∷ []) (b ∷ []) h.0 (greater_trans order t.0 a.0 b.0 (last_of (λ u. compare t.0 u.0 ≡ Greater) v a h.0) g, tt),
  descends_pushed compare order v a b h.1 g,
)

pub descends_more :
    (n : ℕ) (compare : Key n → Key n → Ordering) → IsKeyOrder 0 compare → (terms : Terms) (i j : ℕ) (a b : CodeKey × ℕ)
    → i ≡ j + 1 → i < length terms → a ≡ get_or terms j a → b ≡ get_or terms i b → Descends compare (sum_of n (take i terms))
    → compare (key_of n a.0) (key_of n b.0) ≡ Greater → Descends compare (sum_of n (take (i + 1) terms))
descends_more n compare order terms i j a b e lt at bt h g =
    let view : CodeKey × ℕ → Key n × ℕ = λ t. (key_of n t.0, t.1) in
    let first : take i terms ≡ take j terms ++ a ∷ [] = ap (λ x. take x terms) e ∙ take_item terms j a (omega (arith, e, lt)) at in
    let first_sum : sum_of n (take i terms) ≡ sum_of n (take j terms) ++ view a ∷ [] = ap (sum_of n) first ∙ map-append view (take j terms) (a ∷ []) in
    let both : sum_of n (take (i + 1) terms) ≡ (sum_of n (take j terms) ++ view a ∷ []) ++ view b ∷ [] =
    ap (sum_of n) (take_item terms i b lt bt) ∙ map-append view (take i terms) (b ∷ []) ∙ ap (λ v. v ++ view b ∷ []) first_sum in
    subst (Descends compare) (sym both) (descends_pushed compare order (sum_of n (take j terms)) (view a) (view b) (subst (Descends compare) first_sum h) g)

-- ---- the columns that are made
pub made_of :
    (ring : Ring) (cols : List Terms) (t : Tower) (key : CodeKey) (products : List Product) (terms : Terms) (taken : List (ℕ × ℕ)) (made : Terms)
    → 1 < ring.modulus.value → IsMonomialOver ring key.monomial → t.ring ≡ ring → terms ≡ map product_term products
    → AreLastQuotients ring cols key (quotients_at products taken)
    → made ≡ (key, 1) ∷ map (negated_term t.ring.modulus.value) (map (quotient_at terms) taken)
    → Descends (tower_comparison t (variables t.ring)) (sum_of (variables t.ring) made) → IsColumnMade ring cols t key made
made_of ring cols t key products terms taken made one w over by h is descends =
    let qs = quotients_at products taken in
    let here : made ≡ (key, 1) ∷ map (negated_term ring.modulus.value) qs =
    is ∙ ap₂ (λ (r : Ring) (ts : Terms). (key, 1) ∷ map (negated_term r.modulus.value) (map (quotient_at ts) taken)) over by in
    record {
      quotients = qs;
      of_product = h;
      is = here;
      vector = record {
        each = subst (Each (IsTerm (variables ring) ring.weights ring.modulus.value)) (sym here) (column_terms_over ring cols key qs one w h.each);
        descends = subst (λ r. Descends (tower_comparison t (variables r)) (sum_of (variables r) made)) over descends;
      };
    }

pub made_none : (ring : Ring) (cols : List Terms) (t : Tower) (keys : List CodeKey) → AreColumnsMade ring cols t keys 0 []
made_none ring cols t keys = record { sized = refl; each = λ c k lt. absurd (omega (arith, lt)) }

pub made_next :
    (ring : Ring) (cols : List Terms) (t : Tower) (keys : List CodeKey) (k : ℕ) (next : List Terms) (v : Terms) (key : CodeKey)
    → AreColumnsMade ring cols t keys k next → k < length keys → key ≡ get_or keys k key → IsColumnMade ring cols t key v
    → AreColumnsMade ring cols t keys (k + 1) (next ++ v ∷ [])
made_next ring cols t keys k next v key h lt is m = record {
  sized = length-pushed next v ∙ ap (λ z. z + 1) h.sized;
  each = λ c x l e. pushed_default (λ i w. (y : CodeKey) → y ≡ get_or keys i y → IsColumnMade ring cols t y w) [] next v k h.sized (λ i l' y e'. h.each i y l' e')
      (λ y e'. subst (λ z. IsColumnMade ring cols t z v) (is ∙ get_or_default keys k key y lt ∙ sym e') m) c l x e;
}

-- they are the columns to their keys
pub columns_of_made :
    (ring : Ring) (compare : (m : ℕ) → Key m → Key m → Ordering) (cols : List Terms) (t : Tower) (keys : List CodeKey) (rank : ℕ)
    → IsLawful (setting ring (variables ring) (compare (variables ring)) rank)
    → IsMonicList (setting ring (variables ring) (compare (variables ring)) rank) (sums_of (variables ring) cols)
    → tower_comparison t (variables ring) ≡ induced (compare (variables ring)) (leads (sums_of (variables ring) cols))
    → ArePairLeads (sums_of (variables ring) cols) (map (key_of (variables ring)) keys)
    → (k : ℕ) (next : List Terms) → k ≤ length keys → AreColumnsMade ring cols t keys k next → AreColumnsTo ring compare cols t keys k next
columns_of_made ring compare cols t keys rank lawful monic above pairs k next le h = record {
  count = h.sized;
  vectors = all (IsVectorOver ring (tower_comparison t)) next (λ c lt. (made c lt).vector);
  ranked = all (HasPositions (length cols)) next (λ c lt. let m = made c lt in subst (HasPositions (length cols)) (sym m.is)
      (column_places ring cols (key_at c) m.quotients (key_inside (variables ring) cols (key_at c) (pair c (inside c lt))) m.of_product.each));
  each = λ c key lt is. let m = h.each c key lt is in
      column_by_quotients ring cols compare rank lawful monic key (pair_at (variables ring) (sums_of (variables ring) cols) keys c key pairs (omega (arith, lt, le)) is) m.quotients m.of_product t (get_or next c []) above m.is m.vector;
}
  where
    none : CodeKey
    none = record { position = 0; monomial = record { exponents = []; degree = 0 } }

    key_at : ℕ → CodeKey
    key_at c = get_or keys c none

    inside : (c : ℕ) → c < length next → c < length keys
    inside c lt = omega (arith, lt, le, h.sized)

    at : (c : ℕ) → c < length keys → get_or keys c none ≡ get_or keys c (get_or keys c none)
    at c lt = get_or_default keys c none (get_or keys c none) lt

    made : (c : ℕ) → c < length next → IsColumnMade ring cols t (get_or keys c none) (get_or next c [])
    made c lt = h.each c (get_or keys c none) (omega (arith, lt, h.sized)) (at c (inside c lt))

    pair : (c : ℕ) → c < length keys → IsPairKey (sums_of (variables ring) cols) (key_of (variables ring) (get_or keys c none))
    pair c lt = pair_at (variables ring) (sums_of (variables ring) cols) keys c (get_or keys c none) pairs lt (at c lt)

    all : (P : Terms → Type 0) (xs : List Terms) → ((c : ℕ) → c < length xs → P (get_or xs c [])) → Each P xs
    all P [] f = tt
    all P (x ∷ xs) f = (f 0 (omega arith), all P xs (λ c lt. f (suc c) (omega (arith, lt))))

-- ---- what the calls ask for
pub positions_of :
    (n : ℕ) (cols : List Terms) (keys : List CodeKey) → ArePairLeads (sums_of n cols) (map (key_of n) keys) → Each (λ k. k.position < length cols) keys
positions_of n cols keys pairs = all keys (λ c k lt is. key_inside n cols k (pair_at n (sums_of n cols) keys c k pairs lt is))
  where
    all : (xs : List CodeKey) → ((c : ℕ) (k : CodeKey) → c < length xs → k ≡ get_or xs c k → k.position < length cols) → Each (λ k. k.position < length cols) xs
    all [] f = tt
    all (x ∷ xs) f = (f 0 x (omega arith) refl, all xs (λ c k lt is. f (suc c) k (omega (arith, lt)) is))

pub vectors_reduced : (ring : Ring) (compare : (m : ℕ) → Key m → Key m → Ordering) (cols : List Terms) → AreVectorsOver ring compare cols → AreReduced ring.modulus.value cols
vectors_reduced ring compare [] h = tt
vectors_reduced ring compare (v ∷ cols) h = (Each_map _ _ v (λ t x. x.reduced) h.0.each, vectors_reduced ring compare cols h.1)
