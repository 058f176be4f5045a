-- Products that come of a pair: each one's lead is a key of an earlier one
use Rattle.std.proofs.Common.{List, [], append-nil, append_assoc, arith, get_or, inl, inr, length, map, subst, sym, ℕ, ◌++◌, ◌<◌, ◌∷◌, ◌⊎◌}
use Rattle.std.specs.Prelude.{Contains}
use Rattle.std.proofs.lemmas.List.Elements.{Contains-append_left, Contains-append_right}
use Rattle.monomials.specs.Exponents.{exponents_of}
use Rattle.formal_sums.proofs.WeightedSums.{Each_append}
use Rattle.formal_sums.specs.Combinations.{combination}
use Rattle.formal_sums.specs.FormalSums.{Each, FormalSum, Key, scale}
use Rattle.term_lists.proofs.Parts.{Each_split}
use Rattle.monomial_orders.specs.Kept.{IsWeighed}
use Rattle.term_lists.specs.Vectors.{sums_of}
use Rattle.term_lists.specs.declared.key.Key.{Key as CodeKey}
use Rattle.module_vectors.specs.Trails.{AreMet, HasKey, IsInProduct, IsMet, KeptProduct, kept_product_lead}
use Rattle.vector_division.proofs.Members.{sums_at}
use Rattle.vector_division.proofs.Occurring.{Contains_here, Contains_later, key_of_sum, scaled_key}
use Rattle.vector_division.specs.Reductions.{AreMetFrom, cofactors_of, unscaled}
use Rattle.vector_division.specs.declared.reduction.ScaledProduct.{ScaledProduct}
use Rattle.s_vectors.specs.PairProducts.{AreProductsLinked, ArePairProducts}

module _ (n : ℕ) (list : List (List (CodeKey × ℕ))) where
  -- ---- keys of sums of parts
  -- a key of the combination is one of a part's product
  pub key_of_parts :
      (parts : List ScaledProduct) (k : Key n)
      → HasKey (combination (sums_of n list) (cofactors_of n parts)) k
      → (s : KeptProduct) × Contains (map unscaled parts) s × IsInProduct n list k s
  key_of_parts [] k (i, lt, e) = absurd (let z : i < 0 = lt in omega arith)
  key_of_parts (q ∷ parts) k h = go (key_of_parts parts k) (key_of_sum (scale q.residue (exponents_of n q.monomial.exponents) (get_or (sums_of n list) q.index [])) (combination (sums_of n list) (cofactors_of n parts)) k h)
    where
      go :
          (HasKey (combination (sums_of n list) (cofactors_of n parts)) k → (s : KeptProduct) × Contains (map unscaled parts) s × IsInProduct n list k s)
          → HasKey (scale q.residue (exponents_of n q.monomial.exponents) (get_or (sums_of n list) q.index [])) k ⊎ HasKey (combination (sums_of n list) (cofactors_of n parts)) k
          → (s : KeptProduct) × Contains (map unscaled (q ∷ parts)) s × IsInProduct n list k s
      go f (inl a) =
          let r = scaled_key q.residue (exponents_of n q.monomial.exponents) (get_or (sums_of n list) q.index []) k a in
          (unscaled q, Contains_here (unscaled q) (map unscaled parts), (r.0, subst (λ v. HasKey v r.0) (sums_at n list q.index) r.1, r.2))
      go f (inr a) =
          let r = f a in
          (r.0, Contains_later (unscaled q) r.0 (map unscaled parts) r.1, r.2)

  -- ---- what is met
  -- by more products
  met_more : (v : FormalSum n) (e f : List KeptProduct) (k : Key n) → IsMet n v list e k → IsMet n v list (e ++ f) k
  met_more v e f k (inl h) = inl h
  met_more v e f k (inr (s, c, p)) = inr (s, Contains-append_left e f s c, p)

  -- by v, of which each key is met by these products
  met_through :
      (v : FormalSum n) (top e : List KeptProduct) (k : Key n)
      → ((l : Key n) → HasKey v l → IsMet n [] list top l) → IsMet n v list e k → IsMet n [] list (top ++ e) k
  met_through v top e k f (inl h) = met_more [] top e k (f k h)
  met_through v top e k f (inr (s, c, p)) = inr (s, Contains-append_right top e s c, p)

  -- products that v and earlier ones meet are met by what v is made of
  pub steps_through :
      (v : FormalSum n) (top e products : List KeptProduct)
      → ((l : Key n) → HasKey v l → IsMet n [] list top l) → AreMet n v list e products → AreMet n [] list (top ++ e) products
  steps_through v top e [] f h = tt
  steps_through v top e (s ∷ products) f h = (
    met_through v top e (kept_product_lead n list s) f h.0,
    subst (λ x. AreMet n [] list x products) (sym (append_assoc top e (s ∷ []))) (steps_through v top (e ++ s ∷ []) products f h.1),
  )

  -- the same of quotients
  pub quotients_met :
      (v : FormalSum n) (e : List KeptProduct) (qs : List ScaledProduct) → AreMetFrom n v list e qs → AreMet n v list e (map unscaled qs)
  quotients_met v e [] h = tt
  quotients_met v e (q ∷ qs) h = (h.0, quotients_met v (e ++ unscaled q ∷ []) qs h.1)

  met_append :
      (v : FormalSum n) (e xs ys : List KeptProduct)
      → AreMet n v list e xs → AreMet n v list (e ++ xs) ys → AreMet n v list e (xs ++ ys)
  met_append v e [] ys h g = subst (λ x. AreMet n v list x ys) (append-nil e) g
  met_append v e (s ∷ xs) ys h g = (h.0, met_append v (e ++ s ∷ []) xs ys h.1 (subst (λ x. AreMet n v list x ys) (sym (append_assoc e (s ∷ []) xs)) g))

  met_front : (v : FormalSum n) (e xs ys : List KeptProduct) → AreMet n v list e (xs ++ ys) → AreMet n v list e xs
  met_front v e [] ys h = tt
  met_front v e (s ∷ xs) ys h = (h.0, met_front v (e ++ s ∷ []) xs ys h.1)

  -- ---- products of a pair
  -- the first ones
  pub pair_front : (ws : List ℕ) (k : Key n) (xs ys : List KeptProduct) → ArePairProducts n ws list k (xs ++ ys) → ArePairProducts n ws list k xs
  pair_front ws k xs ys h = record {
    known = (Each_split (λ s. s.0 < length list) xs ys h.known).0;
    weighed = (Each_split (λ s. IsWeighed n ws s.1) xs ys h.weighed).0;
    linked = go xs h.linked;
  }
    where
      go : (zs : List KeptProduct) → AreProductsLinked n list k (zs ++ ys) → AreProductsLinked n list k zs
      go [] l = tt
      go (s ∷ zs) l = (l.0, met_front [] (s ∷ []) zs ys l.1)

  -- and more of them, which these meet
  pub pair_more :
      (ws : List ℕ) (k : Key n) (first : KeptProduct) (xs ys : List KeptProduct)
      → ArePairProducts n ws list k (first ∷ xs) → Each (λ s. s.0 < length list) ys → Each (λ s. IsWeighed n ws s.1) ys
      → AreMet n [] list (first ∷ xs) ys → ArePairProducts n ws list k ((first ∷ xs) ++ ys)
  pair_more ws k first xs ys h known weighed met = record {
    known = Each_append (λ s. s.0 < length list) (first ∷ xs) ys h.known known;
    weighed = Each_append (λ s. IsWeighed n ws s.1) (first ∷ xs) ys h.weighed weighed;
    linked = (h.linked.0, met_append [] (first ∷ []) xs ys h.linked.1 met);
  }
