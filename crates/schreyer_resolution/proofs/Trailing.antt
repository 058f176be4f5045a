-- The trail of a column: it begins with a pair, and its products are met
use Rattle.std.specs.declared.cmp.Ordering.{Ordering}
use Rattle.std.proofs.Common.{List, [], ap, ap₂, append_assoc, append-nil, arith, get_or, inl, inr, length, map, refl, subst, subst₂, sym, ℕ, ◌+◌, ◌++◌, ◌<◌, ◌≤◌, ◌∙◌, ◌∷◌, ◌≡◌, ◌⊎◌}
use Rattle.std.specs.Prelude.{Bool, IsTrue}
use Rattle.std.proofs.lemmas.Bool.{cases_lt}
use Rattle.std.proofs.lemmas.List.{length-map}
use Rattle.monomials.proofs.Monomials.{times-quotient}
use Rattle.monomials.specs.Exponents.{Exponents, exponents_of, lcm, quotient, times}
use Rattle.formal_sums.proofs.Combining.{Each_map}
use Rattle.formal_sums.proofs.WeightedSums.{Each_append}
use Rattle.formal_sums.specs.FormalSums.{Each, FormalSum, Key}
use Rattle.bases.specs.Leads.{head_key, leads}
use Rattle.bases.specs.Settings.{IsLawful}
use Rattle.monomial_orders.specs.Kept.{IsWeighed, Monomial}
use Rattle.term_lists.proofs.Monomials.{monomial_at}
use Rattle.term_lists.proofs.NormalVectors.{residues_of}
use Rattle.term_lists.specs.Rings.{setting, variables}
use Rattle.term_lists.specs.Stops.{HasMonomial, IsTooGreat}
use Rattle.term_lists.specs.Vectors.{AreVectorsOver, key_of, sum_of, sums_of}
use Rattle.term_lists.specs.declared.key.Key.{Key as CodeKey}
use Rattle.term_lists.specs.declared.ring.Ring.{Ring}
use Rattle.module_vectors.specs.Trails.{AreMet, HasKey, IsChain, IsInProduct, IsMet, IsPairStart, KeptProduct, kept_product_lead, last_product, lead_at}
use Rattle.module_vectors.specs.declared.trail.KeptTrail.{KeptTrail}
use Rattle.module_vectors.specs.declared.trail.TrailStart.TheVariants.{Pair}
use Rattle.vector_division.proofs.Members.{sums_at}
use Rattle.vector_division.proofs.Occurring.{Contains_here, Contains_later, at_key, occurring, scaled_key}
use Rattle.vector_division.specs.Reductions.{AreMetFrom, unscaled}
use Rattle.vector_division.specs.declared.reduction.ScaledProduct.{ScaledProduct}
use Rattle.resolution_maps.specs.Inducing.{Columns}
use Rattle.induced_leads.specs.PairLeads.{IsPairKey}
use Rattle.schreyer_resolution.specs.Chains.{IsColumnChain, IsFailing}
use Rattle.schreyer_resolution.specs.Columns.{IsColumnTrail, IsPartner, IsProductOf, IsWhetherPair}

abbrev Terms : Type 0
Terms = List (CodeKey × ℕ)

-- ---- what is met by v is met by a product that has all keys of v
module _ (n : ℕ) (v : FormalSum n) (list : List Terms) (x : KeptProduct) (all : (k : Key n) → HasKey v k → IsInProduct n list k x) where
  met_behind : (earlier : List KeptProduct) (k : Key n) → IsMet n v list earlier k → IsMet n [] list (x ∷ earlier) k
  met_behind earlier k (inl h) = inr (x, Contains_here x earlier, all k h)
  met_behind earlier k (inr (s, c, p)) = inr (s, Contains_later x s earlier c, p)

  pub steps_behind :
      (earlier : List KeptProduct) (qs : List ScaledProduct) (s : KeptProduct)
      → AreMetFrom n v list earlier qs → IsMet n v list (earlier ++ map unscaled qs) (kept_product_lead n list s)
      → AreMet n [] list (x ∷ earlier) (map unscaled qs ++ s ∷ [])
  steps_behind earlier [] s h m = (subst (λ e. IsMet n [] list (x ∷ e) (kept_product_lead n list s)) (append-nil earlier) (met_behind (earlier ++ []) (kept_product_lead n list s) m), tt)
  steps_behind earlier (q ∷ qs) s h m = (
    met_behind earlier (kept_product_lead n list (unscaled q)) h.0,
    steps_behind (earlier ++ unscaled q ∷ []) qs s h.1 (subst (λ e. IsMet n v list e (kept_product_lead n list s)) (sym (append_assoc earlier (unscaled q ∷ []) (map unscaled qs))) m),
  )

last_pushed : (first s : KeptProduct) (xs : List KeptProduct) → last_product first (xs ++ s ∷ []) ≡ s
last_pushed first s [] = refl
last_pushed first s (x ∷ xs) = last_pushed x s xs

each_steps : (P : KeptProduct → Type 0) (qs : List ScaledProduct) → Each (λ q. P (unscaled q)) qs → Each P (map unscaled qs)
each_steps P [] h = tt
each_steps P (q ∷ qs) h = (h.0, each_steps P qs h.1)

module _ (ring : Ring) (compare : (n : ℕ) → Key n → Key n → Ordering) (rank : ℕ) (lawful : IsLawful (setting ring (variables ring) (compare (variables ring)) rank)) (cols : List Terms)
    (vectors : AreVectorsOver ring compare cols) (key : CodeKey) (inside : key.position < length cols) (weighed : IsWeighed (variables ring) ring.weights key.monomial) where
  abbrev first : KeptProduct
  first = (key.position, key.monomial)

  -- the key's product alone
  pub first_chain : (last : Monomial) → HasMonomial (get_or cols key.position []) last → IsTooGreat key.monomial last → IsColumnChain (variables ring) ring.weights cols (key.position, key.monomial) [] last
  first_chain last has great = record {
    known = (inside, tt);
    weighed = (weighed, tt);
    met = tt;
    of_product = has;
    last_weighed = monomial_at (variables ring) ring.weights ring.modulus.value (compare (variables ring)) cols key.position last vectors has;
    too_great = great;
  }

  -- each key of the product is one of the first product's
  in_first : (v : Terms) → IsProductOf ring compare cols key v → (k : Key (variables ring)) → HasKey (sum_of (variables ring) v) k → IsInProduct (variables ring) cols k (key.position, key.monomial)
  in_first v h k c =
      at_key (λ k. IsInProduct (variables ring) cols k (key.position, key.monomial)) (sum_of (variables ring) v) k
      (Each_map _ _ (sum_of (variables ring) v) (λ t x. scaled_key 1 (exponents_of (variables ring) key.monomial.exponents) (sum_of (variables ring) (get_or cols key.position [])) t.0 x)
      (occurring (setting ring (variables ring) (compare (variables ring)) rank) lawful (sum_of (variables ring) v) _ h.vector.descends (residues_of (variables ring) ring.weights ring.modulus.value v h.vector.each) h.is)) c

  -- the quotients' products, and one more
  pub later_chain :
      (qs : List ScaledProduct) (s : KeptProduct) (last : Monomial) → IsFailing ring compare cols key qs s last
      → IsColumnChain (variables ring) ring.weights cols (key.position, key.monomial) (map unscaled qs ++ s ∷ []) last
  later_chain qs s last f =
      let e : last_product (key.position, key.monomial) (map unscaled qs ++ s ∷ []) ≡ s = last_pushed (key.position, key.monomial) s (map unscaled qs) in
      record {
        known = (inside, Each_append (λ x. x.0 < length cols) (map unscaled qs) (s ∷ []) (each_steps (λ x. x.0 < length cols) qs (Each_map _ _ qs (λ q h. h.index) f.quotients)) (f.due.index, tt));
        weighed = (weighed, Each_append (λ x. IsWeighed (variables ring) ring.weights x.1) (map unscaled qs) (s ∷ []) (each_steps (λ x. IsWeighed (variables ring) ring.weights x.1) qs (Each_map _ _ qs (λ q h. h.variables) f.quotients)) (f.due.variables, tt));
        met = steps_behind (variables ring) (sum_of (variables ring) f.product) cols (key.position, key.monomial) (in_first f.product f.of_column) [] qs s f.met f.due.met;
        of_product = subst (λ z. HasMonomial (get_or cols z.0 []) last) (sym e) f.due.monomial;
        last_weighed = f.due.last_variables;
        too_great = subst (λ z. IsTooGreat z.1 last) (sym e) f.due.too_great;
      }

-- what was kept is the trail of a column
pub column_trail :
    (ring : Ring) (below : Columns) (cols : List Terms) (key : CodeKey) (j : ℕ) (products later : List KeptProduct) (last : Monomial) (t : KeptTrail)
    → ((i : ℕ) → i < length cols → 0 < length (get_or cols i [])) → IsPartner (variables ring) cols key j
    → products ≡ (key.position, key.monomial) ∷ later → IsColumnChain (variables ring) ring.weights cols (key.position, key.monomial) later last
    → t.ring ≡ ring → t.rank ≡ 0 → t.generators ≡ [] → t.below.items ≡ below → t.start ≡ Pair key.position j → t.vector ≡ []
    → t.members ≡ cols → t.products.items ≡ products → t.last ≡ last → IsColumnTrail ring below cols t
column_trail ring below cols key j products later last t some pair split chain e_ring e_rank e_generators e_below e_start e_vector e_members e_products e_last = record {
  trail = (
    (key.position, key.monomial),
    later,
    subst (λ r. IsChain (variables r) t (key.position, key.monomial) later) (sym e_ring) (record {
      products = e_products ∙ split;
      known = subst (λ m. Each (λ x. x.0 < length m) ((key.position, key.monomial) ∷ later)) (sym e_members) chain.known;
      variables = subst (λ r. Each (λ x. IsWeighed (variables ring) r.weights x.1) ((key.position, key.monomial) ∷ later)) (sym e_ring) chain.weighed;
      begins = rw (e_start, e_vector, e_members) (begins, refl);
      met = rw (e_vector, e_members) chain.met;
      last = rw (e_members, e_last) chain.of_product;
      last_variables = subst₂ (λ r m. IsWeighed (variables ring) r.weights m) (sym e_ring) (sym e_last) chain.last_weighed;
      too_great = rw (e_last) chain.too_great;
    }),
  );
  over = e_ring;
  rank_none = e_rank;
  generators = e_generators;
  start = (key.position, j, e_start);
  members = e_members;
  below_is = e_below;
}
  where
    i : ℕ
    i = key.position

    a : Exponents (variables ring)
    a = (lead_at (variables ring) cols key.position).1

    b : Exponents (variables ring)
    b = (lead_at (variables ring) cols j).1

    begins : IsPairStart (variables ring) cols key.position j (key.position, key.monomial)
    begins = record {
      left = (let x = pair.later in let y = pair.inside in omega (arith, x, y));
      right = pair.inside;
      left_some = some key.position (let x = pair.later in let y = pair.inside in omega (arith, x, y));
      right_some = some j pair.inside;
      apart = λ e. (let x = pair.later in omega (arith, x, e));
      position = pair.position;
      lcm = ap (λ x. ((lead_at (variables ring) cols key.position).0, x))
          (ap (λ z. times z (lead_at (variables ring) cols key.position).1) pair.is ∙ times-quotient (lead_at (variables ring) cols key.position).1 (lead_at (variables ring) cols j).1);
    }

-- ---- partners
module _ (n : ℕ) (cols : List Terms) (key : CodeKey) where
  lead_is : (i : ℕ) → leads (sums_of n cols) i ≡ lead_at n cols i
  lead_is i = ap head_key (sums_at n cols i)

  pub partner_of_pair : IsPairKey (sums_of n cols) (key_of n key) → (j : ℕ) × IsPartner n cols key j
  partner_of_pair pair = (
    pair.later,
    record {
      later = pair.after;
      inside = (let x = pair.inside in omega (arith, x, length-map cols (λ v. sum_of n v)));
      position = ap (λ z. z.0) (sym (lead_is key.position)) ∙ pair.position ∙ ap (λ z. z.0) (lead_is pair.later);
      is = ap (λ z. z.1) pair.is ∙ ap₂ (λ x y. quotient (lcm x.1 y.1) x.1) (lead_is key.position) (lead_is pair.later);
    },
  )

  pub key_inside : IsPairKey (sums_of n cols) (key_of n key) → key.position < length cols
  key_inside pair = let x = pair.after in let y = pair.inside in omega (arith, x, y, length-map cols (λ v. sum_of n v))

  module _ (j : ℕ) (a b : CodeKey) (answer : Bool) (la : lead_at n cols key.position ≡ key_of n a) (lb : lead_at n cols j ≡ key_of n b)
      (w : IsWhetherPair n a b key.monomial answer) where
    pub partner_yes : IsTrue answer → key.position < j → j < length cols → IsPartner n cols key j
    partner_yes told lt inside = record {
      later = lt;
      inside = inside;
      position = ap (λ z. z.0) la ∙ w.position told ∙ sym (ap (λ z. z.0) lb);
      is = w.is told ∙ sym (ap₂ (λ x y. quotient (lcm x.1 y.1) x.1) la lb);
    }

    pub partner_no : (IsTrue answer → ⊥) → IsPartner n cols key j → ⊥
    partner_no other p =
        w.other other (sym (ap (λ z. z.0) la) ∙ p.position ∙ ap (λ z. z.0) lb) (p.is ∙ ap₂ (λ x y. quotient (lcm x.1 y.1) x.1) la lb)

-- one more number is none
pub none_more :
    (n : ℕ) (cols : List Terms) (key : CodeKey) (j : ℕ) → ((i : ℕ) → i < j → IsPartner n cols key i → ⊥) → (IsPartner n cols key j → ⊥)
    → (i : ℕ) → i < j + 1 → IsPartner n cols key i → ⊥
none_more n cols key j h g i lt p = go (cases_lt i j)
  where
    go : (i < j) ⊎ (j ≤ i) → ⊥
    go (inl l) = h i l p
    go (inr e) = let d : i ≡ j = omega (arith, lt, e) in g (subst (IsPartner n cols key) d p)
