-- Products whose leads come from pairs and earlier products
use Rattle.std.proofs.Common.{Bool, Contains, List, [], ap, ap₂, arith, get_or, inl, inr, length, refl, subst, suc, sym, zero, ℕ, ◌+◌, ◌++◌, ◌-◌, ◌<◌, ◌∙◌, ◌∷◌, ◌≡◌, ◌⊎◌}
use Rattle.std.proofs.lemmas.Bool.{cases_eq}
use Rattle.std.proofs.lemmas.List.{get_or_append_left, get_or_push, length_push}
use Rattle.monomials.specs.Exponents.{Exponents, exponents_of, times}
use Rattle.bases.proofs.Meeting.{turn_at, turn_from}
use Rattle.bases.specs.Leads.{head_key}
use Rattle.formal_sums.proofs.WeightedSums.{Each_append}
use Rattle.formal_sums.specs.FormalSums.{Each, FormalSum, Key, scale, shift}
use Rattle.monomial_orders.specs.Kept.{IsWeighed, Monomial}
use Rattle.term_lists.proofs.Scaling.{Each_at}
use Rattle.term_lists.proofs.Parts.{Each_member}
use Rattle.term_lists.specs.Stops.{HasMonomial, IsTooGreat}
use Rattle.term_lists.specs.Vectors.{key_of, sum_of}
use Rattle.term_lists.specs.declared.key.Key.{Key as CodeKey}
use Rattle.module_vectors.specs.Trails.{HasKey, IsInProduct, IsKeptProduct, KeptProduct, lead_at, no_product, kept_product_lead, kept_at}
use Rattle.pair_criteria.specs.declared.pair.Pair.{Pair as CodePair}
use Rattle.vector_division.specs.Progress.{AreWeighed, IsDivisor}
use Rattle.row_matrix.specs.Naming.{NamesNumber}
use Rattle.row_matrix.specs.Rows.{Entry, RowShown, column_key, row_sum, shown_row_at}
use Rattle.symbolic_prep.specs.Plans.{IsMemberPair, IsPlan, IsMemberProduct}
use Rattle.pair_criteria.specs.Traces.{AreTraced}
use Rattle.symbolic_prep.specs.Traces.{IsGreatEnd, IsOfEarlier, IsOfPair, PlanStops, ProductEnds}
use Rattle.symbolic_prep.specs.declared.stop.PlanStop.{PlanStop}
use Rattle.symbolic_prep.specs.declared.stop.PlanStop.TheVariants.{Memory, Degree}
use Rattle.pair_criteria.specs.Pairs.{IsFactorOf, IsLcmOf}

abbrev pub Terms : Type 0
Terms = List (CodeKey × ℕ)

-- ---- where the lead of each product comes from, by its number
pub traced_at :
    (n : ℕ) (list : List (List (CodeKey × ℕ))) (pairs : List CodePair) (products : List KeptProduct)
    → AreTraced n list pairs products → (i : ℕ) → i < length products → IsOfPair n list pairs (kept_at products i) ⊎ IsOfEarlier n list products i (kept_at products i)
traced_at n list pairs products h i lt =
    turn_at (λ (k : Key n). (x : CodePair) × IsLcmOf n pairs k x) (IsInProduct n list) (kept_product_lead n list) no_product products h i lt

traced_from :
    (n : ℕ) (list : List (List (CodeKey × ℕ))) (pairs : List CodePair) (products : List KeptProduct)
    → ((i : ℕ) → i < length products → IsOfPair n list pairs (kept_at products i) ⊎ IsOfEarlier n list products i (kept_at products i)) → AreTraced n list pairs products
traced_from n list pairs products h =
    turn_from (λ (k : Key n). (x : CodePair) × IsLcmOf n pairs k x) (IsInProduct n list) (kept_product_lead n list) no_product products h

-- ---- one more product
module _ (n : ℕ) (list : List (List (CodeKey × ℕ))) (pairs : List CodePair) (products products' : List KeptProduct) (s : KeptProduct) (more : products' ≡ products ++ s ∷ []) where
  old_step : (i : ℕ) → i < length products → kept_at products' i ≡ kept_at products i
  old_step i lt = ap (λ xs. get_or xs i no_product) more ∙ get_or_append_left products (s ∷ []) no_product i lt

  new_step : (i : ℕ) → i ≡ length products → kept_at products' i ≡ s
  new_step i e = ap (λ xs. get_or xs i no_product) more ∙ get_or_push products s no_product i (sym e)

  size : length products' ≡ length products + 1
  size = ap length more ∙ length_push products s

  earlier :
      (i : ℕ) (x y : KeptProduct) → (i < length products + 1) → y ≡ x → IsOfEarlier n list products i x → IsOfEarlier n list products' i y
  earlier i x y le e h = (
    h.0,
    h.1,
    subst (λ z. IsInProduct n list (kept_product_lead n list z) (kept_at products' h.0)) (sym e)
        (subst (IsInProduct n list (kept_product_lead n list x)) (sym (old_step h.0 (omega (arith, h.1)))) h.2),
  )

  moved :
      (i : ℕ) (x y : KeptProduct) → (i < length products + 1) → y ≡ x → IsOfPair n list pairs x ⊎ IsOfEarlier n list products i x
      → IsOfPair n list pairs y ⊎ IsOfEarlier n list products' i y
  moved i x y le e (inl h) = inl (subst (IsOfPair n list pairs) (sym e) h)
  moved i x y le e (inr h) = inr (earlier i x y le e h)

  pub traced_push :
      AreTraced n list pairs products → IsOfPair n list pairs s ⊎ IsOfEarlier n list products (length products) s
      → AreTraced n list pairs products'
  traced_push traced here = traced_from n list pairs products' (λ i lt. elim (cases_eq i (length products)) [
    | inl e ↦ moved i s (kept_at products' i) (omega arith) (new_step i e)
        (subst (λ c. IsOfPair n list pairs s ⊎ IsOfEarlier n list products c s) (sym e) here)
    | inr ne ↦
        let l : i < length products = omega (arith, size) in
        moved i (kept_at products i) (kept_at products' i) (omega arith) (old_step i l) (traced_at n list pairs products traced i l)
  ])

  -- ---- a product that is too great
  pub great_end :
      (ws : List ℕ) (last : Monomial)
      → AreTraced n list pairs products → Each (IsKeptProduct n ws list) products → AreWeighed n ws list → IsMemberProduct n ws list s
      → IsOfPair n list pairs s ⊎ IsOfEarlier n list products (length products) s
      → HasMonomial (get_or list s.0 []) last → IsTooGreat s.1 last → IsGreatEnd n ws list pairs products' last
  great_end ws last h known weighed product here has great =
      let at : kept_at products' (length products' - 1) ≡ s = new_step (length products' - 1) (omega (arith, size)) in
      record {
        some = omega (arith, size);
        known = subst (Each (IsKeptProduct n ws list)) (sym more) (Each_append (IsKeptProduct n ws list) products (s ∷ []) known ((product.member, product.weighed), tt));
        traced = traced_push h here;
        monomial = subst (λ (x : KeptProduct). HasMonomial (get_or list x.0 []) last) (sym at) has;
        weighed =
            let terms : Each (λ (t : CodeKey × ℕ). IsWeighed n ws t.0.monomial) (get_or list s.0 []) = Each_member (λ (v : Terms). Each (λ (t : CodeKey × ℕ). IsWeighed n ws t.0.monomial) v) list s.0 [] weighed product.member in
            subst (IsWeighed n ws) has.2 (Each_at (λ (t : CodeKey × ℕ). IsWeighed n ws t.0.monomial) (get_or list s.0 []) has.1.0 has.0 terms has.1.1 (sym has.1.2));
        too_great = subst (λ (x : KeptProduct). IsTooGreat x.1 last) (sym at) great;
      }

-- what a product that has no row says of the plan's products
pub ends_plan :
    (n : ℕ) (ws : List ℕ) (list : List Terms) (pairs : List CodePair) (products products' : List KeptProduct) (s : KeptProduct) (stop : PlanStop)
    → AreTraced n list pairs products → Each (IsKeptProduct n ws list) products → AreWeighed n ws list → IsMemberProduct n ws list s
    → IsOfPair n list pairs s ⊎ IsOfEarlier n list products (length products) s
    → ProductEnds (get_or list s.0 []) products products' s stop → PlanStops n ws list pairs products' stop
ends_plan n ws list pairs products products' s Memory h known weighed product here e = tt
ends_plan n ws list pairs products products' s (Degree last) h known weighed product here e =
    great_end n list pairs products products' s e.0 ws last h known weighed product here e.1 e.2

-- ---- the products of a plan
each_step : (P : KeptProduct → Type 0) (products : List KeptProduct) → ((i : ℕ) → i < length products → P (kept_at products i)) → Each P products
each_step P [] h = tt
each_step P (s ∷ products) h = (h 0 (omega arith), each_step P products (λ i lt. h (suc i) (omega arith)))

pub plan_steps :
    (n : ℕ) (ws : List ℕ) (list : List Terms) (keys : List CodeKey) (rows : List RowShown) (products : List KeptProduct) (led : List Bool)
    → IsPlan n ws list keys rows products led → Each (IsKeptProduct n ws list) products
plan_steps n ws list keys rows products led h =
    each_step (IsKeptProduct n ws list) products (λ i lt. let o = h.each i (omega (arith, h.count)) in (o.product.member, o.product.weighed))

named_key :
    {n : ℕ} (key : ℕ → Key n) (es : List Entry) (c : ℕ) → NamesNumber es c → HasKey (row_sum key es) (key c)
named_key key [] c (i, lt, e) = absurd (omega arith)
named_key key (x ∷ es) c (zero, lt, e) = (zero, omega arith, ap key e)
named_key key (x ∷ es) c (suc i, lt, e) = let r = named_key key es c (i, omega arith, e) in (suc r.0, omega (arith, r.1), r.2)

scaled_key :
    {n : ℕ} (m : Exponents n) (v : FormalSum n) (k : Key n) → HasKey (scale 1 m v) k → (l : Key n) × HasKey v l × (k ≡ shift m l)
scaled_key m [] k (i, lt, e) = absurd (omega arith)
scaled_key m (t ∷ v) k (zero, lt, e) = (t.0, (zero, omega arith, refl), sym e)
scaled_key m (t ∷ v) k (suc i, lt, e) =
    let r = scaled_key m v k (i, omega arith, e) in
    (r.0, (suc r.1.0, omega (arith, r.1.1), r.1.2), r.2)

-- a product with the lead of a key of the table: the key is one of the product that named it
pub of_earlier :
    (n : ℕ) (ws : List ℕ) (list : List Terms) (keys : List CodeKey) (rows : List RowShown) (products : List KeptProduct) (led : List Bool)
    (s : KeptProduct) (cursor : ℕ)
    → IsPlan n ws list keys rows products led → cursor < length keys → kept_product_lead n list s ≡ column_key n keys cursor
    → IsOfEarlier n list products (length products) s
of_earlier n ws list keys rows products led s cursor h lt e =
    let m = h.met cursor lt in
    let o = h.each m.0 m.1 in
    let there : HasKey (row_sum (column_key n keys) (shown_row_at rows m.0).entries) (column_key n keys cursor) = named_key (column_key n keys) (shown_row_at rows m.0).entries cursor m.2 in
    let x = kept_at products m.0 in
    let r = scaled_key (exponents_of n x.1.exponents) (sum_of n (get_or list x.0 [])) (column_key n keys cursor) (subst (λ v. HasKey v (column_key n keys cursor)) o.named.sum there) in
    (m.0, omega (arith, m.1, h.count), (r.0, r.1, e ∙ r.2))

-- a product that takes a lead to a pair's least common multiple
pub of_pair :
    (n : ℕ) (ws : List ℕ) (list : List Terms) (pairs : List CodePair) (x : CodePair) (member : ℕ) (t : Monomial) (v : Terms) (s : KeptProduct)
    → s ≡ (member, t) → v ≡ get_or list member [] → (lead_at n list member).0 ≡ x.lcm.position → IsFactorOf n ws x.lcm v t
    → Contains pairs x → IsOfPair n list pairs s
of_pair n ws list pairs x member t v s es is position f there =
    subst (IsOfPair n list pairs) (sym es)
    (x, (there, ap₂ (λ (i : ℕ) (m : Exponents n). (i, m)) position (subst (λ w. times (exponents_of n t.exponents) (head_key (sum_of n w)).1 ≡ exponents_of n x.lcm.monomial.exponents) is f.product)))

-- ---- the products of pairs
pub pair_position :
    (n : ℕ) (ws : List ℕ) (list : List Terms) (x : CodePair) → IsMemberPair n ws list x
    → ((lead_at n list x.i).0 ≡ x.lcm.position) × ((lead_at n list x.j).0 ≡ x.lcm.position)
pair_position n ws list x h =
    let e : x.lcm.position ≡ (lead_at n list x.i).0 = ap (λ (k : Key n). k.0) h.lcm in
    (sym e, sym (e ∙ h.position))

pub top_traced :
    (n : ℕ) (ws : List ℕ) (list : List Terms) (pairs : List CodePair) (products products' : List KeptProduct) (x : CodePair) (member : ℕ) (t : Monomial) (v : Terms)
    → AreTraced n list pairs products → products' ≡ products ++ (member, t) ∷ [] → v ≡ get_or list member []
    → (lead_at n list member).0 ≡ x.lcm.position → IsFactorOf n ws x.lcm v t → Contains pairs x → AreTraced n list pairs products'
top_traced n ws list pairs products products' x member t v h more is position f there =
    traced_push n list pairs products products' (member, t) more h (inl (of_pair n ws list pairs x member t v (member, t) refl is position f there))

pub top_stop :
    (n : ℕ) (ws : List ℕ) (list : List Terms) (pairs : List CodePair) (keys : List CodeKey) (rows : List RowShown) (products products' : List KeptProduct) (led : List Bool)
    (x : CodePair) (member : ℕ) (t : Monomial) (v : Terms) (stop : PlanStop)
    → IsPlan n ws list keys rows products led → AreTraced n list pairs products → AreWeighed n ws list → IsMemberProduct n ws list (member, t)
    → v ≡ get_or list member [] → (lead_at n list member).0 ≡ x.lcm.position → IsFactorOf n ws x.lcm v t → Contains pairs x
    → ProductEnds (get_or list member []) products products' (member, t) stop → PlanStops n ws list pairs products' stop
top_stop n ws list pairs keys rows products products' led x member t v stop plan h weighed product is position f there e =
    ends_plan n ws list pairs products products' (member, t) stop h (plan_steps n ws list keys rows products led plan) weighed product
    (inl (of_pair n ws list pairs x member t v (member, t) refl is position f there)) e

-- ---- reducers
pub reducer_traced :
    (n : ℕ) (ws : List ℕ) (list : List Terms) (pairs : List CodePair) (keys : List CodeKey) (rows : List RowShown) (products products' : List KeptProduct) (led : List Bool)
    (s : KeptProduct) (cursor : ℕ) (key : CodeKey)
    → IsPlan n ws list keys rows products led → AreTraced n list pairs products → cursor < length keys
    → key_of n key ≡ column_key n keys cursor → IsDivisor n ws list (key_of n key) s → products' ≡ products ++ s ∷ []
    → AreTraced n list pairs products'
reducer_traced n ws list pairs keys rows products products' led s cursor key plan h lt same d more =
    traced_push n list pairs products products' s more h (inr (of_earlier n ws list keys rows products led s cursor plan lt (d.lead ∙ same)))

pub reducer_stop :
    (n : ℕ) (ws : List ℕ) (list : List Terms) (pairs : List CodePair) (keys : List CodeKey) (rows : List RowShown) (products products' : List KeptProduct) (led : List Bool)
    (s : KeptProduct) (cursor : ℕ) (key : CodeKey) (stop : PlanStop)
    → IsPlan n ws list keys rows products led → AreTraced n list pairs products → AreWeighed n ws list → cursor < length keys
    → key_of n key ≡ column_key n keys cursor → IsDivisor n ws list (key_of n key) s
    → ProductEnds (get_or list s.0 []) products products' s stop → PlanStops n ws list pairs products' stop
reducer_stop n ws list pairs keys rows products products' led s cursor key stop plan h weighed lt same d e =
    ends_plan n ws list pairs products products' s stop h (plan_steps n ws list keys rows products led plan) weighed
    (record { member = d.index; some = d.some; weighed = d.variables })
    (inr (of_earlier n ws list keys rows products led s cursor plan lt (d.lead ∙ same))) e
