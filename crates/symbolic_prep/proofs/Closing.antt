-- Plans that grow until each key that a lead divides is the lead of a row
use Rattle.std.proofs.Common.{Bool, Contains, List, [], ap, arith, append-nil, append_assoc, false, get_or, inl, inr, length, refl, subst, sym, true, ℕ, ◌+◌, ◌++◌, ◌<◌, ◌∙◌, ◌∷◌, ◌≡◌, ◌⊎◌}
use Rattle.std.proofs.lemmas.Bool.{cases_eq, cases_lt}
use Rattle.std.proofs.lemmas.List.{get_or_append_left, get_or_default, get_or_push, length-append, length_push}
use Rattle.monomials.proofs.Monomials.{times-quotient, times-quotient_right}
use Rattle.monomials.specs.Exponents.{Divides, exponents_of, lcm, quotient}
use Rattle.formal_sums.specs.FormalSums.{Each, Key}
use Rattle.pair_criteria.specs.Pairs.{IsFactorOf}
use Rattle.pair_criteria.specs.declared.pair.Pair.{Pair as CodePair}
use Rattle.monomial_orders.specs.Kept.{IsWeighed, Monomial}
use Rattle.term_lists.proofs.Scaling.{Each_at}
use Rattle.term_lists.specs.Vectors.{key_of, sums_of}
use Rattle.term_lists.specs.declared.key.Key.{Key as CodeKey}
use Rattle.module_vectors.specs.Trails.{KeptProduct, lead_at, no_product, kept_product_lead, kept_at}
use Rattle.row_matrix.proofs.KeyPlaces.{key_exact}
use Rattle.row_matrix.specs.Hashes.{AreDistinctKeys, no_key}
use Rattle.row_matrix.specs.Rows.{AreKeys, RowShown, column_key, first_column, no_row, shown_row_at}
use Rattle.symbolic_prep.proofs.Planning.{entries_some, lead_known}
use Rattle.symbolic_prep.specs.Plans.{AreClosed, HasPairProducts, IsLaterPlan, IsMorePlanned, IsMemberPair, IsPlan, IsPlannedRow, IsTopProduct}
use Rattle.vector_division.specs.Divisions.{IsUncovered}
use Rattle.vector_division.specs.Progress.{IsDivisor}

-- keys that are apart have one number each
pub one_number :
    (n : ℕ) (ws : List ℕ) (keys : List CodeKey) (a b : ℕ)
    → AreDistinctKeys keys → AreKeys n ws keys → a < length keys → b < length keys → column_key n keys a ≡ column_key n keys b → a ≡ b
one_number n ws keys a b apart vars la lb e = elim (cases_eq a b) [
  | inl f ↦ f
  | inr ne ↦ elim (cases_lt a b) [
    | inl lt ↦ absurd (apart a b lt lb same)
    | inr ge ↦ absurd (apart b a (omega arith) la (sym same))
  ]
]
  where
    there : (i : ℕ) → i < length keys → IsWeighed n ws (get_or keys i no_key).monomial
    there i l = Each_at (λ (k : CodeKey). IsWeighed n ws k.monomial) keys i (get_or keys i no_key) vars l (get_or_default keys i no_key (get_or keys i no_key) l)

    same : get_or keys a no_key ≡ get_or keys b no_key
    same = key_exact n ws (get_or keys a no_key) (get_or keys b no_key) (there a la) (there b lb) e

pub key_stays : (n : ℕ) (keys added : List CodeKey) (c : ℕ) → c < length keys → column_key n (keys ++ added) c ≡ column_key n keys c
key_stays n keys added c lt = ap (key_of n) (get_or_append_left keys added no_key c lt)

-- the key that was to be the lead of a product is the first of its row
pub lead_is :
    (n : ℕ) (ws : List ℕ) (list : List (List (CodeKey × ℕ))) (old new : List CodeKey) (rows rows' : List RowShown) (products products' : List KeptProduct) (led led' : List Bool) (s : KeptProduct) (cursor : ℕ)
    → (h : IsMorePlanned n ws list old new rows rows' products products' led led' s) → AreDistinctKeys new → cursor < length old
    → kept_product_lead n list s ≡ column_key n old cursor → first_column h.rows_more.0.entries ≡ cursor
lead_is n ws list old new rows rows' products products' led led' s cursor h apart lt e =
    let r = h.rows_more.0 in
    let i = length rows in
    let size : length rows' ≡ length rows + 1 = ap length h.rows_more.1 ∙ length_push rows r in
    let at : shown_row_at rows' i ≡ r = ap (λ xs. get_or xs i no_row) h.rows_more.1 ∙ get_or_push rows r no_row i refl in
    let row : IsPlannedRow n ws list new i (shown_row_at rows' i) (kept_at products' i) = h.plan.each i (omega arith) in
    let some = entries_some n list new (shown_row_at rows' i).entries (kept_at products' i) row.named row.product.some in
    let first : first_column r.entries < length new = subst (λ (x : RowShown). first_column x.entries < length new) at (lead_known (length new) (shown_row_at rows' i).entries some row.named.known) in
    let grown : length new ≡ length old + length h.added = ap length h.grown ∙ length-append old h.added in
    let stays : column_key n new cursor ≡ column_key n old cursor = ap (λ ks. column_key n ks cursor) h.grown ∙ key_stays n old h.added cursor lt in
    one_number n ws new (first_column r.entries) cursor apart h.plan.monomials first (omega arith) (h.rows_more.2 ∙ e ∙ sym stays)

-- that key is marked
pub lead_marked :
    (n : ℕ) (ws : List ℕ) (list : List (List (CodeKey × ℕ))) (old new : List CodeKey) (rows rows' : List RowShown) (products products' : List KeptProduct) (led led' : List Bool) (s : KeptProduct) (cursor : ℕ)
    → IsMorePlanned n ws list old new rows rows' products products' led led' s → AreDistinctKeys new → cursor < length old
    → kept_product_lead n list s ≡ column_key n old cursor → get_or led' cursor false ≡ true
lead_marked n ws list old new rows rows' products products' led led' s cursor h apart lt e =
    subst (λ c. get_or led' c false ≡ true) (lead_is n ws list old new rows rows' products products' led led' s cursor h apart lt e) h.rows_more.3

pub later_itself :
    (n : ℕ) (ws : List ℕ) (list : List (List (CodeKey × ℕ))) (keys : List CodeKey) (rows : List RowShown) (products : List KeptProduct) (led : List Bool)
    → IsPlan n ws list keys rows products led → IsLaterPlan n ws list keys products led keys rows products led
later_itself n ws list keys rows products led h = record {
  plan = h;
  added = [];
  grown = sym (append-nil keys);
  more = [];
  products_more = sym (append-nil products);
  kept = λ c e. e;
}

pub later_of_more :
    (n : ℕ) (ws : List ℕ) (list : List (List (CodeKey × ℕ))) (old new : List CodeKey) (rows rows' : List RowShown) (products products' : List KeptProduct) (led led' : List Bool) (s : KeptProduct)
    → IsMorePlanned n ws list old new rows rows' products products' led led' s → IsLaterPlan n ws list old products led new rows' products' led'
later_of_more n ws list old new rows rows' products products' led led' s h = record {
  plan = h.plan;
  added = h.added;
  grown = h.grown;
  more = s ∷ [];
  products_more = h.products_more;
  kept = h.kept;
}

pub later_trans :
    (n : ℕ) (ws : List ℕ) (list : List (List (CodeKey × ℕ))) (keys keys' keys'' : List CodeKey) (rows' rows'' : List RowShown) (products products' steps'' : List KeptProduct) (led led' led'' : List Bool)
    → IsLaterPlan n ws list keys products led keys' rows' products' led' → IsLaterPlan n ws list keys' products' led' keys'' rows'' steps'' led''
    → IsLaterPlan n ws list keys products led keys'' rows'' steps'' led''
later_trans n ws list keys keys' keys'' rows' rows'' products products' steps'' led led' led'' a b = record {
  plan = b.plan;
  added = a.added ++ b.added;
  grown = b.grown ∙ ap (λ ks. ks ++ b.added) a.grown ∙ append_assoc keys a.added b.added;
  more = a.more ++ b.more;
  products_more = b.products_more ∙ ap (λ ss. ss ++ b.more) a.products_more ∙ append_assoc products a.more b.more;
  kept = λ c e. b.kept c (a.kept c e);
}

pub closed_more :
    (n : ℕ) (ws : List ℕ) (list : List (List (CodeKey × ℕ))) (keys keys' : List CodeKey) (rows' : List RowShown) (products products' : List KeptProduct) (led led' : List Bool) (cursor : ℕ)
    → AreClosed n list keys led cursor → IsLaterPlan n ws list keys products led keys' rows' products' led' → cursor < length keys
    → (get_or led' cursor false ≡ true) ⊎ IsUncovered (sums_of n list) (column_key n keys cursor)
    → AreClosed n list keys' led' (cursor + 1)
closed_more n ws list keys keys' rows' products products' led led' cursor h later lt here c l m = elim (cases_eq c cursor) [
  | inl e ↦ subst (λ x. (get_or led' x false ≡ true) ⊎ IsUncovered (sums_of n list) (column_key n keys' x)) (sym e) (moved cursor lt here)
  | inr ne ↦ elim (h c (omega arith) (omega arith)) [
    | inl f ↦ inl (later.kept c f)
    | inr u ↦ moved c (omega arith) (inr u)
  ]
]
  where
    moved : (x : ℕ) → x < length keys → (get_or led' x false ≡ true) ⊎ IsUncovered (sums_of n list) (column_key n keys x) → (get_or led' x false ≡ true) ⊎ IsUncovered (sums_of n list) (column_key n keys' x)
    moved x l (inl f) = inl f
    moved x l (inr u) = inr (subst (IsUncovered (sums_of n list)) (sym (ap (λ ks. column_key n ks x) later.grown ∙ key_stays n keys later.added x l)) u)

-- the code's key is that of the number
pub key_read :
    (n : ℕ) (ws : List ℕ) (keys read : List CodeKey) (cursor : ℕ) (key : CodeKey)
    → AreKeys n ws keys → cursor < length keys → read ≡ keys → key ≡ get_or read cursor key
    → IsWeighed n ws key.monomial × (key_of n key ≡ column_key n keys cursor)
key_read n ws keys read cursor key vars lt e is =
    let at : key ≡ get_or keys cursor key = is ∙ ap (λ ks. get_or ks cursor key) e in
    (Each_at (λ (k : CodeKey). IsWeighed n ws k.monomial) keys cursor key vars lt at, ap (key_of n) (at ∙ get_or_default keys cursor key no_key lt))

-- a product with its lead is there
pub now_marked :
    (n : ℕ) (ws : List ℕ) (list : List (List (CodeKey × ℕ))) (old new read : List CodeKey) (rows rows' : List RowShown) (products products' : List KeptProduct) (led led' : List Bool) (s : KeptProduct) (cursor : ℕ) (key : CodeKey)
    → key_of n key ≡ column_key n old cursor → IsDivisor n ws list (key_of n key) s
    → IsMorePlanned n ws list old new rows rows' products products' led led' s → read ≡ new → AreDistinctKeys read → cursor < length old
    → get_or led' cursor false ≡ true
now_marked n ws list old new read rows rows' products products' led led' s cursor key same d h r apart lt =
    lead_marked n ws list old new rows rows' products products' led led' s cursor h (subst AreDistinctKeys r apart) lt (d.lead ∙ same)

-- ---- the products of pairs
pub top_step :
    (n : ℕ) (ws : List ℕ) (list : List (List (CodeKey × ℕ))) (products products' : List KeptProduct) (lcm : CodeKey) (member : ℕ) (t : Monomial) (v : List (CodeKey × ℕ))
    → v ≡ get_or list member [] → IsFactorOf n ws lcm v t → products' ≡ products ++ (member, t) ∷ []
    → IsTopProduct n list products' lcm member (length products)
top_step n ws list products products' lcm member t v is h more =
    let s : KeptProduct = (member, t) in
    let at : kept_at products' (length products) ≡ s = ap (λ xs. get_or xs (length products) no_product) more ∙ get_or_push products s no_product (length products) refl in
    let size : length products' ≡ length products + 1 = ap length more ∙ length_push products s in
    let f : IsFactorOf n ws lcm (get_or list member []) t = subst (λ w. IsFactorOf n ws lcm w t) is h in
    record {
      there = omega arith;
      of = ap (λ (x : KeptProduct). x.0) at;
      exponents = ap (λ (x : KeptProduct). exponents_of n x.1.exponents) at ∙ f.exponents;
    }

pub pair_divides :
    (n : ℕ) (ws : List ℕ) (list : List (List (CodeKey × ℕ))) (x : CodePair)
    → IsMemberPair n ws list x → Divides (lead_at n list x.i).1 (exponents_of n x.lcm.monomial.exponents) × Divides (lead_at n list x.j).1 (exponents_of n x.lcm.monomial.exponents)
pair_divides n ws list x h =
    let e : exponents_of n x.lcm.monomial.exponents ≡ lcm (lead_at n list x.i).1 (lead_at n list x.j).1 = ap (λ (k : Key n). k.1) h.lcm in
    (subst (Divides (lead_at n list x.i).1) (sym e) (quotient (lcm (lead_at n list x.i).1 (lead_at n list x.j).1) (lead_at n list x.i).1, times-quotient (lead_at n list x.i).1 (lead_at n list x.j).1), subst (Divides (lead_at n list x.j).1) (sym e) (quotient (lcm (lead_at n list x.i).1 (lead_at n list x.j).1) (lead_at n list x.j).1, times-quotient_right (lead_at n list x.i).1 (lead_at n list x.j).1))

top_more :
    (n : ℕ) (list : List (List (CodeKey × ℕ))) (products more products' : List KeptProduct) (lcm : CodeKey) (member number : ℕ)
    → products' ≡ products ++ more → IsTopProduct n list products lcm member number → IsTopProduct n list products' lcm member number
top_more n list products more products' lcm member number e h =
    let at : kept_at products' number ≡ kept_at products number = ap (λ xs. get_or xs number no_product) e ∙ get_or_append_left products more no_product number h.there in
    let size : length products' ≡ length products + length more = ap length e ∙ length-append products more in
    record {
      there = omega (arith, h.there);
      of = ap (λ (x : KeptProduct). x.0) at ∙ h.of;
      exponents = ap (λ (x : KeptProduct). exponents_of n x.1.exponents) at ∙ h.exponents;
    }

pub pairs_more :
    (n : ℕ) (list : List (List (CodeKey × ℕ))) (products more products' : List KeptProduct) (pairs : List CodePair)
    → products' ≡ products ++ more → Each (HasPairProducts n list products) pairs → Each (HasPairProducts n list products') pairs
pairs_more n list products more products' [] e h = tt
pairs_more n list products more products' (x ∷ pairs) e h = (
  record {
    left = h.0.left;
    right = h.0.right;
    first = top_more n list products more products' x.lcm x.i h.0.left e h.0.first;
    second = top_more n list products more products' x.lcm x.j h.0.right e h.0.second;
  },
  pairs_more n list products more products' pairs e h.1,
)

pub both_tops :
    (n : ℕ) (list : List (List (CodeKey × ℕ))) (products products' more : List KeptProduct) (x : CodePair)
    → (number : ℕ) × IsTopProduct n list products x.lcm x.i number → products' ≡ products ++ more
    → (number : ℕ) × IsTopProduct n list products' x.lcm x.j number → HasPairProducts n list products' x
both_tops n list products products' more x a e b = record {
  left = a.0;
  right = b.0;
  first = top_more n list products more products' x.lcm x.i a.0 e a.1;
  second = b.1;
}

-- the product was there
pub top_found :
    (n : ℕ) (ws : List ℕ) (list : List (List (CodeKey × ℕ))) (products : List KeptProduct) (lcm : CodeKey) (member : ℕ) (t : Monomial) (v : List (CodeKey × ℕ))
    → v ≡ get_or list member [] → IsFactorOf n ws lcm v t → Contains products (member, t)
    → (number : ℕ) × IsTopProduct n list products lcm member number
top_found n ws list products lcm member t v is h there =
    let s : KeptProduct = (member, t) in
    let at : kept_at products there.0 ≡ s = get_or_default products there.0 no_product s there.1 ∙ there.2 in
    let f : IsFactorOf n ws lcm (get_or list member []) t = subst (λ w. IsFactorOf n ws lcm w t) is h in (
      there.0,
      record {
        there = there.1;
        of = ap (λ (x : KeptProduct). x.0) at;
        exponents = ap (λ (x : KeptProduct). exponents_of n x.1.exponents) at ∙ f.exponents;
      },
    )

-- where there are pairs there are products
pub some_products :
    (n : ℕ) (list : List (List (CodeKey × ℕ))) (products : List KeptProduct) (pairs : List CodePair)
    → 0 < length pairs → Each (HasPairProducts n list products) pairs → 0 < length products
some_products n list products [] lt h = absurd (omega arith)
some_products n list products (x ∷ pairs) lt h = let t = h.0.first.there in omega arith
