-- Keys get their places among columns, the greatest first
use Rattle.std.proofs.Common.{Bool, Contains, Equal, Greater, Less, List, Ordering, [], ap, ap₂, arith, false, get_or, get_or-set_other, get_or-set_same, inl, inr, length, refl, set, subst, suc, sym, true, zero, ℕ, ◌+◌, ◌++◌, ◌-◌, ◌<◌, ◌∙◌, ◌∷◌, ◌≡◌, ◌≤◌, ◌⊎◌}
use Rattle.std.proofs.lemmas.Bool.{cases_eq}
use Rattle.std.proofs.lemmas.Cmp.{back_total, nat_cmp_total, on_total, then_total}
use Rattle.std.proofs.lemmas.List.{get_or_append_left, get_or_default, get_or_past, get_or_push, length-set, length_push, map-id}
use Rattle.std.proofs.lemmas.List.FromFn.{map-range_with_len_more}
use Rattle.std.proofs.lemmas.List.Elements.{Contains-append_left, Contains-push}
use Rattle.std.proofs.lemmas.List.Sorted.{ranks_by, sorted_far}
use Rattle.std.specs.Cmp.{IsStrictWeakOrder}
use Rattle.std.specs.List.{range_with_len}
use Rattle.std.specs.List.Sorted.{IsSortedBy, IsSortedWithin}
use Rattle.std.specs.Ordering.{is_lt, nat_cmp, ordering_then}
use Rattle.formal_sums.proofs.WeightedSums.{Each_append}
use Rattle.formal_sums.specs.FormalSums.{Each, Key}
use Rattle.orders.proofs.KeyOrdering.{equal_itself, greater_trans}
use Rattle.orders.specs.KeyOrders.{IsKeyOrder}
use Rattle.monomials.specs.Exponents.{exponents_of}
use Rattle.monomials.specs.Weights.{weighted_degree}
use Rattle.monomial_orders.proofs.PlaceByPlace.{exponents_exact}
use Rattle.monomial_orders.specs.Kept.{IsWeighed, Monomial}
use Rattle.term_lists.proofs.Scaling.{Each_at}
use Rattle.term_lists.proofs.Parts.{Each_member}
use Rattle.term_lists.specs.Vectors.{key_of}
use Rattle.term_lists.specs.declared.key.Key.{Key as CodeKey}
use Rattle.row_matrix.specs.Hashes.{IsNumbered, no_key}
use Rattle.row_matrix.specs.Naming.{Falls, IsNumbering, IsPlaced, IsPlacing, by_descent, lack_of}
use Rattle.row_matrix.specs.Rows.{AreKeys, Descend, column_key}

-- one more number
pub numbers_push :
    (xs : List ℕ) (i : ℕ) → ((k : ℕ) → k < i → Contains xs k) → (k : ℕ) → k < i + 1 → Contains (xs ++ i ∷ []) k
numbers_push xs i all k lt = elim (cases_eq k i) [
  | inl e ↦ subst (Contains (xs ++ i ∷ [])) (sym e) (Contains-push xs i)
  | inr ne ↦ Contains-append_left xs (i ∷ []) k (all k (omega arith))
]

-- the numbers below n
pub range_push : (n : ℕ) → range_with_len 0 n ++ n ∷ [] ≡ range_with_len 0 (n + 1)
range_push n =
    ap (λ xs. xs ++ n ∷ []) (sym (map-id (range_with_len 0 n)))
    ∙ sym (map-range_with_len_more (λ x. x) 0 n n (omega arith)) ∙ map-id (range_with_len 0 (n + 1))

pub range_below : (n : ℕ) → Each (λ i. i < n) (range_with_len 0 n)
range_below n = go n n (omega arith)
  where
    go : (m n : ℕ) → m ≤ n → Each (λ i. i < n) (range_with_len 0 m)
    go zero n le = tt
    go (suc m) n le =
        let more : range_with_len 0 m ++ m ∷ [] ≡ range_with_len 0 (suc m) = range_push m ∙ ap (range_with_len 0) (let q : m + 1 ≡ suc m = omega arith in q) in
        subst (Each (λ i. i < n)) more (Each_append (λ i. i < n) (range_with_len 0 m) (m ∷ []) (go m n (omega arith)) (omega arith, tt))

pub range_all : (n i : ℕ) → i < n → Contains (range_with_len 0 n) i
range_all zero i lt = absurd (omega arith)
range_all (suc n) i lt =
    let more : range_with_len 0 n ++ n ∷ [] ≡ range_with_len 0 (suc n) = range_push n ∙ ap (range_with_len 0) (let q : n + 1 ≡ suc n = omega arith in q) in
    subst (λ xs. Contains xs i) more (numbers_push (range_with_len 0 n) n (λ k l. range_all n k l) i (omega arith))

-- one number more in a sorted list
pub sorted_more :
    (lt : ℕ → ℕ → Bool) (xs : List ℕ) (k : ℕ)
    → 0 < k → k < length xs → IsSortedWithin lt xs 0 k → lt (get_or xs k 0) (get_or xs (k - 1) 0) ≡ false → IsSortedWithin lt xs 0 (k + 1)
sorted_more lt xs k some within sorted last j d low less = elim (cases_eq (j + 1) k) [
  | inl e ↦
      let left : get_or xs (j + 1) d ≡ get_or xs k 0 = ap (λ i. get_or xs i d) e ∙ get_or_default xs k d 0 within in
      let before : k - 1 ≡ j = omega arith in
      let right : get_or xs j d ≡ get_or xs (k - 1) 0 = get_or_default xs j d 0 (omega arith) ∙ ap (λ i. get_or xs i 0) (sym before) in
      ap₂ lt left right ∙ last
  | inr ne ↦ sorted j d low (omega arith)
]

-- ---- keys of one ring are one where they stand for one
monomial_exact :
    (n : ℕ) (ws : List ℕ) (a b : Monomial) → IsWeighed n ws a → IsWeighed n ws b
    → a.exponents ≡ b.exponents → a ≡ b
monomial_exact n ws a b ha hb e =
    ap₂ (λ (x : List ℕ) (d : ℕ). let m : Monomial = record { exponents = x; degree = d } in m) e
    (ha.degree ∙ ap (λ x. weighted_degree ws (exponents_of n x)) e ∙ sym hb.degree)

pub key_exact :
    (n : ℕ) (ws : List ℕ) (k l : CodeKey) → IsWeighed n ws k.monomial → IsWeighed n ws l.monomial
    → key_of n k ≡ key_of n l → k ≡ l
key_exact n ws k l a b e =
    ap₂ (λ (i : ℕ) (m : Monomial). let r : CodeKey = record { position = i; monomial = m } in r) (ap (λ (x : Key n). x.0) e)
    (monomial_exact n ws k.monomial l.monomial a b
    (exponents_exact n k.monomial.exponents l.monomial.exponents a.variables b.variables (ap (λ (x : Key n). x.1) e)))

module _ (n : ℕ) (compare : Key n → Key n → Ordering) (order : IsKeyOrder 0 compare) where
  -- what is not below and not the same is above
  above : (k l : Key n) → is_lt (compare k l) ≡ false → (k ≡ l → ⊥) → compare k l ≡ Greater
  above k l lt ne = go (compare k l) refl
    where
      go : (o : Ordering) → compare k l ≡ o → compare k l ≡ Greater
      go Less e = absurd (let q : is_lt (compare k l) ≡ true = ap is_lt e in cc)
      go Equal e = absurd (ne (order.exact k l e))
      go Greater e = e

  -- one more column, below the last one
  descend_push :
      (columns : List CodeKey) (key : CodeKey)
      → Descend n compare columns → (0 < length columns → compare (column_key n columns (length columns - 1)) (key_of n key) ≡ Greater)
      → Descend n compare (columns ++ key ∷ [])
  descend_push columns key h last c d lt bound = elim (cases_eq d (length columns)) [
    | inl e ↦
        let at : column_key n (columns ++ key ∷ []) d ≡ key_of n key = ap (key_of n) (get_or_push columns key no_key d (sym e)) in
        let left : column_key n (columns ++ key ∷ []) c ≡ column_key n columns c = ap (key_of n) (get_or_append_left columns (key ∷ []) no_key c (omega arith)) in
        let g = last (omega arith) in
        rw (at, left) (elim (cases_eq c (length columns - 1)) [
          | inl f ↦ ap (λ x. compare (column_key n columns x) (key_of n key)) f ∙ g
          | inr ne ↦ greater_trans order (column_key n columns c) (column_key n columns (length columns - 1)) (key_of n key) (h c (length columns - 1) (omega arith) (omega arith)) g
        ])
    | inr ne ↦
        let size = length_push columns key in
        let right : column_key n (columns ++ key ∷ []) d ≡ column_key n columns d = ap (key_of n) (get_or_append_left columns (key ∷ []) no_key d (omega arith)) in
        let left : column_key n (columns ++ key ∷ []) c ≡ column_key n columns c = ap (key_of n) (get_or_append_left columns (key ∷ []) no_key c (omega arith)) in
        rw (right, left) (h c d lt (omega arith))
  ]

  -- ---- the order of a sort
  lack_within : (keys : List CodeKey) (i : ℕ) → i < length keys → lack_of keys i ≡ 0
  lack_within keys i lt = omega arith

  lack_without : (keys : List CodeKey) (i : ℕ) → length keys ≤ i → lack_of keys i ≡ 1
  lack_without keys i le = omega arith

  pub descent_within :
      (keys : List CodeKey) (i j : ℕ) → i < length keys → j < length keys
      → by_descent n compare keys i j ≡ compare (column_key n keys j) (column_key n keys i)
  descent_within keys i j li lj =
      ap₂ (λ x y. ordering_then (nat_cmp x y) (compare (column_key n keys j) (column_key n keys i))) (lack_within keys i li) (lack_within keys j lj)

  pub descent_left : (keys : List CodeKey) (i j : ℕ) → i < length keys → length keys ≤ j → by_descent n compare keys i j ≡ Less
  descent_left keys i j li lj =
      ap₂ (λ x y. ordering_then (nat_cmp x y) (compare (column_key n keys j) (column_key n keys i))) (lack_within keys i li) (lack_without keys j lj)

  pub descent_right : (keys : List CodeKey) (i j : ℕ) → length keys ≤ i → j < length keys → by_descent n compare keys i j ≡ Greater
  descent_right keys i j li lj =
      ap₂ (λ x y. ordering_then (nat_cmp x y) (compare (column_key n keys j) (column_key n keys i))) (lack_without keys i li) (lack_within keys j lj)

  pub descent_neither : (keys : List CodeKey) (i j : ℕ) → length keys ≤ i → length keys ≤ j → by_descent n compare keys i j ≡ Equal
  descent_neither keys i j li lj =
      ap₂ (λ x y. ordering_then (nat_cmp x y) (compare (column_key n keys j) (column_key n keys i))) (lack_without keys i li) (lack_without keys j lj)
      ∙ ap₂ (λ k l. compare (key_of n l) (key_of n k)) (get_or_past keys i no_key li) (get_or_past keys j no_key lj)
      ∙ equal_itself order (key_of n no_key)

  pub descent_weak : (keys : List CodeKey) → IsStrictWeakOrder (λ i j. is_lt (by_descent n compare keys i j))
  descent_weak keys = ranks_by (then_total (on_total (λ (k : ℕ × Key n). k.0) nat_cmp_total) (on_total (λ (k : ℕ × Key n). k.1) (back_total order.total))) (λ i. (lack_of keys i, column_key n keys i))

  each_from : (P : ℕ → Type 0) (xs : List ℕ) → ((k : ℕ) (d : ℕ) → k < length xs → P (get_or xs k d)) → Each P xs
  each_from P [] h = tt
  each_from P (x ∷ xs) h = (h 0 x (omega arith), each_from P xs (λ k d lt. h (suc k) d (omega arith)))

  falls_from :
      (keys : List CodeKey) (xs : List ℕ)
      → ((i j d : ℕ) → i < j → j < length xs → is_lt (compare (column_key n keys (get_or xs i d)) (column_key n keys (get_or xs j d))) ≡ false)
      → Falls n compare keys xs
  falls_from keys [] h = tt
  falls_from keys (x ∷ xs) h =
      (each_from (λ j. is_lt (compare (column_key n keys x) (column_key n keys j)) ≡ false) xs (λ k d lt. h 0 (suc k) d (omega arith) (omega arith)), falls_from keys xs (λ i j d lt le. h (suc i) (suc j) d (omega arith) (omega arith)))

  pub sorted_falls :
      (keys : List CodeKey) (numbers : List ℕ)
      → Each (λ i. i < length keys) numbers → IsSortedBy (λ i j. is_lt (by_descent n compare keys i j)) numbers
      → Falls n compare keys numbers
  sorted_falls keys numbers known sorted = falls_from keys numbers far
    where
      far :
          (i j d : ℕ)
          → i < j → j < length numbers → is_lt (compare (column_key n keys (get_or numbers i d)) (column_key n keys (get_or numbers j d))) ≡ false
      far i j d lt le =
          let x = get_or numbers i d in
          let y = get_or numbers j d in
          let hx : x < length keys = Each_member (λ k. k < length keys) numbers i d known (omega arith) in
          let hy : y < length keys = Each_member (λ k. k < length keys) numbers j d known le in
          ap is_lt (sym (descent_within keys y x hy hx))
          ∙ sorted_far (λ a b. is_lt (by_descent n compare keys a b)) (descent_weak keys) numbers sorted i j d (omega arith) le

  -- ---- the start
  pub placing_start :
      (ws : List ℕ) (keys : List CodeKey) (numbers places : List ℕ)
      → Each (λ i. i < length keys) numbers → Falls n compare keys numbers
      → length places ≡ length keys → IsPlacing n ws compare keys [] places [] numbers
  placing_start ws keys numbers places known falls size = record {
    monomials = tt;
    descend = λ c d lt bound. absurd (omega arith);
    above = λ c lt. absurd (omega arith);
    falls = falls;
    known = known;
    placed = tt;
    sized = size;
  }

  -- ---- a step
  each_placed :
      (keys columns columns' : List CodeKey) (places : List ℕ) (number at : ℕ) (done : List ℕ)
      → number < length places
      → (at < length columns') → (get_or columns' at no_key ≡ get_or keys number no_key)
      → ((c : ℕ) → c < length columns → (c < length columns') × (get_or columns' c no_key ≡ get_or columns c no_key))
      → Each (IsPlaced keys columns places) done → Each (IsPlaced keys columns' (set places number at)) done
  each_placed keys columns columns' places number at [] lt w e kept h = tt
  each_placed keys columns columns' places number at (x ∷ done) lt w e kept h = (
    elim (cases_eq x number) [
      | inl f ↦
          let here : get_or (set places number at) x 0 ≡ at = ap (λ m. get_or (set places number at) m 0) f ∙ get_or-set_same places number at 0 lt in
          (subst (λ m. m < length columns') (sym here) w, ap (λ m. get_or columns' m no_key) here ∙ e ∙ ap (λ m. get_or keys m no_key) (sym f))
      | inr ne ↦
          let same : get_or (set places number at) x 0 ≡ get_or places x 0 = get_or-set_other places number x at 0 ne in
          let k = kept (get_or places x 0) h.0.0 in
          (subst (λ m. m < length columns') (sym same) k.0, ap (λ m. get_or columns' m no_key) same ∙ k.1 ∙ h.0.1)
    ],
    each_placed keys columns columns' places number at done lt w e kept h.1,
  )

  pub placing_step :
      (ws : List ℕ) (keys columns columns' : List CodeKey) (places done rest : List ℕ) (number at : ℕ)
      → AreKeys n ws keys → IsPlacing n ws compare keys columns places done (number ∷ rest)
      → IsNumbered columns columns' (get_or keys number no_key) at
      → (at ≡ length columns → 0 < length columns → get_or columns (length columns - 1) no_key ≡ get_or keys number no_key → ⊥)
      → IsPlacing n ws compare keys columns' (set places number at) (done ++ number ∷ []) rest
  placing_step ws keys columns columns' places done rest number at monomials h g fresh = go g.grown
    where
      key : CodeKey
      key = get_or keys number no_key

      weighed : IsWeighed n ws key.monomial
      weighed = Each_member (λ k. IsWeighed n ws k.monomial) keys number no_key monomials h.known.0

      lt : number < length places
      lt = omega (arith, h.known.0, h.sized)

      placed :
          ((c : ℕ) → c < length columns → (c < length columns') × (get_or columns' c no_key ≡ get_or columns c no_key))
          → Each (IsPlaced keys columns' (set places number at)) (done ++ number ∷ [])
      placed kept =
          let here : get_or (set places number at) number 0 ≡ at = get_or-set_same places number at 0 lt in
          Each_append (IsPlaced keys columns' (set places number at)) done (number ∷ []) (each_placed keys columns columns' places number at done lt g.within g.there kept h.placed)
          ((subst (λ m. m < length columns') (sym here) g.within, ap (λ m. get_or columns' m no_key) here ∙ g.there), tt)

      go : (columns' ≡ columns) ⊎ ((columns' ≡ columns ++ key ∷ []) × (at ≡ length columns))
          → IsPlacing n ws compare keys columns' (set places number at) (done ++ number ∷ []) rest
      go (inl e) = record {
        monomials = subst (AreKeys n ws) (sym e) h.monomials;
        descend = subst (Descend n compare) (sym e) h.descend;
        above = λ c l. subst (λ cs. Each (λ i. is_lt (compare (column_key n cs c) (column_key n keys i)) ≡ false) rest) (sym e) (h.above c (subst (λ cs. c < length cs) e l)).1;
        falls = h.falls.1;
        known = h.known.1;
        placed = placed (λ c l. (subst (λ cs. c < length cs) (sym e) l, ap (λ cs. get_or cs c no_key) e));
        sized = length-set places number at ∙ h.sized;
      }
      go (inr e) = record {
        monomials = subst (AreKeys n ws) (sym e.0) (Each_append _ columns (key ∷ []) h.monomials (weighed, tt));
        descend = subst (Descend n compare) (sym e.0) (descend_push columns key h.descend last);
        above = λ c l. subst (λ cs. Each (λ i. is_lt (compare (column_key n cs c) (column_key n keys i)) ≡ false) rest) (sym e.0) (over c (subst (λ cs. c < length cs) e.0 l));
        falls = h.falls.1;
        known = h.known.1;
        placed = placed (λ c l. (subst (λ cs. c < length cs) (sym e.0) (omega (arith, length_push columns key)), ap (λ cs. get_or cs c no_key) e.0 ∙ get_or_append_left columns (key ∷ []) no_key c l));
        sized = length-set places number at ∙ h.sized;
      }
        where
          last : 0 < length columns → compare (column_key n columns (length columns - 1)) (key_of n key) ≡ Greater
          last pos =
              let c = length columns - 1 in
              let l : c < length columns = omega arith in
              above (column_key n columns c) (key_of n key) (h.above c l).0
              (λ same. fresh e.1 pos (key_exact n ws (get_or columns c no_key) key (Each_member (λ k. IsWeighed n ws k.monomial) columns c no_key h.monomials l) weighed same))

          over : (c : ℕ) → c < length (columns ++ key ∷ []) → Each (λ i. is_lt (compare (column_key n (columns ++ key ∷ []) c) (column_key n keys i)) ≡ false) rest
          over c l = elim (cases_eq c (length columns)) [
            | inl f ↦
                let here : column_key n (columns ++ key ∷ []) c ≡ key_of n key = ap (key_of n) (get_or_push columns key no_key c (sym f)) in
                subst (λ k. Each (λ i. is_lt (compare k (column_key n keys i)) ≡ false) rest) (sym here) h.falls.0
            | inr ne ↦
                let l' : c < length columns = omega (arith, length_push columns key) in
                let same : column_key n (columns ++ key ∷ []) c ≡ column_key n columns c = ap (key_of n) (get_or_append_left columns (key ∷ []) no_key c l') in
                subst (λ k. Each (λ i. is_lt (compare k (column_key n keys i)) ≡ false) rest) (sym same) (h.above c l').1
          ]

  -- ---- the end
  Contains_each : {X : Type 0} (P : X → Type 0) (xs : List X) (x : X) → Each P xs → Contains xs x → P x
  Contains_each P xs x h g = Each_at P xs g.0 x h g.1 (sym g.2)

  pub placing_end :
      (ws : List ℕ) (keys columns : List CodeKey) (places numbers : List ℕ)
      → ((i : ℕ) → i < length keys → Contains numbers i)
      → IsPlacing n ws compare keys columns places numbers [] → IsNumbering n ws compare keys columns places
  placing_end ws keys columns places numbers all h = record {
    monomials = h.monomials;
    sized = h.sized;
    within = λ i l. (Contains_each (IsPlaced keys columns places) numbers i h.placed (all i l)).0;
    placed = λ i l. (Contains_each (IsPlaced keys columns places) numbers i h.placed (all i l)).1;
    descend = h.descend;
  }
