-- Vectors divided by their first residues, as rows
use Rattle.std.proofs.Common.{Contains, List, [], ap, ap₂, append_assoc, arith, drop, get_or, length, map, mod-eq_of_lt, mul_comm, subst, suc, sym, take, zero, ℕ, ◌%◌, ◌*◌, ◌+◌, ◌++◌, ◌<◌, ◌∙◌, ◌∷◌, ◌≡◌}
use Rattle.std.proofs.lemmas.List.{drop_more, map_push}
use Rattle.monomials.specs.Exponents.{unit}
use Rattle.formal_sums.proofs.Combining.{Each_map}
use Rattle.formal_sums.proofs.Sameness.{shift-unit}
use Rattle.formal_sums.proofs.WeightedSums.{Each_append}
use Rattle.formal_sums.specs.FormalSums.{Each, shift}
use Rattle.monomial_orders.specs.Kept.{Monomial}
use Rattle.monomial_orders.specs.Monomials.{IsMonomial}
use Rattle.bases.specs.Leads.{head_coefficient}
use Rattle.term_lists.proofs.Merges.{sum_of-append}
use Rattle.term_lists.proofs.Scaling.{take_item}
use Rattle.term_lists.specs.Multiples.{rescaled}
use Rattle.term_lists.specs.Vectors.{key_of, sum_of}
use Rattle.term_lists.specs.declared.key.Key.{Key as CodeKey}
use Rattle.zp_field.specs.Moduli.{IsInverse}
use Rattle.row_matrix.proofs.KeyProducts.{key_product_key}
use Rattle.row_matrix.proofs.Names.{named_more, named_step}
use Rattle.row_matrix.specs.Hashes.{IsNumbered, key_product}
use Rattle.row_matrix.specs.MonicRows.{IsNamedRow, first_source, nonzero_from}
use Rattle.row_matrix.specs.Naming.{AreNamed, IsGrown}
use Rattle.row_matrix.specs.Rows.{AreKeys, Entry, RowShown}

-- the term c x, where x is the term at index i of v
pub multiple_step :
    (n p c : ℕ) (t : Monomial) (v : List (CodeKey × ℕ)) (i : ℕ) (x : CodeKey × ℕ) (old new : List CodeKey) (entries : List Entry) (j r : ℕ)
    → IsMonomial n (unit n) t.exponents → length x.0.monomial.exponents ≡ n
    → AreNamed n old entries (sum_of n (rescaled p c (take i v))) → IsNumbered old new (key_product t x.0) j
    → i < length v → x ≡ get_or v i x → r ≡ (c * x.1) % p
    → AreNamed n new (entries ++ (j, r) ∷ []) (sum_of n (rescaled p c (take (i + 1) v)))
multiple_step n p c t v i x old new entries j r one sized h g lt at e =
    let split : sum_of n (rescaled p c (take (i + 1) v)) ≡ sum_of n (rescaled p c (take i v)) ++ (key_of n x.0, (c * x.1) % p) ∷ [] =
    ap (λ xs. sum_of n (rescaled p c xs)) (take_item v i x lt at)
    ∙ ap (sum_of n) (map_push (λ (u : CodeKey × ℕ). (u.0, (c * u.1) % p)) (take i v) x)
    ∙ sum_of-append n (rescaled p c (take i v)) ((x.0, (c * x.1) % p) ∷ []) in
    let key : key_of n (key_product t x.0) ≡ key_of n x.0 =
    key_product_key n t x.0 one.variables sized ∙ ap (λ m. shift m (key_of n x.0)) one.exponents ∙ shift-unit (key_of n x.0) in
    subst (AreNamed n new (entries ++ (j, r) ∷ []))
    (ap₂ (λ k s. sum_of n (rescaled p c (take i v)) ++ (k, s) ∷ []) key e ∙ sym split)
    (named_step n old new (key_product t x.0) entries (sum_of n (rescaled p c (take i v))) j r h g)

-- more keys keep the rows
pub named_rows_more :
    (n p : ℕ) (list : List (List (CodeKey × ℕ))) (old new : List CodeKey) (entries : List Entry) (rows : List RowShown)
    → IsGrown old new entries → Each (IsNamedRow n p list old) rows → Each (IsNamedRow n p list new) rows
named_rows_more n p list old new entries rows g h =
    Each_map (IsNamedRow n p list old) (IsNamedRow n p list new) rows
    (λ r q. (
      q.0,
      subst (λ ks. AreNamed n ks r.entries (sum_of n (rescaled p q.0.factor (get_or list q.0.number [])))) (sym g.grown) (named_more n old g.added r.entries _ q.1),
    )) h

-- a vector that is zero has no row
pub order_zero :
    (list : List (List (CodeKey × ℕ))) (i : ℕ) (sources : List ℕ) → i < length list → length (get_or list i []) ≡ 0
    → sources ++ nonzero_from i (drop i list) ≡ nonzero_from 0 list
    → sources ++ nonzero_from (i + 1) (drop (i + 1) list) ≡ nonzero_from 0 list
order_zero list i sources lt none h =
    go (get_or list i []) none (sym (ap (λ xs. sources ++ nonzero_from i xs) (drop_more list i [] lt)) ∙ h)
  where
    go : (v : List (CodeKey × ℕ)) → length v ≡ 0 → sources ++ nonzero_from i (v ∷ drop (i + 1) list) ≡ nonzero_from 0 list
        → sources ++ nonzero_from (i + 1) (drop (i + 1) list) ≡ nonzero_from 0 list
    go [] z e = e
    go (t ∷ v) z e = absurd (omega arith)

-- any other has one
pub order_more :
    (list : List (List (CodeKey × ℕ))) (i : ℕ) (rows : List RowShown) (r : RowShown) → i < length list → 0 < length (get_or list i [])
    → first_source r ≡ i → map first_source rows ++ nonzero_from i (drop i list) ≡ nonzero_from 0 list
    → map first_source (rows ++ r ∷ []) ++ nonzero_from (i + 1) (drop (i + 1) list) ≡ nonzero_from 0 list
order_more list i rows r lt some e h =
    ap (λ xs. xs ++ nonzero_from (i + 1) (drop (i + 1) list)) (map_push first_source rows r ∙ ap (λ k. map first_source rows ++ k ∷ []) e)
    ∙ append_assoc (map first_source rows) (i ∷ []) (nonzero_from (i + 1) (drop (i + 1) list))
    ∙ go (get_or list i []) some (sym (ap (λ xs. map first_source rows ++ nonzero_from i xs) (drop_more list i [] lt)) ∙ h)
  where
    go : (v : List (CodeKey × ℕ)) → 0 < length v → map first_source rows ++ nonzero_from i (v ∷ drop (i + 1) list) ≡ nonzero_from 0 list
        → map first_source rows ++ (i ∷ nonzero_from (i + 1) (drop (i + 1) list)) ≡ nonzero_from 0 list
    go [] z q = absurd (omega arith)
    go (t ∷ v) z q = q

one_past : (i k : ℕ) → i + 1 + k ≡ i + suc k
one_past i k = omega arith

none_past : (i : ℕ) → i ≡ i + 0
none_past i = omega arith

-- each vector that is not zero has its index there
pub nonzero_has :
    {X : Type 0} (i : ℕ) (list : List (List X)) (k : ℕ) → k < length list → 0 < length (get_or list k []) → Contains (nonzero_from i list) (i + k)
nonzero_has i [] k lt some = absurd (omega arith)
nonzero_has i ([] ∷ list) zero lt some = absurd (omega arith)
nonzero_has i ([] ∷ list) (suc k) lt some = subst (Contains (nonzero_from (i + 1) list)) (one_past i k) (nonzero_has (i + 1) list k (omega arith) some)
nonzero_has i ((t ∷ v) ∷ list) zero lt some = (0, omega arith, none_past i)
nonzero_has i ((t ∷ v) ∷ list) (suc k) lt some = go (nonzero_has (i + 1) list k (omega arith) some)
  where
    go : Contains (nonzero_from (i + 1) list) (i + 1 + k) → Contains (i ∷ nonzero_from (i + 1) list) (i + suc k)
    go (j, l, e) = (suc j, omega arith, subst (λ m. get_or (nonzero_from (i + 1) list) j m ≡ m) (one_past i k) e)

pub inverse_positive : (p a c : ℕ) → 1 < p → IsInverse p a c → 0 < c
inverse_positive p a zero lt i = let z : (a * 0) % p ≡ 0 = ap (λ y. y % p) (omega arith) ∙ mod-eq_of_lt (omega arith) in absurd (let o = i.one in omega arith)
inverse_positive p a (suc c) lt i = omega arith

-- the inverse of the first residue makes the first residue 1
pub one_first :
    (n p c : ℕ) (v : List (CodeKey × ℕ)) → 1 < p → IsInverse p (head_coefficient (sum_of n v)) c → head_coefficient (sum_of n (rescaled p c v)) ≡ 1
one_first n p c [] lt i = let z : (0 * c) % p ≡ 0 = ap (λ y. y % p) (omega arith) ∙ mod-eq_of_lt (omega arith) in absurd (let o = i.one in omega arith)
one_first n p c (t ∷ v) lt i = ap (λ x. x % p) (mul_comm c t.1) ∙ i.one

first_residue_of : (n : ℕ) (v : List (CodeKey × ℕ)) (y : CodeKey × ℕ) → 0 < length v → y ≡ get_or v 0 y → head_coefficient (sum_of n v) ≡ y.1
first_residue_of n [] y some e = absurd (omega arith)
first_residue_of n (t ∷ v) y some e = ap (λ z. z.1) (sym e)

-- what is made of the vector with index i
pub named_row :
    (n p : ℕ) (list : List (List (CodeKey × ℕ))) (keys : List CodeKey) (r : RowShown) (i c : ℕ) (v : List (CodeKey × ℕ)) (y : CodeKey × ℕ)
    (es : List Entry) (k q : ℕ)
    → i < length list → v ≡ get_or list i [] → 0 < length (get_or list i []) → y ≡ get_or v 0 y → k ≡ n → q ≡ p
    → IsInverse q y.1 c → r.entries ≡ es → r.sources ≡ (i, c) ∷ [] → AreNamed k keys es (sum_of k (rescaled q c v))
    → IsNamedRow n p list keys r
named_row n p list keys r i c v y es k q lt at some first ek eq inverse entries sources named =
    let head : head_coefficient (sum_of n (get_or list i [])) ≡ y.1 = first_residue_of n (get_or list i []) y some (first ∙ ap (λ xs. get_or xs 0 y) at) in (
      record { number = i; within = lt; factor = c; inverse = subst (λ a. IsInverse p a c) (sym head) (subst (λ z. IsInverse z y.1 c) eq inverse); sources = sources },
      subst (λ xs. AreNamed n keys xs (sum_of n (rescaled p c (get_or list i [])))) (sym entries)
          (subst (λ xs. AreNamed n keys es (sum_of n (rescaled p c xs))) at
          (subst (λ z. AreNamed n keys es (sum_of n (rescaled z c v))) eq
          (subst (λ z. AreNamed z keys es (sum_of z (rescaled q c v))) ek named))),
    )

-- the rows of the first vectors, so many
pub record AreFirstRows (n : ℕ) (ws : List ℕ) (p : ℕ) (list : List (List (CodeKey × ℕ))) (keys : List CodeKey)
    (rows : List RowShown) (i : ℕ) : Type 0 where
  pub monomials : AreKeys n ws keys
  pub each : Each (IsNamedRow n p list keys) rows
  pub order : map first_source rows ++ nonzero_from i (drop i list) ≡ nonzero_from 0 list

-- the step of a vector that is not zero
pub rows_more :
    (n : ℕ) (ws : List ℕ) (p : ℕ) (list : List (List (CodeKey × ℕ))) (keys keys' made : List CodeKey)
    (rows rows' pushed : List RowShown) (r : RowShown) (i : ℕ)
    → keys' ≡ made → rows' ≡ pushed → pushed ≡ rows ++ r ∷ [] → i < length list → 0 < length (get_or list i [])
    → IsGrown keys made r.entries → (AreKeys n ws keys → AreKeys n ws made) → IsNamedRow n p list made r → first_source r ≡ i
    → AreKeys n ws keys → Each (IsNamedRow n p list keys) rows
    → map first_source rows ++ nonzero_from i (drop i list) ≡ nonzero_from 0 list
    → AreFirstRows n ws p list keys' rows' (i + 1)
rows_more n ws p list keys keys' made rows rows' pushed r i ek er more lt some grown weighed named source monomials each order =
    subst (λ ks. AreFirstRows n ws p list ks rows' (i + 1)) (sym ek)
    (subst (λ rs. AreFirstRows n ws p list made rs (i + 1)) (sym (er ∙ more))
    (record {
      monomials = weighed monomials;
      each = Each_append (IsNamedRow n p list made) rows (r ∷ []) (named_rows_more n p list keys made r.entries rows grown each) (named, tt);
      order = order_more list i rows r lt some source order;
    }))

-- the step of one that is
pub rows_same :
    (n : ℕ) (ws : List ℕ) (p : ℕ) (list : List (List (CodeKey × ℕ))) (keys keys' : List CodeKey) (rows rows' : List RowShown) (i : ℕ)
    → keys' ≡ keys → rows' ≡ rows → i < length list → length (get_or list i []) ≡ 0
    → AreKeys n ws keys → Each (IsNamedRow n p list keys) rows
    → map first_source rows ++ nonzero_from i (drop i list) ≡ nonzero_from 0 list
    → AreFirstRows n ws p list keys' rows' (i + 1)
rows_same n ws p list keys keys' rows rows' i ek er lt none monomials each order =
    subst (λ ks. AreFirstRows n ws p list ks rows' (i + 1)) (sym ek)
    (subst (λ rs. AreFirstRows n ws p list keys rs (i + 1)) (sym er)
    (record { monomials = monomials; each = each; order = order_zero list i (map first_source rows) lt none order }))
