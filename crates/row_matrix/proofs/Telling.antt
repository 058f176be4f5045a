-- Where hashes tell the keys, a key with the hash of a product is the product
use Rattle.std.proofs.Common.{List, [], ap, ap₂, arith, get_or, inl, inr, length, subst, sym, take, ℕ, ◌+◌, ◌++◌, ◌<◌, ◌∙◌, ◌∷◌, ◌≡◌, ◌≤◌, ◌⊎◌}
use Rattle.std.proofs.lemmas.List.{get_or_default}
use Rattle.monomials.specs.Exponents.{exponents_of}
use Rattle.formal_sums.proofs.Combining.{Each_map}
use Rattle.formal_sums.proofs.WeightedSums.{Each_append}
use Rattle.formal_sums.specs.FormalSums.{Each}
use Rattle.monomials.specs.Weights.{weighted_degree}
use Rattle.monomial_orders.specs.Kept.{IsWeighed, Monomial}
use Rattle.term_lists.proofs.Scaling.{Each_at, Each_more}
use Rattle.term_lists.specs.declared.key.Key.{Key}
use Rattle.row_matrix.proofs.Digits.{base_small, digits_same, fits_below, sums_few}
use Rattle.row_matrix.proofs.KeyProducts.{key_product_weighed, length_sums}
use Rattle.row_matrix.specs.Hashes.{IsNumbered, digit_base, key_product, no_key, sums}
use Rattle.row_matrix.specs.Rows.{AreKeys}
use Rattle.row_matrix.specs.Told.{AreTold, AreToldWith, FitsDigits, IsToldKey, IsKeyUpTo, TellsProduct}

-- a product within the bounds is a key that its hash tells
product_told :
    (keys : List Key) (t : Monomial) (position degree : ℕ) (key : Key) → length key.monomial.exponents ≡ length t.exponents
    → AreToldWith keys t position degree → IsKeyUpTo position degree key → IsToldKey (key_product t key)
product_told keys t position degree key sized a u = (
  subst (λ n. FitsDigits n key.position) same (fits_below (length t.exponents) key.position position u.place a.fits),
  sums_few (digit_base (length (sums t.exponents key.monomial.exponents))) t.degree degree t.exponents key.monomial.exponents a.exponents u.exponents
      (subst (λ n. t.degree + degree < digit_base n) same a.low),
)
  where
    same : length t.exponents ≡ length (sums t.exponents key.monomial.exponents)
    same = sym (length_sums t.exponents key.monomial.exponents (sym sized))

-- keys with the same exponents have the same degree by the weights
same_key :
    (n : ℕ) (ws : List ℕ) (a b : Key)
    → IsWeighed n ws a.monomial → IsWeighed n ws b.monomial → a.position ≡ b.position → a.monomial.exponents ≡ b.monomial.exponents → a ≡ b
same_key n ws a b v w p e =
    ap₂ (λ (i : ℕ) (m : Monomial). let k : Key = record { position = i; monomial = m } in k) p
    (ap₂ (λ (x : List ℕ) (y : ℕ). let m : Monomial = record { exponents = x; degree = y } in m) e
    (v.degree ∙ ap (λ xs. weighted_degree ws (exponents_of n xs)) e ∙ sym w.degree))

pub tells_product :
    (n : ℕ) (ws : List ℕ) (keys : List Key) (t : Monomial) (position degree : ℕ) (key : Key)
    → AreToldWith keys t position degree → IsKeyUpTo position degree key → IsWeighed n ws t → IsWeighed n ws key.monomial → AreKeys n ws keys
    → TellsProduct keys t key
tells_product n ws keys t position degree key a u wt wk known =
    let product = key_product t key in
    let told = product_told keys t position degree key (wk.variables ∙ sym wt.variables) a u in
    let weighed : IsWeighed n ws product.monomial = key_product_weighed n ws t key wt wk in
    record {
      told = λ i lt same.
          let k = get_or keys i no_key in
          let at : k ≡ get_or keys i k = get_or_default keys i no_key k lt in
          let mine : IsToldKey k = Each_at IsToldKey keys i k a.told lt at in
          let over : IsWeighed n ws k.monomial = Each_at (λ x. IsWeighed n ws x.monomial) keys i k known lt at in
          let sized : length k.monomial.exponents ≡ length product.monomial.exponents = over.variables ∙ sym weighed.variables in
          let both = digits_same k.position product.position k.monomial.exponents product.monomial.exponents mine.0 told.0 sized mine.1 told.1 same in
          same_key n ws k product over weighed both.0 both.1;
      small = omega (arith, u.few, a.low, base_small (length t.exponents));
    }

pub tells_products :
    (n : ℕ) (ws : List ℕ) (keys : List Key) (t : Monomial) (position degree : ℕ) (v : List (Key × ℕ))
    → AreToldWith keys t position degree → Each (λ u. IsKeyUpTo position degree u.0) v → IsWeighed n ws t → Each (λ u. IsWeighed n ws u.0.monomial) v
    → AreKeys n ws keys → Each (λ u. TellsProduct keys t u.0) v
tells_products n ws keys t position degree [] a bounded wt wv known = tt
tells_products n ws keys t position degree (u ∷ v) a bounded wt wv known =
    (tells_product n ws keys t position degree u.0 a bounded.0 wt wv.0 known, tells_products n ws keys t position degree v a bounded.1 wt wv.1 known)

-- the table has one key more at most, and that is the product
pub told_more :
    (old new : List Key) (t : Monomial) (position degree : ℕ) (key : Key) (i : ℕ) → length key.monomial.exponents ≡ length t.exponents
    → AreToldWith old t position degree → IsKeyUpTo position degree key → IsNumbered old new (key_product t key) i → AreToldWith new t position degree
told_more old new t position degree key i sized a u g = record {
  told = more g.grown;
  fits = a.fits;
  low = a.low;
  exponents = a.exponents;
}
  where
    more : (new ≡ old) ⊎ ((new ≡ old ++ key_product t key ∷ []) × (i ≡ length old)) → AreTold new
    more (inl e) = subst AreTold (sym e) a.told
    more (inr e) = subst AreTold (sym e.0) (Each_append IsToldKey old (key_product t key ∷ []) a.told (product_told old t position degree key sized a u, tt))

-- the bounds of the first terms and of one more
pub up_to_more :
    (v : List (Key × ℕ)) (i : ℕ) (u : Key × ℕ) (position degree position' degree' : ℕ)
    → Each (λ t. IsKeyUpTo position degree t.0) (take i v) → position ≤ position' → degree ≤ degree' → i < length v → u ≡ get_or v i u
    → IsKeyUpTo position' degree' u.0 → Each (λ t. IsKeyUpTo position' degree' t.0) (take (i + 1) v)
up_to_more v i u position degree position' degree' each le le' lt at one =
    Each_more (λ t. IsKeyUpTo position' degree' t.0) v i u (Each_map _ _ (take i v) (λ t h. wider t.0 h) each) lt at one
  where
    wider : (key : Key) → IsKeyUpTo position degree key → IsKeyUpTo position' degree' key
    wider key h = record { place = omega (arith, le, h.place); few = omega (arith, le', h.few); exponents = λ k. omega (arith, le', h.exponents k) }
