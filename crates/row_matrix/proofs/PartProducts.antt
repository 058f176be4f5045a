-- The entries of a product, one after another
use Rattle.std.proofs.Common.{List, [], ap, get_or, inl, length, map, refl, subst, sym, take, ℕ, ◌+◌, ◌++◌, ◌<◌, ◌∙◌, ◌∷◌, ◌≡◌, ◌≤◌, ◌^◌, ◌%◌}
use Rattle.std.proofs.lemmas.List.{get_or-map, length-map, length_push}
use Rattle.monomials.specs.Exponents.{exponents_of}
use Rattle.formal_sums.specs.FormalSums.{FormalSum, scale}
use Rattle.term_lists.proofs.Scaling.{Each_at, Each_more}
use Rattle.term_lists.specs.Stops.{Fits}
use Rattle.term_lists.specs.Vectors.{sum_of}
use Rattle.term_lists.specs.declared.key.Key.{Key}
use Rattle.monomial_orders.specs.Kept.{IsWeighed, Monomial}
use Rattle.row_matrix.proofs.Names.{grown_step, keys_step, product_step}
use Rattle.row_matrix.proofs.KeyProducts.{hash_sum, key_product_key, key_product_weighed}
use Rattle.row_matrix.specs.Hashes.{IsNumbered, factor_hash, hash_of, key_product, no_key, term_hashes}
use Rattle.row_matrix.specs.Naming.{AreNamed, IsGrown, IsPartOfProduct}
use Rattle.row_matrix.specs.Rows.{Entry}
use Rattle.row_matrix.specs.Told.{TellsProduct}

-- the entry of the next term, whose product has this number
pub part_more :
    (start old new : List Key) (t : Monomial) (v : List (Key × ℕ)) (entries entries' : List Entry) (i : ℕ) (x : Key × ℕ) (number : ℕ)
    → IsPartOfProduct start old t v entries → IsNumbered old new (key_product t x.0) number
    → i ≡ length entries → i < length v → x ≡ get_or v i x → length x.0.monomial.exponents ≡ length t.exponents
    → t.degree + x.0.monomial.degree ≤ 65535 → entries' ≡ entries ++ (number, x.1) ∷ []
    → IsPartOfProduct start new t v entries'
part_more start old new t v entries entries' i x number h g at lt is sized small e = record {
  named = subst (λ es. AreNamed n new es (part (length es))) (sym e)
      (subst (λ k. AreNamed n new (entries ++ (number, x.1) ∷ []) (part k)) (sym (length_push entries (number, x.1) ∙ ap (λ k. k + 1) (sym at)))
      (product_step n t.exponents v i x old new (key_product t x.0) entries number (subst (λ k. AreNamed n old entries (part k)) (sym at) h.named) g lt is
      (key_product_key n t x.0 refl sized)));
  grown = subst (IsGrown start new) (sym e) (grown_step start old new (key_product t x.0) entries number x.1 h.grown g);
  weighed = λ ws wt wv known. keys_step n ws old new (key_product t x.0) number (h.weighed ws wt wv known) g
      (key_product_weighed n ws t x.0 wt (Each_at (λ u. IsWeighed n ws u.0.monomial) v i x wv lt is));
  fits = subst (λ k. Fits t (take k v)) (sym longer) (Each_more _ v i x (subst (λ k. Fits t (take k v)) (sym at) h.fits) lt is small);
}
  where
    n : ℕ
    n = length t.exponents

    part : ℕ → FormalSum (length t.exponents)
    part k = scale 1 (exponents_of (length t.exponents) t.exponents) (sum_of (length t.exponents) (take k v))

    longer : length entries' ≡ i + 1
    longer = ap length e ∙ length_push entries (number, x.1) ∙ ap (λ k. k + 1) (sym at)

-- the hash of a term's key
pub term_hash_at :
    (v : List (Key × ℕ)) (hashes : List ℕ) (i : ℕ) (x : Key × ℕ)
    → hashes ≡ term_hashes v → i < length v → x ≡ get_or v i x → get_or hashes i 0 ≡ hash_of x.0
term_hash_at v hashes i x e lt is =
    ap (λ hs. get_or hs i 0) e ∙ get_or-map (λ (u : Key × ℕ). hash_of u.0) v i x 0 lt ∙ ap (λ (u : Key × ℕ). hash_of u.0) (sym is)

-- where hashes tell the product, a key with its hash is the product
pub known_numbered :
    (keys : List Key) (known : List ℕ) (t : Monomial) (key : Key) (added hash number : ℕ)
    → TellsProduct keys t key → length key.monomial.exponents ≡ length t.exponents → added ≡ factor_hash t → hash ≡ hash_of key → hash < 2 ^ 64
    → known ≡ map hash_of keys → number < length known → get_or known number 0 ≡ (hash + added) % 2 ^ 64
    → IsNumbered keys keys (key_product t key) number
known_numbered keys known t key added hash number told sized a h lt hashed within found =
    let inside : number < length keys = subst (λ n. number < n) (ap length hashed ∙ length-map keys hash_of) within in
    let at : get_or known number 0 ≡ hash_of (get_or keys number no_key) =
    ap (λ hs. get_or hs number 0) hashed ∙ get_or-map hash_of keys number no_key 0 inside in
    record {
      within = inside;
      there = told.told number inside (sym at ∙ found ∙ hash_sum t key added hash (sym sized) a h lt);
      grown = inl refl;
    }
