-- Rows whose keys get numbers one after another
use Rattle.std.proofs.Common.{Contains, List, [], ap, ap₂, arith, get_or, inl, inr, length, map, one-mul, refl, subst, sym, take, ℕ, ◌*◌, ◌+◌, ◌++◌, ◌<◌, ◌∙◌, ◌∷◌, ◌≡◌, ◌≤◌, ◌⊎◌}
use Rattle.std.proofs.lemmas.List.{append_assoc, get_or_append_left, length-append, length_push, map-append, map_push}
use Rattle.std.proofs.lemmas.List.Elements.{Contains-append_left, Contains-push}
use Rattle.std.proofs.lemmas.Bool.{cases_eq}
use Rattle.monomials.specs.Exponents.{exponents_of}
use Rattle.formal_sums.proofs.Sameness.{scale-append}
use Rattle.formal_sums.proofs.WeightedSums.{Each_append}
use Rattle.formal_sums.specs.FormalSums.{Each, FormalSum, Key, scale, shift}
use Rattle.monomial_orders.specs.Kept.{IsWeighed}
use Rattle.term_lists.proofs.Scaling.{take_item}
use Rattle.term_lists.proofs.Merges.{sum_of-append}
use Rattle.term_lists.specs.Vectors.{key_of, sum_of}
use Rattle.term_lists.specs.declared.key.Key.{Key as CodeKey}
use Rattle.row_matrix.specs.Hashes.{IsNumbered, no_key}
use Rattle.row_matrix.specs.Naming.{AreNamed, IsGrown, NamesNumber}
use Rattle.row_matrix.specs.Rows.{AreKeys, Entry, column_key, row_sum}

-- more keys change nothing for entries that name the old ones
pub row_sum_more :
    (n : ℕ) (keys added : List CodeKey) (entries : List Entry)
    → Each (λ e. e.0 < length keys) entries
    → row_sum (column_key n (keys ++ added)) entries ≡ row_sum (column_key n keys) entries
row_sum_more n keys added [] h = refl
row_sum_more n keys added (e ∷ es) h =
    ap₂ (λ k r. (key_of n k, e.1) ∷ r) (get_or_append_left keys added no_key e.0 h.0) (row_sum_more n keys added es h.1)

known_more : (a b : ℕ) (entries : List Entry) → a ≤ b → Each (λ e. e.0 < a) entries → Each (λ e. e.0 < b) entries
known_more a b [] le h = tt
known_more a b (e ∷ es) le h = (omega (arith, h.0), known_more a b es le h.1)

-- more keys keep what is named
pub named_more :
    (n : ℕ) (keys added : List CodeKey) (entries : List Entry) (v : FormalSum n)
    → AreNamed n keys entries v → AreNamed n (keys ++ added) entries v
named_more n keys added entries v h = record {
  known = known_more (length keys) (length (keys ++ added)) entries (omega (arith, length-append keys added)) h.known;
  sum = row_sum_more n keys added entries h.known ∙ h.sum;
}

-- one more entry
named_push :
    (n : ℕ) (keys : List CodeKey) (entries : List Entry) (v : FormalSum n) (i r : ℕ) (k : Key n)
    → AreNamed n keys entries v → i < length keys → column_key n keys i ≡ k
    → AreNamed n keys (entries ++ (i, r) ∷ []) (v ++ (k, r) ∷ [])
named_push n keys entries v i r k h lt e = record {
  known = Each_append _ entries ((i, r) ∷ []) h.known (lt, tt);
  sum = map_push (λ (x : Entry). (column_key n keys x.0, x.1)) entries (i, r) ∙ ap₂ (λ x y. x ++ (y, r) ∷ []) h.sum e;
}

-- the key of one more entry gets its number
pub named_step :
    (n : ℕ) (old new : List CodeKey) (key : CodeKey) (entries : List Entry) (v : FormalSum n) (i r : ℕ)
    → AreNamed n old entries v → IsNumbered old new key i
    → AreNamed n new (entries ++ (i, r) ∷ []) (v ++ (key_of n key, r) ∷ [])
named_step n old new key entries v i r h g = named_push n new entries v i r (key_of n key) (go g.grown) g.within (ap (key_of n) g.there)
  where
    go : (new ≡ old) ⊎ ((new ≡ old ++ key ∷ []) × (i ≡ length old)) → AreNamed n new entries v
    go (inl e) = subst (λ ks. AreNamed n ks entries v) (sym e) h
    go (inr e) = subst (λ ks. AreNamed n ks entries v) (sym e.0) (named_more n old (key ∷ []) entries v h)

-- what is named stays named
names_more : (entries more : List Entry) (i : ℕ) → NamesNumber entries i → NamesNumber (entries ++ more) i
names_more entries more i h = subst (λ xs. Contains xs i) (sym (map-append (λ (e : Entry). e.0) entries more)) (Contains-append_left (map (λ (e : Entry). e.0) entries) (map (λ (e : Entry). e.0) more) i h)

names_last : (entries : List Entry) (i r : ℕ) → NamesNumber (entries ++ (i, r) ∷ []) i
names_last entries i r = subst (λ xs. Contains xs i) (sym (map-append (λ (e : Entry). e.0) entries ((i, r) ∷ []))) (Contains-push (map (λ (e : Entry). e.0) entries) i)

-- the keys grow by one at most, which the entry names
pub grown_step :
    (start old new : List CodeKey) (key : CodeKey) (entries : List Entry) (i r : ℕ)
    → IsGrown start old entries → IsNumbered old new key i → IsGrown start new (entries ++ (i, r) ∷ [])
grown_step start old new key entries i r h g = go g.grown
  where
    go : (new ≡ old) ⊎ ((new ≡ old ++ key ∷ []) × (i ≡ length old)) → IsGrown start new (entries ++ (i, r) ∷ [])
    go (inl e) = record {
      added = h.added;
      grown = e ∙ h.grown;
      named = λ j le lt. names_more entries ((i, r) ∷ []) j (h.named j le (subst (λ m. j < m) (ap length e) lt));
    }
    go (inr e) = record {
      added = h.added ++ key ∷ [];
      grown = e.0 ∙ ap (λ xs. xs ++ key ∷ []) h.grown ∙ append_assoc start h.added (key ∷ []);
      named = λ j le lt. elim (cases_eq j i) [
        | inl f ↦ subst (NamesNumber (entries ++ (i, r) ∷ [])) (sym f) (names_last entries i r)
        | inr ne ↦
            let size : length new ≡ length old + 1 = ap length e.0 ∙ length_push old key in
            let at : i ≡ length old = e.1 in
            names_more entries ((i, r) ∷ []) j (h.named j le (omega arith))
      ];
    }

pub keys_step :
    (n : ℕ) (ws : List ℕ) (old new : List CodeKey) (key : CodeKey) (i : ℕ)
    → AreKeys n ws old → IsNumbered old new key i → IsWeighed n ws key.monomial → AreKeys n ws new
keys_step n ws old new key i h g e = go g.grown
  where
    go : (new ≡ old) ⊎ ((new ≡ old ++ key ∷ []) × (i ≡ length old)) → AreKeys n ws new
    go (inl f) = subst (AreKeys n ws) (sym f) h
    go (inr f) = subst (AreKeys n ws) (sym f.0) (Each_append _ old (key ∷ []) h (e, tt))

-- the term t m, where m is the monomial of the term at index i of v
pub product_step :
    (n : ℕ) (t : List ℕ) (v : List (CodeKey × ℕ)) (i : ℕ) (x : CodeKey × ℕ) (old new : List CodeKey) (key : CodeKey) (entries : List Entry) (j : ℕ)
    → AreNamed n old entries (scale 1 (exponents_of n t) (sum_of n (take i v))) → IsNumbered old new key j
    → i < length v → x ≡ get_or v i x → key_of n key ≡ shift (exponents_of n t) (key_of n x.0)
    → AreNamed n new (entries ++ (j, x.1) ∷ []) (scale 1 (exponents_of n t) (sum_of n (take (i + 1) v)))
product_step n t v i x old new key entries j h g lt at e =
    let m = exponents_of n t in
    let split : scale 1 m (sum_of n (take (i + 1) v)) ≡ scale 1 m (sum_of n (take i v)) ++ (shift m (key_of n x.0), 1 * x.1) ∷ [] =
    ap (λ xs. scale 1 m (sum_of n xs)) (take_item v i x lt at) ∙ ap (scale 1 m) (sum_of-append n (take i v) (x ∷ [])) ∙ scale-append 1 m (sum_of n (take i v)) ((key_of n x.0, x.1) ∷ []) in
    subst (AreNamed n new (entries ++ (j, x.1) ∷ [])) (ap₂ (λ k r. scale 1 m (sum_of n (take i v)) ++ (k, r) ∷ []) e (sym (one-mul x.1)) ∙ sym split)
    (named_step n old new key entries (scale 1 m (sum_of n (take i v))) j x.1 h g)
