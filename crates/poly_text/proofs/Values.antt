-- The text of a polynomial, a vector or a list says the value
use Rattle.std.proofs.Common.{◌≡◌, ◌≢◌, ◌++◌, ◌+◌, ◌<◌, ◌≤◌, ◌==◌, ◌∙◌, ◌⊎◌, inl, inr, Bool, true, false, cond, List, [], ◌∷◌, ℕ, ℤ, pos, negsuc, zero, suc, length, get_or, filter, map, refl, sym, ap, arith, append_assoc}
use Rattle.std.specs.List.{range_with_len}
use Rattle.std.specs.Fmt.{decimal, signed_decimal}
use Rattle.std.specs.declared.cmp.Ordering.{Ordering}
use Rattle.std.specs.declared.cmp.Ordering.TheVariants.{Greater}
use Rattle.std.proofs.lemmas.Fmt.{decimal_digit}
use Rattle.std.proofs.lemmas.List.{append_cancel_right}
use Rattle.std.proofs.lemmas.List.FromFn.{get_or-map-range_with_len}
use Rattle.std.proofs.lemmas.Bool.{cases_lt}
use Rattle.std.proofs.lemmas.Bool.Decides.{nat_tests}
use Rattle.formal_sums.specs.FormalSums.{Each, Key as KeyOf}
use Rattle.orders.specs.KeyOrders.{Descends, IsKeyOrder}
use Rattle.orders.proofs.KeyOrdering.{less_of_greater}
use Rattle.monomials.specs.Exponents.{exponents_of}
use Rattle.monomial_orders.proofs.Over.{weighed_exact}
use Rattle.monomial_orders.specs.Kept.{IsWeighed, Monomial}
use Rattle.term_lists.specs.Vectors.{HasPositions, key_of, sum_of}
use Rattle.term_lists.specs.declared.key.Key.{Key}
use Rattle.poly_text.specs.Names.{AreDistinctNames}
use Rattle.poly_text.specs.Printable.{IsPrintable, IsPrintableNumber, IsPrintableVector}
use Rattle.poly_text.specs.Texts.{terms_at, entries_text, entry_texts, factor_texts, joined, list_text, poly_text, powers_texts, term_text, vector_text}
use Rattle.poly_text.proofs.Decimals.{AreDigits, decimal_digits_wide, decimal_same}
use Rattle.poly_text.proofs.Splitting.{Free, cut, each_append, each_joined, each_map, joined_same}
use Rattle.poly_text.proofs.Terms.{IsTermByte, powers_are, powers_injective, product_bytes, product_injective}

same_term : (t u : Key × ℕ) → t.0.position ≡ u.0.position → t.0.monomial ≡ u.0.monomial → t.1 ≡ u.1 → t ≡ u
same_term t u p m r =
    ap (λ x. (record t.0 { position = x }, t.1)) p ∙ ap (λ x. (record u.0 { monomial = x }, t.1)) m ∙ ap (λ x. (u.0, x)) r

-- over the same weights the exponents say the monomial
weighed_same : (n : ℕ) (ws : List ℕ) (a b : Monomial) → IsWeighed n ws a → IsWeighed n ws b → a.exponents ≡ b.exponents → a ≡ b
weighed_same n ws a b ha hb e = weighed_exact n ws a b ha hb (ap (exponents_of n) e)

-- all terms stand at the position
abbrev pub AreAt : ℕ → List (Key × ℕ) → Type 0
AreAt i terms = Each (λ t. t.0.position ≡ i) terms

term_injective : (names : List (List ℕ)) (ws : List ℕ) (i : ℕ) (t u : Key × ℕ) → AreDistinctNames names → IsPrintable (length names) ws t → IsPrintable (length names) ws u
    → t.0.position ≡ i → u.0.position ≡ i → term_text names t ≡ term_text names u → t ≡ u
term_injective names ws i t u hn ht hu at au e =
    let both = product_injective t.1 u.1 (powers_texts names t.0.monomial.exponents) (powers_texts names u.0.monomial.exponents) ht.residue hu.residue
    (powers_are names t.0.monomial.exponents hn.0 ht.exponents) (powers_are names u.0.monomial.exponents hn.0 hu.exponents) e in
    same_term t u (at ∙ sym au)
    (weighed_same (length names) ws t.0.monomial u.0.monomial ht.weighed hu.weighed
    (powers_injective names t.0.monomial.exponents u.0.monomial.exponents hn.0 hn.1 ht.weighed.variables hu.weighed.variables ht.exponents hu.exponents both.1))
    both.0

terms_injective : (names : List (List ℕ)) (ws : List ℕ) (i : ℕ) (v w : List (Key × ℕ)) → AreDistinctNames names → Each (IsPrintable (length names) ws) v → Each (IsPrintable (length names) ws) w
    → AreAt i v → AreAt i w → map (term_text names) v ≡ map (term_text names) w → v ≡ w
terms_injective names ws i [] [] hn hv hw av aw e = refl
terms_injective names ws i [] (u ∷ w) hn hv hw av aw e = absurd cc
terms_injective names ws i (t ∷ v) [] hn hv hw av aw e = absurd cc
terms_injective names ws i (t ∷ v) (u ∷ w) hn hv hw av aw e =
    let head : term_text names t ≡ term_text names u = cc in
    let rest : map (term_text names) v ≡ map (term_text names) w = cc in
    let first = term_injective names ws i t u hn hv.0 hw.0 av.0 aw.0 head in
    let more = terms_injective names ws i v w hn hv.1 hw.1 av.1 aw.1 rest in
    cc

-- the texts between the + of a polynomial; zero is a product of the residue 0 and no powers
abbrev summands : List (List ℕ) → List (Key × ℕ) → List (List ℕ)
summands names [] = joined 42 (factor_texts 0 []) ∷ []
summands names (t ∷ ts) = map (term_text names) (t ∷ ts)

poly_is : (names : List (List ℕ)) (v : List (Key × ℕ)) → poly_text names v ≡ joined 43 (summands names v)
poly_is names [] = sym (decimal_digit 0 (omega arith))
poly_is names (t ∷ ts) = refl

summands_some : (names : List (List ℕ)) (v : List (Key × ℕ)) → 0 < length (summands names v)
summands_some names [] = omega arith
summands_some names (t ∷ ts) = omega arith

terms_bytes : (names : List (List ℕ)) (ws : List ℕ) (v : List (Key × ℕ)) → AreDistinctNames names → Each (IsPrintable (length names) ws) v → Each (Each IsTermByte) (map (term_text names) v)
terms_bytes names ws [] hn hv = tt
terms_bytes names ws (t ∷ ts) hn hv =
    (product_bytes t.1 (powers_texts names t.0.monomial.exponents) hv.0.residue (powers_are names t.0.monomial.exponents hn.0 hv.0.exponents), terms_bytes names ws ts hn hv.1)

summands_bytes : (names : List (List ℕ)) (ws : List ℕ) (v : List (Key × ℕ)) → AreDistinctNames names → Each (IsPrintable (length names) ws) v → Each (Each IsTermByte) (summands names v)
summands_bytes names ws [] hn hv = (product_bytes 0 [] (omega arith) tt, tt)
summands_bytes names ws (t ∷ ts) hn hv = terms_bytes names ws (t ∷ ts) hn hv

summands_free : (xs : List (List ℕ)) → Each (Each IsTermByte) xs → Each (Free 43) xs
summands_free xs h = each_map (Each IsTermByte) (Free 43) xs (λ x k. each_map IsTermByte (λ c. c ≢ 43) x (λ c l. l.1) k) h

-- zero is not the text of a term
not_zero : (names : List (List ℕ)) (ws : List ℕ) (t : Key × ℕ) → AreDistinctNames names → IsPrintable (length names) ws t → joined 42 (factor_texts 0 []) ≡ term_text names t → ⊥
not_zero names ws t hn ht e =
    let both = product_injective 0 t.1 [] (powers_texts names t.0.monomial.exponents) (omega arith) ht.residue tt (powers_are names t.0.monomial.exponents hn.0 ht.exponents) e in
    absurd (omega (arith, both.0, ht.nonzero))

summands_injective : (names : List (List ℕ)) (ws : List ℕ) (i : ℕ) (v w : List (Key × ℕ)) → AreDistinctNames names → Each (IsPrintable (length names) ws) v → Each (IsPrintable (length names) ws) w
    → AreAt i v → AreAt i w → summands names v ≡ summands names w → v ≡ w
summands_injective names ws i [] [] hn hv hw av aw e = refl
summands_injective names ws i [] (u ∷ w) hn hv hw av aw e =
    let head : joined 42 (factor_texts 0 []) ≡ term_text names u = cc in absurd (not_zero names ws u hn hw.0 head)
summands_injective names ws i (t ∷ v) [] hn hv hw av aw e =
    let head : joined 42 (factor_texts 0 []) ≡ term_text names t = cc in absurd (not_zero names ws t hn hv.0 head)
summands_injective names ws i (t ∷ v) (u ∷ w) hn hv hw av aw e = terms_injective names ws i (t ∷ v) (u ∷ w) hn hv hw av aw e

-- a polynomial's text says its terms
pub poly_injective : (names : List (List ℕ)) (ws : List ℕ) (i : ℕ) (v w : List (Key × ℕ)) → AreDistinctNames names → Each (IsPrintable (length names) ws) v → Each (IsPrintable (length names) ws) w
    → AreAt i v → AreAt i w → poly_text names v ≡ poly_text names w → v ≡ w
poly_injective names ws i v w hn hv hw av aw e =
    summands_injective names ws i v w hn hv hw av aw
    (joined_same 43 (summands names v) (summands names w) (summands_some names v) (summands_some names w)
    (summands_free _ (summands_bytes names ws v hn hv)) (summands_free _ (summands_bytes names ws w hn hw)) (sym (poly_is names v) ∙ e ∙ poly_is names w))

-- the byte of a polynomial: no comma and no newline
abbrev IsPolyByte : ℕ → Type 0
IsPolyByte c = (42 ≤ c) × (c ≢ 44)

pub poly_bytes : (names : List (List ℕ)) (ws : List ℕ) (v : List (Key × ℕ)) → AreDistinctNames names → Each (IsPrintable (length names) ws) v → Each IsPolyByte (poly_text names v)
poly_bytes names ws v hn hv =
    rw (poly_is names v)
    (each_joined IsPolyByte 43 (summands names v) (omega arith, λ e. absurd (omega arith))
    (each_map (Each IsTermByte) (Each IsPolyByte) (summands names v) (λ x k. each_map IsTermByte IsPolyByte x (λ c l. (l.0, l.2)) k) (summands_bytes names ws v hn hv)))

each_filtered : {X : Type 0} (P : X → Type 0) (test : X → Bool) (xs : List X) → Each P xs → Each P (filter test xs)
each_filtered P test [] h = tt
each_filtered P test (x ∷ xs) h = go (test x) (each_filtered P test xs h.1) where
  go : (b : Bool) → Each P (filter test xs) → Each P (cond b (x ∷ filter test xs) (filter test xs))
  go true rest = (h.0, rest)
  go false rest = rest

at_position_at : (i : ℕ) (v : List (Key × ℕ)) → AreAt i (terms_at i v)
at_position_at i [] = tt
at_position_at i (t ∷ v) = go (t.0.position == i) refl (at_position_at i v) where
  go : (b : Bool) → (t.0.position == i) ≡ b → AreAt i (terms_at i v) → AreAt i (cond b (t ∷ terms_at i v) (terms_at i v))
  go true e rest = (grind (arith, nat_tests), rest)
  go false e rest = rest

each_entry : (P : List ℕ → Type 0) (f : ℕ → List ℕ) (a n : ℕ) → ((i : ℕ) → P (f i)) → Each P (map f (range_with_len a n))
each_entry P f a zero h = tt
each_entry P f a (suc n) h = (h a, each_entry P f (a + 1) n h)

entry_bytes : (names : List (List ℕ)) (ws : List ℕ) (v : List (Key × ℕ)) (i : ℕ) → AreDistinctNames names → Each (IsPrintable (length names) ws) v → Each IsPolyByte (poly_text names (terms_at i v))
entry_bytes names ws v i hn hv = poly_bytes names ws (terms_at i v) hn (each_filtered (IsPrintable (length names) ws) (λ t. t.0.position == i) v hv)

entries_free : (names : List (List ℕ)) (ws : List ℕ) (rank : ℕ) (v : List (Key × ℕ)) → AreDistinctNames names → Each (IsPrintable (length names) ws) v → Each (Free 44) (entry_texts names rank v)
entries_free names ws rank v hn hv =
    each_entry (Free 44) (λ i. poly_text names (terms_at i v)) 0 rank
    (λ i. each_map IsPolyByte (λ c. c ≢ 44) (poly_text names (terms_at i v)) (λ c l. l.1) (entry_bytes names ws v i hn hv))

-- the texts of the entries say what stands at each position
entries_injective : (names : List (List ℕ)) (ws : List ℕ) (rank : ℕ) (v w : List (Key × ℕ)) → AreDistinctNames names → Each (IsPrintable (length names) ws) v → Each (IsPrintable (length names) ws) w
    → entries_text names rank v ≡ entries_text names rank w → (i : ℕ) → i < rank → terms_at i v ≡ terms_at i w
entries_injective names ws zero v w hn hv hw e i below = absurd (omega arith)
entries_injective names ws (suc k) v w hn hv hw e i below =
    let f : ℕ → List ℕ = λ j. poly_text names (terms_at j v) in
    let g : ℕ → List ℕ = λ j. poly_text names (terms_at j w) in
    let inner : joined 44 (entry_texts names (suc k) v) ++ 93 ∷ [] ≡ joined 44 (entry_texts names (suc k) w) ++ 93 ∷ [] = cc in
    let same : joined 44 (entry_texts names (suc k) v) ≡ joined 44 (entry_texts names (suc k) w) = append_cancel_right _ _ (93 ∷ []) inner in
    let all : entry_texts names (suc k) v ≡ entry_texts names (suc k) w
    = joined_same 44 (entry_texts names (suc k) v) (entry_texts names (suc k) w) (omega arith) (omega arith)
    (entries_free names ws (suc k) v hn hv) (entries_free names ws (suc k) w hn hw) same in
    let here : f i ≡ g i
    = sym (get_or-map-range_with_len f 0 (suc k) i i [] below (omega arith)) ∙ ap (λ xs. get_or xs i []) all
    ∙ get_or-map-range_with_len g 0 (suc k) i i [] below (omega arith) in
    poly_injective names ws i (terms_at i v) (terms_at i w) hn
    (each_filtered (IsPrintable (length names) ws) (λ t. t.0.position == i) v hv) (each_filtered (IsPrintable (length names) ws) (λ t. t.0.position == i) w hw)
    (at_position_at i v) (at_position_at i w) here

-- nothing stands at the positions past the rank
past_rank : (rank p : ℕ) (v : List (Key × ℕ)) → rank ≤ p → HasPositions rank v → terms_at p v ≡ []
past_rank rank p [] past h = refl
past_rank rank p (t ∷ v) past h =
    let other : (t.0.position == p) ≡ false = grind (arith, nat_tests) in
    rw other (past_rank rank p v past h.1)

everywhere : (rank : ℕ) (v w : List (Key × ℕ)) → HasPositions rank v → HasPositions rank w → ((i : ℕ) → i < rank → terms_at i v ≡ terms_at i w)
    → (p : ℕ) → terms_at p v ≡ terms_at p w
everywhere rank v w hv hw known p =
    elim (cases_lt p rank) [ inl below ↦ known p below | inr past ↦ past_rank rank p v past hv ∙ sym (past_rank rank p w past hw) ]

-- the term is one of the list
abbrev Among : Key × ℕ → List (Key × ℕ) → Type 0
Among t [] = ⊥
Among t (u ∷ us) = (t ≡ u) ⊎ Among t us

among_from_position : (p : ℕ) (t : Key × ℕ) (rest us : List (Key × ℕ)) → t ∷ rest ≡ terms_at p us → Among t us
among_from_position p t rest [] e = absurd cc
among_from_position p t rest (u ∷ us) e = go (u.0.position == p) (λ k. among_from_position p t rest us k) e where
  go : (b : Bool) → (t ∷ rest ≡ terms_at p us → Among t us) → t ∷ rest ≡ cond b (u ∷ terms_at p us) (terms_at p us) → Among t (u ∷ us)
  go true more k = let same : t ≡ u = cc in inl same
  go false more k = inr (more k)

each_among : {n : ℕ} (compare : KeyOf n → KeyOf n → Ordering) (k : KeyOf n) (t : Key × ℕ) (us : List (Key × ℕ)) → Each (λ u. compare k u.0 ≡ Greater) (sum_of n us)
    → Among t us → compare k (key_of n t.0) ≡ Greater
each_among compare k t [] h a = absurd a
each_among {n} compare k t (u ∷ us) h (inl e) = ap (λ x. compare k (key_of n x.0)) e ∙ h.0
each_among compare k t (u ∷ us) h (inr a) = each_among compare k t us h.1 a

same_tail : (b : Bool) (t : Key × ℕ) (xs ys : List (Key × ℕ)) → cond b (t ∷ xs) xs ≡ cond b (t ∷ ys) ys → xs ≡ ys
same_tail true t xs ys e = cc
same_tail false t xs ys e = e

first_here : (t : Key × ℕ) (v : List (Key × ℕ)) → terms_at t.0.position (t ∷ v) ≡ t ∷ terms_at t.0.position v
first_here t v = let same : (t.0.position == t.0.position) ≡ true = grind (arith, nat_tests) in rw same refl

-- two lists that descend and have the same terms at each position are the same
sorted_same : {n : ℕ} (compare : KeyOf n → KeyOf n → Ordering) → ((k l : KeyOf n) → compare k l ≡ Greater → compare l k ≡ Greater → ⊥) → (v w : List (Key × ℕ))
    → Descends compare (sum_of n v) → Descends compare (sum_of n w) → ((p : ℕ) → terms_at p v ≡ terms_at p w) → v ≡ w
sorted_same compare apart [] [] dv dw e = refl
sorted_same compare apart [] (u ∷ w) dv dw e = let k = e u.0.position ∙ first_here u w in absurd cc
sorted_same compare apart (t ∷ v) [] dv dw e = let k = sym (first_here t v) ∙ e t.0.position in absurd cc
sorted_same {n} compare apart (t ∷ v) (u ∷ w) dv dw e =
    first
    (among_from_position t.0.position t (terms_at t.0.position v) (u ∷ w) (sym (first_here t v) ∙ e t.0.position))
    (among_from_position u.0.position u (terms_at u.0.position w) (t ∷ v) (sym (first_here u w) ∙ sym (e u.0.position)))
    (λ same. sorted_same compare apart v w dv.1 dw.1
    (λ p. same_tail (t.0.position == p) t (terms_at p v) (terms_at p w)
    (e p ∙ ap (λ x. cond (x.0.position == p) (x ∷ terms_at p w) (terms_at p w)) (sym same)))) where
      first : Among t (u ∷ w) → Among u (t ∷ v) → (t ≡ u → v ≡ w) → t ∷ v ≡ u ∷ w
      first (inl same) b more = let rest = more same in cc
      first (inr a) (inl same) more = let back : t ≡ u = sym same in let rest = more back in cc
      first (inr a) (inr b) more = absurd (apart (key_of n u.0) (key_of n t.0) (each_among compare (key_of n u.0) t w dw.0 a) (each_among compare (key_of n t.0) u v dv.0 b))

-- a vector's text says the vector
pub vector_injective : (names : List (List ℕ)) (ws : List ℕ) (rank : ℕ) (compare : KeyOf (length names) → KeyOf (length names) → Ordering) (v w : List (Key × ℕ))
    → AreDistinctNames names → IsKeyOrder rank compare → IsPrintableVector (length names) ws rank compare v → IsPrintableVector (length names) ws rank compare w
    → vector_text names rank v ≡ vector_text names rank w → v ≡ w
vector_injective names ws rank compare v w hn order hv hw e = go (rank == 1) refl e where
  at_zero : (x : List (Key × ℕ)) → HasPositions rank x → rank ≡ 1 → AreAt 0 x
  at_zero x h one = each_map (λ t. t.0.position < rank) (λ t. t.0.position ≡ 0) x (λ t k. omega arith) h

  go : (b : Bool) → (rank == 1) ≡ b → cond b (poly_text names v) (entries_text names rank v) ≡ cond b (poly_text names w) (entries_text names rank w) → v ≡ w
  go true one k =
      let r : rank ≡ 1 = grind (arith, nat_tests) in
      poly_injective names ws 0 v w hn hv.each hw.each (at_zero v hv.positions r) (at_zero w hw.positions r) k
  go false other k =
      sorted_same compare (λ a b h l. let back = less_of_greater order a b h in cc) v w hv.descends hw.descends
      (everywhere rank v w hv.positions hw.positions (entries_injective names ws rank v w hn hv.each hw.each k))

-- a vector's text has no newline
vector_free : (names : List (List ℕ)) (ws : List ℕ) (rank : ℕ) (v : List (Key × ℕ)) → AreDistinctNames names → Each (IsPrintable (length names) ws) v → Free 10 (vector_text names rank v)
vector_free names ws rank v hn hv = go (rank == 1) where
  far : (x : List ℕ) → Each IsPolyByte x → Free 10 x
  far x h = each_map IsPolyByte (λ c. c ≢ 10) x (λ c l e. absurd (omega (arith, l.0))) h

  go : (b : Bool) → Free 10 (cond b (poly_text names v) (entries_text names rank v))
  go true = far (poly_text names v) (poly_bytes names ws v hn hv)
  go false = (
    (λ e. absurd (omega arith)),
    each_append (λ c. c ≢ 10) (joined 44 (entry_texts names rank v)) (93 ∷ [])
        (each_joined (λ c. c ≢ 10) 44 (entry_texts names rank v) (λ e. absurd (omega arith))
        (each_entry (Free 10) (λ i. poly_text names (terms_at i v)) 0 rank (λ i. far (poly_text names (terms_at i v)) (entry_bytes names ws v i hn hv))))
        ((λ e. absurd (omega arith)), tt),
  )

no_line : (x rest : List ℕ) → [] ≡ x ++ 10 ∷ [] ++ rest → ⊥
no_line [] rest e = cc
no_line (c ∷ x) rest e = cc

-- a list's text says the list
pub list_injective : (names : List (List ℕ)) (ws : List ℕ) (rank : ℕ) (compare : KeyOf (length names) → KeyOf (length names) → Ordering) (xs ys : List (List (Key × ℕ)))
    → AreDistinctNames names → IsKeyOrder rank compare
    → Each (IsPrintableVector (length names) ws rank compare) xs → Each (IsPrintableVector (length names) ws rank compare) ys
    → list_text names rank xs ≡ list_text names rank ys → xs ≡ ys
list_injective names ws rank compare [] [] hn order hx hy e = refl
list_injective names ws rank compare [] (y ∷ ys) hn order hx hy e = absurd (no_line (vector_text names rank y) (list_text names rank ys) e)
list_injective names ws rank compare (x ∷ xs) [] hn order hx hy e = absurd (no_line (vector_text names rank x) (list_text names rank xs) (sym e))
list_injective names ws rank compare (x ∷ xs) (y ∷ ys) hn order hx hy e =
    let split = cut 10 (vector_text names rank x) (vector_text names rank y) (10 ∷ list_text names rank xs) (10 ∷ list_text names rank ys)
    (vector_free names ws rank x hn hx.0.each) (vector_free names ws rank y hn hy.0.each) refl refl
    (sym (append_assoc (vector_text names rank x) (10 ∷ []) (list_text names rank xs)) ∙ e ∙ append_assoc (vector_text names rank y) (10 ∷ []) (list_text names rank ys)) in
    let first = vector_injective names ws rank compare x y hn order hx.0 hy.0 split.0 in
    let below : list_text names rank xs ≡ list_text names rank ys = cc in
    let more = list_injective names ws rank compare xs ys hn order hx.1 hy.1 below in
    cc

no_sign : (x y : List ℕ) → AreDigits x → x ≡ 45 ∷ y → ⊥
no_sign [] y h e = h
no_sign (c ∷ cs) y h e = let sign : c ≡ 45 = cc in absurd (omega (arith, h.0.0))

-- a number's text says the number
pub number_injective : (y z : ℤ) → IsPrintableNumber y → IsPrintableNumber z → signed_decimal y ≡ signed_decimal z → y ≡ z
number_injective (pos m) (pos n) hy hz e = ap pos (decimal_same m n (omega arith) (omega arith) e)
number_injective (pos m) (negsuc n) hy hz e = absurd (no_sign (decimal m) (decimal (suc n)) (decimal_digits_wide m (omega arith)) e)
number_injective (negsuc m) (pos n) hy hz e = absurd (no_sign (decimal n) (decimal (suc m)) (decimal_digits_wide n (omega arith)) (sym e))
number_injective (negsuc m) (negsuc n) hy hz e =
    let same : decimal (suc m) ≡ decimal (suc n) = cc in
    let number = decimal_same (suc m) (suc n) (omega arith) (omega arith) same in
    ap negsuc (omega arith)
