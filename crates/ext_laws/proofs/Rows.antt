-- The rows of a map, and what their combinations are
use Rattle.std.proofs.Common.{List, [], ap, arith, cond, eq-eqb, get_or, inl, inr, length, map, refl, subst, suc, sym, zero, ℕ, ◌&&◌, ◌++◌, ◌+◌, ◌<◌, ◌∙◌, ◌∷◌, ◌≡◌, ◌≤◌, ◌⊎◌}
use Rattle.std.proofs.lemmas.Bool.{cases_lt}
use Rattle.std.proofs.lemmas.Grind.{flat_map-append}
use Rattle.std.proofs.lemmas.List.{get_or_past}
use Rattle.std.specs.Prelude.{nat_eq}
use Rattle.monomials.specs.Exponents.{Exponents, same_exponents, times}
use Rattle.formal_sums.proofs.Items.{item_of}
use Rattle.formal_sums.proofs.Sameness.{scale-append}
use Rattle.formal_sums.proofs.WeightedSums.{Each_append, coefficient-append, indicator_other}
use Rattle.formal_sums.specs.Combinations.{combination}
use Rattle.formal_sums.specs.FormalSums.{Each, FormalSum, HasRank, Key, Term, coefficient, indicator, scale}
use Rattle.operation_laws.proofs.Linear.{Each_of, Each_of_map}
use Rattle.operation_laws.proofs.Quotient.{get_or-listed, length-listed}
use Rattle.operation_laws.specs.Operations.{picked}
use Rattle.ext_laws.specs.Transposes.{pairing, row_from, rows_of}
use Rattle.ext_laws.proofs.Pairing.{eqb_other, nat_cases, pairing-comm, product_at_one, product_at_two, term_pairing, term_product}

-- the terms of v at position i, moved to position j
abbrev pub entries : {n : ℕ} → (i j : ℕ) → FormalSum n → FormalSum n
entries i j v = map (λ t. ((j, t.0.1), t.1)) (picked (λ k. nat_eq k i) v)

entries_in : {n : ℕ} (i j : ℕ) (t : Term n) (v : FormalSum n) → t.0.0 ≡ i → entries i j (t ∷ v) ≡ ((j, t.0.1), t.1) ∷ entries i j v
entries_in {n} i j t v e = ap (λ b. map (λ t. ((j, t.0.1), t.1)) (cond b (t ∷ picked (λ k. nat_eq k i) v) (picked (λ k. nat_eq k i) v))) (eq-eqb t.0.0 i e)

entries_out : {n : ℕ} (i j : ℕ) (t : Term n) (v : FormalSum n) → (t.0.0 ≡ i → ⊥) → entries i j (t ∷ v) ≡ entries i j v
entries_out {n} i j t v ne = ap (λ b. map (λ t. ((j, t.0.1), t.1)) (cond b (t ∷ picked (λ k. nat_eq k i) v) (picked (λ k. nat_eq k i) v))) (eqb_other t.0.0 i ne)

-- where keys stand at one position, their monomials decide; at two, they differ
indicator_at : {n : ℕ} (i j : ℕ) (x y : Exponents n) → i ≡ j → indicator (i, x) (j, y) ≡ indicator (0, x) (0, y)
indicator_at i j x y e = ap (λ b. cond (b && same_exponents x y) 1 0) (eq-eqb i j e)

indicator_apart : {n : ℕ} (i j : ℕ) (x y : Exponents n) → (i ≡ j → ⊥) → indicator (i, x) (j, y) ≡ 0
indicator_apart i j x y ne = indicator_other (i, x) (j, y) (λ e. ne (ap (λ k. k.0) e))

-- ---- a term times a row
-- the entries have no coefficient but at their position
entries_apart :
    {n : ℕ} (i j c : ℕ) (e : Exponents n) (v : FormalSum n) (l : ℕ) (x : Exponents n) → (l ≡ j → ⊥)
    → coefficient (scale c e (entries i j v)) (l, x) ≡ 0
entries_apart i j c e [] l x ne = refl
entries_apart {n} i j c e (t ∷ v) l x ne = go (nat_cases t.0.0 i) (entries_apart i j c e v l x ne)
  where
    go : (t.0.0 ≡ i) ⊎ (t.0.0 ≡ i → ⊥) → coefficient (scale c e (entries i j v)) (l, x) ≡ 0 → coefficient (scale c e (entries i j (t ∷ v))) (l, x) ≡ 0
    go (inl q) z =
        let y : indicator (l, x) (j, times e t.0.1) ≡ 0 = indicator_apart l j x (times e t.0.1) ne in
        ap (λ w. coefficient (scale c e w) (l, x)) (entries_in i j t v q) ∙ (rw (y, z) (omega arith))
    go (inr q) z = ap (λ w. coefficient (scale c e w) (l, x)) (entries_out i j t v q) ∙ z

-- there they are what the term has with the whole vector
entries_there :
    {n : ℕ} (s : Term n) (j : ℕ) (v : FormalSum n) (l : ℕ) (x : Exponents n) → l ≡ j
    → coefficient (scale s.1 s.0.1 (entries s.0.0 j v)) (l, x) ≡ coefficient (term_pairing s v) (0, x)
entries_there s j [] l x at = refl
entries_there {n} s j (t ∷ v) l x at = go (nat_cases t.0.0 s.0.0) (entries_there s j v l x at)
  where
    go :
        (t.0.0 ≡ s.0.0) ⊎ (t.0.0 ≡ s.0.0 → ⊥)
        → coefficient (scale s.1 s.0.1 (entries s.0.0 j v)) (l, x) ≡ coefficient (term_pairing s v) (0, x)
        → coefficient (scale s.1 s.0.1 (entries s.0.0 j (t ∷ v))) (l, x) ≡ coefficient (term_pairing s (t ∷ v)) (0, x)
    go (inl q) z =
        let y : indicator (l, x) (j, times s.0.1 t.0.1) ≡ indicator (0, x) (0, times s.0.1 t.0.1) = indicator_at l j x (times s.0.1 t.0.1) at in
        ap (λ w. coefficient (scale s.1 s.0.1 w) (l, x)) (entries_in s.0.0 j t v q)
        ∙ (rw (y, z) refl)
        ∙ ap (λ w. coefficient (w ++ term_pairing s v) (0, x)) (sym (product_at_one s t (sym q)))
    go (inr q) z =
        ap (λ w. coefficient (scale s.1 s.0.1 w) (l, x)) (entries_out s.0.0 j t v q)
        ∙ z
        ∙ ap (λ w. coefficient (w ++ term_pairing s v) (0, x)) (sym (product_at_two s t (λ e. q (sym e))))

scaled_parts :
    {n : ℕ} (c : ℕ) (e : Exponents n) (v w : FormalSum n) (k : Key n)
    → coefficient (scale c e (v ++ w)) k ≡ coefficient (scale c e v) k + coefficient (scale c e w) k
scaled_parts c e v w k = ap (λ u. coefficient u k) (scale-append c e v w) ∙ coefficient-append (scale c e v) (scale c e w) k

-- a row has no coefficient before the position of its first column
row_before :
    {n : ℕ} (i j c : ℕ) (e : Exponents n) (C : List (FormalSum n)) (l : ℕ) (x : Exponents n) → l < j
    → coefficient (scale c e (row_from i j C)) (l, x) ≡ 0
row_before i j c e [] l x lt = refl
row_before i j c e (v ∷ C) l x lt =
    let one = scaled_parts c e (entries i j v) (row_from i (suc j) C) (l, x) in
    let two = entries_apart i j c e v l x (λ q. omega (arith, q, lt)) in
    let three = row_before i (suc j) c e C l x (omega arith) in
    omega (arith, one, two, three)

-- a term times the row of its position: at each column what the term has with that
row_coefficient :
    {n : ℕ} (s : Term n) (j : ℕ) (C : List (FormalSum n)) (k l : ℕ) (x : Exponents n) → l ≡ j + k
    → coefficient (scale s.1 s.0.1 (row_from s.0.0 j C)) (l, x) ≡ coefficient (term_pairing s (get_or C k [])) (0, x)
row_coefficient s j [] k l x at = refl
row_coefficient s j (v ∷ C) zero l x at =
    let one = scaled_parts s.1 s.0.1 (entries s.0.0 j v) (row_from s.0.0 (suc j) C) (l, x) in
    let two = entries_there s j v l x (omega arith) in
    let three = row_before s.0.0 (suc j) s.1 s.0.1 C l x (omega arith) in
    omega (arith, one, two, three)
row_coefficient s j (v ∷ C) (suc k) l x at =
    let one = scaled_parts s.1 s.0.1 (entries s.0.0 j v) (row_from s.0.0 (suc j) C) (l, x) in
    let two = entries_apart s.0.0 j s.1 s.0.1 v l x (λ q. omega (arith, q, at)) in
    let three = row_coefficient s (suc j) C k l x (omega arith) in
    omega (arith, one, two, three)

-- a term behind the last row has nothing with the columns
pairing_past : {n : ℕ} (m : ℕ) (s : Term n) (v : FormalSum n) → HasRank m v → m ≤ s.0.0 → term_pairing s v ≡ []
pairing_past m s [] h le = refl
pairing_past m s (t ∷ v) h le =
    ap (λ w. w ++ term_pairing s v) (product_at_two s t (λ e. let lt : t.0.0 < m = h.0 in omega (arith, e, lt, le))) ∙ pairing_past m s v h.1 le

rows_term :
    {n : ℕ} (m : ℕ) (C : List (FormalSum n)) → Each (HasRank m) C → (s : Term n) (l : ℕ) (x : Exponents n)
    → coefficient (scale s.1 s.0.1 (get_or (rows_of m C) s.0.0 [])) (l, x) ≡ coefficient (term_pairing s (get_or C l [])) (0, x)
rows_term {n} m C ranks s l x = go (cases_lt s.0.0 m)
  where
    column : HasRank m (get_or C l [])
    column = item_of (HasRank m) C l tt ranks

    go : (s.0.0 < m) ⊎ (m ≤ s.0.0) → coefficient (scale s.1 s.0.1 (get_or (rows_of m C) s.0.0 [])) (l, x) ≡ coefficient (term_pairing s (get_or C l [])) (0, x)
    go (inl lt) =
        let zero_plus : 0 + s.0.0 ≡ s.0.0 = omega arith in
        ap (λ w. coefficient (scale s.1 s.0.1 w) (l, x)) (get_or-listed [] 0 m (λ i. row_from i 0 C) s.0.0 lt ∙ ap (λ i. row_from i 0 C) zero_plus)
        ∙ row_coefficient s 0 C l l x (omega arith)
    go (inr le) =
        ap (λ w. coefficient (scale s.1 s.0.1 w) (l, x)) (get_or_past (rows_of m C) s.0.0 [] (let q = length-listed 0 m (λ i. row_from i 0 C) in omega (arith, q, le)))
        ∙ ap (λ w. coefficient w (0, x)) (sym (pairing_past m s (get_or C l []) column le))

-- the combination of the rows: at each column, the pairing with it
pub rows_combination :
    {n : ℕ} (m : ℕ) (C : List (FormalSum n)) → Each (HasRank m) C → (v : FormalSum n) (l : ℕ) (x : Exponents n)
    → coefficient (combination (rows_of m C) v) (l, x) ≡ coefficient (pairing v (get_or C l [])) (0, x)
rows_combination m C ranks [] l x = refl
rows_combination m C ranks (s ∷ v) l x =
    let one = coefficient-append (scale s.1 s.0.1 (get_or (rows_of m C) s.0.0 [])) (combination (rows_of m C) v) (l, x) in
    let two = coefficient-append (term_pairing s (get_or C l [])) (pairing v (get_or C l [])) (0, x) in
    let three = rows_term m C ranks s l x in
    let four = rows_combination m C ranks v l x in
    omega (arith, one, two, three, four)

-- pairings are polynomials
pub pairing_rank : {n : ℕ} (v c : FormalSum n) → HasRank 1 (pairing v c)
pairing_rank [] c = tt
pairing_rank {n} (s ∷ v) c = Each_append (λ t. t.0.0 < 1) (term_pairing s c) (pairing v c) (one c) (pairing_rank v c)
  where
    first : (t : Term n) → (s.0.0 ≡ t.0.0) ⊎ (s.0.0 ≡ t.0.0 → ⊥) → HasRank 1 (term_product s t)
    first t (inl e) = subst (HasRank 1) (sym (product_at_one s t e)) (let z : 0 < 1 = omega arith in (z, tt))
    first t (inr ne) = subst (HasRank 1) (sym (product_at_two s t ne)) tt

    one : (c : FormalSum n) → HasRank 1 (term_pairing s c)
    one [] = tt
    one (t ∷ c) = Each_append (λ t. t.0.0 < 1) (term_product s t) (term_pairing s c) (first t (nat_cases s.0.0 t.0.0)) (one c)

-- ---- a term times a column
-- the entries of another column than that of the term
column_apart : {n : ℕ} (s : Term n) (i j : ℕ) (v : FormalSum n) → (s.0.0 ≡ j → ⊥) → term_pairing s (entries i j v) ≡ []
column_apart s i j [] ne = refl
column_apart {n} s i j (t ∷ v) ne = go (nat_cases t.0.0 i) (column_apart s i j v ne)
  where
    go : (t.0.0 ≡ i) ⊎ (t.0.0 ≡ i → ⊥) → term_pairing s (entries i j v) ≡ [] → term_pairing s (entries i j (t ∷ v)) ≡ []
    go (inl q) z =
        ap (term_pairing s) (entries_in i j t v q)
        ∙ ap (λ w. w ++ term_pairing s (entries i j v)) (product_at_two s ((j, t.0.1), t.1) ne)
        ∙ z
    go (inr q) z = ap (term_pairing s) (entries_out i j t v q) ∙ z

column_there :
    {n : ℕ} (s : Term n) (i j : ℕ) (v : FormalSum n) (x : Exponents n) → s.0.0 ≡ j
    → coefficient (term_pairing s (entries i j v)) (0, x) ≡ coefficient (scale s.1 s.0.1 v) (i, x)
column_there s i j [] x at = refl
column_there {n} s i j (t ∷ v) x at = go (nat_cases t.0.0 i) (column_there s i j v x at)
  where
    go :
        (t.0.0 ≡ i) ⊎ (t.0.0 ≡ i → ⊥)
        → coefficient (term_pairing s (entries i j v)) (0, x) ≡ coefficient (scale s.1 s.0.1 v) (i, x)
        → coefficient (term_pairing s (entries i j (t ∷ v))) (0, x) ≡ coefficient (scale s.1 s.0.1 (t ∷ v)) (i, x)
    go (inl q) z =
        let y : indicator (i, x) (t.0.0, times s.0.1 t.0.1) ≡ indicator (0, x) (0, times s.0.1 t.0.1) = indicator_at i t.0.0 x (times s.0.1 t.0.1) (sym q) in
        ap (λ w. coefficient (term_pairing s w) (0, x)) (entries_in i j t v q)
        ∙ ap (λ w. coefficient (w ++ term_pairing s (entries i j v)) (0, x)) (product_at_one s ((j, t.0.1), t.1) at)
        ∙ (rw (y, z) refl)
    go (inr q) z =
        let y : indicator (i, x) (t.0.0, times s.0.1 t.0.1) ≡ 0 = indicator_apart i t.0.0 x (times s.0.1 t.0.1) (λ e. q (sym e)) in
        ap (λ w. coefficient (term_pairing s w) (0, x)) (entries_out i j t v q) ∙ z ∙ (rw y (omega arith))

column_before : {n : ℕ} (s : Term n) (i j : ℕ) (F : List (FormalSum n)) → s.0.0 < j → term_pairing s (row_from i j F) ≡ []
column_before s i j [] lt = refl
column_before s i j (v ∷ F) lt =
    flat_map-append (λ t. term_product s t) (entries i j v) (row_from i (suc j) F)
    ∙ ap (λ w. w ++ term_pairing s (row_from i (suc j) F)) (column_apart s i j v (λ e. omega (arith, e, lt)))
    ∙ column_before s i (suc j) F (omega arith)

pairing_parts :
    {n : ℕ} (s : Term n) (v w : FormalSum n) (k : Key n)
    → coefficient (term_pairing s (v ++ w)) k ≡ coefficient (term_pairing s v) k + coefficient (term_pairing s w) k
pairing_parts s v w k = ap (λ u. coefficient u k) (flat_map-append (λ t. term_product s t) v w) ∙ coefficient-append (term_pairing s v) (term_pairing s w) k

-- what a term has with a row is its product with the column of its position, at that row
column_coefficient :
    {n : ℕ} (s : Term n) (i j : ℕ) (F : List (FormalSum n)) (k : ℕ) (x : Exponents n) → s.0.0 ≡ j + k
    → coefficient (term_pairing s (row_from i j F)) (0, x) ≡ coefficient (scale s.1 s.0.1 (get_or F k [])) (i, x)
column_coefficient s i j [] k x at = refl
column_coefficient s i j (v ∷ F) zero x at =
    let one = pairing_parts s (entries i j v) (row_from i (suc j) F) (0, x) in
    let two = column_there s i j v x (omega arith) in
    let three : coefficient (term_pairing s (row_from i (suc j) F)) (0, x) ≡ 0 = ap (λ w. coefficient w (0, x)) (column_before s i (suc j) F (omega arith)) in
    omega (arith, one, two, three)
column_coefficient s i j (v ∷ F) (suc k) x at =
    let one = pairing_parts s (entries i j v) (row_from i (suc j) F) (0, x) in
    let two : coefficient (term_pairing s (entries i j v)) (0, x) ≡ 0 = ap (λ w. coefficient w (0, x)) (column_apart s i j v (λ e. omega (arith, e, at))) in
    let three = column_coefficient s i (suc j) F k x (omega arith) in
    omega (arith, one, two, three)

-- the pairing of a row with a vector is the combination of the columns by this, at the row
pub row_pairing :
    {n : ℕ} (i : ℕ) (F : List (FormalSum n)) (h : FormalSum n) (x : Exponents n)
    → coefficient (pairing (row_from i 0 F) h) (0, x) ≡ coefficient (combination F h) (i, x)
row_pairing {n} i F h x = pairing-comm (row_from i 0 F) h (0, x) ∙ go h
  where
    go : (h : FormalSum n) → coefficient (pairing h (row_from i 0 F)) (0, x) ≡ coefficient (combination F h) (i, x)
    go [] = refl
    go (t ∷ h) =
        let one = coefficient-append (scale t.1 t.0.1 (get_or F t.0.0 [])) (combination F h) (i, x) in
        let two = coefficient-append (term_pairing t (row_from i 0 F)) (pairing h (row_from i 0 F)) (0, x) in
        let three = column_coefficient t i 0 F t.0.0 x (omega arith) in
        let four = go h in
        omega (arith, one, two, three, four)

-- a row has a position for each column
pub row_rank : {n : ℕ} (i j : ℕ) (C : List (FormalSum n)) (m : ℕ) → m ≡ j + length C → HasRank m (row_from i j C)
row_rank i j [] m e = tt
row_rank {n} i j (v ∷ C) m e =
    Each_append (λ t. t.0.0 < m) (entries i j v) (row_from i (suc j) C)
    (Each_of_map (λ t. t.0.0 < m) (λ t. ((j, t.0.1), t.1)) (picked (λ k. nat_eq k i) v) (Each_of _ (picked (λ k. nat_eq k i) v) (λ t. omega arith)))
    (row_rank i (suc j) C m (omega arith))
