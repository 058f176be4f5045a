-- What the code's comparisons of lists of exponents say of monomials
use Rattle.std.proofs.Common.{Equal, Greater, Less, List, Ordering, [], ap, ap₂, arith, get_or, inl, inr, length, max, min, refl, suc, sym, take, zero, ℕ, ◌*◌, ◌+◌, ◌-◌, ◌<◌, ◌∙◌, ◌∷◌, ◌≡◌, ◌≤◌}
use Rattle.std.proofs.lemmas.Bool.{cases_lt}
use Rattle.std.proofs.lemmas.Cmp.{nat_cmp_total, ranked, tied_itself}
use Rattle.std.proofs.lemmas.List.{get_or-take, length-take-le}
use Rattle.std.specs.Cmp.Lexicographic.{slice_cmp}
use Rattle.std.specs.Ordering.{nat_cmp, ordering_then}
use Rattle.monomials.specs.Exponents.{Exponents, cons, exponents_of, nil, times}
use Rattle.monomials.specs.Weights.{weighted_degree}
use Rattle.orders.proofs.Lexicographic.{nat_cmp-add}
use Rattle.orders.proofs.Weighted.{weighted_grevlex_order}
use Rattle.orders.specs.MonomialOrders.{IsMonomialOrder, first_variables, lex, other_variables, reverse_lex}
use Rattle.orders.specs.WeightedOrders.{weighted_elimination, weighted_grevlex}
use Rattle.monomial_orders.proofs.Totals.{weighted_sum, weighted_sum_is}
use Rattle.monomial_orders.specs.Differences.{EndsDifferences}

pub lex-slice : (n : ℕ) (xs ys : List ℕ) → length xs ≡ n → length ys ≡ n → slice_cmp nat_cmp xs ys ≡ lex (exponents_of n xs) (exponents_of n ys)
lex-slice zero [] [] h k = refl
lex-slice zero [] (y ∷ ys) h k = absurd (cc)
lex-slice zero (x ∷ xs) ys h k = absurd (cc)
lex-slice (suc n) [] ys h k = absurd (cc)
lex-slice (suc n) (x ∷ xs) [] h k = absurd (cc)
lex-slice (suc n) (x ∷ xs) (y ∷ ys) h k = ap (ordering_then (nat_cmp x y)) (lex-slice n xs ys (omega arith) (omega arith))

pub then_keeps : (o q : Ordering) → (o ≡ Equal → ⊥) → ordering_then o q ≡ o
then_keeps Less q n = refl
then_keeps Equal q n = absurd (n refl)
then_keeps Greater q n = refl

-- equal entries from k on, and others at k
pub reverse_lex_same :
    (n : ℕ) (xs ys : List ℕ) → length xs ≡ n → length ys ≡ n → ((x : ℕ) → x < n → get_or xs x 0 ≡ get_or ys x 0)
    → reverse_lex (exponents_of n xs) (exponents_of n ys) ≡ Equal
reverse_lex_same zero xs ys h k e = refl
reverse_lex_same (suc n) [] ys h k e = absurd (cc)
reverse_lex_same (suc n) (x ∷ xs) [] h k e = absurd (cc)
reverse_lex_same (suc n) (x ∷ xs) (y ∷ ys) h k e =
    let r = reverse_lex_same n xs ys (omega arith) (omega arith) (λ i lt. e (suc i) (omega arith)) in
    let d : x ≡ y = e 0 (omega arith) in
    rw r (ap (nat_cmp y) d ∙ tied_itself nat_cmp_total y)

pub reverse_lex_at :
    (n : ℕ) (xs ys : List ℕ) (k : ℕ) → length xs ≡ n → length ys ≡ n → k < n
    → ((x : ℕ) → suc k ≤ x → x < n → get_or xs x 0 ≡ get_or ys x 0) → (get_or xs k 0 ≡ get_or ys k 0 → ⊥)
    → reverse_lex (exponents_of n xs) (exponents_of n ys) ≡ nat_cmp (get_or ys k 0) (get_or xs k 0)
reverse_lex_at zero xs ys k h g lt e ne = absurd (omega arith)
reverse_lex_at (suc n) [] ys k h g lt e ne = absurd (cc)
reverse_lex_at (suc n) (x ∷ xs) [] k h g lt e ne = absurd (cc)
reverse_lex_at (suc n) (x ∷ xs) (y ∷ ys) zero h g lt e ne =
    let r = reverse_lex_same n xs ys (omega arith) (omega arith) (λ i lt'. e (suc i) (omega arith) (omega arith)) in
    rw r refl
reverse_lex_at (suc n) (x ∷ xs) (y ∷ ys) (suc k) h g lt e ne =
    let r = reverse_lex_at n xs ys k (omega arith) (omega arith) (omega arith) (λ i a b. e (suc i) (omega arith) (omega arith)) ne in
    rw r (then_keeps (nat_cmp (get_or ys k 0) (get_or xs k 0)) (nat_cmp y x) (λ q. ne (sym (ranked (get_or ys k 0) (get_or xs k 0) Equal (sym q)))))

-- equal degrees: the last exponent decides
pub grevlex_tie :
    {n : ℕ} (ws : List ℕ) (v w : Exponents n) (d e : ℕ) (q : Ordering) → d ≡ weighted_degree ws v → e ≡ weighted_degree ws w
    → Equal ≡ nat_cmp d e → q ≡ reverse_lex v w → q ≡ weighted_grevlex ws v w
grevlex_tie ws v w d e q hd he t l = l ∙ ap (λ o. ordering_then o (reverse_lex v w)) (t ∙ ap₂ nat_cmp hd he)

-- or the degree decides
pub grevlex_degree :
    {n : ℕ} (ws : List ℕ) (v w : Exponents n) (d e : ℕ) (q : Ordering) → d ≡ weighted_degree ws v → e ≡ weighted_degree ws w
    → q ≡ nat_cmp d e → (q ≡ Equal → ⊥) → q ≡ weighted_grevlex ws v w
grevlex_degree ws v w d e q hd he t ne =
    sym (then_keeps q (reverse_lex v w) ne) ∙ ap (λ o. ordering_then o (reverse_lex v w)) (t ∙ ap₂ nat_cmp hd he)

-- of all exponents the last that differs decides
pub last_decides :
    (xs ys : List ℕ) (n : ℕ) → length xs ≡ length ys → EndsDifferences (length xs) xs ys n → 0 < n
    → reverse_lex (exponents_of (length xs) xs) (exponents_of (length xs) ys) ≡ nat_cmp (get_or ys (n - 1) 0) (get_or xs (n - 1) 0)
last_decides xs ys n h s pos =
    reverse_lex_at (length xs) xs ys (n - 1) refl (sym h) (omega (arith, s.inside)) (λ k a b. s.same k (omega arith) b) (s.differ pos)

-- or there is none
pub last_ties :
    (xs ys : List ℕ) (n : ℕ) → length xs ≡ length ys → EndsDifferences (length xs) xs ys n → n ≡ 0
    → reverse_lex (exponents_of (length xs) xs) (exponents_of (length xs) ys) ≡ Equal
last_ties xs ys n h s z = reverse_lex_same (length xs) xs ys refl (sym h) (λ k lt. s.same k (omega arith) lt)

-- the first k variables and the others together
parts_times : {n : ℕ} (k : ℕ) (v : Exponents n) → times (first_variables k v) (other_variables k v) ≡ v
parts_times k nil = refl
parts_times zero (cons a v) = ap₂ cons (omega arith) (parts_times zero v)
parts_times (suc k) (cons a v) = ap₂ cons (omega arith) (parts_times k v)

-- once the first k variables are the same, all variables compare as the others do
pub elimination_whole :
    {n : ℕ} (ws : List ℕ) (k : ℕ) (v w : Exponents n)
    → weighted_elimination ws k v w
    ≡ ordering_then (weighted_grevlex ws (first_variables k v) (first_variables k w)) (weighted_grevlex ws v w)
elimination_whole {n} ws k v w = go (weighted_grevlex ws (first_variables k v) (first_variables k w)) refl
  where
    o : IsMonomialOrder (weighted_grevlex {n = n} ws)
    o = weighted_grevlex_order n ws

    go :
        (q : Ordering) → weighted_grevlex ws (first_variables k v) (first_variables k w) ≡ q
        → ordering_then q (weighted_grevlex ws (other_variables k v) (other_variables k w)) ≡ ordering_then q (weighted_grevlex ws v w)
    go Less e = refl
    go Greater e = refl
    go Equal e =
        let same : first_variables k v ≡ first_variables k w = o.exact (first_variables k v) (first_variables k w) e in
        sym (o.kept (first_variables k v) (other_variables k v) (other_variables k w))
        ∙ ap₂ (weighted_grevlex ws) (parts_times k v) (ap (λ m. times m (other_variables k w)) same ∙ parts_times k w)

-- the first variables decide
pub elimination_first :
    {n : ℕ} (ws : List ℕ) (k : ℕ) (v w : Exponents n) (q : Ordering)
    → q ≡ weighted_grevlex ws (first_variables k v) (first_variables k w) → (q ≡ Equal → ⊥) → q ≡ weighted_elimination ws k v w
elimination_first ws k v w q e ne =
    sym (then_keeps q (weighted_grevlex ws v w) ne) ∙ ap (λ o. ordering_then o (weighted_grevlex ws v w)) e ∙ sym (elimination_whole ws k v w)

-- or they tie
pub elimination_then :
    {n : ℕ} (ws : List ℕ) (k : ℕ) (v w : Exponents n) (q : Ordering)
    → Equal ≡ weighted_grevlex ws (first_variables k v) (first_variables k w) → q ≡ weighted_grevlex ws v w
    → q ≡ weighted_elimination ws k v w
elimination_then ws k v w q e t = t ∙ ap (λ o. ordering_then o (weighted_grevlex ws v w)) e ∙ sym (elimination_whole ws k v w)

take_nil : (k : ℕ) → ◌≡◌ {A = List ℕ} [] (take k [])
take_nil zero = refl
take_nil (suc k) = refl

-- the first k variables are the first k exponents
none_degree : {n : ℕ} (ws : List ℕ) (v : Exponents n) → weighted_degree ws (first_variables zero v) ≡ 0
none_degree ws nil = refl
none_degree [] (cons a v) = omega (arith, none_degree [] v)
none_degree (c ∷ ws) (cons a v) = omega (arith, none_degree ws v)

none_tie : {n : ℕ} (v w : Exponents n) → reverse_lex (first_variables zero v) (first_variables zero w) ≡ Equal
none_tie nil nil = refl
none_tie (cons a v) (cons b w) = rw (none_tie v w) refl

others_all : {n : ℕ} (v : Exponents n) → other_variables zero v ≡ v
others_all nil = refl
others_all (cons a v) = ap (cons a) (others_all v)

first_degree :
    (ws : List ℕ) (n k : ℕ) (xs : List ℕ) → length xs ≡ n → k ≤ n
    → weighted_degree ws (first_variables k (exponents_of n xs)) ≡ weighted_degree (take k ws) (exponents_of k (take k xs))
first_degree ws n zero xs h le = none_degree ws (exponents_of n xs)
first_degree ws zero (suc k) xs h le = absurd (omega arith)
first_degree ws (suc n) (suc k) [] h le = absurd (cc)
first_degree [] (suc n) (suc k) (x ∷ xs) h le =
    let r = first_degree [] n k xs (omega arith) (omega arith) in
    let f = ap (λ us. weighted_degree us (exponents_of k (take k xs))) (take_nil k) in
    omega (arith, r, f)
first_degree (c ∷ ws) (suc n) (suc k) (x ∷ xs) h le = ap (λ z. max 1 c * x + z) (first_degree ws n k xs (omega arith) (omega arith))

first_tie :
    (n k : ℕ) (xs ys : List ℕ) → length xs ≡ n → length ys ≡ n → k ≤ n
    → reverse_lex (first_variables k (exponents_of n xs)) (first_variables k (exponents_of n ys))
    ≡ reverse_lex (exponents_of k (take k xs)) (exponents_of k (take k ys))
first_tie n zero xs ys h g le = none_tie (exponents_of n xs) (exponents_of n ys)
first_tie zero (suc k) xs ys h g le = absurd (omega arith)
first_tie (suc n) (suc k) [] ys h g le = absurd (cc)
first_tie (suc n) (suc k) (x ∷ xs) [] h g le = absurd (cc)
first_tie (suc n) (suc k) (x ∷ xs) (y ∷ ys) h g le =
    ap (λ o. ordering_then o (nat_cmp y x)) (first_tie n k xs ys (omega arith) (omega arith) (omega arith))

-- more than all variables are all
first_past : {n : ℕ} (k : ℕ) (v : Exponents n) → n ≤ k → first_variables k v ≡ first_variables n v
first_past k nil le = refl
first_past zero (cons a v) le = absurd (omega arith)
first_past (suc k) (cons a v) le = ap (cons a) (first_past k v (omega arith))

clamped : {n : ℕ} (k m : ℕ) (v : Exponents n) → m ≡ min k n → first_variables k v ≡ first_variables m v
clamped {n} k m v e = elim (cases_lt k n) [
  | inl lt ↦ let d : k ≡ m = omega arith in ap (λ j. first_variables j v) d
  | inr le ↦ let d : n ≡ m = omega arith in first_past k v le ∙ ap (λ j. first_variables j v) d
]

-- the degree of the first n exponents as a sum
pub first_sum :
    (ws xs : List ℕ) (n : ℕ) → n ≤ length xs
    → weighted_sum (take n ws) (take n xs) ≡ weighted_degree ws (first_variables n (exponents_of (length xs) xs))
first_sum ws xs n le =
    weighted_sum_is (take n ws) (take n xs)
    ∙ ap (λ j. weighted_degree (take n ws) (exponents_of j (take n xs))) (length-take-le n xs le)
    ∙ sym (first_degree ws (length xs) n xs refl le)

-- first variables of the same exponents are the same
first_same :
    (m k : ℕ) (xs ys : List ℕ) → length xs ≡ m → length ys ≡ m → ((x : ℕ) → x < k → get_or xs x 0 ≡ get_or ys x 0)
    → first_variables k (exponents_of m xs) ≡ first_variables k (exponents_of m ys)
first_same zero k xs ys h g e = refl
first_same (suc m) k [] ys h g e = absurd (cc)
first_same (suc m) k (x ∷ xs) [] h g e = absurd (cc)
first_same (suc m) zero (x ∷ xs) (y ∷ ys) h g e =
    ap (cons 0) (first_same m zero xs ys (omega arith) (omega arith) (λ i lt. absurd (omega arith)))
first_same (suc m) (suc k) (x ∷ xs) (y ∷ ys) h g e =
    ap₂ cons (e 0 (omega arith)) (first_same m k xs ys (omega arith) (omega arith) (λ i lt. e (suc i) (omega arith)))

-- equal exponents between n and k add the same to both degrees
same_added :
    (ws : List ℕ) (m n k : ℕ) (xs ys : List ℕ) → length xs ≡ m → length ys ≡ m → n ≤ k
    → ((x : ℕ) → n ≤ x → x < k → get_or xs x 0 ≡ get_or ys x 0)
    → weighted_degree ws (first_variables k (exponents_of m xs)) + weighted_degree ws (first_variables n (exponents_of m ys))
    ≡ weighted_degree ws (first_variables k (exponents_of m ys)) + weighted_degree ws (first_variables n (exponents_of m xs))
same_added ws zero n k xs ys h g le e = refl
same_added ws (suc m) n k [] ys h g le e = absurd (cc)
same_added ws (suc m) n k (x ∷ xs) [] h g le e = absurd (cc)
same_added ws (suc m) (suc n) zero (x ∷ xs) (y ∷ ys) h g le e = absurd (omega arith)
same_added ws (suc m) zero zero (x ∷ xs) (y ∷ ys) h g le e = omega arith
same_added [] (suc m) zero (suc k) (x ∷ xs) (y ∷ ys) h g le e =
    let d : x ≡ y = e 0 (omega arith) (omega arith) in
    omega (arith, d, same_added [] m zero k xs ys (omega arith) (omega arith) (omega arith) (λ i a b. e (suc i) (omega arith) (omega arith)))
same_added (c ∷ ws) (suc m) zero (suc k) (x ∷ xs) (y ∷ ys) h g le e =
    let d = ap (λ z. max 1 c * z) (e 0 (omega arith) (omega arith)) in
    omega (arith, d, same_added ws m zero k xs ys (omega arith) (omega arith) (omega arith) (λ i a b. e (suc i) (omega arith) (omega arith)))
same_added [] (suc m) (suc n) (suc k) (x ∷ xs) (y ∷ ys) h g le e =
    omega (arith, same_added [] m n k xs ys (omega arith) (omega arith) (omega arith) (λ i a b. e (suc i) (omega arith) (omega arith)))
same_added (c ∷ ws) (suc m) (suc n) (suc k) (x ∷ xs) (y ∷ ys) h g le e =
    omega (arith, same_added ws m n k xs ys (omega arith) (omega arith) (omega arith) (λ i a b. e (suc i) (omega arith) (omega arith)))

-- what is added to both sides decides nothing
nat_cmp_beside : (p q x y : ℕ) → p + y ≡ q + x → nat_cmp p q ≡ nat_cmp x y
nat_cmp_beside p q x y e =
    let l : y + p ≡ q + x = omega arith in
    let r : y + q ≡ q + y = omega arith in
    sym (nat_cmp-add y p q) ∙ ap₂ nat_cmp l r ∙ nat_cmp-add q x y

-- two lists of exponents by their weights, of which the first k compare, and where these differ
pub record AreCompared (ws xs ys : List ℕ) (k m n : ℕ) : Type 0 where
  pub variables : length xs ≡ length ys
  pub clamped : m ≡ min k (length xs)
  pub differences : EndsDifferences m xs ys n

-- the first k variables of a list
abbrev pub firsts : ℕ → (n : ℕ) → List ℕ → Exponents n
firsts k n xs = first_variables k (exponents_of n xs)

-- the exponents up to the last that differs decide
first_at :
    (ws xs ys : List ℕ) (k m n : ℕ) → AreCompared ws xs ys k m n → 0 < n
    → weighted_grevlex ws (firsts k (length xs) xs) (firsts k (length xs) ys)
    ≡ ordering_then
    (nat_cmp (weighted_degree ws (firsts n (length xs) xs)) (weighted_degree ws (firsts n (length xs) ys)))
    (nat_cmp (get_or ys (n - 1) 0) (get_or xs (n - 1) 0))
first_at ws xs ys k m n c pos =
    let j = length xs in
    let le : m ≤ j = omega (arith, c.clamped) in
    let lx : length (take m xs) ≡ m = length-take-le m xs le in
    let ly : length (take m ys) ≡ m = length-take-le m ys (omega (arith, c.variables)) in
    let last : n - 1 < m = omega (arith, c.differences.inside) in
    ap₂ (weighted_grevlex ws) (clamped k m (exponents_of j xs) c.clamped) (clamped k m (exponents_of j ys) c.clamped)
    ∙ ap₂ ordering_then
    (nat_cmp_beside
    (weighted_degree ws (firsts m j xs)) (weighted_degree ws (firsts m j ys))
    (weighted_degree ws (firsts n j xs)) (weighted_degree ws (firsts n j ys))
    (same_added ws j n m xs ys refl (sym c.variables) c.differences.inside (λ x a b. c.differences.same x a b)))
    (first_tie j m xs ys refl (sym c.variables) le
    ∙ reverse_lex_at m (take m xs) (take m ys) (n - 1) lx ly last
    (λ x a b. get_or-take m xs x 0 b ∙ c.differences.same x (omega arith) b ∙ sym (get_or-take m ys x 0 b))
    (λ e. c.differences.differ pos (sym (get_or-take m xs (n - 1) 0 last) ∙ e ∙ get_or-take m ys (n - 1) 0 last))
    ∙ ap₂ nat_cmp (get_or-take m ys (n - 1) 0 last) (get_or-take m xs (n - 1) 0 last))

-- by their degrees
pub first_by_degree :
    (ws xs ys : List ℕ) (k m n : ℕ) (q : Ordering) → AreCompared ws xs ys k m n → 0 < n
    → q ≡ nat_cmp (weighted_degree ws (firsts n (length xs) xs)) (weighted_degree ws (firsts n (length xs) ys)) → (q ≡ Equal → ⊥)
    → q ≡ weighted_grevlex ws (firsts k (length xs) xs) (firsts k (length xs) ys)
first_by_degree ws xs ys k m n q c pos t ne =
    sym (then_keeps q (nat_cmp (get_or ys (n - 1) 0) (get_or xs (n - 1) 0)) ne)
    ∙ ap (λ o. ordering_then o (nat_cmp (get_or ys (n - 1) 0) (get_or xs (n - 1) 0))) t
    ∙ sym (first_at ws xs ys k m n c pos)

-- or by the last of them
pub first_by_last :
    (ws xs ys : List ℕ) (k m n : ℕ) (q : Ordering) → AreCompared ws xs ys k m n → 0 < n
    → Equal ≡ nat_cmp (weighted_degree ws (firsts n (length xs) xs)) (weighted_degree ws (firsts n (length xs) ys))
    → q ≡ nat_cmp (get_or ys (n - 1) 0) (get_or xs (n - 1) 0)
    → q ≡ weighted_grevlex ws (firsts k (length xs) xs) (firsts k (length xs) ys)
first_by_last ws xs ys k m n q c pos t l =
    l ∙ ap (λ o. ordering_then o (nat_cmp (get_or ys (n - 1) 0) (get_or xs (n - 1) 0))) t ∙ sym (first_at ws xs ys k m n c pos)

-- lists that differ nowhere tie
pub first_ties :
    (ws xs ys : List ℕ) (k m n : ℕ) → AreCompared ws xs ys k m n → n ≡ 0
    → Equal ≡ weighted_grevlex ws (firsts k (length xs) xs) (firsts k (length xs) ys)
first_ties ws xs ys k m n c z =
    let j = length xs in
    let e = first_same j m xs ys refl (sym c.variables) (λ x lt. c.differences.same x (omega arith) lt) in
    sym (
    ap₂ (weighted_grevlex ws) (clamped k m (exponents_of j xs) c.clamped) (clamped k m (exponents_of j ys) c.clamped ∙ sym e)
    ∙ tied_itself (let o = weighted_grevlex_order j ws in o.total) (firsts m j xs))
