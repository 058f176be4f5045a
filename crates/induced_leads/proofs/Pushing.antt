-- Lists of numbers that grow at their end
use Rattle.std.proofs.Common.{List, [], arith, get_or, inl, inr, length, map, refl, subst, subst₂, suc, sym, zero, ℕ, ◌++◌, ◌+◌, ◌<◌, ◌∙◌, ◌∷◌, ◌≡◌, ◌≤◌, ◌⊎◌}
use Rattle.std.proofs.lemmas.Bool.{cases_lt}

pub past : (xs : List ℕ) (j : ℕ) → length xs ≤ j → get_or xs j 0 ≡ 0
past [] j le = refl
past (x ∷ xs) zero le = absurd (omega arith)
past (x ∷ xs) (suc j) le = past xs j (omega arith)

pub pushed_at : (xs : List ℕ) (x j : ℕ) → j < length xs → get_or (xs ++ x ∷ []) j 0 ≡ get_or xs j 0
pushed_at [] x j lt = absurd (omega arith)
pushed_at (y ∷ xs) x zero lt = refl
pushed_at (y ∷ xs) x (suc j) lt = pushed_at xs x j (omega arith)

pub pushed_end : (xs : List ℕ) (x j : ℕ) → length xs ≡ j → get_or (xs ++ x ∷ []) j 0 ≡ x
pushed_end [] x zero e = refl
pushed_end [] x (suc j) e = absurd (omega arith)
pushed_end (y ∷ xs) x zero e = absurd (omega arith)
pushed_end (y ∷ xs) x (suc j) e = pushed_end xs x j (omega arith)

-- what holds of each entry so far and of the next one
pub pushed_each :
    (P : ℕ → ℕ → Type 0) (xs : List ℕ) (x k : ℕ)
    → length xs ≡ k → ((j : ℕ) → j < k → P j (get_or xs j 0)) → P k x
    → (j : ℕ) → j < k + 1 → P j (get_or (xs ++ x ∷ []) j 0)
pushed_each P xs x k e h q j lt = go (cases_lt j k)
  where
    go : (j < k) ⊎ (k ≤ j) → P j (get_or (xs ++ x ∷ []) j 0)
    go (inl l) = let l' : j < length xs = omega arith in rw (pushed_at xs x j l') (h j l)
    go (inr g) = let d : j ≡ k = omega arith in subst (λ i. P i (get_or (xs ++ x ∷ []) i 0)) (sym d) (rw (pushed_end xs x k e) q)

-- the same of items that are told by what stands there
pub pushed_items :
    {X : Type 0} (P : ℕ → X → Type 0) (xs : List X) (x : X) (k : ℕ)
    → length xs ≡ k → ((i : ℕ) (h : X) → i < k → h ≡ get_or xs i h → P i h) → P k x
    → (i : ℕ) (h : X) → i < k + 1 → h ≡ get_or (xs ++ x ∷ []) i h → P i h
pushed_items {X} P xs x k e all q i h lt is = go (cases_lt i k)
  where
    at_front : (xs : List X) (i : ℕ) → i < length xs → get_or (xs ++ x ∷ []) i h ≡ get_or xs i h
    at_front [] i lt = absurd (omega arith)
    at_front (y ∷ xs) zero lt = refl
    at_front (y ∷ xs) (suc i) lt = at_front xs i (omega arith)

    at_end : (xs : List X) (i : ℕ) → length xs ≡ i → get_or (xs ++ x ∷ []) i h ≡ x
    at_end [] zero e = refl
    at_end [] (suc i) e = absurd (omega arith)
    at_end (y ∷ xs) zero e = absurd (omega arith)
    at_end (y ∷ xs) (suc i) e = at_end xs i (omega arith)

    go : (i < k) ⊎ (k ≤ i) → P i h
    go (inl l) = let l' : i < length xs = omega arith in all i h l (is ∙ at_front xs i l')
    go (inr g) =
        let d : i ≡ k = omega arith in
        let d' : length xs ≡ i = omega arith in
        subst₂ P (sym d) (sym (is ∙ at_end xs i d')) q

pub length-pushed : {X : Type 0} (xs : List X) (x : X) → length (xs ++ x ∷ []) ≡ length xs + 1
length-pushed [] x = refl
length-pushed (y ∷ xs) x = omega (arith, length-pushed xs x)

-- what holds of each item so far and of the next one, items past the end read as d
pub pushed_default :
    {X : Type 0} (P : ℕ → X → Type 0) (d : X) (xs : List X) (x : X) (k : ℕ)
    → length xs ≡ k → ((j : ℕ) → j < k → P j (get_or xs j d)) → P k x → (j : ℕ) → j < k + 1 → P j (get_or (xs ++ x ∷ []) j d)
pushed_default {X} P d xs x k e h q j lt = go (cases_lt j k)
  where
    at_front : (xs : List X) (i : ℕ) → i < length xs → get_or (xs ++ x ∷ []) i d ≡ get_or xs i d
    at_front [] i lt = absurd (omega arith)
    at_front (y ∷ xs) zero lt = refl
    at_front (y ∷ xs) (suc i) lt = at_front xs i (omega arith)

    at_end : (xs : List X) (i : ℕ) → length xs ≡ i → get_or (xs ++ x ∷ []) i d ≡ x
    at_end [] zero e = refl
    at_end [] (suc i) e = absurd (omega arith)
    at_end (y ∷ xs) zero e = absurd (omega arith)
    at_end (y ∷ xs) (suc i) e = at_end xs i (omega arith)

    go : (j < k) ⊎ (k ≤ j) → P j (get_or (xs ++ x ∷ []) j d)
    go (inl l) = let l' : j < length xs = omega arith in rw (at_front xs j l') (h j l)
    go (inr g) =
        let c : j ≡ k = omega arith in
        let c' : length xs ≡ j = omega arith in
        subst₂ P (sym c) (sym (at_end xs j c')) q

-- an item of a list's image
pub get_or-map : {X Y : Type 0} (f : X → Y) (xs : List X) (c : ℕ) (d : X) (d' : Y) → c < length xs → get_or (map f xs) c d' ≡ f (get_or xs c d)
get_or-map f [] c d d' lt = absurd (omega arith)
get_or-map f (x ∷ xs) zero d d' lt = refl
get_or-map f (x ∷ xs) (suc c) d d' lt = get_or-map f xs c d d' (omega arith)
