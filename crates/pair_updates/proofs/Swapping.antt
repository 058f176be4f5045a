-- Pairs of a queue that change places
use Rattle.std.proofs.Common.{List, [], ap, arith, drop, get_or, inl, inr, length, refl, set, subst, suc, sym, take, zero, ℕ, ◌++◌, ◌+◌, ◌<◌, ◌∙◌, ◌∷◌, ◌≡◌, ◌≤◌, ◌⊎◌}
use Rattle.std.proofs.lemmas.Bool.{cases_lt}
use Rattle.std.specs.List.{swap}
use Rattle.std.proofs.lemmas.List.{drop-drop, drop-set, drop-set-add, drop-set-lt, drop_more, get_or-drop, get_or-take, length-drop, length-take-le}
use Rattle.std.proofs.lemmas.List.{take-set-le, take-take}
use Rattle.std.proofs.Math.Seq.{paste}
use Rattle.std.proofs.lemmas.List.Edits.{paste_more, swap_is}
use Rattle.formal_sums.specs.FormalSums.{Each}

pub set_length : {X : Type 0} (xs : List X) (i : ℕ) (y : X) → length (set xs i y) ≡ length xs
set_length [] i y = refl
set_length (x ∷ xs) zero y = refl
set_length (x ∷ xs) (suc i) y = ap suc (set_length xs i y)

-- what stands before both places stays
pub take_swap : {X : Type 0} (xs : List X) (i a b : ℕ) → i ≤ a → i ≤ b → take i (swap xs a b) ≡ take i xs
take_swap [] i a b l m = refl
take_swap (d ∷ ys) i a b l m =
    take-set-le i (set (d ∷ ys) a (get_or (d ∷ ys) b d)) b (get_or (d ∷ ys) a d) m ∙ take-set-le i (d ∷ ys) a (get_or (d ∷ ys) b d) l

-- the first goes to the second place
pub drop_swapped : {X : Type 0} (xs : List X) (a b : ℕ) (d : X) → a < b → b < length xs → drop b (swap xs a b) ≡ get_or xs a d ∷ drop (b + 1) xs
drop_swapped xs a b d l m =
    ap (drop b) (sym (swap_is xs a b d (omega (arith, l, m)) m))
    ∙ drop-set (set xs a (get_or xs b d)) b (get_or xs a d) (subst (λ (k : ℕ). b < k) (sym (set_length xs a (get_or xs b d))) m)
    ∙ ap (λ z. get_or xs a d ∷ z) (drop-set-lt (b + 1) xs a (get_or xs b d) (omega (arith, l)))

-- behind the first n
pub drop_both : {X : Type 0} (xs : List X) (n i j : ℕ) → n + i < length xs → n + j < length xs → drop n (swap xs (n + i) (n + j)) ≡ swap (drop n xs) i j
drop_both [] n i j l m = absurd (omega (arith, l))
drop_both (d ∷ ys) n i j l m =
    let xs = d ∷ ys in
    drop-set-add n (set xs (n + i) (get_or xs (n + j) d)) j (get_or xs (n + i) d)
    ∙ ap (λ z. set z j (get_or xs (n + i) d)) (drop-set-add n xs i (get_or xs (n + j) d))
    ∙ (λ t. set (set (drop n xs) i (sym (get_or-drop n xs j d) t)) j (sym (get_or-drop n xs i d) t))
    ∙ swap_is (drop n xs) i j d (omega (arith, length-drop n xs, l)) (omega (arith, length-drop n xs, m))

each_set : {X : Type 0} (P : X → Type 0) (xs : List X) (i : ℕ) (y : X) → Each P xs → P y → Each P (set xs i y)
each_set P [] i y h p = tt
each_set P (x ∷ xs) zero y h p = (p, h.1)
each_set P (x ∷ xs) (suc i) y h p = (h.0, each_set P xs i y h.1 p)

each_get : {X : Type 0} (P : X → Type 0) (xs : List X) (i : ℕ) (d : X) → Each P xs → P d → P (get_or xs i d)
each_get P [] i d h p = p
each_get P (x ∷ xs) zero d h p = h.0
each_get P (x ∷ xs) (suc i) d h p = each_get P xs i d h.1 p

-- what is true of each stays true
pub each_swap : {X : Type 0} (P : X → Type 0) (xs : List X) (a b : ℕ) → Each P xs → Each P (swap xs a b)
each_swap P [] a b h = h
each_swap P (d ∷ ys) a b h =
    each_set P (set (d ∷ ys) a (get_or (d ∷ ys) b d)) b (get_or (d ∷ ys) a d)
    (each_set P (d ∷ ys) a (get_or (d ∷ ys) b d) h (each_get P (d ∷ ys) b d h h.0)) (each_get P (d ∷ ys) a d h h.0)

-- one more of the kept pairs is put back
pub put_back_one :
    {X : Type 0} (q old : List X) (last first kept next : ℕ) (l f : ℕ)
    → last ≡ l + 1 → first ≡ f + 1 → l < f → f < length q → last ≤ kept → kept ≤ length old
    → take last q ≡ take last old → drop first q ≡ drop last (take kept old) ++ drop next old
    → (take l (swap q l f) ≡ take l old) × (drop f (swap q l f) ≡ drop l (take kept old) ++ drop next old)
put_back_one [] old last first kept next l f el ef lt long le short front rest = absurd (omega (arith, long))
put_back_one (d ∷ ys) old last first kept next l f el ef lt long le short front rest =
    let q = d ∷ ys in
    let below : l < last = omega (arith, el) in
    let at : get_or q l d ≡ get_or (take kept old) l d =
    sym (get_or-take last q l d below) ∙ ap (λ z. get_or z l d) front ∙ get_or-take last old l d below
    ∙ sym (get_or-take kept old l d (omega (arith, el, le))) in
    let many : l < length (take kept old) = omega (arith, length-take-le kept old short, el, le) in (
      take_swap q l l f (omega arith) (omega (arith, lt)) ∙ sym (take-take l last q (omega (arith, el))) ∙ ap (take l) front
          ∙ take-take l last old (omega (arith, el)),
      drop_swapped q l f d lt long
          ∙ ap (λ z. get_or q l d ∷ z) (ap (λ k. drop k q) (sym ef) ∙ rest)
          ∙ ap (λ z. z ∷ (drop last (take kept old) ++ drop next old)) at
          ∙ ap (λ z. z ++ drop next old) (ap (λ k. get_or (take kept old) l d ∷ drop k (take kept old)) el ∙ sym (drop_more (take kept old) l d many)),
    )

-- one more pair is exchanged for a blank
pub exchanged_one :
    {X : Type 0} (start blanks old pairs : List X) (first k : ℕ) (x : X)
    → blanks ≡ paste start 0 (drop first old) k → k < length start → first + length start ≤ length old
    → drop (first + k) pairs ≡ drop (first + k) old → length pairs ≡ length old → x ≡ get_or pairs (first + k) x
    → set blanks k x ≡ paste start 0 (drop first old) (k + 1)
exchanged_one start blanks old pairs first k x e l m rest len is =
    let at : x ≡ get_or (drop first old) k x =
    is
    ∙ sym (ap (λ z. get_or z 0 x) (drop_more pairs (first + k) x (omega (arith, l, m, len))))
    ∙ ap (λ z. get_or z 0 x) rest
    ∙ ap (λ z. get_or z 0 x) (drop_more old (first + k) x (omega (arith, l, m)))
    ∙ sym (get_or-drop first old k x) in
    let none : 0 + k ≡ k = omega arith in
    (λ i. set (e i) k (at i))
    ∙ subst (λ (j : ℕ). set (paste start 0 (drop first old) k) j (get_or (drop first old) k x) ≡ paste start 0 (drop first old) (k + 1)) none
    (paste_more start 0 (drop first old) k x (omega (arith, l)) (omega (arith, l, m, length-drop first old)))

-- what stands behind those exchanged stays
pub rest_one :
    {X : Type 0} (old pairs : List X) (n m : ℕ) (y : X) → m ≡ n + 1 → drop n pairs ≡ drop n old → drop m (set pairs n y) ≡ drop m old
rest_one old pairs n m y e rest =
    drop-set-lt m pairs n y (omega (arith, e))
    ∙ ap (λ k. drop k pairs) e ∙ sym (drop-drop 1 n pairs) ∙ ap (drop 1) rest ∙ drop-drop 1 n old ∙ ap (λ k. drop k old) (sym e)

take_set_here : {X : Type 0} (xs : List X) (a : ℕ) (y : X) → a < length xs → take (suc a) (set xs a y) ≡ take a xs ++ (y ∷ [])
take_set_here [] a y l = absurd (omega arith)
take_set_here (x ∷ xs) zero y l = refl
take_set_here (x ∷ xs) (suc a) y l = ap (λ z. x ∷ z) (take_set_here xs a y (omega (arith, l)))

-- the item at the second place stands behind those before the first
pub take_swapped :
    {X : Type 0} (xs : List X) (a b : ℕ) (x : X)
    → a ≤ b → b < length xs → x ≡ get_or xs b x → take (a + 1) (swap xs a b) ≡ take a xs ++ (x ∷ [])
take_swapped {X} xs a b x le m is = go (cases_lt a b)
  where
    more : a + 1 ≡ suc a
    more = omega arith

    as_set : take (a + 1) (swap xs a b) ≡ take (suc a) (set (set xs a (get_or xs b x)) b (get_or xs a x))
    as_set = (λ t. take (more t) (sym (swap_is xs a b x (omega (arith, le, m)) m) t))

    item : take a xs ++ (get_or xs b x ∷ []) ≡ take a xs ++ (x ∷ [])
    item = ap (λ z. take a xs ++ (z ∷ [])) (sym is)

    go : (a < b) ⊎ (b ≤ a) → take (a + 1) (swap xs a b) ≡ take a xs ++ (x ∷ [])
    go (inl l) =
        as_set ∙ take-set-le (suc a) (set xs a (get_or xs b x)) b (get_or xs a x) (omega (arith, l))
        ∙ take_set_here xs a (get_or xs b x) (omega (arith, l, m)) ∙ item
    go (inr r) =
        let e : b ≡ a = omega (arith, le, r) in
        as_set
        ∙ ap (λ k. take (suc a) (set (set xs a (get_or xs b x)) k (get_or xs a x))) e
        ∙ take_set_here (set xs a (get_or xs b x)) a (get_or xs a x) (omega (arith, le, m, set_length xs a (get_or xs b x)))
        ∙ ap (λ z. z ++ (get_or xs a x ∷ [])) (take-set-le a xs a (get_or xs b x) (omega arith))
        ∙ ap (λ k. take a xs ++ (get_or xs k x ∷ [])) (sym e) ∙ item

-- what stands behind both places stays
pub drop_behind : {X : Type 0} (xs : List X) (a b : ℕ) → a ≤ b → drop (b + 1) (swap xs a b) ≡ drop (b + 1) xs
drop_behind [] a b le = refl
drop_behind (d ∷ ys) a b le =
    drop-set-lt (b + 1) (set (d ∷ ys) a (get_or (d ∷ ys) b d)) b (get_or (d ∷ ys) a d) (omega arith)
    ∙ drop-set-lt (b + 1) (d ∷ ys) a (get_or (d ∷ ys) b d) (omega (arith, le))

pub none_taken : {X : Type 0} (xs : List X) → take 0 xs ≡ []
none_taken [] = refl
none_taken (x ∷ xs) = refl

pub none_dropped : {X : Type 0} (xs : List X) → drop 0 xs ≡ xs
none_dropped [] = refl
none_dropped (x ∷ xs) = refl
