-- What holds of each item, and what leaves a list
use Rattle.std.specs.Prelude.{Contains, drop}
use Rattle.std.proofs.Common.{List, [], ap, arith, get_or, length, map, refl, subst, suc, sym, zero, ℕ, ◌++◌, ◌+◌, ◌<◌, ◌∙◌, ◌∷◌, ◌≡◌, ◌≤◌}
use Rattle.formal_sums.specs.FormalSums.{Each, FormalSum}

-- ---- what holds of each item
pub all_append : {X : Type 0} (P : X → Type 0) (xs ys : List X) → Each P xs → Each P ys → Each P (xs ++ ys)
all_append P [] ys h g = g
all_append P (x ∷ xs) ys h g = (h.0, all_append P xs ys h.1 g)

pub all_map : {X : Type 0} (P Q : X → Type 0) (xs : List X) → ((x : X) → P x → Q x) → Each P xs → Each Q xs
all_map P Q [] f h = tt
all_map P Q (x ∷ xs) f h = (f x h.0, all_map P Q xs f h.1)

pub contains_left : {X : Type 0} (xs ys : List X) (x : X) → Contains xs x → Contains (xs ++ ys) x
contains_left [] ys x (i, lt, e) = absurd (omega arith)
contains_left (y ∷ xs) ys x (zero, lt, e) = (0, omega arith, e)
contains_left (y ∷ xs) ys x (suc i, lt, e) = let r = contains_left xs ys x (i, omega arith, e) in (suc r.0, (let l = r.1 in omega (arith, l)), r.2)

pub contains_end : {X : Type 0} (xs : List X) (x : X) → Contains (xs ++ x ∷ []) x
contains_end [] x = (0, omega arith, refl)
contains_end (y ∷ xs) x = let r = contains_end xs x in (suc r.0, (let l = r.1 in omega (arith, l)), r.2)

pub each_in : {X : Type 0} (P : X → Type 0) (xs : List X) (x : X) → Each P xs → Contains xs x → P x
each_in P [] x h (i, lt, e) = absurd (omega (arith, lt))
each_in P (y ∷ xs) x h (zero, lt, e) = subst P e h.0
each_in P (y ∷ xs) x h (suc i, lt, e) = each_in P xs x h.1 (i, omega (arith, lt), e)

pub each_left : {X : Type 0} (P : X → Type 0) (xs ys : List X) → Each P (xs ++ ys) → Each P xs
each_left P [] ys h = tt
each_left P (x ∷ xs) ys h = (h.0, each_left P xs ys h.1)

pub each_right : {X : Type 0} (P : X → Type 0) (xs ys : List X) → Each P (xs ++ ys) → Each P ys
each_right P [] ys h = h
each_right P (x ∷ xs) ys h = each_right P xs ys h.1

pub each_mapped : {X Y : Type 0} (P : Y → Type 0) (f : X → Y) (xs : List X) → Each (λ x. P (f x)) xs → Each P (map f xs)
each_mapped P f [] h = tt
each_mapped P f (x ∷ xs) h = (h.0, each_mapped P f xs h.1)

pub each_unmapped : {X Y : Type 0} (P : Y → Type 0) (f : X → Y) (xs : List X) → Each P (map f xs) → Each (λ x. P (f x)) xs
each_unmapped P f [] h = tt
each_unmapped P f (x ∷ xs) h = (h.0, each_unmapped P f xs h.1)

-- ---- what leaves a list
pub drop_item : {X : Type 0} (xs : List X) (k : ℕ) (x : X) → k < length xs → x ≡ get_or xs k x → drop k xs ≡ x ∷ drop (k + 1) xs
drop_item [] k x lt e = absurd (omega (arith, lt))
drop_item (y ∷ xs) zero x lt e = ap (λ z. z ∷ xs) (sym e)
drop_item (y ∷ xs) (suc k) x lt e = let q : suc k + 1 ≡ suc (k + 1) = omega arith in drop_item xs k x (omega (arith, lt)) e
    ∙ ap (λ j. x ∷ drop j (y ∷ xs)) (sym q)

pub drop_none : {X : Type 0} (xs : List X) (i : ℕ) → length xs ≤ i → drop i xs ≡ []
drop_none [] zero le = refl
drop_none [] (suc i) le = refl
drop_none (x ∷ xs) zero le = absurd (omega (arith, le))
drop_none (x ∷ xs) (suc i) le = drop_none xs i (omega (arith, le))

pub map_same : {n : ℕ} (F : List (FormalSum n)) → map (λ (v : FormalSum n). v) F ≡ F
map_same [] = refl
map_same (v ∷ F) = ap (λ r. v ∷ r) (map_same F)
