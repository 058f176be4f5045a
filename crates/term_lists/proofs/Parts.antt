-- Parts and members of a list have what each of its items has
use Rattle.std.proofs.Common.{List, drop, get_or, length, subst, sym, take, ℕ, ◌++◌, ◌<◌, ◌∷◌, []}
use Rattle.std.proofs.lemmas.List.{get_or_default, take-append-drop}
use Rattle.formal_sums.proofs.WeightedSums.{Each_append}
use Rattle.formal_sums.specs.FormalSums.{Each}
use Rattle.term_lists.proofs.Scaling.{Each_at}

pub Each_split : {X : Type 0} (P : X → Type 0) (xs ys : List X) → Each P (xs ++ ys) → Each P xs × Each P ys
Each_split P [] ys h = (tt, h)
Each_split P (x ∷ xs) ys h = let r = Each_split P xs ys h.1 in ((h.0, r.0), r.1)

pub Each_take : {X : Type 0} (P : X → Type 0) (i : ℕ) (xs : List X) → Each P xs → Each P (take i xs)
Each_take P i xs h = (Each_split P (take i xs) (drop i xs) (subst (Each P) (sym (take-append-drop i xs)) h)).0

pub Each_drop : {X : Type 0} (P : X → Type 0) (i : ℕ) (xs : List X) → Each P xs → Each P (drop i xs)
Each_drop P i xs h = (Each_split P (take i xs) (drop i xs) (subst (Each P) (sym (take-append-drop i xs)) h)).1

pub Each_parts : {X : Type 0} (P : X → Type 0) (i : ℕ) (xs : List X) → Each P (take i xs) → Each P (drop i xs) → Each P xs
Each_parts P i xs h g = subst (Each P) (take-append-drop i xs) (Each_append P (take i xs) (drop i xs) h g)

-- a member of the list has what each of them has
pub Each_member : {X : Type 0} (P : X → Type 0) (xs : List X) (i : ℕ) (d : X) → Each P xs → i < length xs → P (get_or xs i d)
Each_member P xs i d h lt = Each_at P xs i (get_or xs i d) h lt (get_or_default xs i d (get_or xs i d) lt)
