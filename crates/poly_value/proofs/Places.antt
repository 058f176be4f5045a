-- The first place of a text among names
use Rattle.std.proofs.Common.{◌≡◌, ℕ, zero, suc, ◌+◌, ◌<◌, ◌≤◌, nat_eq, Bool, true, false, Option, Some, None, List, [], ◌∷◌, length, drop, get_or, refl, ap, ◌∙◌, arith}
use Rattle.std.proofs.lemmas.List.{drop_all}
use Rattle.std.proofs.lemmas.Option.{none-some, same_Some}
use Rattle.std.proofs.Math.Seq.{drop-cons}
use Rattle.std.specs.Cmp.Lexicographic.{pointwise}
use Rattle.std.specs.Option.{option_map}
use Rattle.std.specs.Prelude.{if◌then◌else◌, slice_index, slice_index_or}
use Rattle.poly_value.specs.Values.{place_of, weight_at}

-- the place behind i names
abbrev pub behind : ℕ → Option ℕ → Option ℕ
behind i o = option_map (λ k. k + i) o

next : (i : ℕ) (o : Option ℕ) → behind i (option_map (λ k. k + 1) o) ≡ behind (i + 1) o
next i None = refl
next i (Some k) = let e : k + 1 + i ≡ k + (i + 1) = omega arith in ap Some e

first : (o : Option ℕ) → behind 0 o ≡ o
first None = refl
first (Some k) = let e : k + 0 ≡ k = omega arith in ap Some e

pub begins : (vars : List (List ℕ)) (text : List ℕ) → behind 0 (place_of (drop 0 vars) text) ≡ place_of vars text
begins vars text = first (place_of vars text)

pub ends : (vars : List (List ℕ)) (text : List ℕ) (i : ℕ) → length vars ≤ i → behind i (place_of (drop i vars) text) ≡ None
ends vars text i le = ap (λ l. behind i (place_of l text)) (drop_all i vars le)

found_here : (v : List ℕ) (vars : List (List ℕ)) (text : List ℕ) (i : ℕ) → pointwise nat_eq v text ≡ true → behind i (place_of (v ∷ vars) text) ≡ Some i
found_here v vars text i e = let z : 0 + i ≡ i = omega arith in rw e (ap Some z)

not_here : (v : List ℕ) (vars : List (List ℕ)) (text : List ℕ) (i : ℕ) → pointwise nat_eq v text ≡ false → behind i (place_of (v ∷ vars) text) ≡ behind (i + 1) (place_of vars text)
not_here v vars text i e = rw e (next i (place_of vars text))

pub found : (vars : List (List ℕ)) (text : List ℕ) (i : ℕ) → i < length vars → pointwise nat_eq (get_or vars i []) text ≡ true → behind i (place_of (drop i vars) text) ≡ Some i
found vars text i lt e = ap (λ l. behind i (place_of l text)) (drop-cons vars i [] lt) ∙ found_here (get_or vars i []) (drop (suc i) vars) text i e

pub missed : (vars : List (List ℕ)) (text : List ℕ) (i : ℕ) → i < length vars → pointwise nat_eq (get_or vars i []) text ≡ false → behind i (place_of (drop i vars) text) ≡ behind (i + 1) (place_of (drop (i + 1) vars) text)
missed vars text i lt e =
    let s : suc i ≡ i + 1 = omega arith in
    ap (λ l. behind i (place_of l text)) (drop-cons vars i [] lt) ∙ not_here (get_or vars i []) (drop (suc i) vars) text i e ∙ ap (λ k. behind (i + 1) (place_of (drop k vars) text)) s

below_here : (b : Bool) (o : Option ℕ) (n i : ℕ) → ((k : ℕ) → o ≡ Some k → k < n) → (if b then Some 0 else option_map (λ k. k + 1) o) ≡ Some i → i < suc n
below_here true o n i h e = let z : 0 ≡ i = same_Some 0 i e in omega arith
below_here false None n i h e = absurd (none-some i e)
below_here false (Some k) n i h e =
    let z : k + 1 ≡ i = same_Some (k + 1) i e in
    let lt : k < n = h k refl in
    omega arith

-- a place is one of the names
pub place_below : (vars : List (List ℕ)) (text : List ℕ) (i : ℕ) → place_of vars text ≡ Some i → i < length vars
place_below [] text i e = absurd (none-some i e)
place_below (v ∷ vars) text i e = below_here (pointwise nat_eq v text) (place_of vars text) (length vars) i (λ k h. place_below vars text k h) e

-- the weight of a variable is the one at its place
pub weight_there : (ws : List ℕ) (i w : ℕ) → i < length ws → (0 < slice_index ws i) → w ≡ slice_index_or ws i 0 → w ≡ weight_at ws (Some i)
weight_there [] i w lt pos e = absurd (omega (arith, lt))
weight_there (x ∷ ws) zero w lt pos e = let p : 0 < x = pos in let q : w ≡ x = e in omega arith
weight_there (x ∷ ws) (suc i) w lt pos e = weight_there ws i w (omega (arith, lt)) pos e
