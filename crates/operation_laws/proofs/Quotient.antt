-- Components at some positions, combinations over two lists, and the multiples of a polynomial
use Rattle.std.proofs.Common.{Bool, List, [], add-zero, ap, append_assoc, arith, cond, false, get_or, length, refl, suc, sym, true, zero, ℕ, ◌*◌, ◌++◌, ◌+◌, ◌-◌, ◌<◌, ◌∙◌, ◌∷◌, ◌≡◌, ◌≤◌}
use Rattle.std.proofs.lemmas.Bool.Decides.{nat_tests}
use Rattle.std.specs.Prelude.{nat_lt}
use Rattle.residues.proofs.Congruences.{IsCongruent_add, IsCongruent_minus, IsCongruent_of, IsCongruent_refl, IsCongruent_sym, IsCongruent_trans}
use Rattle.residues.specs.Residues.{IsCongruent}
use Rattle.monomials.specs.Exponents.{Exponents, times, unit}
use Rattle.formal_sums.proofs.Combining.{IsMember_append, IsMember_itself, IsMember_scale, IsMember_zero, weighted_sum-combination}
use Rattle.formal_sums.proofs.OfRank.{HasRank_kept, IsSame_kept, kept}
use Rattle.formal_sums.proofs.Sameness.{IsSame_append, IsSame_of, IsSame_past, IsSame_refl, IsSame_sym, IsSame_trans, coefficient-scale_unit}
use Rattle.formal_sums.proofs.WeightedSums.{coefficient-append}
use Rattle.formal_sums.specs.Combinations.{IsMember, combination}
use Rattle.formal_sums.specs.FormalSums.{Each, FormalSum, HasRank, IsOfRank, IsSame, Key, Term, coefficient, product, scale, weighted_sum}
use Rattle.operation_laws.proofs.Linear.{IsLinear, IsSame_linear, linear_append, linear_zero}
use Rattle.operation_laws.specs.Operations.{basis_vector, first_components, listed, multiples_of, picked}
use Rattle.operation_laws.proofs.Multiply.{IsLinear_product, product-scale}
use Rattle.operation_laws.proofs.Saturate.{single_vector}

-- lists, one behind the other
get_or-left : {X : Type 0} (d : X) (xs ys : List X) (i : ℕ) → i < length xs → get_or (xs ++ ys) i d ≡ get_or xs i d
get_or-left d [] ys i h = absurd (omega arith)
get_or-left d (x ∷ xs) ys zero h = refl
get_or-left d (x ∷ xs) ys (suc i) h = get_or-left d xs ys i (omega arith)

get_or-right : {X : Type 0} (d : X) (xs ys : List X) (i j : ℕ) → j ≡ length xs + i → get_or (xs ++ ys) j d ≡ get_or ys i d
get_or-right d [] ys i j e = ap (λ x. get_or ys x d) (let q : j ≡ i = omega arith in q)
get_or-right d (x ∷ xs) ys i zero e = absurd (omega arith)
get_or-right d (x ∷ xs) ys i (suc j) e = get_or-right d xs ys i j (omega arith)

length-both : {X : Type 0} (xs ys : List X) → length (xs ++ ys) ≡ length xs + length ys
length-both [] ys = omega arith
length-both (x ∷ xs) ys = let q = length-both xs ys in omega (arith, q)

pub lt_true : (a b : ℕ) → a < b → nat_lt a b ≡ true
lt_true a b h = grind (arith, nat_tests)

pub lt_false : (a b : ℕ) → b ≤ a → nat_lt a b ≡ false
lt_false a b h = grind (arith, nat_tests)

-- picking positions
pub IsLinear_picked : {n : ℕ} (test : ℕ → Bool) → IsLinear (picked {n = n} test)
IsLinear_picked {n} test = record { weight = λ f k. cond (test k.0) (f k) 0; by_weight = go }
  where
    one : (f : Key n → ℕ) (t : Term n) (v r : FormalSum n) (s : ℕ) (b : Bool) → weighted_sum f r ≡ s → weighted_sum f (cond b (t ∷ r) r) ≡ t.1 * cond b (f t.0) 0 + s
    one f t v r s true e = omega (arith, e)
    one f t v r s false e = omega (arith, e)

    go : (f : Key n → ℕ) (v : FormalSum n) → weighted_sum f (picked test v) ≡ weighted_sum (λ k. cond (test k.0) (f k) 0) v
    go f [] = refl
    go f (t ∷ v) = one f t v (picked test v) _ (test t.0.0) (go f v)

pub picked-scale : {n : ℕ} (test : ℕ → Bool) (c : ℕ) (e : Exponents n) (v : FormalSum n) → picked test (scale c e v) ≡ scale c e (picked test v)
picked-scale test c e [] = refl
picked-scale {n} test c e (t ∷ v) = one (test t.0.0) (picked-scale test c e v)
  where
    one : (b : Bool) → picked test (scale c e v) ≡ scale c e (picked test v)
        → ◌≡◌ {A = FormalSum n} (cond b (((t.0.0, times e t.0.1), c * t.1) ∷ picked test (scale c e v)) (picked test (scale c e v))) (scale c e (cond b (t ∷ picked test v) (picked test v)))
    one true q = ap (λ r. ((t.0.0, times e t.0.1), c * t.1) ∷ r) q
    one false q = q

pub picked-append : {n : ℕ} (test : ℕ → Bool) (v w : FormalSum n) → picked test (v ++ w) ≡ picked test v ++ picked test w
picked-append test [] w = refl
picked-append {n} test (t ∷ v) w = one (test t.0.0) (picked-append test v w)
  where
    one : (b : Bool) → picked test (v ++ w) ≡ picked test v ++ picked test w
        → ◌≡◌ {A = FormalSum n} (cond b (t ∷ picked test (v ++ w)) (picked test (v ++ w))) (cond b (t ∷ picked test v) (picked test v) ++ picked test w)
    one true q = ap (λ r. t ∷ r) q
    one false q = q

pub picked_all : {n : ℕ} (test : ℕ → Bool) (v : FormalSum n) → Each (λ t. test t.0.0 ≡ true) v → picked test v ≡ v
picked_all test [] h = refl
picked_all test (t ∷ v) h = ap (λ b. cond b (t ∷ picked test v) (picked test v)) h.0 ∙ ap (λ r. t ∷ r) (picked_all test v h.1)

pub picked_none : {n : ℕ} (test : ℕ → Bool) (v : FormalSum n) → Each (λ t. test t.0.0 ≡ false) v → picked test v ≡ []
picked_none test [] h = refl
picked_none test (t ∷ v) h = ap (λ b. cond b (t ∷ picked test v) (picked test v)) h.0 ∙ picked_none test v h.1

pub IsLinear_combination : {n : ℕ} (F : List (FormalSum n)) → IsLinear (combination F)
IsLinear_combination F = record { weight = _; by_weight = weighted_sum-combination F }

-- a and y cancel: a is p - 1 times y
pub IsSame_of_cancel : {n p : ℕ} → 0 < p → (a y : FormalSum n) → IsSame p (a ++ y) [] → IsSame p (scale (p - 1) (unit n) y) a
IsSame_of_cancel {n} {p} pos a y h = record {
  by_key = λ k.
      let u = coefficient a k in
      let v = coefficient y k in
      let z : IsCongruent p (u + v) 0 = IsCongruent_trans (IsCongruent_of p _ _ (sym (coefficient-append a y k))) (h.by_key k) in
      IsCongruent_trans (IsCongruent_of p _ (0 + (p - 1) * v) (coefficient-scale_unit (p - 1) y k ∙ omega arith))
      (IsCongruent_trans (IsCongruent_add (IsCongruent_sym z) (IsCongruent_refl p ((p - 1) * v)))
      (IsCongruent_trans (IsCongruent_of p (u + v + (p - 1) * v) (u + (v + (p - 1) * v)) (omega arith))
      (IsCongruent_trans (IsCongruent_add (IsCongruent_refl p u) (IsCongruent_minus p v pos)) (IsCongruent_of p (u + 0) u (omega arith)))));
}

-- the part of a combination over Y
abbrev pub Part : {n : ℕ} (p : ℕ) (X Y : List (FormalSum n)) → FormalSum n → Type 0
Part {n} p X Y w = (y : FormalSum n) × IsMember p Y y × IsSame p (combination (X ++ Y) w) (combination X (first_components (length X) w) ++ y)

module _ {n p : ℕ} (pos : 0 < p) (X Y : List (FormalSum n)) where
  part_step :
      (t : Term n) (w : FormalSum n) → t.0.0 < length (X ++ Y) → (y : FormalSum n) → IsMember p Y y
      → IsSame p (combination (X ++ Y) w) (combination X (first_components (length X) w) ++ y) → Part p X Y (t ∷ w)
  part_step t w lt y my same = go (nat_lt t.0.0 (length X)) refl
    where
      go : (b : Bool) → nat_lt t.0.0 (length X) ≡ b
          → (z : FormalSum n) × IsMember p Y z × IsSame p (combination (X ++ Y) (t ∷ w)) (combination X (cond b (t ∷ first_components (length X) w) (first_components (length X) w)) ++ z)
      go true e = (
        y,
        my,
        IsSame_trans (IsSame_append (IsSame_of p _ _ (ap (scale t.1 t.0.1) (get_or-left [] X Y t.0.0 (grind (arith, nat_tests, e))))) same)
            (IsSame_of p _ _ (sym (append_assoc (scale t.1 t.0.1 (get_or X t.0.0 [])) (combination X (first_components (length X) w)) y))),
      )
      go false e =
          let le : length X ≤ t.0.0 = grind (arith, nat_tests, e) in
          let g : FormalSum n = get_or Y (t.0.0 - length X) [] in (
            scale t.1 t.0.1 g ++ y,
            IsMember_append Y (scale t.1 t.0.1 g) y (IsMember_scale pos Y t.1 t.0.1 g (IsMember_itself p Y (t.0.0 - length X) (let q = length-both X Y in omega (arith, q, lt, le)))) my,
            IsSame_trans (IsSame_append (IsSame_of p _ _ (ap (scale t.1 t.0.1) (get_or-right [] X Y (t.0.0 - length X) t.0.0 (omega (arith, le))))) (IsSame_refl p (combination (X ++ Y) w)))
                (IsSame_past (scale t.1 t.0.1 g) (combination (X ++ Y) w) (combination X (first_components (length X) w)) y same),
          )

  pub part : (w : FormalSum n) → HasRank (length (X ++ Y)) w → Part p X Y w
  part [] r = ([], IsMember_zero p Y, IsSame_refl p [])
  part (t ∷ w) r = let q = part w r.1 in part_step t w r.0 q.0 q.1 q.2

-- f e_1, .. , f e_m
pub length-listed : {X : Type 0} (i m : ℕ) (g : ℕ → X) → length (listed i m g) ≡ m
length-listed i zero g = refl
length-listed i (suc m) g = ap suc (length-listed (suc i) m g)

pub get_or-listed : {X : Type 0} (d : X) (i m : ℕ) (g : ℕ → X) (j : ℕ) → j < m → get_or (listed i m g) j d ≡ g (i + j)
get_or-listed d i zero g j lt = absurd (omega arith)
get_or-listed d i (suc m) g zero lt = ap g (sym (add-zero i))
get_or-listed d i (suc m) g (suc j) lt = let q : suc i + j ≡ i + suc j = omega arith in get_or-listed d (suc i) m g j (omega arith) ∙ ap g q

-- the combination of f e_1, .. , f e_m by v is f v
pub combination-multiples :
    {n : ℕ} (p m : ℕ) (f v : FormalSum n) → HasRank m v → IsSame p (combination (multiples_of m f) v) (product f v)
combination-multiples {n} p m f [] h = IsSame_sym (linear_zero p (product f) (IsLinear_product f))
combination-multiples {n} p m f (t ∷ v) h =
    let zero_plus : 0 + t.0.0 ≡ t.0.0 = omega arith in
    let one : scale t.1 t.0.1 (get_or (multiples_of m f) t.0.0 []) ≡ product f (t ∷ []) =
    ap (scale t.1 t.0.1) (get_or-listed [] 0 m (λ j. product f (basis_vector j)) t.0.0 h.0 ∙ ap (λ j. product f (basis_vector j)) zero_plus)
    ∙ sym (product-scale f t.1 t.0.1 (basis_vector t.0.0)) ∙ ap (product f) (single_vector t) in
    IsSame_trans (IsSame_append (IsSame_of p _ _ one) (combination-multiples p m f v h.1)) (IsSame_sym (linear_append p (product f) (IsLinear_product f) (t ∷ []) v))

-- so it is for a vector that has the rank modulo p
pub multiples_same :
    {n p : ℕ} → 0 < p → (m : ℕ) (f v : FormalSum n) → IsOfRank p m v → IsSame p (combination (multiples_of m f) v) (product f v)
multiples_same {n} {p} pos m f v r =
    let F : List (FormalSum n) = multiples_of m f in
    let e = IsSame_kept m v r in
    IsSame_trans (IsSame_linear pos (combination F) (IsLinear_combination F) v (kept m v) (IsSame_sym e))
    (IsSame_trans (combination-multiples p m f (kept m v) (HasRank_kept m v)) (IsSame_linear pos (product f) (IsLinear_product f) (kept m v) v e))
