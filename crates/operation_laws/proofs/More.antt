-- Sums of modules, powers, and the embedding
use Rattle.std.proofs.Common.{Bool, List, [], ap, append-nil, ap₂, arith, cond, false, get_or, length, map, refl, suc, sym, true, zero, ℕ, ◌++◌, ◌<◌, ◌∙◌, ◌∷◌, ◌≡◌}
use Rattle.std.proofs.lemmas.Bool.Decides.{nat_tests}
use Rattle.std.specs.Prelude.{nat_lt, ◌↔◌}
use Rattle.monomials.specs.Exponents.{Exponents, cons}
use Rattle.formal_sums.proofs.Combining.{Each_map, IsMember_append, IsMember_same, IsMember_scale, scale-one}
use Rattle.formal_sums.proofs.OfRank.{HasRank_kept, IsSame_kept, kept}
use Rattle.formal_sums.proofs.Sameness.{IsSame_of, IsSame_refl, IsSame_sym, IsSame_trans}
use Rattle.formal_sums.specs.Combinations.{IsMember, combination}
use Rattle.formal_sums.specs.FormalSums.{FormalSum, HasRank, IsOfRank, IsSame, product, scale}
use Rattle.operation_laws.proofs.Front.{IsLinear_with_first, IsLinear_without_first, with_first-scale, without_first-scale, without_with}
use Rattle.operation_laws.proofs.Linear.{Each_left, Each_of_map, Each_right, Each_to_map, IsMember_by, IsMember_each, IsMember_linear, IsSame_linear}
use Rattle.operation_laws.proofs.Multiply.{product_assoc}
use Rattle.operation_laws.proofs.Quotient.{part}
use Rattle.operation_laws.proofs.Saturate.{single_vector}
use Rattle.operation_laws.specs.Operations.{IsSumOfMembers, basis_vector, first_components, power_times, with_first, without_first}

pub picked_rank : {n : ℕ} (m : ℕ) (v : FormalSum n) → HasRank m (first_components m v)
picked_rank m [] = tt
picked_rank {n} m (t ∷ v) = go (nat_lt t.0.0 m) refl (picked_rank m v)
  where
    go : (b : Bool) → nat_lt t.0.0 m ≡ b → HasRank m (first_components m v) → HasRank m (cond b (t ∷ first_components m v) (first_components m v))
    go true e h = (grind (arith, nat_tests, e), h)
    go false e h = h

pub sum_members : {n p : ℕ} → 0 < p → (F H : List (FormalSum n)) (v : FormalSum n) → IsMember p (F ++ H) v ↔ IsSumOfMembers p F H v
sum_members {n} {p} pos F H v = (to, back)
  where
    to : IsMember p (F ++ H) v → IsSumOfMembers p F H v
    to a =
        let q = part pos F H a.cofactors a.positions in
        record {
          left = combination F (first_components (length F) a.cofactors);
          right = q.0;
          in_left = record { cofactors = first_components (length F) a.cofactors; positions = picked_rank (length F) a.cofactors; sums = IsSame_refl p _ };
          in_right = q.1;
          sums = IsSame_trans (IsSame_sym q.2) a.sums;
        }

    back : IsSumOfMembers p F H v → IsMember p (F ++ H) v
    back a =
        let each = IsMember_each p (F ++ H) in
        IsMember_same (F ++ H) (a.left ++ a.right) v a.sums
        (IsMember_append (F ++ H) a.left a.right
        (IsMember_by pos (F ++ H) F (Each_left (IsMember p (F ++ H)) F H each) a.left a.in_left)
        (IsMember_by pos (F ++ H) H (Each_right (IsMember p (F ++ H)) F H each) a.right a.in_right))

-- f^k v is the product of the power and v
pub power_is : {n : ℕ} (f : FormalSum n) (k : ℕ) (v : FormalSum n) → product (power_times f k (basis_vector 0)) v ≡ power_times f k v
power_is f zero v = append-nil _ ∙ scale-one v
power_is f (suc k) v = product_assoc f (power_times f k (basis_vector 0)) v ∙ ap (product f) (power_is f k v)

-- each polynomial is in the module of 1
pub all_polynomials : {n : ℕ} (p : ℕ) (v : FormalSum n) → HasRank 1 v → IsMember p (basis_vector 0 ∷ []) v
all_polynomials {n} p v h = record { cofactors = v; positions = h; sums = IsSame_of p _ _ (go v h) }
  where
    go : (v : FormalSum n) → HasRank 1 v → combination (basis_vector 0 ∷ []) v ≡ v
    go [] h = refl
    go (t ∷ v) h =
        let q : t.0.0 ≡ 0 = let r = h.0 in omega (arith, r) in
        ap₂ ◌++◌ (ap (λ i. scale t.1 t.0.1 (get_or (basis_vector 0 ∷ []) i [])) q ∙ ap (λ i. scale t.1 t.0.1 (basis_vector i)) (sym q) ∙ single_vector t) (go v h.1)

pub all_of_rank : {n : ℕ} (p : ℕ) (v : FormalSum n) → IsOfRank p 1 v → IsMember p (basis_vector 0 ∷ []) v
all_of_rank p v h = IsMember_same (basis_vector 0 ∷ []) (kept 1 v) v (IsSame_kept 1 v h) (all_polynomials p (kept 1 v) (HasRank_kept 1 v))

-- the embedding
get_or-with_first : {n : ℕ} (F : List (FormalSum n)) (i : ℕ) → get_or (map with_first F) i [] ≡ with_first (get_or F i [])
get_or-with_first [] i = refl
get_or-with_first (f ∷ F) zero = refl
get_or-with_first (f ∷ F) (suc i) = get_or-with_first F i

with_first-append : {n : ℕ} (v w : FormalSum n) → with_first (v ++ w) ≡ with_first v ++ with_first w
with_first-append [] w = refl
with_first-append (t ∷ v) w = ap (λ r. ((t.0.0, cons 0 t.0.1), t.1) ∷ r) (with_first-append v w)

pub with_first-combination : {n : ℕ} (F : List (FormalSum n)) (a : FormalSum n) → with_first (combination F a) ≡ combination (map with_first F) (with_first a)
with_first-combination F [] = refl
with_first-combination F (t ∷ a) =
    with_first-append (scale t.1 t.0.1 (get_or F t.0.0 [])) (combination F a)
    ∙ ap₂ ◌++◌ (with_first-scale t.1 t.0.1 (get_or F t.0.0 []) ∙ ap (scale t.1 (cons 0 t.0.1)) (sym (get_or-with_first F t.0.0))) (with_first-combination F a)

pub with_first_same : {n p : ℕ} → 0 < p → (v w : FormalSum n) → IsSame p v w ↔ IsSame p (with_first v) (with_first w)
with_first_same {n} {p} pos v w = (
  IsSame_linear pos with_first IsLinear_with_first v w,
  λ h. IsSame_trans (IsSame_of p _ _ (sym (without_with v))) (IsSame_trans (IsSame_linear pos without_first IsLinear_without_first (with_first v) (with_first w) h) (IsSame_of p _ _ (without_with w))),
)

pub with_first_member : {n p : ℕ} → 0 < p → (F : List (FormalSum n)) (v : FormalSum n) → IsMember p F v ↔ IsMember p (map with_first F) (with_first v)
with_first_member {n} {p} pos F v = (to, back)
  where
    K : List (FormalSum (suc n))
    K = map with_first F

    to : IsMember p F v → IsMember p (map with_first F) (with_first v)
    to = IsMember_linear pos with_first IsLinear_with_first F (map with_first F)
        (Each_map (λ g. IsMember p (map with_first F) (with_first g)) (λ g. (c : ℕ) (e : Exponents n) → IsMember p (map with_first F) (with_first (scale c e g))) F
        (λ g h c e. IsMember_same (map with_first F) (scale c (cons 0 e) (with_first g)) _ (IsSame_of p _ _ (sym (with_first-scale c e g))) (IsMember_scale pos (map with_first F) c (cons 0 e) (with_first g) h))
        (Each_to_map (IsMember p (map with_first F)) with_first F (IsMember_each p (map with_first F)))) v

    one : (g : FormalSum n) → IsMember p F g → (c : ℕ) (e : Exponents (suc n)) → IsMember p F (without_first (scale c e (with_first g)))
    one g h c (cons a e) = IsMember_same F (scale c e g) _ (IsSame_of p _ _ (sym (without_first-scale c a e g))) (IsMember_scale pos F c e g h)

    back : IsMember p (map with_first F) (with_first v) → IsMember p F v
    back a =
        IsMember_same F (without_first (with_first v)) v (IsSame_of p _ _ (without_with v))
        (IsMember_linear pos without_first IsLinear_without_first (map with_first F) F
        (Each_of_map (λ g. (c : ℕ) (e : Exponents (suc n)) → IsMember p F (without_first (scale c e g))) with_first F (Each_map (IsMember p F) _ F one (IsMember_each p F))) (with_first v) a)
