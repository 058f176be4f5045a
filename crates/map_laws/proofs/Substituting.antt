-- A substitution is a map of rings
use Rattle.std.proofs.Common.{List, [], ap, append-nil, ap₂, arith, drop, get_or, map, mul-one, refl, suc, sym, zero, ℕ, ◌*◌, ◌++◌, ◌+◌, ◌<◌, ◌∙◌, ◌∷◌, ◌≡◌}
use Rattle.std.proofs.lemmas.List.Concat.{flat_map-append}
use Rattle.residues.proofs.Congruences.{IsCongruent_of}
use Rattle.monomials.specs.Exponents.{Exponents, cons, nil, times, unit}
use Rattle.monomials.proofs.Monomials.{times_assoc, times_comm}
use Rattle.formal_sums.proofs.Combining.{Each_map, IsMember_same, IsMember_scale, scale-one}
use Rattle.formal_sums.proofs.Multiplying.{weighted_sum-product, weighted_sum_swap}
use Rattle.formal_sums.proofs.Sameness.{IsSame_append, IsSame_of, IsSame_refl, IsSame_scale, IsSame_sym, IsSame_trans, shift-unit}
use Rattle.formal_sums.proofs.WeightedSums.{weighted_sum-append, weighted_sum-scale, weighted_sum_ext}
use Rattle.formal_sums.specs.Combinations.{IsMember}
use Rattle.formal_sums.specs.FormalSums.{FormalSum, HasRank, IsSame, Key, indicator, product, scale, shift, weighted_sum}
use Rattle.operation_laws.proofs.Linear.{Each_to_map, IsLinear, IsLinear_after, IsLinear_scale, IsMember_each, IsMember_linear, IsSame_keys, IsSame_linear}
use Rattle.operation_laws.proofs.Multiply.{IsLinear_product, product-append, product_assoc, product_scale}
use Rattle.operation_laws.proofs.Saturate.{IsLinear_power_times, IsMember_power_times, power_times-scale, single_vector}
use Rattle.operation_laws.specs.Operations.{basis_vector, power_times}
use Rattle.map_laws.specs.Graphs.{variable_monomial}
use Rattle.map_laws.specs.Substitution.{image_times, substituted}

-- ---- products in either order, whatever the positions of the factors
product_swap : {n : ℕ} (p : ℕ) (f g v : FormalSum n) → IsSame p (product f (product g v)) (product g (product f v))
product_swap {n} p f g v = record {
  by_key = λ x. IsCongruent_of p _ _
      (spread x f g ∙ weighted_sum_swap (λ k l. weighted_sum (λ j. indicator x (shift k.1 (shift l.1 j))) v) f g
      ∙ weighted_sum_ext _ _ (λ l. weighted_sum_ext _ _ (λ k. weighted_sum_ext _ _ (λ j. ap (λ e. indicator x (j.0, e)) (turn k.1 l.1 j.1)) v) f) g
      ∙ sym (spread x g f));
}
  where
    turn : (a b c : Exponents n) → times a (times b c) ≡ times b (times a c)
    turn a b c = sym (times_assoc a b c) ∙ ap (λ e. times e c) (times_comm a b) ∙ times_assoc b a c

    spread :
        (x : Key n) (f g : FormalSum n)
        → weighted_sum (indicator x) (product f (product g v)) ≡ weighted_sum (λ k. weighted_sum (λ l. weighted_sum (λ j. indicator x (shift k.1 (shift l.1 j))) v) g) f
    spread x f g =
        weighted_sum-product (indicator x) f (product g v)
        ∙ weighted_sum_ext _ _ (λ k. weighted_sum-product (λ l. indicator x (shift k.1 l)) g v) f

-- T multiplies by a polynomial
record IsFactor {n : ℕ} (p : ℕ) (T : FormalSum n → FormalSum n) : Type 0 where
  linear : IsLinear T
  swaps : (g v : FormalSum n) → IsSame p (T (product g v)) (product g (T v))

power_times_factor : {n p : ℕ} → 0 < p → (f : FormalSum n) (a : ℕ) → IsFactor p (power_times f a)
power_times_factor {n} {p} pos f a = record { linear = IsLinear_power_times f a; swaps = go a }
  where
    go : (a : ℕ) (g v : FormalSum n) → IsSame p (power_times f a (product g v)) (product g (power_times f a v))
    go zero g v = IsSame_refl p (product g v)
    go (suc a) g v = IsSame_trans (IsSame_linear pos (product f) (IsLinear_product f) _ _ (go a g v)) (product_swap p f g (power_times f a v))

image_times_factor : {n m p : ℕ} → 0 < p → (F : List (FormalSum m)) (e : Exponents n) → IsFactor p (image_times F e)
image_times_factor pos F nil = record { linear = record { weight = λ f. f; by_weight = λ f v. refl }; swaps = λ g v. IsSame_refl _ (product g v) }
image_times_factor pos F (cons a e) =
    let r = image_times_factor pos (drop 1 F) e in
    let l = power_times_factor pos (get_or F 0 []) a in
    record {
      linear = IsLinear_after (image_times (drop 1 F) e) (power_times (get_or F 0 []) a) r.linear l.linear;
      swaps = λ g v. IsSame_trans (IsSame_linear pos (power_times (get_or F 0 []) a) l.linear _ _ (r.swaps g v)) (l.swaps g (image_times (drop 1 F) e v));
    }

pub IsLinear_image_times : {n m : ℕ} (F : List (FormalSum m)) (e : Exponents n) → IsLinear (image_times F e)
IsLinear_image_times F e = (image_times_factor {p = 1} (omega arith) F e).linear

-- a factor passes powers
swaps_power :
    {n p : ℕ} → 0 < p → (T : FormalSum n → FormalSum n) → IsFactor p T → (f : FormalSum n) (a : ℕ) (v : FormalSum n)
    → IsSame p (T (power_times f a v)) (power_times f a (T v))
swaps_power pos T factor f zero v = IsSame_refl _ (T v)
swaps_power pos T factor f (suc a) v =
    IsSame_trans (factor.swaps f (power_times f a v)) (IsSame_linear pos (product f) (IsLinear_product f) _ _ (swaps_power pos T factor f a v))

power_times-add : {n : ℕ} (f : FormalSum n) (a b : ℕ) (v : FormalSum n) → power_times f (a + b) v ≡ power_times f a (power_times f b v)
power_times-add f zero b v = let q : zero + b ≡ b = omega arith in ap (λ k. power_times f k v) q
power_times-add f (suc a) b v = let q : suc a + b ≡ suc (a + b) = omega arith in ap (λ k. power_times f k v) q ∙ ap (product f) (power_times-add f a b v)

-- ---- images of monomials
-- exponents add up
pub image_times-times :
    {n m p : ℕ} → 0 < p → (F : List (FormalSum m)) (e f : Exponents n) (v : FormalSum m)
    → IsSame p (image_times F (times e f) v) (image_times F e (image_times F f v))
image_times-times pos F nil nil v = IsSame_refl _ v
image_times-times pos F (cons a e) (cons b f) v =
    let x = get_or F 0 [] in
    let T = image_times (drop 1 F) e in
    let w = image_times (drop 1 F) f v in
    IsSame_trans (IsSame_of _ _ _ (power_times-add x a b (image_times (drop 1 F) (times e f) v)))
    (IsSame_linear pos (power_times x a) (IsLinear_power_times x a) _ _
    (IsSame_trans (IsSame_linear pos (power_times x b) (IsLinear_power_times x b) _ _ (image_times-times pos (drop 1 F) e f v))
    (IsSame_sym (swaps_power pos T (image_times_factor pos (drop 1 F) e) x b w))))

pub image_times-unit : {m : ℕ} (n : ℕ) (F : List (FormalSum m)) (v : FormalSum m) → image_times F (unit n) v ≡ v
image_times-unit zero F v = refl
image_times-unit (suc n) F v = image_times-unit n (drop 1 F) v

pub image_times-scale :
    {n m : ℕ} (F : List (FormalSum m)) (x : Exponents n) (c : ℕ) (e : Exponents m) (v : FormalSum m)
    → image_times F x (scale c e v) ≡ scale c e (image_times F x v)
image_times-scale F nil c e v = refl
image_times-scale F (cons a x) c e v =
    ap (power_times (get_or F 0 []) a) (image_times-scale (drop 1 F) x c e v)
    ∙ power_times-scale (get_or F 0 []) a c e (image_times (drop 1 F) x v)

power_product : {n : ℕ} (f : FormalSum n) (a : ℕ) (u w : FormalSum n) → product (power_times f a u) w ≡ power_times f a (product u w)
power_product f zero u w = refl
power_product f (suc a) u w = product_assoc f (power_times f a u) w ∙ ap (product f) (power_product f a u w)

image_product :
    {n m : ℕ} (F : List (FormalSum m)) (e : Exponents n) (u w : FormalSum m)
    → product (image_times F e u) w ≡ image_times F e (product u w)
image_product F nil u w = refl
image_product F (cons a e) u w =
    power_product (get_or F 0 []) a (image_times (drop 1 F) e u) w
    ∙ ap (power_times (get_or F 0 []) a) (image_product (drop 1 F) e u w)

-- the image of a monomial as a factor
image_is :
    {n m : ℕ} (F : List (FormalSum m)) (e : Exponents n) (j : ℕ) (w : FormalSum m)
    → product (image_times F e (basis_vector j)) w ≡ image_times F e w
image_is F e j w = image_product F e (basis_vector j) w ∙ ap (image_times F e) (append-nil (scale 1 (unit _) w) ∙ scale-one w)

pub get_or_next : {X : Type 0} (d : X) (xs : List X) (i : ℕ) → get_or (drop 1 xs) i d ≡ get_or xs (suc i) d
get_or_next d [] i = refl
get_or_next d (x ∷ xs) i = refl

pub image_times-variable :
    {m : ℕ} (n i : ℕ) (F : List (FormalSum m)) (v : FormalSum m) → i < n
    → image_times F (variable_monomial n i) v ≡ product (get_or F i []) v
image_times-variable zero i F v h = absurd (omega arith)
image_times-variable (suc n) zero F v h = ap (product (get_or F 0 [])) (image_times-unit n (drop 1 F) v)
image_times-variable (suc n) (suc i) F v h =
    image_times-variable n i (drop 1 F) v (omega arith) ∙ ap (λ f. product f v) (get_or_next [] F i)

product-one : {n : ℕ} (f : FormalSum n) → HasRank 1 f → product f (basis_vector 0) ≡ f
product-one [] h = refl
product-one (t ∷ f) h =
    let q : t.0.0 ≡ 0 = let r = h.0 in omega (arith, r) in
    ap₂ ◌++◌ (ap (λ i. scale t.1 t.0.1 (basis_vector i)) (sym q) ∙ single_vector t) (product-one f h.1)

pub IsMember_image_times :
    {n m p : ℕ} → 0 < p → (L F : List (FormalSum m)) (e : Exponents n) (v : FormalSum m) → IsMember p L v
    → IsMember p L (image_times F e v)
IsMember_image_times pos L F nil v h = h
IsMember_image_times pos L F (cons a e) v h =
    IsMember_power_times pos L (get_or F 0 []) a (image_times (drop 1 F) e v) (IsMember_image_times pos L (drop 1 F) e v h)

-- ---- substitution
pub IsLinear_substituted : {n m : ℕ} (F : List (FormalSum m)) → IsLinear (substituted {n = n} F)
IsLinear_substituted {n} {m} F = record { weight = λ f k. weighted_sum f (image_times F k.1 (basis_vector k.0)); by_weight = go }
  where
    go : (f : Key m → ℕ) (v : FormalSum n) → weighted_sum f (substituted F v) ≡ weighted_sum (λ k. weighted_sum f (image_times F k.1 (basis_vector k.0))) v
    go f [] = refl
    go f (t ∷ v) =
        let x : FormalSum m = image_times F t.0.1 (basis_vector t.0.0) in
        weighted_sum-append f (scale t.1 (unit m) x) (substituted F v)
        ∙ ap₂ ◌+◌ (weighted_sum-scale f t.1 (unit m) x ∙ ap (λ y. t.1 * y) (weighted_sum_ext _ f (λ k. ap f (shift-unit k)) x)) (go f v)

pub substituted-append :
    {n m : ℕ} (F : List (FormalSum m)) (v w : FormalSum n) → substituted F (v ++ w) ≡ substituted F v ++ substituted F w
substituted-append {n} {m} F v w = flat_map-append (λ t. scale t.1 (unit m) (image_times F t.0.1 (basis_vector t.0.0))) v w

-- the image of one key
pub substituted_key :
    {n m : ℕ} (F : List (FormalSum m)) (k : Key n) → substituted F ((k, 1) ∷ []) ≡ image_times F k.1 (basis_vector k.0)
substituted_key F k = append-nil _ ∙ scale-one (image_times F k.1 (basis_vector k.0))

pub substituted-scale :
    {n m p : ℕ} → 0 < p → (F : List (FormalSum m)) (c : ℕ) (e : Exponents n) (v : FormalSum n)
    → IsSame p (substituted F (scale c e v)) (scale c (unit m) (image_times F e (substituted F v)))
substituted-scale {n} {m} {p} pos F c e v =
    IsSame_keys (λ v. substituted F (scale c e v)) (λ v. scale c (unit m) (image_times F e (substituted F v)))
    (IsLinear_after (scale c e) (substituted F) (IsLinear_scale c e) (IsLinear_substituted F))
    (IsLinear_after (λ v. image_times F e (substituted F v)) (scale c (unit m)) (IsLinear_after (substituted F) (image_times F e) (IsLinear_substituted F) (IsLinear_image_times F e)) (IsLinear_scale c (unit m)))
    at v
  where
    at : (k : Key n) → IsSame p (substituted F (scale c e ((k, 1) ∷ []))) (scale c (unit m) (image_times F e (substituted F ((k, 1) ∷ []))))
    at k =
        IsSame_trans (IsSame_of p _ (scale c (unit m) (image_times F (times e k.1) (basis_vector k.0)))
        (append-nil _ ∙ ap (λ x. scale x (unit m) (image_times F (times e k.1) (basis_vector k.0))) (mul-one c)))
        (IsSame_trans (IsSame_scale pos c (unit m) (image_times-times pos F e k.1 (basis_vector k.0)))
        (IsSame_of p _ _ (ap (λ x. scale c (unit m) (image_times F e x)) (sym (substituted_key F k)))))

pub substituted_multiples :
    {n m p : ℕ} → 0 < p → (F : List (FormalSum m)) (c : ℕ) (v : FormalSum n)
    → IsSame p (substituted F (scale c (unit n) v)) (scale c (unit m) (substituted F v))
substituted_multiples {n} {m} {p} pos F c v =
    IsSame_trans (substituted-scale pos F c (unit n) v) (IsSame_of p _ _ (ap (scale c (unit m)) (image_times-unit n F (substituted F v))))

pub substituted-product :
    {n m p : ℕ} → 0 < p → (F : List (FormalSum m)) (u v : FormalSum n)
    → IsSame p (substituted F (product u v)) (product (substituted F u) (substituted F v))
substituted-product {n} {m} {p} pos F [] v = IsSame_refl p []
substituted-product {n} {m} {p} pos F (t ∷ u) v =
    IsSame_trans (IsSame_of p _ _ (substituted-append F (scale t.1 t.0.1 v) (product u v)))
    (IsSame_trans (IsSame_append (substituted-scale pos F t.1 t.0.1 v) (substituted-product pos F u v))
    (IsSame_of p _ _ (sym
    (product-append (scale t.1 (unit m) x) (substituted F u) w
    ∙ ap (λ y. y ++ product (substituted F u) w) (product_scale t.1 (unit m) x w ∙ ap (scale t.1 (unit m)) (image_is F t.0.1 t.0.0 w))))))
  where
    x : FormalSum m
    x = image_times F t.0.1 (basis_vector t.0.0)

    w : FormalSum m
    w = substituted F v

pub substituted_variable :
    {m : ℕ} (p n i : ℕ) (F : List (FormalSum m)) → i < n → HasRank 1 (get_or F i [])
    → IsSame p (substituted F (((0, variable_monomial n i), 1) ∷ [])) (get_or F i [])
substituted_variable p n i F h r =
    IsSame_of p _ _ (substituted_key F (0, variable_monomial n i) ∙ image_times-variable n i F (basis_vector 0) h ∙ product-one (get_or F i []) r)

pub substituted_constant : {m : ℕ} (p n j : ℕ) (F : List (FormalSum m)) → IsSame p (substituted F (basis_vector {n = n} j)) (basis_vector j)
substituted_constant p n j F = IsSame_of p _ _ (substituted_key F (j, unit n) ∙ image_times-unit n F (basis_vector j))

pub substituted_members :
    {n m p : ℕ} → 0 < p → (F : List (FormalSum m)) (L : List (FormalSum n)) (v : FormalSum n) → IsMember p L v
    → IsMember p (map (substituted F) L) (substituted F v)
substituted_members {n} {m} {p} pos F L =
    IsMember_linear pos (substituted F) (IsLinear_substituted F) L (map (substituted F) L)
    (Each_map (λ g. IsMember p (map (substituted F) L) (substituted F g)) (λ g. (c : ℕ) (e : Exponents n) → IsMember p (map (substituted F) L) (substituted F (scale c e g))) L
    (λ g h c e. IsMember_same (map (substituted F) L) (scale c (unit m) (image_times F e (substituted F g))) _ (IsSame_sym (substituted-scale pos F c e g))
    (IsMember_scale pos (map (substituted F) L) c (unit m) (image_times F e (substituted F g)) (IsMember_image_times pos (map (substituted F) L) F e (substituted F g) h)))
    (Each_to_map (IsMember p (map (substituted F) L)) (substituted F) L (IsMember_each p (map (substituted F) L))))
