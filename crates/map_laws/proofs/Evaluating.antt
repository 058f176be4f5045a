-- What has the variables of both rings, with their polynomials for the second variables
use Rattle.std.proofs.Common.{List, [], ap, append-nil, ap₂, arith, get_or, length, map, mul-one, refl, subst, sym, zero, suc, ℕ, ◌*◌, ◌++◌, ◌+◌, ◌-◌, ◌<◌, ◌∙◌, ◌∷◌, ◌≡◌, ◌≤◌, ◌⊎◌, inl, inr}
use Rattle.std.proofs.lemmas.Bool.{cases_lt}
use Rattle.std.proofs.lemmas.List.{get_or_past}
use Rattle.monomials.proofs.Monomials.{times-unit}
use Rattle.monomials.specs.Exponents.{Exponents, times, unit}
use Rattle.formal_sums.proofs.Combining.{Each_map, HasRank_scale, IsMember_same, IsMember_scale, IsMember_zero, scale-one}
use Rattle.formal_sums.proofs.Sameness.{IsSame_append, IsSame_of, IsSame_refl, IsSame_scale, IsSame_sym, IsSame_trans, scale-scale}
use Rattle.formal_sums.proofs.WeightedSums.{Each_append}
use Rattle.formal_sums.specs.Combinations.{IsMember}
use Rattle.formal_sums.specs.FormalSums.{Each, FormalSum, HasRank, IsSame, Key, product, scale}
use Rattle.operation_laws.proofs.Linear.{Each_at, Each_of_map, IsLinear, IsLinear_after, IsLinear_expand, IsLinear_scale, IsMember_each, IsMember_linear, IsSame_keys, expand, linear_append, weighted_sum-map}
use Rattle.operation_laws.proofs.Saturate.{single_vector}
use Rattle.operation_laws.specs.Operations.{basis_vector, listed}
use Rattle.map_laws.proofs.Modulo.{less_zero}
use Rattle.map_laws.proofs.Places.{after-behind, after-fitted, after-times, behind-times, fitted-behind, fitted-fitted, fitted-times, fitted-unit, after-unit}
use Rattle.map_laws.proofs.Substituting.{IsLinear_image_times, IsLinear_substituted, IsMember_image_times, image_times-scale, image_times-times, image_times-unit, substituted_key, substituted_variable}
use Rattle.map_laws.specs.Graphs.{behind, exponents_from, fitted, from_second, graph_list, graph_member, in_first, in_second, variable_monomial}
use Rattle.map_laws.specs.Substitution.{image_times, substituted}

-- ---- the embeddings are linear and keep multiples
pub IsLinear_in_first : {n : ℕ} (m : ℕ) → IsLinear (in_first {n = n} m)
IsLinear_in_first m = record { weight = λ f k. f (k.0, fitted m k.1); by_weight = weighted_sum-map (λ k. (k.0, fitted m k.1)) }

pub IsLinear_in_second : {n : ℕ} (m : ℕ) → IsLinear (in_second {n = n} m)
IsLinear_in_second {n} m = record { weight = λ f k. f (k.0, behind m n k.1); by_weight = weighted_sum-map (λ k. (k.0, behind m n k.1)) }

pub IsLinear_from_second : {m : ℕ} (n : ℕ) → IsLinear (from_second {m = m} n)
IsLinear_from_second n = record { weight = λ f k. f (k.0, exponents_from n n k.1); by_weight = weighted_sum-map (λ k. (k.0, exponents_from n n k.1)) }

pub in_first-scale : {n : ℕ} (m c : ℕ) (e : Exponents n) (v : FormalSum n) → in_first m (scale c e v) ≡ scale c (fitted m e) (in_first m v)
in_first-scale m c e [] = refl
in_first-scale m c e (t ∷ v) = ap₂ ◌∷◌ (ap (λ x. ((t.0.0, x), c * t.1)) (fitted-times m e t.0.1)) (in_first-scale m c e v)

pub in_second-scale : {n : ℕ} (m c : ℕ) (e : Exponents n) (v : FormalSum n) → in_second m (scale c e v) ≡ scale c (behind m n e) (in_second m v)
in_second-scale {n} m c e [] = refl
in_second-scale {n} m c e (t ∷ v) = ap₂ ◌∷◌ (ap (λ x. ((t.0.0, x), c * t.1)) (behind-times m n e t.0.1)) (in_second-scale m c e v)

pub from_second-scale : {m : ℕ} (n c : ℕ) (e : Exponents m) (v : FormalSum m) → from_second n (scale c e v) ≡ scale c (exponents_from n n e) (from_second n v)
from_second-scale n c e [] = refl
from_second-scale n c e (t ∷ v) = ap₂ ◌∷◌ (ap (λ x. ((t.0.0, x), c * t.1)) (after-times n n e t.0.1)) (from_second-scale n c e v)

pub in_first-append : {n : ℕ} (m : ℕ) (v w : FormalSum n) → in_first m (v ++ w) ≡ in_first m v ++ in_first m w
in_first-append m [] w = refl
in_first-append m (t ∷ v) w = ap (λ r. ((t.0.0, fitted m t.0.1), t.1) ∷ r) (in_first-append m v w)

pub in_first-product : {n : ℕ} (m : ℕ) (u v : FormalSum n) → in_first m (product u v) ≡ product (in_first m u) (in_first m v)
in_first-product m [] v = refl
in_first-product m (t ∷ u) v =
    in_first-append m (scale t.1 t.0.1 v) (product u v) ∙ ap₂ ◌++◌ (in_first-scale m t.1 t.0.1 v) (in_first-product m u v)

pub in_first_rank : {n : ℕ} (m r : ℕ) (v : FormalSum n) → HasRank r v → HasRank r (in_first m v)
in_first_rank m r [] h = tt
in_first_rank m r (t ∷ v) h = (h.0, in_first_rank m r v h.1)

-- ---- the list of the graph
-- what holds of each member
pub Each_indexed : {X : Type 0} (P : X → Type 0) (i k : ℕ) (g : ℕ → X) → ((j : ℕ) → i ≤ j → j < i + k → P (g j)) → Each P (listed i k g)
Each_indexed P i zero g h = tt
Each_indexed P i (suc k) g h = (h i (omega arith) (omega arith), Each_indexed P (suc i) k g (λ j le lt. h j (omega arith) (omega arith)))

pub Each_get : {X : Type 0} (P : X → Type 0) (d : X) (xs : List X) → P d → Each P xs → (i : ℕ) → P (get_or xs i d)
Each_get P d xs none h i = go (cases_lt i (length xs))
  where
    go : (i < length xs) ⊎ (length xs ≤ i) → P (get_or xs i d)
    go (inl lt) = Each_at P d xs h i lt
    go (inr le) = subst P (sym (get_or_past xs i d le)) none

pub graph_list_each :
    {n : ℕ} (p m : ℕ) (F L : List (FormalSum n)) (P : FormalSum m → Type 0) → ((i : ℕ) → i < n → P (graph_member p m F i))
    → Each (λ g. P (in_first m g)) L → Each P (graph_list p m F L)
graph_list_each {n} p m F L P graph rest =
    Each_append P (listed 0 n (graph_member p m F)) (map (in_first m) L)
    (Each_indexed P 0 n (graph_member p m F) (λ i le lt. graph i (omega arith)))
    (Each_of_map P (in_first m) L rest)

pub graph_list_rank :
    {n : ℕ} (p m : ℕ) (F L : List (FormalSum n)) → Each (HasRank 1) F → Each (HasRank 1) L → Each (HasRank 1) (graph_list p m F L)
graph_list_rank {n} p m F L f l =
    graph_list_each p m F L (HasRank 1)
    (λ i lt. (omega arith, HasRank_scale 1 (p - 1) (unit m) (in_first m (get_or F i [])) (in_first_rank m 1 (get_or F i []) (Each_get (HasRank 1) [] F tt f i))))
    (Each_map (HasRank 1) (λ g. HasRank 1 (in_first m g)) L (in_first_rank m 1) l)

-- ---- evaluation
module _ {n : ℕ} (F : List (FormalSum n)) where
  -- the value of a monomial
  abbrev value_key : {m : ℕ} → Key m → FormalSum n
  value_key k = scale 1 (fitted n k.1) (image_times F (exponents_from n n k.1) (basis_vector k.0))

  -- the polynomials of F for the second variables, the first as they are
  abbrev pub evaluated : {m : ℕ} → FormalSum m → FormalSum n
  evaluated w = expand value_key w

  pub IsLinear_evaluated : {m : ℕ} → IsLinear (evaluated {m = m})
  IsLinear_evaluated = IsLinear_expand value_key

  evaluated_key : {m : ℕ} (k : Key m) → evaluated ((k, 1) ∷ []) ≡ value_key k
  evaluated_key k = append-nil _ ∙ scale-one (value_key k)

  module _ {m p : ℕ} (pos : 0 < p) where
    pub evaluated-scale :
        (c : ℕ) (e : Exponents m) (w : FormalSum m)
        → IsSame p (evaluated (scale c e w)) (scale c (fitted n e) (image_times F (exponents_from n n e) (evaluated w)))
    evaluated-scale c e w =
        IsSame_keys (λ w. evaluated (scale c e w)) (λ w. scale c (fitted n e) (image_times F (exponents_from n n e) (evaluated w)))
        (IsLinear_after (scale c e) evaluated (IsLinear_scale c e) IsLinear_evaluated)
        (IsLinear_after (λ w. image_times F (exponents_from n n e) (evaluated w)) (scale c (fitted n e)) (IsLinear_after evaluated (image_times F (exponents_from n n e)) IsLinear_evaluated (IsLinear_image_times F (exponents_from n n e))) (IsLinear_scale c (fitted n e)))
        at w
      where
        at : (k : Key m) → IsSame p (evaluated (scale c e ((k, 1) ∷ []))) (scale c (fitted n e) (image_times F (exponents_from n n e) (evaluated ((k, 1) ∷ []))))
        at k =
            let b : FormalSum n = basis_vector k.0 in
            let x : FormalSum n = image_times F (exponents_from n n e) (image_times F (exponents_from n n k.1) b) in
            IsSame_trans (IsSame_of p _ (scale c (times (fitted n e) (fitted n k.1)) (image_times F (times (exponents_from n n e) (exponents_from n n k.1)) b))
            (append-nil _
            ∙ ap₂ (λ f a. scale (c * 1) (unit n) (scale 1 f (image_times F a b))) (fitted-times n e k.1) (after-times n n e k.1)
            ∙ scale-scale (c * 1) 1 (unit n) (times (fitted n e) (fitted n k.1)) _
            ∙ ap₂ (λ d f. scale d f (image_times F (times (exponents_from n n e) (exponents_from n n k.1)) b)) (mul-one (c * 1) ∙ mul-one c) (times-unit _)))
            (IsSame_trans (IsSame_scale pos c (times (fitted n e) (fitted n k.1)) (image_times-times pos F (exponents_from n n e) (exponents_from n n k.1) b))
            (IsSame_of p _ _ (sym
            (ap (λ y. scale c (fitted n e) (image_times F (exponents_from n n e) y)) (evaluated_key k)
            ∙ ap (scale c (fitted n e)) (image_times-scale F (exponents_from n n e) 1 (fitted n k.1) (image_times F (exponents_from n n k.1) b))
            ∙ scale-scale c 1 (fitted n e) (fitted n k.1) x ∙ ap (λ d. scale d (times (fitted n e) (fitted n k.1)) x) (mul-one c)))))

    -- what has the first variables alone is its own value
    pub evaluated_first : n ≤ m → (v : FormalSum n) → IsSame p (evaluated (in_first m v)) v
    evaluated_first le =
        IsSame_keys (λ v. evaluated (in_first m v)) (λ v. v) (IsLinear_after (in_first m) evaluated (IsLinear_in_first m) IsLinear_evaluated) (record { weight = λ f. f; by_weight = λ f v. refl })
        (λ k. IsSame_of p _ _
        (evaluated_key (k.0, fitted m k.1)
        ∙ ap₂ (λ f a. scale 1 f (image_times F a (basis_vector k.0))) (fitted-fitted m k.1 le) (after-fitted n m n k.1 (omega arith))
        ∙ ap (scale 1 k.1) (image_times-unit n F (basis_vector k.0))
        ∙ single_vector (k, 1)))

    -- the value of what has the second variables alone is its image
    pub evaluated_second : n + n ≤ m → (v : FormalSum n) → IsSame p (evaluated (in_second m v)) (substituted F v)
    evaluated_second le =
        IsSame_keys (λ v. evaluated (in_second m v)) (substituted F) (IsLinear_after (in_second m) evaluated (IsLinear_in_second m) IsLinear_evaluated) (IsLinear_substituted F)
        (λ k. IsSame_of p _ _
        (evaluated_key (k.0, behind m n k.1)
        ∙ ap₂ (λ f a. scale 1 f (image_times F a (basis_vector k.0))) (fitted-behind m n k.1) (after-behind m n k.1 le)
        ∙ scale-one (image_times F k.1 (basis_vector k.0))
        ∙ sym (substituted_key F k)))

    -- the members of the graph have the value 0
    evaluated_member : n + n ≤ m → (i : ℕ) → i < n → HasRank 1 (get_or F i []) → IsSame p (evaluated (graph_member p m F i)) []
    evaluated_member le i lt r =
        let f : FormalSum n = get_or F i [] in
        let y : FormalSum n = ((0, variable_monomial n i), 1) ∷ [] in
        IsSame_trans (linear_append p evaluated IsLinear_evaluated (in_second m y) (scale (p - 1) (unit m) (in_first m f)))
        (IsSame_trans (IsSame_append
        (IsSame_trans (evaluated_second le y) (substituted_variable p n i F lt r))
        (IsSame_trans (evaluated-scale (p - 1) (unit m) (in_first m f))
        (IsSame_trans (IsSame_of p _ _ (ap₂ (λ e a. scale (p - 1) e (image_times F a (evaluated (in_first m f)))) (fitted-unit m n) (after-unit m n n) ∙ ap (scale (p - 1) (unit n)) (image_times-unit n F (evaluated (in_first m f)))))
        (IsSame_scale pos (p - 1) (unit n) (evaluated_first (omega arith) f)))))
        (less_zero pos f f (IsSame_refl p f)))

    -- the value of a member of the graph and the list is in the module of the list
    pub evaluated_members :
        (L : List (FormalSum n)) (w : FormalSum m)
        → n + n ≤ m → Each (HasRank 1) F → IsMember p (graph_list p m F L) w → IsMember p L (evaluated w)
    evaluated_members L w le f =
        IsMember_linear pos evaluated IsLinear_evaluated (graph_list p m F L) L
        (Each_map (λ g. IsMember p L (evaluated g)) (λ g. (c : ℕ) (e : Exponents m) → IsMember p L (evaluated (scale c e g))) (graph_list p m F L)
        (λ g h c e. IsMember_same L _ _ (IsSame_sym (evaluated-scale c e g)) (IsMember_scale pos L c (fitted n e) _ (IsMember_image_times pos L F (exponents_from n n e) (evaluated g) h)))
        (graph_list_each p m F L (λ g. IsMember p L (evaluated g))
        (λ i lt. IsMember_same L [] _ (IsSame_sym (evaluated_member le i lt (Each_get (HasRank 1) [] F tt f i))) (IsMember_zero p L))
        (Each_map (IsMember p L) (λ g. IsMember p L (evaluated (in_first m g))) L (λ g h. IsMember_same L g _ (IsSame_sym (evaluated_first (omega arith) g)) h) (IsMember_each p L))))
        w
