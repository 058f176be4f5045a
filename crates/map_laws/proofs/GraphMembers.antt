-- Modulo the graph, a polynomial in the second variables is its image in the first
use Rattle.std.proofs.Common.{List, [], add-zero, ap, ap₂, arith, drop, get_or, map, refl, subst, suc, sym, zero, ℕ, ◌++◌, ◌+◌, ◌-◌, ◌<◌, ◌∙◌, ◌∷◌, ◌≡◌, ◌≤◌}
use Rattle.std.specs.Prelude.{◌↔◌}
use Rattle.monomials.proofs.Monomials.{times-unit}
use Rattle.monomials.specs.Exponents.{Exponents, cons, nil, unit}
use Rattle.formal_sums.proofs.Combining.{Each_map, HasRank_scale, IsMember_same, IsMember_scale, scale-one}
use Rattle.formal_sums.proofs.Multiplying.{product_comm}
use Rattle.formal_sums.proofs.OfRank.{HasRank_kept, IsSame_kept, kept}
use Rattle.formal_sums.proofs.Sameness.{IsSame_of, IsSame_refl, IsSame_sym, IsSame_trans, scale-scale}
use Rattle.formal_sums.specs.Combinations.{IsMember}
use Rattle.formal_sums.specs.FormalSums.{Each, FormalSum, HasRank, IsOfRank, IsPolynomial, IsSame, Term, product, scale}
use Rattle.operation_laws.proofs.Linear.{Each_left, Each_right, Each_to_map, IsMember_each, IsMember_linear, IsSame_linear}
use Rattle.operation_laws.proofs.Multiply.{IsMember_product, product_scale}
use Rattle.operation_laws.proofs.Saturate.{HasRank_product, listed_at, single_vector}
use Rattle.operation_laws.specs.Operations.{basis_vector, listed, power_times}
use Rattle.map_laws.proofs.Evaluating.{Each_get, IsLinear_in_first, IsLinear_in_second, evaluated, evaluated_members, evaluated_second, in_first-append, in_first-product, in_first-scale, in_first_rank}
use Rattle.map_laws.proofs.Modulo.{less, modulo_append, modulo_member, modulo_same, modulo_scale, modulo_trans}
use Rattle.map_laws.proofs.Places.{behind-more, behind-next, behind-unit, behind-variable, fitted-unit}
use Rattle.map_laws.proofs.Substituting.{IsLinear_substituted, get_or_next}
use Rattle.map_laws.specs.Graphs.{behind, fitted, graph_list, graph_member, in_first, in_second, variable_monomial}
use Rattle.map_laws.specs.Substitution.{image_times, substituted}

-- terms at positions below 1 stand at position 0
IsPolynomial_of : {n : ℕ} (v : FormalSum n) → HasRank 1 v → IsPolynomial v
IsPolynomial_of v h = Each_map (λ t. t.0.0 < 1) (λ t. t.0.0 ≡ 0) v (λ t lt. omega arith) h

HasRank_power_times : {n : ℕ} (r : ℕ) (f : FormalSum n) (a : ℕ) (v : FormalSum n) → HasRank r v → HasRank r (power_times f a v)
HasRank_power_times r f zero v h = h
HasRank_power_times r f (suc a) v h = HasRank_product r f (power_times f a v) (HasRank_power_times r f a v h)

HasRank_image_times : {n m : ℕ} (r : ℕ) (F : List (FormalSum m)) (e : Exponents n) (v : FormalSum m) → HasRank r v → HasRank r (image_times F e v)
HasRank_image_times r F nil v h = h
HasRank_image_times r F (cons a e) v h = HasRank_power_times r (get_or F 0 []) a (image_times (drop 1 F) e v) (HasRank_image_times r (drop 1 F) e v h)

module _ {n m p : ℕ} (pos : 0 < p) (I : List (FormalSum m)) where
  -- the variable with index k less f
  abbrev equation : ℕ → FormalSum n → FormalSum m
  equation k f = ((0, variable_monomial m k), 1) ∷ scale (p - 1) (unit m) (in_first m f)

  -- one variable more
  one_more :
      (k : ℕ) (f u : FormalSum n)
      → HasRank 1 f → HasRank 1 u → IsMember p I (equation k f)
      → IsMember p I (less p (scale 1 (variable_monomial m k) (in_first m u)) (in_first m (product f u)))
  one_more k f u hf hu h =
      let x : FormalSum m = in_first m u in
      IsMember_same I (product x (equation k f)) _
      (IsSame_trans (product_comm p x (equation k f) (IsPolynomial_of x (in_first_rank m 1 u hu)) (refl, IsPolynomial_of _ (HasRank_scale 1 (p - 1) (unit m) (in_first m f) (in_first_rank m 1 f hf))))
      (IsSame_of p _ _ (ap (λ y. scale 1 (variable_monomial m k) x ++ y) (product_scale (p - 1) (unit m) (in_first m f) x ∙ ap (scale (p - 1) (unit m)) (sym (in_first-product m f u))))))
      (IsMember_product pos I x (equation k f) h)

  -- the second variables from k on, for polynomials whose equations are in the module
  monomial :
      {j : ℕ} (e : Exponents j) (k : ℕ) (F : List (FormalSum n)) (u : FormalSum n)
      → k + j ≤ m → ((i : ℕ) → HasRank 1 (get_or F i [])) → ((i : ℕ) → i < j → IsMember p I (equation (k + i) (get_or F i []))) → HasRank 1 u
      → IsMember p I (less p (scale 1 (behind m k e) (in_first m u)) (in_first m (image_times F e u)))
  monomial nil k F u le ranks h r =
      modulo_same pos I _ _ (IsSame_of p _ _ (ap (λ x. scale 1 x (in_first m u)) (behind-unit 0 m k) ∙ scale-one (in_first m u)))
  monomial {j = suc j} (cons a e) k F u le ranks h r =
      go a
      (monomial e (suc k) (drop 1 F) u (omega arith)
      (λ i. subst (HasRank 1) (sym (get_or_next [] F i)) (ranks (suc i)))
      (λ i lt. let q : k + suc i ≡ suc k + i = omega arith in subst (λ x. IsMember p I (equation (suc k + i) x)) (sym (get_or_next [] F i)) (subst (λ x. IsMember p I (equation x (get_or F (suc i) []))) q (h (suc i) (omega arith))))
      r)
    where
      f : FormalSum n
      f = get_or F 0 []

      v : FormalSum n
      v = image_times (drop 1 F) e u

      go :
          (a : ℕ)
          → IsMember p I (less p (scale 1 (behind m (suc k) e) (in_first m u)) (in_first m (image_times (drop 1 F) e u)))
          → IsMember p I (less p (scale 1 (behind m k (cons a e)) (in_first m u)) (in_first m (power_times (get_or F 0 []) a (image_times (drop 1 F) e u))))
      go zero rest = subst (λ x. IsMember p I (less p (scale 1 x (in_first m u)) (in_first m (image_times (drop 1 F) e u)))) (sym (behind-next m k e)) rest
      go (suc a) rest =
          let w : FormalSum n = power_times f a v in
          let x : FormalSum m = scale 1 (behind m k (cons a e)) (in_first m u) in
          modulo_trans pos I (scale 1 (behind m k (cons (suc a) e)) (in_first m u)) (scale 1 (variable_monomial m k) (in_first m w)) (in_first m (product f w))
          (subst (λ y. IsMember p I (less p y (scale 1 (variable_monomial m k) (in_first m w))))
          (scale-scale 1 1 (variable_monomial m k) (behind m k (cons a e)) (in_first m u) ∙ ap (λ y. scale 1 y (in_first m u)) (sym (behind-more m k a e (omega arith))))
          (modulo_scale pos I 1 (variable_monomial m k) x (in_first m w) (go a rest)))
          (one_more k f w (ranks 0) (HasRank_power_times 1 f a v (HasRank_image_times 1 (drop 1 F) e u r)) (subst (λ y. IsMember p I (equation y f)) (add-zero k) (h 0 (omega arith))))

module _ {n m p : ℕ} (pos : 0 < p) (F L : List (FormalSum n)) (le : n + n ≤ m) (ranks : Each (HasRank 1) F) where
  members : Each (IsMember p (graph_list p m F L)) (graph_list p m F L)
  members = IsMember_each p (graph_list p m F L)

  equations : (i : ℕ) → i < n → IsMember p (graph_list p m F L) (((0, variable_monomial m (n + i)), 1) ∷ scale (p - 1) (unit m) (in_first m (get_or F i [])))
  equations i lt =
      let q : 0 + i ≡ i = omega arith in
      subst (λ e. IsMember p (graph_list p m F L) (((0, e), 1) ∷ scale (p - 1) (unit m) (in_first m (get_or F i [])))) (behind-variable n m n i lt le)
      (subst (λ x. IsMember p (graph_list p m F L) (graph_member p m F x)) q
      (listed_at (IsMember p (graph_list p m F L)) 0 n (graph_member p m F) (Each_left (IsMember p (graph_list p m F L)) (listed 0 n (graph_member p m F)) (map (in_first m) L) members) i lt))

  -- one term
  term_image : (t : Term n) → t.0.0 < 1 → IsMember p (graph_list p m F L) (less p (in_second m (t ∷ [])) (in_first m (scale t.1 (unit n) (image_times F t.0.1 (basis_vector t.0.0)))))
  term_image t lt =
      let b : FormalSum n = basis_vector t.0.0 in
      let one = monomial pos (graph_list p m F L) t.0.1 n F b le (Each_get (HasRank 1) [] F tt ranks) equations (lt, tt) in
      subst (λ y. IsMember p (graph_list p m F L) (less p y (in_first m (scale t.1 (unit n) (image_times F t.0.1 b))))) left
      (subst (λ y. IsMember p (graph_list p m F L) (less p (scale t.1 (unit m) (scale 1 (behind m n t.0.1) (in_first m b))) y)) right
      (modulo_scale pos (graph_list p m F L) t.1 (unit m) (scale 1 (behind m n t.0.1) (in_first m b)) (in_first m (image_times F t.0.1 b)) one))
    where
      left : scale t.1 (unit m) (scale 1 (behind m n t.0.1) (in_first m (basis_vector {n = n} t.0.0))) ≡ in_second m (t ∷ [])
      left =
          ap (λ e. scale t.1 (unit m) (scale 1 (behind m n t.0.1) (((t.0.0, e), 1) ∷ []))) (fitted-unit n m)
          ∙ ap (scale t.1 (unit m)) (single_vector ((t.0.0, behind m n t.0.1), 1))
          ∙ ap₂ (λ e c. ((t.0.0, e), c) ∷ []) (times-unit (behind m n t.0.1)) (omega arith)

      right : scale t.1 (unit m) (in_first m (image_times F t.0.1 (basis_vector t.0.0))) ≡ in_first m (scale t.1 (unit n) (image_times F t.0.1 (basis_vector t.0.0)))
      right = sym (in_first-scale m t.1 (unit n) (image_times F t.0.1 (basis_vector t.0.0)) ∙ ap (λ e. scale t.1 e (in_first m (image_times F t.0.1 (basis_vector t.0.0)))) (fitted-unit n m))

  ranked_image : (v : FormalSum n) → HasRank 1 v → IsMember p (graph_list p m F L) (less p (in_second m v) (in_first m (substituted F v)))
  ranked_image [] h = modulo_same pos (graph_list p m F L) [] [] (IsSame_refl p [])
  ranked_image (t ∷ v) h =
      let x : FormalSum n = scale t.1 (unit n) (image_times F t.0.1 (basis_vector t.0.0)) in
      subst (λ y. IsMember p (graph_list p m F L) (less p (in_second m (t ∷ v)) y)) (sym (in_first-append m x (substituted F v)))
      (modulo_append pos (graph_list p m F L) (in_second m (t ∷ [])) (in_second m v) (in_first m x) (in_first m (substituted F v)) (term_image t h.0) (ranked_image v h.1))

  -- modulo the graph v is its image
  pub image_modulo : (v : FormalSum n) → IsOfRank p 1 v → IsMember p (graph_list p m F L) (less p (in_second m v) (in_first m (substituted F v)))
  image_modulo v r =
      let e : IsSame p (kept 1 v) v = IsSame_kept 1 v r in
      let G : List (FormalSum m) = graph_list p m F L in
      modulo_trans pos G (in_second m v) (in_second m (kept 1 v)) (in_first m (substituted F v))
      (modulo_same pos G (in_second m v) (in_second m (kept 1 v)) (IsSame_linear pos (in_second m) (IsLinear_in_second m) v (kept 1 v) (IsSame_sym e)))
      (modulo_trans pos G (in_second m (kept 1 v)) (in_first m (substituted F (kept 1 v))) (in_first m (substituted F v))
      (ranked_image (kept 1 v) (HasRank_kept 1 v))
      (modulo_same pos G (in_first m (substituted F (kept 1 v))) (in_first m (substituted F v))
      (IsSame_linear pos (in_first m) (IsLinear_in_first m) (substituted F (kept 1 v)) (substituted F v) (IsSame_linear pos (substituted F) (IsLinear_substituted F) (kept 1 v) v e))))

  -- the members of the list's module, in the first variables
  first_members : (u : FormalSum n) → IsMember p L u → IsMember p (graph_list p m F L) (in_first m u)
  first_members =
      let G : List (FormalSum m) = graph_list p m F L in
      IsMember_linear pos (in_first m) (IsLinear_in_first m) L G
      (Each_map (λ g. IsMember p G (in_first m g)) (λ g. (c : ℕ) (e : Exponents n) → IsMember p G (in_first m (scale c e g))) L
      (λ g h c e. IsMember_same G (scale c (fitted m e) (in_first m g)) _ (IsSame_of p _ _ (sym (in_first-scale m c e g))) (IsMember_scale pos G c (fitted m e) (in_first m g) h))
      (Each_to_map (IsMember p G) (in_first m) L (Each_right (IsMember p G) (listed 0 n (graph_member p m F)) (map (in_first m) L) members)))

  pub graph_law : (v : FormalSum n) → IsOfRank p 1 v → IsMember p (graph_list p m F L) (in_second m v) ↔ IsMember p L (substituted F v)
  graph_law v r = (
    λ a. IsMember_same L (evaluated F (in_second m v)) _ (evaluated_second F pos le v) (evaluated_members F pos L (in_second m v) le ranks a),
    λ a. modulo_member pos (graph_list p m F L) (in_second m v) (in_first m (substituted F v)) (image_modulo v r) (first_members (substituted F v) a),
  )
