-- The least constant of a vector
use Rattle.std.specs.Prelude.{Contains, None, Option, Some}
use Rattle.std.proofs.Common.{List, [], ap, arith, get_or, inl, inr, length, refl, subst, suc, sym, take, zero, ℕ, ◌++◌, ◌+◌, ◌<◌, ◌∙◌, ◌∷◌, ◌≡◌, ◌≤◌, ◌⊎◌}
use Rattle.std.proofs.lemmas.Bool.{cases_lt}
use Rattle.std.proofs.lemmas.List.{get_or_default, take_more}
use Rattle.residues.proofs.Congruences.{IsCongruent_decide, IsCongruent_nonzero, IsCongruent_of, IsCongruent_trans}
use Rattle.residues.specs.Residues.{IsCongruent}
use Rattle.monomials.proofs.Weighing.{weighted_degree-unit, weighted_degree_zero}
use Rattle.monomials.specs.Exponents.{Exponents, exponents_of, unit}
use Rattle.monomials.specs.Weights.{weighted_degree}
use Rattle.formal_sums.specs.FormalSums.{Each, FormalSum, Key, coefficient}
use Rattle.bases.specs.Settings.{IsLawful}
use Rattle.minimal_laws.specs.Minimal.{IsConstantAt}
use Rattle.betti_laws.proofs.Constants.{HasNoConstant}
use Rattle.term_lists.proofs.Scaling.{Each_at}
use Rattle.term_lists.specs.Rings.{ring_comparison, setting, variables}
use Rattle.term_lists.specs.Vectors.{AreVectorsOver, IsTerm, IsVectorOver, key_of, sum_of, sums_of}
use Rattle.term_lists.specs.declared.key.Key.{Key as CodeKey}
use Rattle.term_lists.specs.declared.ring.Ring.{Ring}
use Rattle.module_vectors.specs.Trails.{HasKey}
use Rattle.vector_division.proofs.Members.{sums_at}
use Rattle.vector_division.proofs.Occurring.{coefficients, occurs}
use Rattle.column_passes.specs.Constants.{HasUnit, IsFirst, IsLeastUnit}
use Rattle.column_passes.specs.Passing.{IsGraded}
use Rattle.column_passes.proofs.Lists.{all_append, all_map, contains_end, contains_left, each_in}

abbrev Terms : Type 0
Terms = List (CodeKey × ℕ)

-- ---- one more term
has_more : (v : Terms) (t : CodeKey × ℕ) (p r : ℕ) → HasUnit v p r → HasUnit (v ++ t ∷ []) p r
has_more v t p r h = record {
  term = h.term;
  contains = contains_left v (t ∷ []) h.term h.contains;
  position_is = h.position_is;
  one = h.one;
  residue_is = h.residue_is;
}

pub unit_kept : (v : Terms) (t : CodeKey × ℕ) (a : Option (ℕ × ℕ)) → 0 < t.0.monomial.degree → IsLeastUnit v a → IsLeastUnit (v ++ t ∷ []) a
unit_kept v t None lt h = all_append _ v (t ∷ []) h ((λ e. omega (arith, e, lt)), tt)
unit_kept v t (Some a) lt h = (has_more v t a.0 a.1 h.0, all_append _ v (t ∷ []) h.1 ((λ e. absurd (omega (arith, e, lt))), tt))

pub unit_lower : (v : Terms) (t : CodeKey × ℕ) (a : ℕ × ℕ) → a.0 ≤ t.0.position → IsLeastUnit v (Some a) → IsLeastUnit (v ++ t ∷ []) (Some a)
unit_lower v t a le h = (has_more v t a.0 a.1 h.0, all_append _ v (t ∷ []) h.1 ((λ e. le), tt))

new_unit : (v : Terms) (t : CodeKey × ℕ) → t.0.monomial.degree ≡ 0 → HasUnit (v ++ t ∷ []) t.0.position t.1
new_unit v t one = record { term = t; contains = contains_end v t; position_is = refl; one = one; residue_is = refl }

pub unit_new :
    (v : Terms) (t : CodeKey × ℕ) (a : ℕ × ℕ) → t.0.monomial.degree ≡ 0 → t.0.position < a.0 → IsLeastUnit v (Some a)
    → IsLeastUnit (v ++ t ∷ []) (Some (t.0.position, t.1))
unit_new v t a one lt h = (
  new_unit v t one,
  all_append _ v (t ∷ []) (all_map _ _ v (λ s f e. let l = f e in omega (arith, l, lt)) h.1) ((λ e. omega arith), tt),
)

pub unit_first :
    (v : Terms) (t : CodeKey × ℕ) → t.0.monomial.degree ≡ 0 → IsLeastUnit v None → IsLeastUnit (v ++ t ∷ []) (Some (t.0.position, t.1))
unit_first v t one h = (new_unit v t one, all_append _ v (t ∷ []) (all_map _ _ v (λ s f e. absurd (f e)) h) ((λ e. omega arith), tt))

pub unit_more :
    (v : Terms) (i : ℕ) (t : CodeKey × ℕ) (a : Option (ℕ × ℕ)) → i < length v → t ≡ get_or v i t
    → IsLeastUnit (take i v ++ t ∷ []) a → IsLeastUnit (take (i + 1) v) a
unit_more v i t a lt is h = subst (λ w. IsLeastUnit w a) (sym (take_more v i t lt ∙ ap (λ x. take i v ++ x ∷ []) (sym is))) h

-- the term of a key
pub key_term : (n : ℕ) (v : Terms) (k : Key n) → HasKey (sum_of n v) k → (t : CodeKey × ℕ) × Contains v t × (key_of n t.0 ≡ k)
key_term n [] k (i, lt, e) = absurd (omega (arith, lt))
key_term n (t ∷ v) k (zero, lt, e) = (t, (0, omega arith, refl), e)
key_term n (t ∷ v) k (suc i, lt, e) =
    let r = key_term n v k (i, omega (arith, lt), e) in
    (r.0, contains_more t v r.0 r.1, r.2)
  where
    contains_more : (t : CodeKey × ℕ) (v : Terms) (u : CodeKey × ℕ) → Contains v u → Contains (t ∷ v) u
    contains_more t v u (j, l, f) = (suc j, omega (arith, l), f)

module _ (ring : Ring) (lawful : IsLawful (setting ring (variables ring) (ring_comparison ring (variables ring)) 0)) (v : Terms)
    (vector : IsVectorOver ring (ring_comparison ring) v) where
  abbrev n : ℕ
  n = variables ring

  abbrev p : ℕ
  p = ring.modulus.value

  abbrev V : FormalSum (variables ring)
  V = sum_of (variables ring) v

  -- the coefficient at a term's key is its residue
  pub term_coefficient : (t : CodeKey × ℕ) → Contains v t → coefficient (sum_of (variables ring) v) (key_of (variables ring) t.0) ≡ t.1
  term_coefficient t c = at v t c (coefficients (setting ring (variables ring) (ring_comparison ring (variables ring)) 0) lawful V vector.descends)
    where
      at : (w : Terms) (t : CodeKey × ℕ) → Contains w t → Each (λ u. coefficient V u.0 ≡ u.1) (sum_of (variables ring) w)
          → coefficient V (key_of (variables ring) t.0) ≡ t.1
      at [] t (i, lt, e) h = absurd (omega (arith, lt))
      at (u ∷ w) t (zero, lt, e) h = subst (λ z. coefficient V (key_of (variables ring) z.0) ≡ z.1) e h.0
      at (u ∷ w) t (suc i, lt, e) h = at w t (i, omega (arith, lt), e) h.1

  -- without a term of monomial 1 there is no constant
  pub no_constant : IsLeastUnit v None → HasNoConstant ring.modulus.value (sum_of (variables ring) v)
  no_constant h = record { by_row = λ q. at q (occurs V (q, unit (variables ring))) }
    where
      at :
          (q : ℕ) → HasKey V (q, unit (variables ring)) ⊎ (coefficient V (q, unit (variables ring)) ≡ 0)
          → IsCongruent ring.modulus.value (coefficient V (q, unit (variables ring))) 0
      at q (inr z) = IsCongruent_of ring.modulus.value _ 0 z
      at q (inl k) =
          let r = key_term (variables ring) v (q, unit (variables ring)) k in
          let w : IsTerm (variables ring) ring.weights ring.modulus.value r.0 = each_in _ v r.0 vector.each r.1 in
          let one : r.0.0.monomial.degree ≡ 0 = w.weighed.degree ∙ ap (λ (k : Key (variables ring)). weighted_degree ring.weights k.1) r.2
          ∙ weighted_degree-unit (variables ring) ring.weights in
          absurd (each_in _ v r.0 h r.1 one)

  -- the residue of such a term
  pub residue_of : (r c : ℕ) → HasUnit v r c → (0 < c) × (c < ring.modulus.value)
  residue_of r c h =
      let t : IsTerm (variables ring) ring.weights ring.modulus.value h.term = each_in _ v h.term vector.each h.contains in
      (subst (λ z. 0 < z) h.residue_is t.nonzero, subst (λ z. z < ring.modulus.value) h.residue_is t.reduced)

  module _ (graded : IsGraded ring v) where
    -- where the coefficient at 1 is not 0, nothing stands beside it
    constant_of : (r : ℕ) → (IsCongruent ring.modulus.value (coefficient V (r, unit (variables ring))) 0 → ⊥) → IsConstantAt ring.modulus.value V r
    constant_of r nz = record { nonzero = nz; alone = λ m ne. go m ne (IsCongruent_decide ring.modulus.value (coefficient V (r, m))) }
      where
        go :
            (m : Exponents (variables ring)) → (m ≡ unit (variables ring) → ⊥)
            → (IsCongruent ring.modulus.value (coefficient V (r, m)) 0) ⊎ (IsCongruent ring.modulus.value (coefficient V (r, m)) 0 → ⊥)
            → IsCongruent ring.modulus.value (coefficient V (r, m)) 0
        go m ne (inl z) = z
        go m ne (inr nm) =
            let a = graded.2.degrees (r, unit (variables ring)) nz in
            let b = graded.2.degrees (r, m) nm in
            let u = weighted_degree-unit (variables ring) ring.weights in
            let z : weighted_degree ring.weights m ≡ 0 = omega (arith, a, b, u) in
            absurd (ne (weighted_degree_zero ring.weights m z))

    unit_is : (t : CodeKey × ℕ) → Contains v t → t.0.monomial.degree ≡ 0 → key_of (variables ring) t.0 ≡ (t.0.position, unit (variables ring))
    unit_is t c one =
        let h : IsTerm (variables ring) ring.weights ring.modulus.value t = each_in _ v t vector.each c in
        ap (λ m. (t.0.position, m)) (weighted_degree_zero ring.weights (exponents_of (variables ring) t.0.monomial.exponents) (sym h.weighed.degree ∙ one))

    -- the constant of a term with the monomial 1
    has_unit :
        (r c : ℕ) → HasUnit v r c
        → (coefficient (sum_of (variables ring) v) (r, unit (variables ring)) ≡ c) × (0 < c) × (c < ring.modulus.value)
    has_unit r c h =
        let t : IsTerm (variables ring) ring.weights ring.modulus.value h.term = each_in _ v h.term vector.each h.contains in (
          ap (λ k. coefficient V (k, unit (variables ring))) (sym h.position_is) ∙ ap (coefficient V) (sym (unit_is h.term h.contains h.one))
              ∙ term_coefficient h.term h.contains ∙ h.residue_is,
          subst (λ z. 0 < z) h.residue_is t.nonzero,
          subst (λ z. z < ring.modulus.value) h.residue_is t.reduced,
        )

    -- a constant stands in a term with the monomial 1
    unit_of_constant : (q : ℕ) → IsConstantAt ring.modulus.value V q → (t : CodeKey × ℕ) × Contains v t × (t.0.monomial.degree ≡ 0) × (t.0.position ≡ q)
    unit_of_constant q h = go (occurs V (q, unit (variables ring)))
      where
        go : HasKey V (q, unit (variables ring)) ⊎ (coefficient V (q, unit (variables ring)) ≡ 0)
            → (t : CodeKey × ℕ) × Contains v t × (t.0.monomial.degree ≡ 0) × (t.0.position ≡ q)
        go (inr z) = absurd (h.nonzero (IsCongruent_of ring.modulus.value _ 0 z))
        go (inl k) =
            let r = key_term (variables ring) v (q, unit (variables ring)) k in
            let w : IsTerm (variables ring) ring.weights ring.modulus.value r.0 = each_in _ v r.0 vector.each r.1 in (
              r.0,
              r.1,
              w.weighed.degree ∙ ap (λ (k : Key (variables ring)). weighted_degree ring.weights k.1) r.2 ∙ weighted_degree-unit (variables ring) ring.weights,
              ap (λ (k : Key (variables ring)). k.0) r.2,
            )

    pub first_unit :
        (a : ℕ × ℕ) → IsLeastUnit v (Some a)
        → IsConstantAt ring.modulus.value (sum_of (variables ring) v) a.0
        × ((coefficient (sum_of (variables ring) v) (a.0, unit (variables ring)) ≡ a.1) × (0 < a.1) × (a.1 < ring.modulus.value))
        × ((q : ℕ) → q < a.0 → IsConstantAt ring.modulus.value (sum_of (variables ring) v) q → ⊥)
    first_unit a h =
        let u = has_unit a.0 a.1 h.0 in (
          constant_of a.0 (λ z. IsCongruent_nonzero ring.modulus.value a.1 u.1 u.2 (IsCongruent_trans (IsCongruent_of ring.modulus.value a.1 _ (sym u.0)) z)),
          u,
          λ q lt k.
              let t = unit_of_constant q k in
              let le = each_in _ v t.0 h.1 t.1 t.2 in
              let e = t.3 in
              omega (arith, lt, le, e),
        )

    pub no_unit : IsLeastUnit v None → (q : ℕ) → IsConstantAt ring.modulus.value (sum_of (variables ring) v) q → ⊥
    no_unit h q k = let t = unit_of_constant q k in each_in _ v t.0 h t.1 t.2

-- ---- the first column with a constant
module _ (ring : Ring) (lawful : IsLawful (setting ring (variables ring) (ring_comparison ring (variables ring)) 0)) (F : List Terms)
    (vectors : AreVectorsOver ring (ring_comparison ring) F) (graded : Each (IsGraded ring) F) (c : ℕ) (v : Terms) (lt : c < length F) (is : v ≡ get_or F c v)
    (before : (b q : ℕ) → b < c → IsConstantAt ring.modulus.value (get_or (sums_of (variables ring) F) b []) q → ⊥) where
  here : get_or (sums_of (variables ring) F) c [] ≡ sum_of (variables ring) v
  here = sums_at (variables ring) F c ∙ ap (sum_of (variables ring)) (get_or_default F c [] v lt ∙ sym is)

  vector_here : IsVectorOver ring (ring_comparison ring) v
  vector_here = Each_at _ F c v vectors lt is

  graded_here : IsGraded ring v
  graded_here = Each_at _ F c v graded lt is

  pub first_is : (a : ℕ × ℕ) → IsLeastUnit v (Some a) → IsFirst ring F (record { column = c; row = a.0; residue = a.1 })
  first_is a h =
      let u = first_unit ring lawful v vector_here graded_here a h in
      let p = ring.modulus.value in
      record {
        inside = lt;
        constant = subst (λ w. IsConstantAt p w a.0) (sym here) u.0;
        residue = subst (λ w. coefficient w (a.0, unit (variables ring)) ≡ a.1) (sym here) u.1.0;
        nonzero = u.1.1;
        reduced = u.1.2;
        first_column = before;
        first_row = λ q l k. u.2 q l (subst (λ w. IsConstantAt p w q) here k);
      }

  pub none_to :
      IsLeastUnit v None → (b q : ℕ) → b < c + 1 → IsConstantAt ring.modulus.value (get_or (sums_of (variables ring) F) b []) q → ⊥
  none_to h b q l k = go (cases_lt b c)
    where
      go : (b < c) ⊎ (c ≤ b) → ⊥
      go (inl a) = before b q a k
      go (inr a) =
          let e : b ≡ c = omega (arith, a, l) in
          no_unit ring lawful v vector_here graded_here h q
          (subst (λ w. IsConstantAt ring.modulus.value w q) (ap (λ z. get_or (sums_of (variables ring) F) z []) e ∙ here) k)
