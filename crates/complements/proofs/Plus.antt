-- Vectors plus combinations, one after another
use Rattle.std.proofs.Common.{List, [], ap, append-nil, arith, get_or, inl, inr, length, refl, subst, suc, sym, zero, ℕ, ◌++◌, ◌+◌, ◌<◌, ◌∙◌, ◌∷◌, ◌≡◌, ◌≤◌, ◌⊎◌}
use Rattle.std.proofs.lemmas.Bool.{cases_lt}
use Rattle.std.proofs.lemmas.List.{append_assoc}
use Rattle.formal_sums.proofs.Combining.{combination-append}
use Rattle.formal_sums.proofs.Sameness.{IsSame_append, IsSame_of, IsSame_refl, IsSame_trans}
use Rattle.formal_sums.specs.Combinations.{combination}
use Rattle.formal_sums.specs.FormalSums.{Each}
use Rattle.complements.specs.Complements.{AreComplements, IsComplement}
use Rattle.monomial_orders.specs.Kept.{Monomial}
use Rattle.term_lists.specs.Rings.{ring_comparison, variables}
use Rattle.term_lists.specs.Vectors.{AreTermsOver, AreVectorsOver, IsMonomialOver, IsVectorOver, StandsFor, sum_of, sums_of}
use Rattle.term_lists.specs.declared.key.Key.{Key as CodeKey}
use Rattle.term_lists.specs.declared.ring.Ring.{Ring}

abbrev Terms : Type 0
Terms = List (CodeKey × ℕ)

pub each_end : {X : Type 0} (P : X → Type 0) (xs : List X) (x : X) → Each P xs → P x → Each P (xs ++ x ∷ [])
each_end P [] x h e = (e, tt)
each_end P (y ∷ xs) x h e = (h.0, each_end P xs x h.1 e)

pub term_end :
    (ring : Ring) (old new : Terms) (key : CodeKey) (m : Monomial) (c : ℕ) → new ≡ old ++ (key, c) ∷ [] → key.monomial ≡ m → IsMonomialOver ring m
    → c < ring.modulus.value → AreTermsOver ring old → AreTermsOver ring new
term_end ring old new key m c e is weighed lt h =
    subst (AreTermsOver ring) (sym e) (each_end _ old (key, c) h (subst (IsMonomialOver ring) (sym is) weighed, lt))

module _ (ring : Ring) (columns : List (List (CodeKey × ℕ))) where
  -- nothing is added
  pub plus_nothing : (v : List (CodeKey × ℕ)) → IsComplement ring columns v v
  plus_nothing v = record { factors = []; sum = IsSame_of ring.modulus.value _ _ (sym (append-nil (sum_of (variables ring) v))) }

  -- a combination is added
  pub plus_sum :
      (v w u : List (CodeKey × ℕ)) → IsComplement ring columns [] w → StandsFor ring u (sum_of (variables ring) v ++ sum_of (variables ring) w)
      → IsComplement ring columns v u
  plus_sum v w u h e = record {
    factors = h.factors;
    sum = IsSame_trans e (IsSame_append (IsSame_refl ring.modulus.value (sum_of (variables ring) v)) h.sum);
  }

  pub plus_more : (v u w : List (CodeKey × ℕ)) → IsComplement ring columns v u → IsComplement ring columns u w → IsComplement ring columns v w
  plus_more v u w a b =
      let p = ring.modulus.value in
      let n = variables ring in
      let F = sums_of n columns in
      record {
        factors = a.factors ++ b.factors;
        sum = IsSame_trans b.sum
            (IsSame_trans (IsSame_append a.sum (IsSame_refl p (combination F b.factors)))
            (IsSame_of p _ _ (append_assoc (sum_of n v) (combination F a.factors) (combination F b.factors)
            ∙ ap (λ z. sum_of n v ++ z) (sym (combination-append F a.factors b.factors)))));
      }

  get_end : (xs : List (List (CodeKey × ℕ))) (x : List (CodeKey × ℕ)) (i : ℕ) → i < length xs → get_or (xs ++ x ∷ []) i [] ≡ get_or xs i []
  get_end [] x i lt = absurd (omega (arith, lt))
  get_end (y ∷ xs) x zero lt = refl
  get_end (y ∷ xs) x (suc i) lt = get_end xs x i (omega (arith, lt))

  get_last : (xs : List (List (CodeKey × ℕ))) (x : List (CodeKey × ℕ)) → get_or (xs ++ x ∷ []) (length xs) [] ≡ x
  get_last [] x = refl
  get_last (y ∷ xs) x = get_last xs x

  length_last : (xs : List (List (CodeKey × ℕ))) (x : List (CodeKey × ℕ)) → length (xs ++ x ∷ []) ≡ length xs + 1
  length_last [] x = refl
  length_last (y ∷ xs) x = let e = length_last xs x in omega (arith, e)

  pub plus_start : (old new : List (List (CodeKey × ℕ))) → new ≡ [] → AreComplements ring columns old 0 new
  plus_start old new e = record {
    sized = ap length e;
    each = λ i lt. absurd (omega (arith, lt));
    vectors = subst (AreVectorsOver ring (ring_comparison ring)) (sym e) tt;
  }

  pub plus_next :
      (old made new : List (List (CodeKey × ℕ))) (i : ℕ) (v u : List (CodeKey × ℕ)) → AreComplements ring columns old i made
      → v ≡ get_or old i [] → IsComplement ring columns v u → IsVectorOver ring (ring_comparison ring) u → new ≡ made ++ u ∷ []
      → AreComplements ring columns old (i + 1) new
  plus_next old made new i v u h is plus vector e =
      let size = h.sized in
      subst (AreComplements ring columns old (i + 1)) (sym e)
      (record {
        sized = length_last made u ∙ ap (λ z. z + 1) size;
        each = λ j lt. at j (cases_lt j i) lt;
        vectors = each_end _ made u h.vectors vector;
      })
    where
      at :
          (j : ℕ) → (j < i) ⊎ (i ≤ j) → j < i + 1
          → IsComplement ring columns (get_or old j []) (get_or (made ++ u ∷ []) j [])
      at j (inl less) lt =
          subst (IsComplement ring columns (get_or old j [])) (sym (get_end made u j (let s = h.sized in omega (arith, less, s)))) (h.each j less)
      at j (inr ge) lt =
          let s = h.sized in
          let same : j ≡ i = omega (arith, ge, lt) in
          let there : get_or (made ++ u ∷ []) j [] ≡ u = ap (λ k. get_or (made ++ u ∷ []) k []) (same ∙ sym s) ∙ get_last made u in
          subst (IsComplement ring columns (get_or old j [])) (sym there)
          (subst (λ z. IsComplement ring columns z u) (is ∙ ap (λ k. get_or old k []) (sym same)) plus)
