-- Sums of products of columns, and the terms that they stand for
use Rattle.std.proofs.Common.{List, [], ap, arith, get_or, get_or-set_other, inl, inr, length, refl, set, subst, sym, ℕ, ◌*◌, ◌+◌, ◌++◌, ◌-◌, ◌<◌, ◌∙◌, ◌∷◌, ◌≡◌, ◌⊎◌}
use Rattle.std.specs.Prelude.{Contains}
use Rattle.std.proofs.lemmas.Bool.{cases_eq}
use Rattle.std.proofs.lemmas.List.{get_or-set_same, length-set, map-append}
use Rattle.residues.proofs.Congruences.{IsCongruent_of, IsCongruent_trans}
use Rattle.monomials.specs.Exponents.{unit}
use Rattle.formal_sums.proofs.Combining.{combination-scale}
use Rattle.formal_sums.proofs.Sameness.{IsSame_of, IsSame_refl, IsSame_sym, IsSame_trans}
use Rattle.formal_sums.proofs.TakenAway.{taken_away}
use Rattle.formal_sums.proofs.WeightedSums.{Each_append, coefficient-append}
use Rattle.formal_sums.specs.Combinations.{combination}
use Rattle.formal_sums.specs.FormalSums.{FormalSum, IsSame, coefficient, indicator, scale}
use Rattle.term_lists.specs.Rings.{variables}
use Rattle.term_lists.specs.Vectors.{IsMonomialOver, StandsFor, key_of, sum_of, sums_of}
use Rattle.term_lists.specs.declared.key.Key.{Key as CodeKey}
use Rattle.term_lists.specs.declared.ring.Ring.{Ring}
use Rattle.row_matrix.specs.Hashes.{no_key}
use Rattle.row_matrix.specs.Rows.{column_key}
use Rattle.numbered_sums.proofs.NumberedSums.{idle_small, idle_sums, idle_untouched}
use Rattle.numbered_sums.specs.KeySums.{AreTouched, AreZeroSums, numbered_sum}
use Rattle.remainders.proofs.Leaving.{left_more}
use Rattle.remainders.specs.Leaving.{AreTakenAway}
use Rattle.complements.specs.Combining.{AreTermsBeside, AreTermsOfSums, IsSumTaken, IsTermTaken}
use Rattle.complements.specs.Complements.{IsComplement}

abbrev Terms : Type 0
Terms = List (CodeKey × ℕ)

-- the two parts of a sum in the other order
swapped : {n : ℕ} (p : ℕ) (v a b : FormalSum n) → IsSame p v (a ++ b) → IsSame p v (b ++ a)
swapped p v a b h = record {
  by_key = λ k.
      let x = coefficient a k in
      let y = coefficient b k in
      let whole : x + y ≡ y + x = omega arith in
      IsCongruent_trans (h.by_key k) (IsCongruent_of p _ _ (coefficient-append a b k ∙ whole ∙ sym (coefficient-append b a k)));
}

module _ (ring : Ring) (keys : List CodeKey) (number : ℕ) (old : Terms) where
  -- the residue is 0
  pub term_none : (residue : ℕ) → residue ≡ 0 → IsTermTaken ring keys number residue old old
  term_none residue z = record {
    terms = λ h. h;
    sum = record {
      by_key = λ k.
          let w = indicator k (column_key (variables ring) keys number) in
          let a = coefficient (sum_of (variables ring) old) k in
          let e : a ≡ a + (residue * w + 0) = rw z (omega arith) in
          IsCongruent_of ring.modulus.value _ _ (e ∙ sym (coefficient-append (sum_of (variables ring) old) ((column_key (variables ring) keys number, residue) ∷ []) k));
    };
  }

  -- the term stands behind the others
  pub term_more :
      (residue : ℕ) (key : CodeKey) → key ≡ get_or keys number no_key → IsMonomialOver ring key.monomial → residue < ring.modulus.value
      → IsTermTaken ring keys number residue old (old ++ (key, residue) ∷ [])
  term_more residue key is over lt =
      let n = variables ring in
      let here : key_of n key ≡ column_key n keys number = ap (key_of n) is in
      let more : sum_of n (old ++ (key, residue) ∷ []) ≡ sum_of n old ++ (column_key n keys number, residue) ∷ [] =
      map-append (λ (t : CodeKey × ℕ). (key_of n t.0, t.1)) old ((key, residue) ∷ []) ∙ ap (λ k. sum_of n old ++ (k, residue) ∷ []) here in
      record {
        terms = λ h. Each_append _ old ((key, residue) ∷ []) h ((over, lt), tt);
        sum = IsSame_of ring.modulus.value _ _ more;
      }

module _ (ring : Ring) (keys : List CodeKey) where
  -- nothing is a term yet
  pub beside_start : (sums : List ℕ) → AreTermsBeside ring keys sums sums []
  beside_start sums = record { count = refl; over = tt; sum = IsSame_refl ring.modulus.value (numbered_sum (column_key (variables ring) keys) 0 sums) }

  -- one sum more goes over to the terms
  pub beside_more :
      (number : ℕ) (start sums left : List ℕ) (old new : Terms) → AreTermsBeside ring keys start sums old → IsSumTaken ring keys number sums left old new
      → AreTermsBeside ring keys start left new
  beside_more number start sums left old new h t =
      let n = variables ring in
      let K = column_key n keys in
      subst (λ xs. AreTermsBeside ring keys start xs new) (sym t.zero)
      (record {
        count = length-set sums number 0 ∙ h.count;
        over = t.term.terms h.over;
        sum = left_more K number t.residue sums (numbered_sum K 0 start) (sum_of n old) (sum_of n new) t.within t.congruent h.sum t.term.sum;
      })

  -- a touched sum that is set to 0
  pub still_touched :
      (number : ℕ) (touched sums left : List ℕ) (old new : Terms) → AreTouched touched sums → IsSumTaken ring keys number sums left old new → AreTouched touched left
  still_touched number touched sums left old new h t = subst (AreTouched touched) (sym t.zero) (λ i l. go i l (cases_eq i number))
    where
      go : (i : ℕ) → i < length (set sums number 0) → (i ≡ number) ⊎ (i ≡ number → ⊥) → (get_or (set sums number 0) i 0 ≡ 0) ⊎ Contains touched i
      go i l (inl e) = inl (ap (λ j. get_or (set sums number 0) j 0) e ∙ get_or-set_same sums number 0 0 t.within)
      go i l (inr ne) =
          subst (λ x. (x ≡ 0) ⊎ Contains touched i) (sym (get_or-set_other sums number i 0 0 ne)) (h i (omega (arith, l, length-set sums number 0)))

module _ (ring : Ring) (columns : List Terms) (keys : List CodeKey) where
  abbrev F : List (FormalSum (variables ring))
  F = sums_of (variables ring) columns

  -- nothing is added yet
  pub taken_nothing :
      (sums touched : List ℕ) → length sums ≡ length keys → AreZeroSums sums → touched ≡ [] → AreTakenAway ring columns keys [] sums touched
  taken_nothing sums touched count zero none = record {
    cofactors = [];
    ranks = tt;
    count = count;
    small = idle_small sums zero;
    marked = subst (λ t. AreTouched t sums) (sym none) (idle_untouched sums zero);
    sum = IsSame_sym (idle_sums ring.modulus.value (column_key (variables ring) keys) 0 sums zero);
  }

  -- what was taken away of 0 is a combination with the other sign
  pub combination_left :
      (sums touched : List ℕ) (terms rest : Terms) → AreTakenAway ring columns keys [] sums touched → AreTermsOfSums ring keys sums terms
      → 0 < ring.modulus.value → StandsFor ring rest (sum_of (variables ring) terms) → IsComplement ring columns [] rest
  combination_left sums touched terms rest t l pos stands =
      let n = variables ring in
      let p = ring.modulus.value in
      let C = combination F t.cofactors in
      record {
        factors = scale (p - 1) (unit n) t.cofactors;
        sum = IsSame_trans stands
            (IsSame_trans (IsSame_sym l.sum)
            (IsSame_trans (taken_away p [] _ C pos (swapped p [] C _ t.sum))
            (IsSame_of p _ _ (sym (combination-scale F (p - 1) (unit n) t.cofactors)))));
      }
