-- A term is kept, or is 0
use Rattle.std.proofs.Common.{List, [], ap, arith, get_or, subst, sym, ℕ, ◌*◌, ◌+◌, ◌++◌, ◌<◌, ◌∙◌, ◌∷◌, ◌≡◌}
use Rattle.std.proofs.lemmas.List.{map-append}
use Rattle.residues.proofs.Congruences.{IsCongruent_of}
use Rattle.formal_sums.proofs.Sameness.{IsSame_of}
use Rattle.formal_sums.proofs.WeightedSums.{Each_append, coefficient-append}
use Rattle.formal_sums.specs.FormalSums.{coefficient, indicator}
use Rattle.term_lists.specs.Rings.{variables}
use Rattle.term_lists.specs.Vectors.{IsMonomialOver, key_of, sum_of, sums_of}
use Rattle.term_lists.specs.declared.key.Key.{Key as CodeKey}
use Rattle.term_lists.specs.declared.ring.Ring.{Ring}
use Rattle.vector_division.specs.Divisions.{IsFreeOfLeads, IsUncovered}
use Rattle.row_matrix.specs.Hashes.{no_key}
use Rattle.row_matrix.specs.Rows.{column_key}
use Rattle.remainders.specs.Leaving.{IsTermKept}

module _ (ring : Ring) (list : List (List (CodeKey × ℕ))) (keys : List CodeKey) (number : ℕ) (old : List (CodeKey × ℕ)) where
  -- the residue is 0
  pub kept_none : (residue : ℕ) → residue ≡ 0 → IsTermKept ring list keys number residue old old
  kept_none residue z = record {
    terms = λ h. h;
    sum = record {
      by_key = λ k.
          let w = indicator k (column_key (variables ring) keys number) in
          let a = coefficient (sum_of (variables ring) old) k in
          let e : a ≡ a + (residue * w + 0) = rw z (omega arith) in
          IsCongruent_of ring.modulus.value _ _ (e ∙ sym (coefficient-append (sum_of (variables ring) old) ((column_key (variables ring) keys number, residue) ∷ []) k));
    };
    free = λ h. h;
  }

  -- the term stands behind the others
  pub kept_more :
      (residue : ℕ) (key : CodeKey) → key ≡ get_or keys number no_key → IsMonomialOver ring key.monomial → residue < ring.modulus.value
      → IsUncovered (sums_of (variables ring) list) (column_key (variables ring) keys number) → IsTermKept ring list keys number residue old (old ++ (key, residue) ∷ [])
  kept_more residue key is over lt free =
      let n = variables ring in
      let here : key_of n key ≡ column_key n keys number = ap (key_of n) is in
      let more : sum_of n (old ++ (key, residue) ∷ []) ≡ sum_of n old ++ (column_key n keys number, residue) ∷ [] =
      map-append (λ (t : CodeKey × ℕ). (key_of n t.0, t.1)) old ((key, residue) ∷ []) ∙ ap (λ k. sum_of n old ++ (k, residue) ∷ []) here in
      record {
        terms = λ h. Each_append _ old ((key, residue) ∷ []) h ((over, lt), tt);
        sum = IsSame_of ring.modulus.value _ _ more;
        free = λ h. subst (IsFreeOfLeads (sums_of n list)) (sym more) (Each_append _ (sum_of n old) ((column_key n keys number, residue) ∷ []) h (free, tt));
      }
