-- Products are taken away of a vector, and what is left is its remainder
use Rattle.std.proofs.Common.{List, [], ap, append-nil, arith, get_or, get_or-set_other, inl, inr, length, replicate, set, subst, sym, take, ℕ, ◌*◌, ◌+◌, ◌++◌, ◌-◌, ◌<◌, ◌∙◌, ◌∷◌, ◌≡◌, ◌≤◌, ◌⊎◌}
use Rattle.std.specs.Prelude.{Contains}
use Rattle.std.proofs.lemmas.Bool.{cases_eq, cases_lt}
use Rattle.std.proofs.lemmas.List.{get_or-set_same, get_or_append_left, get_or_past, length-set}
use Rattle.residues.proofs.Congruences.{IsCongruent_minus, IsCongruent_of, IsCongruent_trans}
use Rattle.residues.specs.Residues.{IsCongruent, IsDomain}
use Rattle.monomials.specs.Exponents.{exponents_of, unit}
use Rattle.formal_sums.proofs.Combining.{combination-append, scale-one}
use Rattle.formal_sums.proofs.Sameness.{IsSame_append, IsSame_of, IsSame_refl, IsSame_sym, IsSame_trans}
use Rattle.formal_sums.proofs.WeightedSums.{Each_append}
use Rattle.formal_sums.specs.Combinations.{combination}
use Rattle.formal_sums.specs.FormalSums.{Each, FormalSum, HasRank, IsSame, Term, scale}
use Rattle.orders.specs.KeyOrders.{IsKeyOrder}
use Rattle.term_lists.specs.Rings.{ring_comparison, variables}
use Rattle.term_lists.specs.Vectors.{IsVectorOver, StandsFor, key_of, sum_of, sums_of}
use Rattle.term_lists.specs.declared.key.Key.{Key as CodeKey}
use Rattle.term_lists.specs.declared.ring.Ring.{Ring}
use Rattle.vector_division.proofs.Keeping.{kept_reduced}
use Rattle.vector_division.proofs.Members.{sums_at}
use Rattle.vector_division.specs.Reductions.{IsScaledProduct, cofactors_of}
use Rattle.vector_division.specs.declared.reduction.ScaledProduct.{ScaledProduct}
use Rattle.row_matrix.specs.Hashes.{no_key}
use Rattle.row_matrix.specs.Rows.{Entry, column_key, row_sum}
use Rattle.numbered_sums.proofs.NumberedSums.{Each_set, idle_small, idle_sums, idle_zeros, zeroed}
use Rattle.numbered_sums.proofs.Taking.{sum_taken}
use Rattle.numbered_sums.specs.KeySums.{AddsProduct, AreSmall, AreTouched, AreZeroSums, numbered_sum}
use Rattle.remainders.proofs.Padded.{padded, padded_get, padded_length, padded_sum}
use Rattle.remainders.specs.Leaving.{AreEntriesOf, AreLeft, AreTakenAway, IsLonger, IsRowOfList}
use Rattle.remainders.specs.Remainders.{IsRemainderOf}

abbrev Terms : Type 0
Terms = List (CodeKey × ℕ)

-- the quotients of a division are cofactors of its list
pub cofactor_rank :
    (n : ℕ) (ws : List ℕ) (p : ℕ) (list : List Terms) (qs : List ScaledProduct) → Each (IsScaledProduct n ws p list) qs → HasRank (length list) (cofactors_of n qs)
cofactor_rank n ws p list [] h = tt
cofactor_rank n ws p list (x ∷ qs) h = (h.0.index, cofactor_rank n ws p list qs h.1)

module _ (ring : Ring) (list : List Terms) (keys : List CodeKey) (v : Terms) where
  abbrev F : List (FormalSum (variables ring))
  F = sums_of (variables ring) list

  -- nothing is taken yet
  pub taken_start :
      (row : List Entry) (old sums touched : List ℕ) → length old ≡ length keys → AreZeroSums old → AreEntriesOf ring keys v row
      → AddsProduct ring.modulus.value 1 row old sums → AreSmall sums → AreTouched touched sums → AreTakenAway ring list keys v sums touched
  taken_start row old sums touched is idle h adds small marked =
      let K = column_key (variables ring) keys in
      let R = row_sum K row in
      let whole : IsSame ring.modulus.value (numbered_sum K 0 sums) R =
      IsSame_trans (adds.sum (variables ring) K) (IsSame_trans (IsSame_append (idle_sums ring.modulus.value K 0 old idle) (IsSame_refl ring.modulus.value (scale 1 (unit (variables ring)) R))) (IsSame_of ring.modulus.value _ _ (scale-one R))) in
      record {
        cofactors = [];
        ranks = tt;
        count = adds.count ∙ is;
        small = small;
        marked = marked;
        sum = IsSame_sym (subst (IsSame ring.modulus.value (numbered_sum K 0 sums)) h.sum whole);
      }

  -- more keys, whose sums are 0
  pub taken_over :
      (new : List CodeKey) (c m : ℕ) (old more touched : List ℕ) → IsLonger keys new → c ≡ length new → m ≡ length old → length old ≤ c
      → more ≡ take c old ++ replicate (c - m) 0
      → AreTakenAway ring list keys v old touched → AreTakenAway ring list new v more touched
  taken_over new c m old more touched g whole had le is t =
      let n = variables ring in
      let p = ring.modulus.value in
      let k = c - length old in
      let here : more ≡ old ++ replicate k 0 = padded 0 c m old more had le is in
      record {
        cofactors = t.cofactors;
        ranks = t.ranks;
        count = padded_length 0 c m old more had le is ∙ whole;
        small = subst AreSmall (sym here) (Each_append _ old (replicate k 0) t.small (idle_small (replicate k 0) (idle_zeros k)));
        marked = λ i lt. marked_over i (cases_lt i (length old));
        sum = IsSame_trans t.sum (IsSame_append (IsSame_refl p (combination F t.cofactors))
            (subst (λ xs. IsSame p (numbered_sum (column_key n keys) 0 old) (numbered_sum (column_key n new) 0 xs)) (sym here)
            (padded_sum p (column_key n keys) (column_key n new) old k key_over)));
      }
    where
      marked_over : (i : ℕ) → (i < length old) ⊎ (length old ≤ i) → (get_or more i 0 ≡ 0) ⊎ Contains touched i
      marked_over i (inl l) = subst (λ x. (x ≡ 0) ⊎ Contains touched i) (sym (padded_get 0 c m old more had le is i)) (t.marked i l)
      marked_over i (inr ge) = inl (padded_get 0 c m old more had le is i ∙ get_or_past old i 0 ge)

      key_over : (j : ℕ) → j < length old → column_key (variables ring) keys j ≡ column_key (variables ring) new j
      key_over j lt =
          let c = t.count in
          ap (key_of (variables ring)) (sym (ap (λ ks. get_or ks j no_key) g.is ∙ get_or_append_left keys g.added no_key j (omega (arith, lt, c))))

  -- a sum whose residue is 0 is set to 0
  pub taken_settled :
      (at : ℕ) (sums touched : List ℕ) → 0 < ring.modulus.value → at < length sums → IsCongruent ring.modulus.value (get_or sums at 0) 0
      → AreTakenAway ring list keys v sums touched → AreTakenAway ring list keys v (set sums at 0) touched
  taken_settled at sums touched pos lt z t =
      let n = variables ring in
      let p = ring.modulus.value in
      let K = column_key n keys in
      record {
        cofactors = t.cofactors;
        ranks = t.ranks;
        count = length-set sums at 0 ∙ t.count;
        small = Each_set _ sums at 0 t.small (omega arith);
        marked = λ i l. marked_still i l (cases_eq i at);
        sum = IsSame_trans t.sum (IsSame_append (IsSame_refl p (combination F t.cofactors)) (zeroed pos K at sums sums lt z (IsSame_refl p (numbered_sum K 0 sums))));
      }
    where
      marked_still : (i : ℕ) → i < length (set sums at 0) → (i ≡ at) ⊎ (i ≡ at → ⊥) → (get_or (set sums at 0) i 0 ≡ 0) ⊎ Contains touched i
      marked_still i l (inl e) = inl (ap (λ j. get_or (set sums at 0) j 0) e ∙ get_or-set_same sums at 0 0 lt)
      marked_still i l (inr ne) =
          subst (λ x. (x ≡ 0) ⊎ Contains touched i) (sym (get_or-set_other sums at i 0 0 ne)) (t.marked i (omega (arith, l, length-set sums at 0)))

  -- a factor and the one with the other sign
  other_sign : (p f : ℕ) → f < p → IsCongruent p (f + (p - f)) 0
  other_sign p f lt =
      let pos : 0 < p = omega (arith, lt) in
      let whole : f + (p - f) ≡ 1 + (p - 1) * 1 = omega (arith, lt) in
      IsCongruent_trans (IsCongruent_of p _ _ whole) (IsCongruent_minus p 1 pos)

  -- the combination by one cofactor more
  combination_more :
      (a : FormalSum (variables ring)) (i r : ℕ) (m : List ℕ)
      → combination F (a ++ ((i, exponents_of (variables ring) m), r) ∷ []) ≡ combination F a ++ scale r (exponents_of (variables ring) m) (sum_of (variables ring) (get_or list i []))
  combination_more a i r m =
      combination-append F a (((i, exponents_of (variables ring) m), r) ∷ [])
      ∙ ap (λ z. combination F a ++ z)
      (append-nil (scale r (exponents_of (variables ring) m) (get_or F i []))
      ∙ ap (scale r (exponents_of (variables ring) m)) (sums_at (variables ring) list i))

  -- a product is taken away
  pub taken_more :
      (f : ℕ) (old new before touched : List ℕ) (row : List Entry) → AreTakenAway ring list keys v old before → IsRowOfList ring list keys row
      → f < ring.modulus.value → AddsProduct ring.modulus.value f row old new → AreSmall new → AreTouched touched new
      → AreTakenAway ring list keys v new touched
  taken_more f old new before touched row t h lt adds small marked =
      let n = variables ring in
      let p = ring.modulus.value in
      let K = column_key n keys in
      let m = h.monomial.exponents in
      let term : Term n = ((h.index, exponents_of n m), p - f) in
      record {
        cofactors = t.cofactors ++ term ∷ [];
        ranks = Each_append _ t.cofactors (term ∷ []) t.ranks (h.within, tt);
        count = adds.count ∙ t.count;
        small = small;
        marked = marked;
        sum = subst (λ z. IsSame p (sum_of n v) (z ++ numbered_sum K 0 new)) (sym (combination_more t.cofactors h.index (p - f) m))
            (sum_taken p (p - f) f m (sum_of n v) (combination F t.cofactors) (numbered_sum K 0 old) (numbered_sum K 0 new)
            (row_sum K row) (sum_of n (get_or list h.index [])) (other_sign p f lt) h.row.sum t.sum (adds.sum n K));
      }

  -- what is left is the remainder
  pub remainder_left :
      (sums touched : List ℕ) (left rest : Terms) → AreTakenAway ring list keys v sums touched → AreLeft ring list keys sums left
      → IsDomain ring.modulus.value → IsKeyOrder 0 (ring_comparison ring (variables ring)) → IsVectorOver ring (ring_comparison ring) rest
      → StandsFor ring rest (sum_of (variables ring) left) → IsRemainderOf ring list v rest
  remainder_left sums touched left rest t l domain order vector stands = record {
    cofactors = t.cofactors;
    ranks = t.ranks;
    sum = IsSame_trans t.sum (IsSame_append (IsSame_refl ring.modulus.value (combination F t.cofactors)) (IsSame_trans l.sum (IsSame_sym stands)));
    free = kept_reduced (variables ring) ring.weights ring.modulus.value (ring_comparison ring (variables ring)) order v list left rest domain l.free vector stands;
  }
