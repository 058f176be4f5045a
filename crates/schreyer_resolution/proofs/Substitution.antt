-- Quotients by shared products: a product is taken away as often as its lead is there
use Rattle.std.proofs.Common.{List, [], ap, ap₂, append-nil, arith, get_or, length, subst, sym, ℕ, ◌*◌, ◌+◌, ◌++◌, ◌<◌, ◌∙◌, ◌∷◌, ◌≡◌}
use Rattle.std.proofs.lemmas.List.{map-append}
use Rattle.residues.proofs.Congruences.{IsCongruent_add, IsCongruent_multiply, IsCongruent_of, IsCongruent_refl, IsCongruent_sym, IsCongruent_trans}
use Rattle.residues.specs.Residues.{IsCongruent}
use Rattle.monomials.specs.Exponents.{exponents_of, unit}
use Rattle.formal_sums.proofs.Combining.{IsMember_each, IsMember_scale, combination-append, scale-one}
use Rattle.formal_sums.proofs.Sameness.{IsSame_append, IsSame_of, IsSame_refl, IsSame_sym, IsSame_trans, coefficient-scale_unit, shift-unit}
use Rattle.formal_sums.proofs.WeightedSums.{Each_append, coefficient-append, weighted_sum-scale}
use Rattle.formal_sums.specs.Combinations.{IsMember, combination}
use Rattle.formal_sums.specs.FormalSums.{FormalSum, IsSame, coefficient, indicator, scale, shift, weighted_sum}
use Rattle.term_lists.specs.Rings.{variables}
use Rattle.term_lists.specs.Vectors.{sum_of, sums_of}
use Rattle.term_lists.specs.declared.key.Key.{Key as CodeKey}
use Rattle.term_lists.specs.declared.ring.Ring.{Ring}
use Rattle.vector_division.proofs.Members.{sums_at}
use Rattle.vector_division.specs.Divisions.{IsFreeOfLeads, IsUncovered}
use Rattle.vector_division.specs.Reductions.{cofactors_of}
use Rattle.vector_division.specs.declared.reduction.ScaledProduct.{ScaledProduct}
use Rattle.row_matrix.specs.Rows.{Entry, column_key, row_sum}
use Rattle.numbered_sums.proofs.NumberedSums.{idle_sums}
use Rattle.numbered_sums.specs.KeySums.{AddsProduct, AreSmall, AreTouched, AreZeroSums, numbered_sum}
use Rattle.numbered_sums.specs.ProductEntries.{multiple_at}
use Rattle.schreyer_resolution.proofs.FreeMembers.{rest_member}
use Rattle.schreyer_resolution.specs.FreeKeys.{AreFreeMembersZero, IsProductUpToFree}
use Rattle.schreyer_resolution.specs.Sharing.{AreLastQuotients, AreTakenQuotients, IsLastProduct, row_at}
use Rattle.schreyer_resolution.specs.declared.products.Product.{Product}

-- a product is taken away of the sums and of what stands behind them
sum_and_rest_taken :
    {n : ℕ} (p r f : ℕ) (m : List ℕ) (top a old new rest row free g : FormalSum n) → IsCongruent p (f + r) 0
    → IsSame p (scale 1 (exponents_of n m) g) (row ++ free) → IsSame p top ((a ++ old) ++ rest) → IsSame p new (old ++ scale f (unit n) row)
    → IsSame p top (((a ++ scale r (exponents_of n m) g) ++ new) ++ (rest ++ scale f (unit n) free))
sum_and_rest_taken {n} p r f m top a old new rest row free g z product h added = record {
  by_key = λ k.
      let w = weighted_sum (λ l. indicator k (shift (exponents_of n m) l)) g in
      let A = coefficient a k in
      let D = coefficient old k in
      let R = coefficient rest k in
      let x = coefficient row k in
      let y = coefficient free k in
      let taken : coefficient (scale r (exponents_of n m) g) k ≡ r * w = weighted_sum-scale (indicator k) r (exponents_of n m) g in
      let one : coefficient (scale 1 (exponents_of n m) g) k ≡ 1 * w = weighted_sum-scale (indicator k) 1 (exponents_of n m) g in
      let parts : IsCongruent p w (x + y) =
      IsCongruent_trans (IsCongruent_of p _ _ (one_time w ∙ sym one))
      (IsCongruent_trans (product.by_key k) (IsCongruent_of p _ _ (coefficient-append row free k))) in
      let start = IsCongruent_trans (h.by_key k) (IsCongruent_of p _ _ (coefficient-append (a ++ old) rest k ∙ ap (λ v. v + R) (coefficient-append a old k))) in
      let sums = IsCongruent_trans (added.by_key k)
      (IsCongruent_of p _ _ (coefficient-append old (scale f (unit n) row) k ∙ ap (λ v. D + v) (coefficient-scale_unit f row k))) in
      let front : coefficient ((a ++ scale r (exponents_of n m) g) ++ new) k ≡ (A + r * w) + coefficient new k =
      coefficient-append (a ++ scale r (exponents_of n m) g) new k
      ∙ ap (λ v. v + coefficient new k) (coefficient-append a (scale r (exponents_of n m) g) k ∙ ap (λ v. A + v) taken) in
      let back : coefficient (rest ++ scale f (unit n) free) k ≡ R + f * y =
      coefficient-append rest (scale f (unit n) free) k ∙ ap (λ v. R + v) (coefficient-scale_unit f free k) in
      let whole : coefficient (((a ++ scale r (exponents_of n m) g) ++ new) ++ (rest ++ scale f (unit n) free)) k
      ≡ ((A + r * w) + coefficient new k) + (R + f * y) =
      coefficient-append ((a ++ scale r (exponents_of n m) g) ++ new) (rest ++ scale f (unit n) free) k ∙ ap₂ ◌+◌ front back in
      IsCongruent_trans start
      (IsCongruent_trans (IsCongruent_of p ((A + D) + R) ((A + D + R) + 0 * (x + y)) (nothing_more A D R (x + y)))
      (IsCongruent_trans (IsCongruent_add (IsCongruent_refl p (A + D + R)) (IsCongruent_multiply (IsCongruent_sym z) (IsCongruent_refl p (x + y))))
      (IsCongruent_trans (IsCongruent_of p ((A + D + R) + (f + r) * (x + y)) (((A + r * (x + y)) + (D + f * x)) + (R + f * y)) (shuffled A D R f r x y))
      (IsCongruent_trans
      (IsCongruent_add
      (IsCongruent_add (IsCongruent_add (IsCongruent_refl p A) (IsCongruent_multiply (IsCongruent_refl p r) (IsCongruent_sym parts))) (IsCongruent_sym sums))
      (IsCongruent_refl p (R + f * y)))
      (IsCongruent_of p _ _ (sym whole))))));
}
  where
    one_time : (w : ℕ) → w ≡ 1 * w
    one_time w = omega arith

    nothing_more : (A D R w : ℕ) → (A + D) + R ≡ (A + D + R) + 0 * w
    nothing_more A D R w = omega arith

    shuffled : (A D R f r x y : ℕ) → (A + D + R) + (f + r) * (x + y) ≡ ((A + r * (x + y)) + (D + f * x)) + (R + f * y)
    shuffled A D R f r x y = omega arith

module _ (ring : Ring) (columns : List (List (CodeKey × ℕ))) (keys : List CodeKey) (key : CodeKey) where
  abbrev F : List (FormalSum (variables ring))
  F = sums_of (variables ring) columns

  -- the combination by one quotient more
  combination_more :
      (qs : List ScaledProduct) (q : ScaledProduct)
      → combination F (cofactors_of (variables ring) (qs ++ q ∷ [])) ≡ combination F (cofactors_of (variables ring) qs) ++ scale q.residue (exponents_of (variables ring) q.monomial.exponents) (sum_of (variables ring) (get_or columns q.index []))
  combination_more qs q =
      ap (combination F) (map-append (λ (x : ScaledProduct). ((x.index, exponents_of (variables ring) x.monomial.exponents), x.residue)) qs (q ∷ []))
      ∙ combination-append F (cofactors_of (variables ring) qs) (cofactors_of (variables ring) (q ∷ []))
      ∙ ap (λ v. combination F (cofactors_of (variables ring) qs) ++ v)
      (append-nil (scale q.residue (exponents_of (variables ring) q.monomial.exponents) (get_or F q.index []))
      ∙ ap (scale q.residue (exponents_of (variables ring) q.monomial.exponents)) (sums_at (variables ring) columns q.index))

  -- the start
  pub taken_start :
      (row : List Entry) (old sums touched : List ℕ) → length old ≡ length keys → AreZeroSums old
      → IsProductUpToFree ring columns keys key.position key.monomial row → AddsProduct ring.modulus.value 1 row old sums
      → AreSmall sums → AreTouched touched sums → AreTakenQuotients ring columns keys key [] sums touched
  taken_start row old sums touched is idle h adds small marked =
      let K = column_key (variables ring) keys in
      let R = row_sum K row in
      let whole : IsSame ring.modulus.value (numbered_sum K 0 sums) R =
      IsSame_trans (adds.sum (variables ring) K) (IsSame_trans (IsSame_append (idle_sums ring.modulus.value K 0 old idle) (IsSame_refl ring.modulus.value (scale 1 (unit (variables ring)) R))) (IsSame_of ring.modulus.value _ _ (scale-one R))) in
      record {
        quotients = tt;
        count = adds.count ∙ is;
        small = small;
        marked = marked;
        rest = h.rest;
        free = h.free;
        sum = IsSame_trans h.sum (IsSame_append (IsSame_sym whole) (IsSame_refl ring.modulus.value h.rest));
      }

  free_scaled : (f : ℕ) (v : FormalSum (variables ring)) → IsFreeOfLeads F v → IsFreeOfLeads F (scale f (unit (variables ring)) v)
  free_scaled f [] h = tt
  free_scaled f (t ∷ v) h = (subst (IsUncovered F) (sym (shift-unit t.0)) h.0, free_scaled f v h.1)

  -- one product is taken away
  pub taken_more :
      (qs : List ScaledProduct) (r f : ℕ) (old new before touched : List ℕ) (entries : List Entry) (s : Product)
      → AreTakenQuotients ring columns keys key qs old before → IsLastProduct ring columns keys entries s
      → 0 < r → r < ring.modulus.value → IsCongruent ring.modulus.value (f + r) 0
      → AddsProduct ring.modulus.value f (row_at entries s.stretch) old new → AreSmall new → AreTouched touched new
      → AreTakenQuotients ring columns keys key (qs ++ (record { index = s.index; residue = r; monomial = s.monomial }) ∷ []) new touched
  taken_more qs r f old new before touched entries s t h pos lt z adds small marked =
      let q : ScaledProduct = record { index = s.index; residue = r; monomial = s.monomial } in
      let K = column_key (variables ring) keys in
      let more = scale f (unit (variables ring)) h.row.row.rest in
      record {
        quotients = Each_append _ qs (q ∷ []) t.quotients (record { index = h.found.index; weighed = h.found.weighed; nonzero = pos; reduced = lt; last = h.found.last }, tt);
        count = adds.count ∙ t.count;
        small = small;
        marked = marked;
        rest = t.rest ++ more;
        free = Each_append _ t.rest more t.free (free_scaled f h.row.row.rest h.row.row.free);
        sum = subst (λ v. IsSame ring.modulus.value (multiple_at ring columns key.position key.monomial) ((v ++ numbered_sum K 0 new) ++ (t.rest ++ more)))
            (sym (combination_more qs q))
            (sum_and_rest_taken ring.modulus.value r f s.monomial.exponents (multiple_at ring columns key.position key.monomial)
            (combination F (cofactors_of (variables ring) qs)) (numbered_sum K 0 old) (numbered_sum K 0 new) t.rest (row_sum K (row_at entries s.stretch)) h.row.row.rest
            (sum_of (variables ring) (get_or columns s.index [])) z h.row.row.sum t.sum (adds.sum (variables ring) K));
      }

  -- the end: the rest is a member without a covered key, so that it is 0
  pub taken_all :
      (qs : List ScaledProduct) (sums touched : List ℕ) → 0 < ring.modulus.value → AreFreeMembersZero ring columns
      → AreTakenQuotients ring columns keys key qs sums touched
      → IsSame ring.modulus.value (numbered_sum (column_key (variables ring) keys) 0 sums) []
      → AreLastQuotients ring columns key qs
  taken_all qs sums touched pos base t none =
      let p = ring.modulus.value in
      let top = multiple_at ring columns key.position key.monomial in
      let A = combination F (cofactors_of (variables ring) qs) in
      let g = sum_of (variables ring) (get_or columns key.position []) in
      let member : IsMember p F top = IsMember_scale pos F 1 (exponents_of (variables ring) key.monomial.exponents) g
      (subst (IsMember p F) (sums_at (variables ring) columns key.position) (IsMember_each p F key.position)) in
      let left : IsSame p top (A ++ t.rest) =
      IsSame_trans t.sum (IsSame_append (IsSame_trans (IsSame_append (IsSame_refl p A) none) (IsSame_of p _ _ (append-nil A))) (IsSame_refl p t.rest)) in
      let zero : IsSame p t.rest [] = base t.rest (rest_member p pos F top (cofactors_of (variables ring) qs) t.rest member left) t.free in
      record {
        each = t.quotients;
        sum = IsSame_trans left (IsSame_trans (IsSame_append (IsSame_refl p A) zero) (IsSame_of p _ _ (append-nil A)));
      }
