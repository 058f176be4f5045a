-- Columns of a map that is split, put one by one
use Rattle.std.proofs.Common.{List, [], ap, arith, get_or, inl, inr, length, map, refl, remove, subst, suc, sym, take, zero, ℕ}
use Rattle.std.proofs.Common.{◌++◌, ◌+◌, ◌<◌, ◌∙◌, ◌∷◌, ◌≡◌, ◌≤◌}
use Rattle.std.proofs.lemmas.List.{get_or_default, map-append, take_all}
use Rattle.formal_sums.proofs.Sameness.{IsSame_sym}
use Rattle.formal_sums.specs.FormalSums.{FormalSum}
use Rattle.minimal_laws.specs.Cancellation.{AreSameColumns, remove_at}
use Rattle.term_lists.specs.Rings.{ring_comparison, variables}
use Rattle.term_lists.specs.Vectors.{AreVectorsOver, StandsFor, sum_of, sums_of}
use Rattle.term_lists.specs.declared.key.Key.{Key as CodeKey}
use Rattle.term_lists.specs.declared.ring.Ring.{Ring}
use Rattle.column_passes.proofs.Columns.{nothing_same, same_pushed, sums_more, vectors_pushed}
use Rattle.column_passes.specs.declared.constants.Constant.{Constant}
use Rattle.minimal_betti.specs.Splitting.{AreSplit, IsOtherPut, split_of}

abbrev Terms : Type 0
Terms = List (CodeKey × ℕ)

-- ---- all columns but one
remove_at-past : {X : Type 0} (c : ℕ) (xs : List X) (x : X) → c ≡ length xs → remove_at c (xs ++ x ∷ []) ≡ remove_at c xs
remove_at-past zero [] x e = refl
remove_at-past (suc c) [] x e = absurd (omega (arith, e))
remove_at-past zero (y ∷ xs) x e = absurd (omega (arith, e))
remove_at-past (suc c) (y ∷ xs) x e = ap (λ r. y ∷ r) (remove_at-past c xs x (omega (arith, e)))

remove_at-kept : {X : Type 0} (c : ℕ) (xs : List X) (x : X) → (c ≡ length xs → ⊥) → remove_at c (xs ++ x ∷ []) ≡ remove_at c xs ++ x ∷ []
remove_at-kept zero [] x ne = absurd (ne refl)
remove_at-kept (suc c) [] x ne = refl
remove_at-kept zero (y ∷ xs) x ne = refl
remove_at-kept (suc c) (y ∷ xs) x ne = ap (λ r. y ∷ r) (remove_at-kept c xs x (λ e. ne (ap suc e)))

length-sums_take : (n : ℕ) (xs : List Terms) (i : ℕ) → i < length xs → length (sums_of n (take i xs)) ≡ i
length-sums_take n xs zero lt = refl
length-sums_take n [] (suc i) lt = absurd (omega (arith, lt))
length-sums_take n (x ∷ xs) (suc i) lt = ap suc (length-sums_take n xs i (omega (arith, lt)))

module _ (ring : Ring) (f : FormalSum (variables ring) → FormalSum (variables ring)) (c : ℕ) (xs : List Terms) where
  -- the column that leaves
  pub other_left :
      (i : ℕ) (x : Terms) (old : List Terms) → i < length xs → x ≡ get_or xs i x → i ≡ c
      → AreSameColumns ring.modulus.value (map f (remove_at c (sums_of (variables ring) (take i xs)))) (sums_of (variables ring) old)
      → AreSameColumns ring.modulus.value (map f (remove_at c (sums_of (variables ring) (take (i + 1) xs)))) (sums_of (variables ring) old)
  other_left i x old lt is e h =
      let n = variables ring in
      subst (λ L. AreSameColumns ring.modulus.value (map f L) (sums_of n old))
      (sym (ap (remove_at c) (sums_more n xs i x lt is) ∙ remove_at-past c (sums_of n (take i xs)) (sum_of n x) (sym e ∙ sym (length-sums_take n xs i lt)))) h

  -- another column
  pub other_pushed :
      (i : ℕ) (x : Terms) (old new : List Terms) (w : Terms) → i < length xs → x ≡ get_or xs i x → (i ≡ c → ⊥)
      → AreSameColumns ring.modulus.value (map f (remove_at c (sums_of (variables ring) (take i xs)))) (sums_of (variables ring) old)
      → StandsFor ring w (f (sum_of (variables ring) x)) → new ≡ old ++ w ∷ []
      → AreSameColumns ring.modulus.value (map f (remove_at c (sums_of (variables ring) (take (i + 1) xs)))) (sums_of (variables ring) new)
  other_pushed i x old new w lt is ne h e en =
      let n = variables ring in
      let left : map f (remove_at c (sums_of n (take (i + 1) xs))) ≡ map f (remove_at c (sums_of n (take i xs))) ++ f (sum_of n x) ∷ [] =
      ap (λ L. map f (remove_at c L)) (sums_more n xs i x lt is)
      ∙ ap (map f) (remove_at-kept c (sums_of n (take i xs)) (sum_of n x) (λ q. ne (sym (length-sums_take n xs i lt) ∙ sym q)))
      ∙ map-append f (remove_at c (sums_of n (take i xs))) (sum_of n x ∷ [])
      in
      let right : sums_of n new ≡ sums_of n old ++ sum_of n w ∷ [] = ap (sums_of n) en ∙ map-append _ old (w ∷ []) in
      subst (λ L. AreSameColumns ring.modulus.value L (sums_of n new)) (sym left)
      (subst (λ R. AreSameColumns ring.modulus.value (map f (remove_at c (sums_of n (take i xs))) ++ f (sum_of n x) ∷ []) R) (sym right)
      (same_pushed ring.modulus.value _ _ _ _ h (IsSame_sym e)))

-- the columns before i
pub record AreSplitTo (ring : Ring) (s : ℕ) (at : Constant) (columns : List Terms) (i : ℕ) (others : List Terms) : Type 0 where
  pub same :
      AreSameColumns ring.modulus.value (map (split_of ring s at columns) (remove_at at.column (sums_of (variables ring) (take i columns))))
      (sums_of (variables ring) others)
  pub vectors : AreVectorsOver ring (ring_comparison ring) others

pub split_start : (ring : Ring) (s : ℕ) (at : Constant) (columns others : List Terms) → others ≡ [] → AreSplitTo ring s at columns 0 others
split_start ring s at columns others e = subst (AreSplitTo ring s at columns 0) (sym e) (record { same = nothing_same ring.modulus.value; vectors = tt })

pub split_more :
    (ring : Ring) (s : ℕ) (at : Constant) (columns : List Terms) (i : ℕ) (old new : List Terms) → i < length columns
    → AreSplitTo ring s at columns i old → IsOtherPut ring s at columns i old new → AreSplitTo ring s at columns (i + 1) new
split_more ring s at columns i old new lt h (inl a) =
    subst (AreSplitTo ring s at columns (i + 1)) (sym a.1) (record {
      same = other_left ring (split_of ring s at columns) at.column columns i (get_or columns i []) old lt
          (get_or_default columns i [] (get_or columns i []) lt) a.0 h.same;
      vectors = h.vectors;
    })
split_more ring s at columns i old new lt h (inr a) = record {
  same = other_pushed ring (split_of ring s at columns) at.column columns i (get_or columns i []) old new a.1.0 lt
      (get_or_default columns i [] (get_or columns i []) lt) a.0 h.same a.1.3 a.1.1;
  vectors = vectors_pushed ring old new a.1.0 h.vectors a.1.2 a.1.1;
}

pub split_all :
    (ring : Ring) (s : ℕ) (at : Constant) (columns : List Terms) (i : ℕ) (others all : List Terms) → length columns ≤ i → all ≡ others
    → AreSplitTo ring s at columns i others → AreSplit ring s at columns all
split_all ring s at columns i others all le e h =
    subst (AreSplit ring s at columns) (sym e) (record {
      same = subst (λ z. AreSameColumns ring.modulus.value (map (split_of ring s at columns) (remove_at at.column (sums_of (variables ring) z)))
          (sums_of (variables ring) others)) (take_all i columns le) h.same;
      vectors = h.vectors;
    })

pub removed_is : {X : Type 0} (xs : List X) (i : ℕ) → i < length xs → remove xs i ≡ remove_at i xs
removed_is [] i lt = absurd (omega (arith, lt))
removed_is (x ∷ xs) zero lt = refl
removed_is (x ∷ xs) (suc i) lt = ap (λ r. x ∷ r) (removed_is xs i (omega (arith, lt)))

pub removed_past : {X : Type 0} (xs : List X) (i : ℕ) → length xs ≤ i → xs ≡ remove_at i xs
removed_past [] i le = refl
removed_past (x ∷ xs) zero le = absurd (omega (arith, le))
removed_past (x ∷ xs) (suc i) le = ap (λ r. x ∷ r) (removed_past xs i (omega (arith, le)))
