-- The steps on the constants of columns are those on the columns: the first constant of homogeneous columns is that of their constant
-- parts, and constant parts are cleared alike
use Rattle.std.proofs.Common.{List, [], ap, arith, get_or, length, map, refl, subst, sym, ℕ, ◌<◌, ◌∷◌, ◌≡◌}
use Rattle.residues.proofs.Congruences.{IsCongruent_multiply, IsCongruent_of, IsCongruent_refl, IsCongruent_trans}
use Rattle.monomials.specs.Exponents.{unit}
use Rattle.formal_sums.proofs.Linear.{linear_same}
use Rattle.formal_sums.proofs.Sameness.{IsSame_of, IsSame_refl, IsSame_sym, IsSame_trans}
use Rattle.formal_sums.specs.FormalSums.{FormalSum, IsSame}
use Rattle.minimal_laws.proofs.Grading.{homogeneous_split}
use Rattle.minimal_laws.proofs.Rows.{linear_without_row}
use Rattle.minimal_laws.proofs.SameMaps.{turned}
use Rattle.minimal_laws.proofs.Splitting.{get_or-images, length-images}
use Rattle.minimal_laws.specs.Cancellation.{AreSameColumns, remove_at}
use Rattle.minimal_laws.specs.Gradings.{AreHomogeneous}
use Rattle.minimal_laws.specs.Minimal.{IsConstantAt}
use Rattle.betti_laws.proofs.ConstantParts.{coefficient_unit, columns_split, constant_back, constant_there, constants_graded}
use Rattle.betti_laws.specs.ConstantParts.{constant_part}
use Rattle.term_lists.specs.Rings.{variables}
use Rattle.term_lists.specs.declared.ring.Ring.{Ring}
use Rattle.column_passes.specs.Passing.{AreFirstSteps, IsFirstStep, Pivot, applied, left_by, left_by_all}
use Rattle.column_passes.specs.Placing.{ArePlacesAfter}
use Rattle.column_passes.proofs.Applying.{columns_trans, constant_there as constant_of_same, image_columns, removed_columns}
use Rattle.column_passes.proofs.Reordering.{cleared_alike}
use Rattle.constant_passes.specs.Choosing.{IsChosen}
use Rattle.constant_passes.specs.declared.leaving.Chosen.{Chosen}

-- steps on the columns F with the rows and indices of these, after which the constants of the columns are what these leave of K
record IsLifted (ring : Ring) (F K : List (FormalSum (variables ring))) (steps : List (Pivot (variables ring))) : Type 0 where
  pivots : List (Pivot (variables ring))
  firsts : AreFirstSteps ring F pivots
  rows_are : map (λ (s : Pivot (variables ring)). s.row) pivots ≡ map (λ (s : Pivot (variables ring)). s.row) steps
  indices_are : map (λ (s : Pivot (variables ring)). s.index) pivots ≡ map (λ (s : Pivot (variables ring)). s.index) steps
  same : AreSameColumns ring.modulus.value (map constant_part (left_by_all ring pivots F)) (left_by_all ring steps K)

module _ (ring : Ring) (pos : 0 < ring.modulus.value) where
  -- ---- one step
  module _ (rows degrees : List ℕ) (F K : List (FormalSum (variables ring)))
      (graded : AreHomogeneous ring.weights ring.modulus.value rows degrees F) (parts : AreSameColumns ring.modulus.value (map constant_part F) K)
      (s : Pivot (variables ring)) (first : IsFirstStep ring K s) where
    abbrev up : Pivot (variables ring)
    up = record { row = s.row; index = s.index; inverse = s.inverse; column = get_or F s.index [] }

    part_at : (i : ℕ) → IsSame ring.modulus.value (constant_part (get_or F i [])) (get_or K i [])
    part_at i = IsSame_trans (IsSame_of ring.modulus.value _ _ (sym (get_or-images constant_part F i []))) (parts.each i)

    down : (i q : ℕ) → IsConstantAt ring.modulus.value (get_or F i []) q → IsConstantAt ring.modulus.value (get_or K i []) q
    down i q h = constant_of_same ring.modulus.value _ _ q (part_at i) (constant_there ring.modulus.value pos (get_or F i []) q h)

    inside : s.index < length F
    inside = let a = first.inside in let b = parts.count in let c = length-images constant_part F in omega (arith, a, b, c)

    constant : IsConstantAt ring.modulus.value (get_or F s.index []) s.row
    constant =
        constant_back ring.modulus.value pos ring.weights rows (get_or degrees s.index 0) (get_or F s.index []) (graded.each s.index inside) s.row
        (constant_of_same ring.modulus.value _ _ s.row (IsSame_sym (part_at s.index)) first.constant)

    first_up : IsFirstStep ring F (record { row = s.row; index = s.index; inverse = s.inverse; column = get_or F s.index [] })
    first_up = record {
      inside = inside;
      constant = constant;
      first_column = λ b q lt h. first.first_column b q lt (down b q h);
      first_row = λ q lt h. first.first_row q lt (down s.index q h);
      column = IsSame_refl ring.modulus.value (get_or F s.index []);
      inverse = IsCongruent_trans
          (IsCongruent_multiply (IsCongruent_refl ring.modulus.value s.inverse)
          (IsCongruent_trans (IsCongruent_of ring.modulus.value _ _ (sym (coefficient_unit (get_or F s.index []) s.row)))
          ((part_at s.index).by_key (s.row, unit (variables ring))))) first.inverse;
    }

    graded_up : AreHomogeneous ring.weights ring.modulus.value (remove_at s.row rows) (remove_at s.index degrees)
        (left_by ring (record { row = s.row; index = s.index; inverse = s.inverse; column = get_or F s.index [] }) F)
    graded_up = homogeneous_split ring.modulus.value rows s.index s.row s.inverse (record { columns = F; degrees = degrees }) inside graded constant

    parts_up : AreSameColumns ring.modulus.value
        (map constant_part (left_by ring (record { row = s.row; index = s.index; inverse = s.inverse; column = get_or F s.index [] }) F)) (left_by ring s K)
    parts_up =
        let p = ring.modulus.value in
        let t : Pivot (variables ring) = record { row = s.row; index = s.index; inverse = s.inverse; column = get_or (map constant_part F) s.index [] } in
        columns_trans p (map constant_part (left_by ring up F)) (left_by ring t (map constant_part F)) (left_by ring s K)
        (turned p (left_by ring t (map constant_part F)) (map constant_part (left_by ring up F)) (columns_split p pos s.row s.index s.inverse F))
        (image_columns p (applied ring t) (applied ring s) refl refl
        (λ v w e. linear_same pos (linear_without_row s.row)
        (cleared_alike p pos s.row s.inverse t.column s.column v w (IsSame_trans (parts.each s.index) first.column) e))
        (remove_at s.index (map constant_part F)) (remove_at s.index K) (removed_columns p s.index (map constant_part F) K parts))

  lift :
      (steps : List (Pivot (variables ring))) (rows degrees : List ℕ) (F K : List (FormalSum (variables ring)))
      → AreHomogeneous ring.weights ring.modulus.value rows degrees F → AreSameColumns ring.modulus.value (map constant_part F) K
      → AreFirstSteps ring K steps → IsLifted ring F K steps
  lift [] rows degrees F K h e f = record { pivots = []; firsts = tt; rows_are = refl; indices_are = refl; same = e }
  lift (s ∷ steps) rows degrees F K h e f =
      let t : Pivot (variables ring) = record { row = s.row; index = s.index; inverse = s.inverse; column = get_or F s.index [] } in
      let more = lift steps (remove_at s.row rows) (remove_at s.index degrees) (left_by ring t F) (left_by ring s K)
      (graded_up rows degrees F K h e s f.0) (parts_up rows degrees F K h e s f.0) f.1 in
      record {
        pivots = t ∷ more.pivots;
        firsts = (first_up rows degrees F K h e s f.0, more.firsts);
        rows_are = ap (λ z. s.row ∷ z) more.rows_are;
        indices_are = ap (λ z. s.index ∷ z) more.indices_are;
        same = more.same;
      }

  -- what the constants choose, by the columns themselves
  pub chosen_is :
      (rows degrees : List ℕ) (F : List (FormalSum (variables ring))) (chosen : Chosen)
      → AreHomogeneous ring.weights ring.modulus.value rows degrees F → IsChosen ring (map constant_part F) chosen → IsChosen ring F chosen
  chosen_is rows degrees F chosen graded h =
      let p = ring.modulus.value in
      let up = lift h.pivots rows degrees F (map constant_part F) graded (record { count = refl; each = λ i. IsSame_refl p _ }) h.firsts in
      record {
        pivots = up.pivots;
        firsts = up.firsts;
        none = λ c r k. h.none c r
            (constant_of_same p _ _ r (IsSame_trans (IsSame_of p _ _ (sym (get_or-images constant_part (left_by_all ring up.pivots F) c []))) (up.same.each c))
            (constant_there p pos (get_or (left_by_all ring up.pivots F) c []) r k));
        rows = subst (λ z. ArePlacesAfter z chosen.rows) (sym up.rows_are) h.rows;
        indices = subst (λ z. ArePlacesAfter z chosen.indices) (sym up.indices_are) h.indices;
      }

-- the constants of homogeneous columns are homogeneous
pub parts_graded :
    (ring : Ring) (rows degrees : List ℕ) (F : List (FormalSum (variables ring))) → AreHomogeneous ring.weights ring.modulus.value rows degrees F
    → AreHomogeneous ring.weights ring.modulus.value rows degrees (map constant_part F)
parts_graded ring rows degrees F h =
    (constants_graded ring.modulus.value ring.weights rows (record { columns = F; degrees = degrees } ∷ []) (h, tt)).0
