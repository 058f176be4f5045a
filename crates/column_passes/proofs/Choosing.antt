-- The steps by which the constants of columns leave, by the choice that each column has when they are met in their order
use Rattle.std.specs.Prelude.{None, Option, Some}
use Rattle.std.proofs.Common.{List, [], ap, append-nil, arith, get_or, length, map, refl, subst, sym, ℕ, ◌++◌, ◌+◌, ◌<◌, ◌∙◌, ◌∷◌, ◌≡◌}
use Rattle.std.proofs.lemmas.List.{length-map}
use Rattle.formal_sums.proofs.Sameness.{IsSame_refl}
use Rattle.formal_sums.specs.FormalSums.{Each, FormalSum}
use Rattle.minimal_laws.proofs.Splitting.{get_or-images}
use Rattle.minimal_laws.specs.Cancellation.{AreSameColumns}
use Rattle.term_lists.specs.Rings.{variables}
use Rattle.term_lists.specs.declared.ring.Ring.{Ring}
use Rattle.column_passes.specs.Constants.{HasNoConstants}
use Rattle.column_passes.specs.Passing.{AreFirstSteps, Pivot, indices_in_turn, indices_of, left_by_all, rows_in_turn}
use Rattle.column_passes.specs.Sorting.{numbers_from}
use Rattle.column_passes.specs.declared.one_pass.Met.{Met}
use Rattle.column_passes.proofs.Applying.{constant_there, no_constant_at}
use Rattle.column_passes.proofs.Canonical.{AreLeft, canonical, choice_at, column_of, kept_of, left, none_left}
use Rattle.column_passes.proofs.Lists.{drop_none, map_same}
use Rattle.column_passes.proofs.Reordering.{AreChosen, chosen_agree, pivots_after}
use Rattle.column_passes.proofs.Turning.{AreTurned}

-- the choice of a column
abbrev pub choice_of : List (Option (ℕ × ℕ)) → ℕ → Option (ℕ × ℕ)
choice_of choices c = get_or choices c None

-- pivots in turn with the rows of these, whose rows keep their numbers
pub record AreStepsOf (ring : Ring) (F : List (FormalSum (variables ring))) (T : List (Pivot (variables ring)))
    (choices : List (Option (ℕ × ℕ))) : Type 0 where
  pub pivots : List (Pivot (variables ring))
  pub firsts : AreFirstSteps ring F pivots
  pub none : HasNoConstants ring.modulus.value (left_by_all ring pivots F)
  pub turned : AreTurned [] T (map (λ (s : Pivot (variables ring)). s.row) pivots)
  pub indices_are : map (λ (s : Pivot (variables ring)). s.index) pivots ≡ indices_of 0 choices

-- columns with these choices
abbrev with_choices : List (Option (ℕ × ℕ)) → List Met
with_choices choices = map (λ choice. record { column = []; since = 0; choice = choice }) choices

choice_is : (choices : List (Option (ℕ × ℕ))) (c : ℕ) → choice_of choices c ≡ choice_at (with_choices choices) c
choice_is choices c =
    sym (ap (λ (m : Met). m.choice) (get_or-images (λ (x : Option (ℕ × ℕ)). record { column = []; since = 0; choice = x }) choices c None))

indices_are : (kept : ℕ) (choices : List (Option (ℕ × ℕ))) → indices_in_turn kept (with_choices choices) ≡ indices_of kept choices
indices_are kept [] = refl
indices_are kept (None ∷ choices) = indices_are (kept + 1) choices
indices_are kept (Some a ∷ choices) = ap (λ z. kept ∷ z) (indices_are kept choices)

each_of : {X : Type 0} (P : X → Type 0) (xs : List X) → ((x : X) → P x) → Each P xs
each_of P [] f = tt
each_of P (x ∷ xs) f = (f x, each_of P xs f)

module _ (ring : Ring) (pos : 0 < ring.modulus.value) (F : List (FormalSum (variables ring))) (choices : List (Option (ℕ × ℕ)))
    (many : length choices ≡ length F) where
  abbrev T : List (Pivot (variables ring))
  T = pivots_after ring.modulus.value (column_of F) (choice_of choices) [] (numbers_from 0 (length F))

  pub steps_of :
      AreChosen ring.modulus.value (column_of F) (choice_of choices) [] (numbers_from 0 (length F))
      → AreStepsOf ring F (pivots_after ring.modulus.value (column_of F) (choice_of choices) [] (numbers_from 0 (length F))) choices
  steps_of h =
      let p = ring.modulus.value in
      let met = with_choices choices in
      let count : length met ≡ length F = length-map choices _ ∙ many in
      let told = chosen_agree p (column_of F) (choice_of choices) (choice_at met) [] (numbers_from 0 (length F))
      (each_of _ (numbers_from 0 (length F)) (λ c. choice_is choices c)) h in
      let T' = pivots_after p (column_of F) (choice_at met) [] (numbers_from 0 (length met)) in
      let same_pivots : T' ≡ T = ap (λ i. pivots_after p (column_of F) (choice_at met) [] (numbers_from 0 i)) count ∙ sym told.1 in
      let start : AreLeft ring F 0 [] [] [] [] = record {
        firsts = tt;
        same = subst (AreSameColumns p F) (sym (map_same F)) (record { count = refl; each = λ i. IsSame_refl p _ });
        none = tt;
        turned = tt;
        apart = tt;
        rows_are = refl;
      } in
      let ends = canonical ring pos F met met 0 [] [] [] [] refl (omega (arith, count)) start
      (subst (λ i. AreChosen p (column_of F) (choice_at met) [] (numbers_from 0 i)) (sym count) told.0) in
      let rows = rows_in_turn [] met in
      let K = kept_of (column_of F) 0 met in
      let at = ends.kept_all in
      let same : AreSameColumns p (left_by_all ring ends.pivots F) (map (left ring T' rows) K) =
      subst (λ z. AreSameColumns p (left_by_all ring ends.pivots F) (map (left ring T' rows) z))
      (ap (λ z. K ++ z) (drop_none F (length F) (omega arith)) ∙ append-nil K) at.same
      in
      record {
        pivots = ends.pivots;
        firsts = at.firsts;
        none = λ c r q. no_constant_at p _ r (none_left ring pos F T' rows K at.none c) (constant_there p _ _ r (same.each c) q);
        turned = subst (λ z. AreTurned [] T z) (sym at.rows_are) (subst (λ z. AreTurned [] z rows) same_pivots at.turned);
        indices_are = ends.indices_are ∙ indices_are 0 choices;
      }
