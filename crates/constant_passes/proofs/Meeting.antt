-- The columns of constants that are met by degree, and what leaves after all of them
use Rattle.std.specs.Prelude.{IfOk, None, OnOk, Option, Some, set}
use Rattle.std.proofs.Common.{Err, List, Ok, Result, [], ap, arith, get_or, inl, inr, length, map, refl, subst, sym, take, ℕ}
use Rattle.std.proofs.Common.{◌++◌, ◌+◌, ◌<◌, ◌∙◌, ◌∷◌, ◌≡◌, ◌≤◌, ◌⊎◌}
use Rattle.std.proofs.lemmas.Bool.{cases_lt}
use Rattle.std.proofs.lemmas.List.{get_or-set_other, get_or-set_same, get_or_past, length-map, length-set, map-append, take_all, take_more}
use Rattle.residues.proofs.Congruences.{IsCongruent_refl}
use Rattle.formal_sums.proofs.Sameness.{IsSame_of, IsSame_refl, IsSame_trans}
use Rattle.formal_sums.specs.FormalSums.{Each, FormalSum, IsSame}
use Rattle.minimal_laws.specs.Cancellation.{cleared}
use Rattle.minimal_laws.specs.Gradings.{AreHomogeneous, IsHomogeneous}
use Rattle.term_lists.specs.Rings.{variables}
use Rattle.term_lists.specs.declared.ring.Ring.{Ring}
use Rattle.constant_rows.specs.Rows.{entry_constants}
use Rattle.constant_rows.specs.declared.constants.Constants.{Constants}
use Rattle.column_passes.specs.Passing.{AreNumbered, HaveNoOthers, LeaveNumbered, Pivot, indices_of}
use Rattle.column_passes.specs.Placing.{ArePlacesAfter}
use Rattle.column_passes.specs.Sorting.{numbers_from}
use Rattle.column_passes.proofs.Apart.{chosen_apart, free_row}
use Rattle.column_passes.proofs.Applying.{constant_there}
use Rattle.column_passes.proofs.ByDegree.{by_degree}
use Rattle.column_passes.proofs.Canonical.{column_of}
use Rattle.column_passes.proofs.Choosing.{choice_of, steps_of}
use Rattle.column_passes.proofs.Lists.{all_map, each_mapped, each_unmapped}
use Rattle.column_passes.proofs.Reordering.{AreChosen, IsChosen as IsChoice, after_end, chosen_agree, chosen_end, chosen_same, cleared_alike}
use Rattle.column_passes.proofs.Reordering.{grown, pivots_after, sorted_chosen, through, through_end}
use Rattle.column_passes.proofs.RowsTold.{rows_told}
use Rattle.constant_passes.specs.Choosing.{AreFree, IsChosen, IsColumnChosen, IsPassOver, IsPassStart}
use Rattle.constant_passes.specs.Steps.{AreLeftOver, IsConstantStep, cleared_by_constants}
use Rattle.constant_passes.specs.declared.choosing.Pass.{Pass}
use Rattle.constant_passes.specs.declared.leaving.Chosen.{Chosen}
use Rattle.constant_passes.specs.declared.clearing.Step.{Step}
use Rattle.constant_passes.proofs.Entries.{least_chosen, nothing_left}

cleared_end :
    (ring : Ring) (steps : List Step) (s : Step) (v : FormalSum (variables ring))
    → cleared_by_constants ring (steps ++ s ∷ []) v
    ≡ cleared ring.modulus.value s.row s.inverse (entry_constants (variables ring) s.column.entries.items) (cleared_by_constants ring steps v)
cleared_end ring [] s v = refl
cleared_end ring (t ∷ steps) s v =
    cleared_end ring steps s (cleared ring.modulus.value t.row t.inverse (entry_constants (variables ring) t.column.entries.items) v)

-- ---- after the first k columns of the order
pub record AreMet (ring : Ring) (K : List (FormalSum (variables ring))) (order : List ℕ) (k : ℕ) (steps : List Step)
    (choices : List (Option (ℕ × ℕ))) : Type 0 where
  pub chosen : AreChosen ring.modulus.value (column_of K) (choice_of choices) [] (take k order)
  pub alike :
      (v : FormalSum (variables ring))
      → IsSame ring.modulus.value (cleared_by_constants ring steps v)
      (through ring.modulus.value (pivots_after ring.modulus.value (column_of K) (choice_of choices) [] (take k order)) v)
  pub rows_are :
      map (λ (s : Step). s.row) steps
      ≡ map (λ (s : Pivot (variables ring)). s.row) (pivots_after ring.modulus.value (column_of K) (choice_of choices) [] (take k order))
  pub count : length choices ≡ length K

pub met_start :
    (ring : Ring) (K : List (FormalSum (variables ring))) (order : List ℕ) (steps : List Step) (choices : List (Option (ℕ × ℕ))) → steps ≡ []
    → length choices ≡ length K → AreMet ring K order 0 steps choices
met_start ring K order steps choices es count =
    subst (λ z. AreMet ring K order 0 z choices) (sym es)
    (record { chosen = tt; alike = λ v. IsSame_refl ring.modulus.value v; rows_are = refl; count = count })

module _ (ring : Ring) (pos : 0 < ring.modulus.value) (K : List (FormalSum (variables ring))) where
  module _ (order : List ℕ) (k : ℕ) (steps : List Step) (choices : List (Option (ℕ × ℕ))) (h : AreMet ring K order k steps choices) (c : ℕ) where
    abbrev T : List (Pivot (variables ring))
    T = pivots_after ring.modulus.value (column_of K) (choice_of choices) [] (take k order)

    -- a constant that is left stands in a row of no step
    pub free_here : AreFree ring steps (column_of K c)
    free_here q k' =
        let p = ring.modulus.value in
        let t = free_row p pos T (column_of K c) q (chosen_apart p pos (column_of K) (choice_of choices) [] (take k order) tt h.chosen)
        (constant_there p _ _ q (h.alike (column_of K c)) k') in
        each_unmapped (λ r. r ≡ q → ⊥) (λ (s : Step). s.row) steps
        (subst (Each (λ r. r ≡ q → ⊥)) (sym h.rows_are) (each_mapped (λ r. r ≡ q → ⊥) (λ (s : Pivot (variables ring)). s.row) T t))

    -- one column more, of which u is left
    module _ (lt : k < length order) (is : c ≡ get_or order k c) (inside : c < length K) (others : Each (λ b. b ≡ c → ⊥) (take k order))
        (u : FormalSum (variables ring)) (same : IsSame ring.modulus.value u (cleared_by_constants ring steps (column_of K c))) where
      u_is : IsSame ring.modulus.value u (through ring.modulus.value T (column_of K c))
      u_is = IsSame_trans same (h.alike (column_of K c))

      to_more : take (k + 1) order ≡ take k order ++ c ∷ []
      to_more = take_more order k c lt ∙ ap (λ z. take k order ++ z ∷ []) (sym is)

      module _ (x : Option (ℕ × ℕ)) where
        here_at : choice_of (set choices c x) c ≡ x
        here_at = get_or-set_same choices c x None (let e = h.count in omega (arith, e, inside))

        agree : Each (λ b. choice_of choices b ≡ choice_of (set choices c x) b) (take k order)
        agree = all_map _ _ (take k order) (λ b ne. sym (get_or-set_other choices c b x None ne)) others

        before :
            AreChosen ring.modulus.value (column_of K) (choice_of (set choices c x)) [] (take k order)
            × (T ≡ pivots_after ring.modulus.value (column_of K) (choice_of (set choices c x)) [] (take k order))
        before = chosen_agree ring.modulus.value (column_of K) (choice_of choices) (choice_of (set choices c x)) [] (take k order) agree h.chosen

        chosen_more :
            IsChoice ring.modulus.value x u
            → AreChosen ring.modulus.value (column_of K) (choice_of (set choices c x)) [] (take (k + 1) order)
        chosen_more one =
            let p = ring.modulus.value in
            subst (AreChosen p (column_of K) (choice_of (set choices c x)) []) (sym to_more)
            (chosen_end p (column_of K) (choice_of (set choices c x)) [] (take k order) c before.0
            (subst (λ z. IsChoice p (choice_of (set choices c x) c) (through p z (column_of K c))) before.1
            (subst (λ z. IsChoice p z (through p T (column_of K c))) (sym here_at) (chosen_same p pos x _ _ u_is one))))

        pivots_more :
            pivots_after ring.modulus.value (column_of K) (choice_of (set choices c x)) [] (take (k + 1) order)
            ≡ grown ring.modulus.value x c (column_of K c) T
        pivots_more =
            let p = ring.modulus.value in
            ap (pivots_after p (column_of K) (choice_of (set choices c x)) []) to_more
            ∙ after_end p (column_of K) (choice_of (set choices c x)) [] (take k order) c
            ∙ ap (λ z. grown p (choice_of (set choices c x) c) c (column_of K c) z) (sym before.1)
            ∙ ap (λ z. grown p z c (column_of K c) T) here_at

      none_more : IsChoice ring.modulus.value None u → AreMet ring K order (k + 1) steps (set choices c None)
      none_more none =
          let p = ring.modulus.value in
          record {
            chosen = chosen_more None none;
            alike = λ v. subst (λ z. IsSame p (cleared_by_constants ring steps v) (through p z v)) (sym (pivots_more None)) (h.alike v);
            rows_are = h.rows_are ∙ ap (map (λ (s : Pivot (variables ring)). s.row)) (sym (pivots_more None));
            count = length-set choices c None ∙ h.count;
          }

      module _ (row inverse : ℕ) (column : Constants) (of_u : entry_constants (variables ring) column.entries.items ≡ u) where
        abbrev S : Step
        S = record { row = row; inverse = inverse; column = column }

        abbrev X : Option (ℕ × ℕ)
        X = Some (row, inverse)

        alike_more :
            (v : FormalSum (variables ring))
            → IsSame ring.modulus.value (cleared_by_constants ring (steps ++ S ∷ []) v)
            (through ring.modulus.value (grown ring.modulus.value X c (column_of K c) T) v)
        alike_more v =
            let p = ring.modulus.value in
            IsSame_trans (IsSame_of p _ _ (cleared_end ring steps S v ∙ ap (λ z. cleared p row inverse z (cleared_by_constants ring steps v)) of_u))
            (IsSame_trans
            (cleared_alike p pos row inverse u (through p T (column_of K c)) (cleared_by_constants ring steps v) (through p T v) u_is (h.alike v))
            (IsSame_of p _ _ (sym (through_end p pos T _ v))))

        step_more : IsChoice ring.modulus.value X u → AreMet ring K order (k + 1) (steps ++ S ∷ []) (set choices c X)
        step_more one =
            let p = ring.modulus.value in
            record {
              chosen = chosen_more X one;
              alike = λ v. subst (λ z. IsSame p (cleared_by_constants ring (steps ++ S ∷ []) v) (through p z v)) (sym (pivots_more X)) (alike_more v);
              rows_are = map-append (λ (s : Step). s.row) steps (S ∷ []) ∙ ap (λ z. z ++ row ∷ []) h.rows_are
                  ∙ sym (map-append (λ (s : Pivot (variables ring)). s.row) T (_ ∷ []))
                  ∙ ap (map (λ (s : Pivot (variables ring)). s.row)) (sym (pivots_more X));
              count = length-set choices c X ∙ h.count;
            }

    pub meet_more :
        k < length order → c ≡ get_or order k c → c < length K → Each (λ b. b ≡ c → ⊥) (take k order) → (column : Constants) → AreLeftOver ring column
        → IsSame ring.modulus.value (entry_constants (variables ring) column.entries.items) (cleared_by_constants ring steps (column_of K c))
        → (steps' : List Step) (choices' : List (Option (ℕ × ℕ))) → IsColumnChosen ring c column steps steps' choices choices'
        → AreMet ring K order (k + 1) steps' choices'
    meet_more lt is inside others column over same steps' choices' (inl (none, es, ec)) =
        subst (λ z. AreMet ring K order (k + 1) z choices') (sym es) (subst (AreMet ring K order (k + 1) steps) (sym ec)
        (none_more lt is inside others (entry_constants (variables ring) column.entries.items) same
        (nothing_left (variables ring) ring.modulus.value column.entries.items none)))
    meet_more lt is inside others column over same steps' choices' (inr (row, inverse, residue, least, invert, below, es, ec)) =
        subst (λ z. AreMet ring K order (k + 1) z choices') (sym es)
        (subst (AreMet ring K order (k + 1) (steps ++ record { row = row; inverse = inverse; column = column } ∷ [])) (sym ec)
        (step_more lt is inside others (entry_constants (variables ring) column.entries.items) same row inverse column refl
        (least_chosen (variables ring) ring.modulus.value column.entries.items over.reduced over.coefficients row inverse residue least invert)))

-- ---- the end
module _ (ring : Ring) (pos : 0 < ring.modulus.value) (K : List (FormalSum (variables ring))) (rows degrees : List ℕ)
    (graded : AreHomogeneous ring.weights ring.modulus.value rows degrees K) where
  graded_at : (c : ℕ) → IsHomogeneous ring.weights ring.modulus.value rows (get_or degrees c 0) (column_of K c)
  graded_at c = go (cases_lt c (length K))
    where
      go : (c < length K) ⊎ (length K ≤ c) → IsHomogeneous ring.weights ring.modulus.value rows (get_or degrees c 0) (column_of K c)
      go (inl lt) = graded.each c lt
      go (inr le) = subst (IsHomogeneous ring.weights ring.modulus.value rows (get_or degrees c 0)) (sym (get_or_past K c [] le)) (record {
        rank = record { past = λ k l. IsCongruent_refl ring.modulus.value 0 };
        degrees = λ k nz. absurd (nz (IsCongruent_refl ring.modulus.value 0));
      })

  module _ (k : ℕ) (steps : List Step) (choices : List (Option (ℕ × ℕ)))
      (h : AreMet ring K (by_degree degrees (numbers_from 0 (length K))) k steps choices)
      (le : length (by_degree degrees (numbers_from 0 (length K))) ≤ k) where
    abbrev order : List ℕ
    order = by_degree degrees (numbers_from 0 (length K))

    all : take k order ≡ order
    all = take_all k order le

    sorted : AreChosen ring.modulus.value (column_of K) (choice_of choices) [] (numbers_from 0 (length K))
    sorted =
        let p = ring.modulus.value in
        (sorted_chosen p pos ring.weights rows degrees (column_of K) graded_at (choice_of choices) (numbers_from 0 (length K)) [] tt
        (subst (AreChosen p (column_of K) (choice_of choices) []) all h.chosen)).0

    -- the rows of the steps are those of the pivots by degree
    rows_by_degree :
        map (λ (s : Step). s.row) steps
        ≡ map (λ (s : Pivot (variables ring)). s.row) (pivots_after ring.modulus.value (column_of K) (choice_of choices) [] order)
    rows_by_degree =
        h.rows_are ∙ ap (λ z. map (λ (s : Pivot (variables ring)). s.row) (pivots_after ring.modulus.value (column_of K) (choice_of choices) [] z)) all

    pub all_met :
        (chosen : Chosen) (numbers : List ℕ) → AreNumbered numbers 0 (map (λ (s : Step). s.row) steps)
        → HaveNoOthers numbers (map (λ (s : Step). s.row) steps) → length steps ≤ 18446744073709551615
        → LeaveNumbered numbers chosen.rows → ArePlacesAfter (indices_of 0 choices) chosen.indices → IsChosen ring K chosen
    all_met chosen numbers numbered others few leave indices =
        let all_steps = steps_of ring pos K choices h.count sorted in record {
          pivots = all_steps.pivots;
          firsts = all_steps.firsts;
          none = all_steps.none;
          rows = rows_told ring.modulus.value (column_of K) (choice_of choices) degrees (length K) (map (λ (s : Step). s.row) steps) rows_by_degree numbers
              numbered others (subst (λ z. z ≤ 18446744073709551615) (sym (length-map steps (λ (s : Step). s.row))) few) _ all_steps.turned chosen.rows leave;
          indices = subst (λ z. ArePlacesAfter z chosen.indices) (sym all_steps.indices_are) indices;
        }

-- ---- the pass before the first column, and after one more
pub start_over : (ring : Ring) (count : ℕ) (pass : Pass) → IsPassStart count pass → IsPassOver ring pass
start_over ring count pass h = record {
  steps = subst (Each (IsConstantStep ring)) (sym h.steps) tt;
  numbered = subst (λ z. AreNumbered pass.table.numbers.items 0 (map (λ (s : Step). s.row) z)) (sym h.steps) tt;
  others = λ q none. ap (λ z. get_or z q 18446744073709551615) h.numbers ∙ get_or_past [] q 18446744073709551615 (omega arith);
  zeros = h.zeros;
}

pub on_three : {X E : Type 0} (r : Result X E) (A B C Q : Type 0) → (A → B → C → Q) → OnOk r A → OnOk r B → OnOk r C → OnOk r Q
on_three (Ok x) A B C Q f a b c = f a b c
on_three (Err e) A B C Q f a b c = tt

pub if_two : {X E : Type 0} (r : Result X E) (A B Q : X → Type 0) → ((x : X) → A x → B x → Q x) → IfOk r A → IfOk r B → IfOk r Q
if_two (Ok x) A B Q f a b = f x a b
if_two (Err e) A B Q f a b = tt
