-- A split in the code is the split of the graded maps
use Rattle.std.specs.Prelude.{drop}
use Rattle.std.proofs.Common.{List, [], ap, ap₂, arith, get_or, inl, inr, length, map, refl, reverse, subst, subst₂, suc, sym, take, zero, ℕ, ◌++◌, ◌+◌}
use Rattle.std.proofs.Common.{◌<◌, ◌∙◌, ◌∷◌, ◌≡◌}
use Rattle.std.proofs.lemmas.List.{append_assoc, length-map, map-append, reverse-append}
use Rattle.residues.specs.Residues.{IsDomain}
use Rattle.formal_sums.proofs.Sameness.{IsSame_of}
use Rattle.formal_sums.specs.FormalSums.{Each, FormalSum}
use Rattle.minimal_laws.proofs.Splitting.{length-remove_at}
use Rattle.minimal_laws.specs.Cancellation.{AreSameColumns, IsFirstConstant, cleared, remove_at, without_row}
use Rattle.minimal_laws.specs.Gradings.{AreGraded, GradedMap, GradedMaps, IsHomogeneous, first_columns}
use Rattle.term_lists.specs.Rings.{ring_comparison, variables}
use Rattle.term_lists.specs.Vectors.{AreVectorsOver, sum_of, sums_of}
use Rattle.term_lists.specs.declared.key.Key.{Key as CodeKey}
use Rattle.term_lists.specs.declared.ring.Ring.{Ring}
use Rattle.module_vectors.specs.declared.trail.WorkStop.{WorkStop}
use Rattle.module_vectors.specs.declared.trail.WorkStop.TheVariants.{Degree, Memory}
use Rattle.vector_division.proofs.Members.{sums_at}
use Rattle.vector_division.specs.Progress.{AreWeighed}
use Rattle.column_passes.specs.Constants.{HasNoConstants, IsFirst}
use Rattle.column_passes.specs.Passing.{AreFirstSteps, AreGradedColumns, IsGraded, Pivot, left_by_all}
use Rattle.column_passes.specs.declared.constants.Constant.{Constant}
use Rattle.column_passes.proofs.Lists.{all_append, all_map, each_left, each_mapped, each_right}
use Rattle.minimal_betti.specs.Carried.{AreOrdered, LeadsTo, graded_map, graded_maps}
use Rattle.minimal_betti.specs.Minimising.{CancellationStops}
use Rattle.minimal_betti.specs.Splitting.{IsFormerLeft, IsNextLeft, IsMapSplit, IsCancellationUnderway, SplittingStops, in_turn, split_of}
use Rattle.minimal_betti.specs.declared.carried.Carried.{Carried}
use Rattle.minimal_betti.proofs.Stepping.{columns_in, first_in, steps_lead, steps_underway}
use Rattle.minimal_betti.proofs.Reaching.{reached_itself}

abbrev Terms : Type 0
Terms = List (CodeKey × ℕ)

pub length_end : {X : Type 0} (xs : List X) (x : X) → length (xs ++ x ∷ []) ≡ length xs + 1
length_end [] x = refl
length_end (y ∷ xs) x = let e = length_end xs x in omega (arith, e)

pub all_reverse : {X : Type 0} (P : X → Type 0) (xs : List X) → Each P (reverse xs) → Each P xs
all_reverse P [] h = tt
all_reverse P (x ∷ xs) h =
    let q : Each P (reverse xs ++ x ∷ []) = subst (Each P) (reverse-append (x ∷ []) xs) h in
    ((each_right P (reverse xs) (x ∷ []) q).0, all_reverse P xs (each_left P (reverse xs) (x ∷ []) q))

columns_itself : {n p : ℕ} (F H : List (FormalSum n)) → F ≡ H → AreSameColumns p F H
columns_itself {n} {p} F H e = record { count = ap length e; each = λ i. IsSame_of p _ _ (ap (λ l. get_or l i []) e) }

module _ (ring : Ring) (at : Constant) where
  abbrev n : ℕ
  n = variables ring

  abbrev p : ℕ
  p = ring.modulus.value

  abbrev G : Carried → GradedMap (variables ring)
  G m = graded_map (variables ring) m

  -- ---- the first constant
  module _ (cur : Carried) (tail : List Carried) (first : IsFirst ring cur.columns at) where
    here : (done : List Carried) → map G (done ++ cur ∷ tail) ≡ map G done ++ G cur ∷ map G tail
    here done = map-append G done (cur ∷ tail)

    first_constant :
        (done : List Carried) → Each (λ m. HasNoConstants ring.modulus.value (sums_of (variables ring) m.columns)) done
        → IsFirstConstant ring.modulus.value (map G (done ++ cur ∷ tail)) (length done) at.column at.row
    first_constant done none =
        subst₂ (λ ms k. IsFirstConstant ring.modulus.value ms k at.column at.row) (sym (here done)) (length-map done G)
        (first_in ring.modulus.value (map G done) (G cur) (map G tail) at.column at.row
        (each_mapped (λ (D : GradedMap (variables ring)). HasNoConstants ring.modulus.value D.columns) G done none)
        (let l = first.inside in omega (arith, l, length-map cur.columns (λ v. sum_of (variables ring) v))) first.constant first.first_column first.first_row)

    columns_here : (done : List Carried) → first_columns (drop (length done) (map G (done ++ cur ∷ tail))) ≡ sums_of (variables ring) cur.columns
    columns_here done =
        ap₂ (λ ms k. first_columns (drop k ms)) (here done) (sym (length-map done G)) ∙ columns_in ring.modulus.value (map G done) (G cur) (map G tail)

    -- where it stops, the cancellation came to these maps
    pub stops_here :
        IsDomain ring.modulus.value → (rows : List ℕ) (done : List Carried)
        → Each (λ m. HasNoConstants ring.modulus.value (sums_of (variables ring) m.columns)) done
        → (stop : WorkStop) → SplittingStops ring cur.columns at stop → CancellationStops ring (graded_maps ring rows (done ++ cur ∷ tail)) stop
    stops_here domain rows done none Memory h = tt
    stops_here domain rows done none (Degree t) h = record {
      maps = graded_maps ring rows (done ++ cur ∷ tail);
      reached = reached_itself ring.modulus.value domain (graded_maps ring rows (done ++ cur ∷ tail));
      place = length done;
      column = at.column;
      row = at.row;
      first = first_constant done none;
      same = columns_itself _ _ (columns_here done ∙ sym (ap (sums_of (variables ring)) h.1));
      clearing = h.0;
    }

  module _ (cur cur' : Carried) (first : IsFirst ring cur.columns at) (here : IsMapSplit ring at cur cur') where
    -- the split as a step
    abbrev the_step : Pivot (variables ring)
    the_step = record { row = at.row; index = at.column; inverse = here.inverse; column = sum_of (variables ring) (get_or cur.columns at.column []) }

    is_first : AreFirstSteps ring (sums_of (variables ring) cur.columns) (the_step ∷ [])
    is_first = (
      record {
        inside = (let l = first.inside in omega (arith, l, length-map cur.columns (λ v. sum_of (variables ring) v)));
        constant = first.constant;
        first_column = first.first_column;
        first_row = first.first_row;
        column = IsSame_of ring.modulus.value _ _ (sums_at (variables ring) cur.columns at.column);
        inverse = here.is_inverse;
      },
      tt,
    )

    leaves : AreSameColumns ring.modulus.value (left_by_all ring (the_step ∷ []) (sums_of (variables ring) cur.columns))
        (sums_of (variables ring) cur'.columns)
    leaves =
        let n = variables ring in
        subst (λ w. AreSameColumns ring.modulus.value
        (map (λ v. without_row at.row (cleared ring.modulus.value at.row here.inverse w v)) (remove_at at.column (sums_of n cur.columns)))
        (sums_of n cur'.columns))
        (sums_at n cur.columns at.column) here.columns.same

    module _ (pos : 0 < ring.modulus.value) (rows rows' : List ℕ) (done done' rest rest' : List Carried)
        (former : IsFormerLeft (at.row ∷ []) rows rows' done done')
        (next : IsNextLeft ring (at.column ∷ []) rest rest') (u : IsCancellationUnderway ring rows done (in_turn done cur rest)) where
      pub step_leads : LeadsTo ring.modulus.value (graded_maps ring rows (in_turn done cur rest)) (graded_maps ring rows' (in_turn done' cur' rest'))
      step_leads = steps_lead ring pos cur cur' the_step [] is_first leaves here.columns.vectors here.degrees rows rows' done done' rest rest' former next u

      pub step_underway : IsCancellationUnderway ring rows' done' (in_turn done' cur' rest')
      step_underway = steps_underway ring pos cur cur' the_step [] is_first leaves here.columns.vectors here.degrees rows rows' done done' rest rest' former
          next u

    pub step_falls : length cur'.columns + 1 ≡ length cur.columns
    step_falls =
        let F = sums_of (variables ring) cur.columns in
        let a = here.columns.same.count in
        let i = first.inside in
        let b = length-map cur.columns (λ v. sum_of (variables ring) v) in
        let c = length-map cur'.columns (λ v. sum_of (variables ring) v) in
        let d = length-remove_at at.column F (omega (arith, i, b)) in
        let e = length-map (remove_at at.column F) (split_of ring here.inverse at cur.columns) in
        omega (arith, a, b, c, d, e)

-- ---- the map at hand
module _ (ring : Ring) where
  each_graded :
      (rows : List ℕ) (F : List Terms) (ds : List ℕ)
      → ((i : ℕ) → i < length (sums_of (variables ring) F)
      → IsHomogeneous ring.weights ring.modulus.value rows (get_or ds i 0) (get_or (sums_of (variables ring) F) i []))
      → Each (IsGraded ring) F
  each_graded rows [] ds h = tt
  each_graded rows (v ∷ F) [] h = ((rows, 0, h 0 (omega arith)), each_graded rows F [] (λ i lt. h (suc i) (omega (arith, lt))))
  each_graded rows (v ∷ F) (d ∷ ds) h = ((rows, d, h 0 (omega arith)), each_graded rows F ds (λ i lt. h (suc i) (omega (arith, lt))))

  pub graded_here :
      (rows : List ℕ) (done : List Carried) (cur : Carried) (tail : List Carried)
      → AreGraded ring.weights ring.modulus.value rows (map (graded_map (variables ring)) (done ++ cur ∷ tail)) → Each (IsGraded ring) cur.columns
  graded_here rows [] cur tail h = each_graded rows cur.columns cur.degrees.items h.0.each
  graded_here rows (m ∷ done) cur tail h = graded_here m.degrees.items done cur tail h.1

  pub graded_columns :
      (rows : List ℕ) (done : List Carried) (cur : Carried) (tail : List Carried)
      → AreGraded ring.weights ring.modulus.value rows (map (graded_map (variables ring)) (done ++ cur ∷ tail))
      → AreGradedColumns ring cur.degrees.items (sums_of (variables ring) cur.columns)
  graded_columns rows [] cur tail h = (rows, h.0)
  graded_columns rows (m ∷ done) cur tail h = graded_columns m.degrees.items done cur tail h.1

  pub ordered_here : (done : List Carried) (cur : Carried) (tail : List Carried) → AreOrdered ring (done ++ cur ∷ tail)
      → AreVectorsOver ring (ring_comparison ring) cur.columns
  ordered_here done cur tail h = (each_right (λ m. AreVectorsOver ring (ring_comparison ring) m.columns) done (cur ∷ tail) h).0

  pub ordered_rest : (done : List Carried) (cur : Carried) (rest : List Carried) → AreOrdered ring (done ++ cur ∷ reverse rest) → AreOrdered ring rest
  ordered_rest done cur rest h =
      let P : Carried → Type 0 = λ m. AreVectorsOver ring (ring_comparison ring) m.columns in
      all_reverse P rest (each_right P done (cur ∷ reverse rest) h).1

  -- the map is done
  pub done_more :
      (rows : List ℕ) (done : List Carried) (cur : Carried) (tail : List Carried) → IsCancellationUnderway ring rows done (done ++ cur ∷ tail)
      → HasNoConstants ring.modulus.value (sums_of (variables ring) cur.columns) → IsCancellationUnderway ring rows (done ++ cur ∷ []) ((done ++ cur ∷ []) ++ tail)
  done_more rows done cur tail u none = record {
    ordered = subst (AreOrdered ring) (sym (append_assoc done (cur ∷ []) tail)) u.ordered;
    graded = subst (λ ms. AreGraded ring.weights ring.modulus.value rows (map (graded_map (variables ring)) ms))
        (sym (append_assoc done (cur ∷ []) tail)) u.graded;
    none = all_append _ done (cur ∷ []) u.none (none, tt);
  }

  -- the next map is at hand
  pub leads_popped :
      (start : GradedMaps (variables ring)) (rows : List ℕ) (done rest rest' : List Carried) (cur : Carried) → rest ≡ rest' ++ cur ∷ []
      → LeadsTo ring.modulus.value start (graded_maps ring rows (done ++ reverse rest))
      → LeadsTo ring.modulus.value start (graded_maps ring rows (in_turn done cur rest'))
  leads_popped start rows done rest rest' cur e =
      subst (λ z. LeadsTo ring.modulus.value start (graded_maps ring rows (done ++ z))) (ap reverse e ∙ reverse-append rest' (cur ∷ []))

  -- and put behind those that are done
  pub leads_pushed :
      (start : GradedMaps (variables ring)) (rows : List ℕ) (done done' rest : List Carried) (cur : Carried) → done' ≡ done ++ cur ∷ []
      → LeadsTo ring.modulus.value start (graded_maps ring rows (in_turn done cur rest))
      → LeadsTo ring.modulus.value start (graded_maps ring rows (done' ++ reverse rest))
  leads_pushed start rows done done' rest cur e =
      subst (λ z. LeadsTo ring.modulus.value start (graded_maps ring rows z))
      (sym (ap (λ d. d ++ reverse rest) e ∙ append_assoc done (cur ∷ []) (reverse rest)))

  -- a prefix of the maps
  pub graded_take :
      (rows : List ℕ) (k : ℕ) (ms : List Carried) → AreGraded ring.weights ring.modulus.value rows (map (graded_map (variables ring)) ms)
      → AreGraded ring.weights ring.modulus.value rows (map (graded_map (variables ring)) (take k ms))
  graded_take rows zero ms h = tt
  graded_take rows (suc k) [] h = tt
  graded_take rows (suc k) (m ∷ ms) h = (h.0, graded_take m.degrees.items k ms h.1)

  pub ordered_take : (k : ℕ) (ms : List Carried) → AreOrdered ring ms → AreOrdered ring (take k ms)
  ordered_take zero ms h = tt
  ordered_take (suc k) [] h = tt
  ordered_take (suc k) (m ∷ ms) h = (h.0, ordered_take k ms h.1)

  pub weighed_all : (ms : List Carried) → AreOrdered ring ms → Each (AreWeighed (variables ring) ring.weights) (map (λ (m : Carried). m.columns) ms)
  weighed_all [] h = tt
  weighed_all (m ∷ ms) h = (
    all_map _ _ m.columns (λ v w. all_map _ _ v (λ t i. i.weighed) w.each) h.0,
    weighed_all ms h.1,
  )

  pub next_count : (rows : List ℕ) (rest rest' : List Carried) → IsNextLeft ring rows rest rest' → length rest' ≡ length rest
  next_count rows rest rest' (inl h) = ap length h.1 ∙ sym (ap length h.0)
  next_count rows rest rest' (inr (before, next, next', e, e', w, d)) = ap length e' ∙ length_end before next' ∙ sym (length_end before next)
      ∙ sym (ap length e)
