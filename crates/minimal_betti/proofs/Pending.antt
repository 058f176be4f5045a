-- Maps of which one has its columns still, until the rows of the next one are known
--
-- The maps before it have lost the columns that its constants take away, and the next one the rows; so columns that the next map's
-- constants take away are never computed
use Rattle.std.proofs.Common.{List, [], ap, ap₂, map, reverse, subst, subst₂, sym, ℕ, ◌++◌, ◌<◌, ◌∙◌, ◌∷◌, ◌≡◌}
use Rattle.std.proofs.lemmas.List.{map-append, reverse-append}
use Rattle.formal_sums.proofs.Sameness.{IsSame_sym}
use Rattle.formal_sums.specs.FormalSums.{Each, FormalSum}
use Rattle.minimal_laws.proofs.Searching.{same_maps_itself}
use Rattle.minimal_laws.proofs.SameMaps.{same_graded}
use Rattle.minimal_laws.specs.Cancellation.{AreSameColumns, AreSameMaps}
use Rattle.minimal_laws.specs.Gradings.{AreGraded, GradedMap, GradedMaps}
use Rattle.term_lists.specs.Rings.{ring_comparison, variables}
use Rattle.term_lists.specs.Vectors.{AreVectorsOver, sums_of}
use Rattle.term_lists.specs.declared.ring.Ring.{Ring}
use Rattle.column_passes.specs.Constants.{HasNoConstants}
use Rattle.column_passes.specs.Passing.{AreGradedColumns, Pivot}
use Rattle.column_passes.specs.Placing.{all_removed}
use Rattle.column_passes.proofs.Lists.{all_append, each_left, each_right}
use Rattle.column_passes.proofs.Applying.{constant_there}
use Rattle.constant_passes.specs.Choosing.{IsChosen}
use Rattle.constant_passes.specs.declared.leaving.Chosen.{Chosen}
use Rattle.minimal_betti.specs.Carried.{AreOrdered, graded_map, graded_maps}
use Rattle.minimal_betti.specs.Complementing.{ComesTo, IsComplemented, IsMapLowered}
use Rattle.minimal_betti.specs.Splitting.{IsCancellationUnderway}
use Rattle.minimal_betti.specs.declared.carried.Carried.{Carried}
use Rattle.minimal_betti.proofs.Reaching.{leads_itself}
use Rattle.minimal_betti.proofs.Splittings.{all_reverse}
use Rattle.minimal_betti.proofs.Stepped.{AreStepped, left_map, lowered_map, stepped_end, stepped_graded, stepped_lowered, stepped_next, stepped_start}
use Rattle.minimal_betti.proofs.Stepping.{lose_all_end, lose_all_none}

-- C comes to maps that are those that are done, the map at hand after its steps, and those to come
pub record IsPending (ring : Ring) (C : GradedMaps (variables ring)) (rows : List ℕ) (done : List Carried) (m : Carried) (chosen : Chosen)
    (rest : List Carried) : Type 0 where
  pub choice : IsChosen ring (sums_of (variables ring) m.columns) chosen
  pub maps : List (GradedMap (variables ring))
  pub stepped :
      AreStepped ring C rows (maps ++ left_map ring (graded_map (variables ring) m) choice.pivots ∷ [])
      (map (λ (s : Pivot (variables ring)). s.index) choice.pivots) (map (graded_map (variables ring)) (reverse rest))
  pub same : AreSameMaps ring.modulus.value maps (map (graded_map (variables ring)) done)
  pub ordered : AreOrdered ring done
  pub vectors : AreVectorsOver ring (ring_comparison ring) m.columns
  pub ordered_rest : AreOrdered ring rest

same_end :
    {n : ℕ} (p : ℕ) (xs ys : List (GradedMap n)) (A B : GradedMap n) → AreSameMaps p xs ys → A.degrees ≡ B.degrees → AreSameColumns p A.columns B.columns
    → AreSameMaps p (xs ++ A ∷ []) (ys ++ B ∷ [])
same_end p [] [] A B h d c = (d, c, tt)
same_end p [] (y ∷ ys) A B h d c = elim h [ ]
same_end p (x ∷ xs) [] A B h d c = elim h [ ]
same_end p (x ∷ xs) (y ∷ ys) A B h d c = (h.0, h.1, same_end p xs ys A B h.2 d c)

-- none in the same maps
none_there : (ring : Ring) (maps : List (GradedMap (variables ring))) (done : List Carried)
    → AreSameMaps ring.modulus.value maps (map (graded_map (variables ring)) done)
    → Each (λ (D : GradedMap (variables ring)). HasNoConstants ring.modulus.value D.columns) maps
    → Each (λ (m : Carried). HasNoConstants ring.modulus.value (sums_of (variables ring) m.columns)) done
none_there ring [] [] h none = tt
none_there ring [] (m ∷ done) h none = elim h [ ]
none_there ring (M ∷ maps) [] h none = elim h [ ]
none_there ring (M ∷ maps) (m ∷ done) h none = (
  λ c r k. none.0 c r (constant_there ring.modulus.value _ _ r (IsSame_sym (h.1.each c)) k),
  none_there ring maps done h.2 none.1,
)

-- no maps come to themselves
pub pending_none :
    (ring : Ring) (rows : List ℕ) (maps left : List Carried) → maps ≡ [] → left ≡ [] → IsCancellationUnderway ring rows [] (reverse maps)
    → ComesTo ring (graded_maps ring rows (reverse maps)) rows left
pending_none ring rows maps left e el u =
    let n = variables ring in
    let none : reverse maps ≡ left = ap reverse e ∙ sym el in
    record {
      maps = map (graded_map n) (reverse maps);
      leads = leads_itself ring.modulus.value (graded_maps ring rows (reverse maps));
      same = subst (λ (z : List Carried). AreSameMaps ring.modulus.value (map (graded_map n) (reverse maps)) (map (graded_map n) z)) none
          (same_maps_itself ring.modulus.value (map (graded_map n) (reverse maps)));
      underway = subst₂ (λ (x : List Carried) (y : List Carried). IsCancellationUnderway ring rows x y) (sym el) none u;
    }

module _ (ring : Ring) (pos : 0 < ring.modulus.value) (C : GradedMaps (variables ring)) where
  abbrev G : Carried → GradedMap (variables ring)
  G m = graded_map (variables ring) m

  -- ---- the start
  pub pending_first :
      (rows rows' : List ℕ) (maps rest : List Carried) (first : Carried) (chosen : Chosen)
      (choice : IsChosen ring (sums_of (variables ring) first.columns) chosen)
      → maps ≡ rest ++ first ∷ [] → C ≡ graded_maps ring rows (reverse maps) → IsCancellationUnderway ring rows [] (reverse maps)
      → rows' ≡ all_removed (map (λ (s : Pivot (variables ring)). s.row) choice.pivots) rows
      → IsPending ring C rows' [] first chosen rest
  pending_first rows rows' maps rest first chosen choice popped start under left =
      let p = ring.modulus.value in
      let n = variables ring in
      let rs = map (λ (s : Pivot n). s.row) choice.pivots in
      let is = map (λ (s : Pivot n). s.index) choice.pivots in
      let turn : reverse maps ≡ first ∷ reverse rest = ap reverse popped ∙ reverse-append rest (first ∷ []) in
      let tail = map (graded_map n) (reverse rest) in
      let A = left_map ring (graded_map n first) choice.pivots in
      let lost = lose_all_none {n = n} p rs rows in
      let graded = subst (λ (z : List Carried). AreGraded ring.weights p rows (map (graded_map n) z)) turn under.graded in
      let begun : AreStepped ring C rows [] [] (graded_map n first ∷ tail) =
      subst (λ (z : GradedMaps n). AreStepped ring z rows [] [] (graded_map n first ∷ tail))
      (sym (start ∙ ap (λ (z : List Carried). record { positions = rows; maps = map (graded_map n) z }) turn))
      (stepped_start ring rows (graded_map n first ∷ tail) graded) in
      let ordered : AreOrdered ring (first ∷ reverse rest) = subst (AreOrdered ring) turn under.ordered in
      record {
        choice = choice;
        maps = [];
        stepped = subst₂ (λ (x : List ℕ) (y : List (GradedMap n)). AreStepped ring C x (y ++ A ∷ []) is tail)
            (ap (λ (z : List ℕ × List (GradedMap n)). z.0) lost ∙ sym left) (ap (λ (z : List ℕ × List (GradedMap n)). z.1) lost)
            (stepped_next ring C rows [] (graded_map n first) tail pos begun choice.pivots choice.firsts choice.none);
        same = tt;
        ordered = tt;
        vectors = ordered.0;
        ordered_rest = all_reverse (λ (m : Carried). AreVectorsOver ring (ring_comparison ring) m.columns) rest ordered.1;
      }

  -- ---- the next map
  module _ (rows : List ℕ) (done : List Carried) (m : Carried) (chosen : Chosen) (rest before : List Carried) (popped next : Carried)
      (h : IsPending ring C rows done m chosen rest) (is_popped : rest ≡ before ++ popped ∷ [])
      (lowered : IsMapLowered ring (map (λ (s : Pivot (variables ring)). s.index) h.choice.pivots) popped next) where
    abbrev before_next : List (GradedMap (variables ring))
    before_next = h.maps ++ left_map ring (graded_map (variables ring) m) h.choice.pivots ∷ []

    -- it has lost the rows
    met : AreStepped ring C rows (h.maps ++ left_map ring (graded_map (variables ring) m) h.choice.pivots ∷ []) []
        (graded_map (variables ring) next ∷ map (graded_map (variables ring)) (reverse before))
    met =
        let n = variables ring in
        let is = map (λ (s : Pivot n). s.index) h.choice.pivots in
        let tail = map (graded_map n) (reverse before) in
        let at : lowered_map is (graded_map n popped) ≡ graded_map n next =
        ap₂ (λ (y : List (FormalSum n)) (z : List ℕ). record { columns = y; degrees = z }) (sym lowered.0.same) (ap (λ z. z.items) (sym lowered.1)) in
        subst (λ (z : GradedMap n). AreStepped ring C rows before_next [] (z ∷ tail)) at
        (stepped_lowered ring C rows before_next (graded_map n popped) tail is
        (subst (λ (z : List Carried). AreStepped ring C rows before_next is (map (graded_map n) z))
        (ap reverse is_popped ∙ reverse-append before (popped ∷ [])) h.stepped))

    -- its columns are homogeneous
    pub next_graded : AreGradedColumns ring next.degrees.items (sums_of (variables ring) next.columns)
    next_graded = stepped_graded ring C rows before_next (graded_map (variables ring) next) (map (graded_map (variables ring)) (reverse before)) met

    pub pending_next :
        (next_chosen : Chosen) (choice : IsChosen ring (sums_of (variables ring) next.columns) next_chosen) (computed : Carried)
        → IsComplemented ring h.choice.pivots (map (λ (s : Pivot (variables ring)). s.row) choice.pivots) m computed
        → IsPending ring C rows (done ++ computed ∷ []) next next_chosen before
    pending_next next_chosen choice computed made =
        let p = ring.modulus.value in
        let n = variables ring in
        let rs = map (λ (s : Pivot n). s.row) choice.pivots in
        let is = map (λ (s : Pivot n). s.index) choice.pivots in
        let A = left_map ring (graded_map n m) h.choice.pivots in
        let A' : GradedMap n = record { columns = all_removed rs A.columns; degrees = all_removed rs A.degrees } in
        let B = left_map ring (graded_map n next) choice.pivots in
        let tail = map (graded_map n) (reverse before) in
        let lost = lose_all_end {n = n} p rs rows h.maps A in
        record {
          choice = choice;
          maps = h.maps ++ A' ∷ [];
          stepped = subst₂ (λ (x : List ℕ) (y : List (GradedMap n)). AreStepped ring C x (y ++ B ∷ []) is tail)
              (ap (λ (z : List ℕ × List (GradedMap n)). z.0) lost) (ap (λ (z : List ℕ × List (GradedMap n)). z.1) lost)
              (stepped_next ring C rows before_next (graded_map n next) tail pos met choice.pivots choice.firsts choice.none);
          same = subst (AreSameMaps p (h.maps ++ A' ∷ [])) (sym (map-append (graded_map n) done (computed ∷ [])))
              (same_end p h.maps (map (graded_map n) done) A' (graded_map n computed) h.same (sym made.degrees) made.columns.same);
          ordered = all_append (λ (x : Carried). AreVectorsOver ring (ring_comparison ring) x.columns) done (computed ∷ []) h.ordered (made.columns.vectors, tt);
          vectors = lowered.0.vectors;
          ordered_rest = each_left (λ (x : Carried). AreVectorsOver ring (ring_comparison ring) x.columns) before (popped ∷ [])
              (subst (AreOrdered ring) is_popped h.ordered_rest);
        }

  pub next_vectors : (rest before : List Carried) (popped : Carried) → rest ≡ before ++ popped ∷ [] → AreOrdered ring rest
      → AreVectorsOver ring (ring_comparison ring) popped.columns
  next_vectors rest before popped e h =
      (each_right (λ (x : Carried). AreVectorsOver ring (ring_comparison ring) x.columns) before (popped ∷ []) (subst (AreOrdered ring) e h)).0

  -- ---- the end
  pub pending_last :
      (rows : List ℕ) (done : List Carried) (m : Carried) (chosen : Chosen) (rest : List Carried) (h : IsPending ring C rows done m chosen rest) → rest ≡ []
      → (computed : Carried) → IsComplemented ring h.choice.pivots [] m computed → ComesTo ring C rows (done ++ computed ∷ [])
  pending_last rows done m chosen rest h e computed made =
      let p = ring.modulus.value in
      let n = variables ring in
      let is = map (λ (s : Pivot n). s.index) h.choice.pivots in
      let A = left_map ring (graded_map n m) h.choice.pivots in
      let ended = stepped_end ring C rows (h.maps ++ A ∷ []) is
      (subst (λ (z : List Carried). AreStepped ring C rows (h.maps ++ A ∷ []) is (map (graded_map n) (reverse z))) e h.stepped) in
      let same : AreSameMaps p (h.maps ++ A ∷ []) (map (graded_map n) (done ++ computed ∷ [])) =
      subst (AreSameMaps p (h.maps ++ A ∷ [])) (sym (map-append (graded_map n) done (computed ∷ [])))
      (same_end p h.maps (map (graded_map n) done) A (graded_map n computed) h.same (sym made.degrees) made.columns.same) in
      record {
        maps = h.maps ++ A ∷ [];
        leads = ended.0;
        same = same;
        underway = record {
          ordered = all_append (λ (x : Carried). AreVectorsOver ring (ring_comparison ring) x.columns) done (computed ∷ []) h.ordered (made.columns.vectors, tt);
          graded = same_graded p pos ring.weights rows (h.maps ++ A ∷ []) (map (graded_map n) (done ++ computed ∷ [])) same ended.1;
          none = none_there ring (h.maps ++ A ∷ []) (done ++ computed ∷ []) same h.stepped.none;
        };
      }
