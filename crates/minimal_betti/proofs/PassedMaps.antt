-- Maps after a pass over the one at hand
use Rattle.std.proofs.Common.{List, [], ap, arith, length, map, refl, subst, suc, sym, ℕ, ◌<◌, ◌∷◌, ◌≡◌}
use Rattle.std.proofs.lemmas.List.{length-map}
use Rattle.minimal_laws.specs.Cancellation.{AreSameColumns}
use Rattle.term_lists.specs.Rings.{ring_comparison, variables}
use Rattle.term_lists.specs.Vectors.{AreVectorsOver, sums_of}
use Rattle.term_lists.specs.declared.ring.Ring.{Ring}
use Rattle.column_passes.proofs.Places.{none_leave, some_leave}
use Rattle.column_passes.specs.Constants.{HasNoConstants}
use Rattle.column_passes.specs.Passing.{IsPassed, Pivot, left_by_all}
use Rattle.column_passes.specs.Placing.{ArePlacesAfter, all_removed}
use Rattle.column_passes.specs.declared.one_pass.Passed.{Passed}
use Rattle.minimal_betti.specs.Carried.{LeadsTo, graded_maps}
use Rattle.minimal_betti.specs.Splitting.{IsCancellationUnderway, IsFormerLeft, IsNextLeft, in_turn}
use Rattle.minimal_betti.specs.declared.carried.Carried.{Carried}
use Rattle.minimal_betti.proofs.Splittings.{next_count}
use Rattle.minimal_betti.proofs.Stepping.{no_step_none, passed_leads}

-- ---- the maps after a pass
module _ (ring : Ring) (current : Carried) (passed : Passed) (h : IsPassed ring current.columns passed) where
  -- that had no step
  pub passed_none : passed.rows.count ≡ 0 → HasNoConstants ring.modulus.value (sums_of (variables ring) current.columns)
  passed_none none =
      no_step_none ring current.columns passed.columns h.pivots
      (unmapped h.pivots (none_leave (map (λ (s : Pivot (variables ring)). s.row) h.pivots) passed.rows h.rows none)) h.same h.none
    where
      unmapped : (pivots : List (Pivot (variables ring))) → map (λ (s : Pivot (variables ring)). s.row) pivots ≡ [] → pivots ≡ []
      unmapped [] e = refl
      unmapped (s ∷ pivots) e =
          let q : suc (length (map (λ (t : Pivot (variables ring)). t.row) pivots)) ≡ 0 = ap length e in absurd (omega (arith, q))

  -- that had some, whose rows and columns left
  module _ (some : 0 < passed.rows.count) (m : Carried) (columns : m.columns ≡ passed.columns)
      (degrees : (indices : List ℕ) → ArePlacesAfter indices passed.indices → m.degrees.items ≡ all_removed indices current.degrees.items)
      (rows rows' : List ℕ) (done done' rest rest' : List Carried)
      (former : (out : List ℕ) → ArePlacesAfter out passed.rows → IsFormerLeft out rows rows' done done')
      (next : (out : List ℕ) → ArePlacesAfter out passed.indices → IsNextLeft ring out rest rest') where
    pub passed_some :
        0 < ring.modulus.value → IsCancellationUnderway ring rows done (in_turn done current rest)
        → LeadsTo ring.modulus.value (graded_maps ring rows (in_turn done current rest)) (graded_maps ring rows' (in_turn done' m rest'))
        × IsCancellationUnderway ring rows' done' (in_turn done' m rest')
    passed_some pos u =
        let p = ring.modulus.value in
        let n = variables ring in
        let out = map (λ (s : Pivot (variables ring)). s.row) h.pivots in
        let indices = map (λ (s : Pivot (variables ring)). s.index) h.pivots in
        let leave = some_leave out passed.rows h.rows some in
        let count = length-map h.pivots (λ (s : Pivot (variables ring)). s.row) in
        passed_leads ring pos current m h.pivots (omega (arith, leave, count)) h.firsts
        (subst (λ F. AreSameColumns p (left_by_all ring h.pivots (sums_of n current.columns)) (sums_of n F)) (sym columns) h.same)
        (subst (AreVectorsOver ring (ring_comparison ring)) (sym columns) h.vectors) (degrees indices h.indices) rows rows' done done' rest rest'
        (former out h.rows) (next indices h.indices) u

    pub passed_rest : length rest' ≡ length rest
    passed_rest =
        let indices = map (λ (s : Pivot (variables ring)). s.index) h.pivots in
        next_count ring indices rest rest' (next indices h.indices)
