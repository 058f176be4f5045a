-- Columns after the steps on their map, each computed at once
--
-- Steps s on columns F in turn clear a column v by a linear map: `applied_all` takes v through all of them, and what is left of F is
-- the image of each column that stays (`left_is`). So:
-- 1. `applied_all` is linear, since clearing by a column and leaving a row are.
-- 2. It takes the column of each step to zero (`pivot_gone`): a column that is cleared by itself is zero, and zero stays zero.
-- 3. Where no term of u stands in a row of a step, it does nothing to u but leave these rows (`apart_left`).
-- 4. So (`complement_is`): where u is v plus a combination of the steps' columns as they first stand, and no term of u stands in a
--    row of a step, u without these rows is what the steps leave of v. There is only one such u, however it was found.
use Rattle.std.specs.Prelude.{None, nat_eq}
use Rattle.std.proofs.Common.{Bool, List, [], ap, append-nil, arith, cond, eqb-true, false, get_or, inl, inr, length, map, refl, subst, suc, sym, true, true≢false, zero, ℕ}
use Rattle.std.proofs.Common.{◌<◌, ◌∙◌, ◌∷◌, ◌≡◌, ◌≤◌, ◌⊎◌}
use Rattle.std.proofs.lemmas.Bool.{cases_lt}
use Rattle.std.proofs.lemmas.List.{get_or_past, length-map}
use Rattle.formal_sums.proofs.Linear.{IsLinear, linear_after, linear_append, linear_itself, linear_same, linear_scale}
use Rattle.formal_sums.proofs.Sameness.{IsSame_append, IsSame_of, IsSame_refl, IsSame_scale, IsSame_sym, IsSame_trans}
use Rattle.formal_sums.specs.Combinations.{combination}
use Rattle.formal_sums.specs.FormalSums.{Each, FormalSum, IsSame, scale}
use Rattle.minimal_laws.proofs.Clearing.{cleared_itself, get_or-remove_at, skip_close}
use Rattle.minimal_laws.proofs.Rows.{close, linear_without_row}
use Rattle.minimal_laws.proofs.Splitting.{get_or-images, length-images}
use Rattle.minimal_laws.specs.Cancellation.{AreSameColumns, remove_at, without_row}
use Rattle.complements.specs.Complements.{AreComplements, IsComplement}
use Rattle.term_lists.specs.Rings.{variables}
use Rattle.term_lists.specs.Vectors.{sum_of, sums_of}
use Rattle.term_lists.specs.declared.key.Key.{Key as CodeKey}
use Rattle.term_lists.specs.declared.ring.Ring.{Ring}
use Rattle.vector_division.proofs.Members.{sums_at}
use Rattle.column_passes.specs.Passing.{AreFirstSteps, IsFirstStep, Pivot, applied, left_by, left_by_all}
use Rattle.column_passes.specs.Placing.{AreWithout, all_removed, place_after, without_all}
use Rattle.column_passes.proofs.Applying.{applied_same, cleared_by, linear_applied}
use Rattle.column_passes.proofs.Clearings.{cleared_other}
use Rattle.column_passes.proofs.Lists.{all_map, map_same}
use Rattle.column_passes.proofs.Lowering.{low, without_sum, without_terms}
use Rattle.column_passes.proofs.Places.{place_at}
use Rattle.column_passes.proofs.Turning.{is_there}
use Rattle.minimal_betti.specs.Complementing.{AreComplemented, AreGone, IsApart}
use Rattle.minimal_betti.proofs.Stepping.{map-all_removed, map_map}

abbrev Terms : Type 0
Terms = List (CodeKey × ℕ)

-- ---- no term in the rows
apart_rest :
    (r : ℕ) (rows : List ℕ) (u : Terms) → IsApart (r ∷ rows) u → IsApart rows (without_terms r u)
apart_rest r rows [] h = tt
apart_rest r rows (t ∷ u) h = go (nat_eq t.0.position r) refl (apart_rest r rows u h.1)
  where
    go :
        (b : Bool) → nat_eq t.0.position r ≡ b → IsApart rows (without_terms r u)
        → IsApart rows (cond b (without_terms r u) (low r t ∷ without_terms r u))
    go true e more = more
    go false e more = (λ z. h.0 (ap (λ b. cond b None (place_after rows (close r t.0.position))) e ∙ z), more)

module _ (ring : Ring) where
  -- a vector after all steps
  abbrev pub applied_all : List (Pivot (variables ring)) → FormalSum (variables ring) → FormalSum (variables ring)
  applied_all [] v = v
  applied_all (s ∷ pivots) v = applied_all pivots (applied ring s v)

  linear_applied_all : (pivots : List (Pivot (variables ring))) → IsLinear (applied_all pivots)
  linear_applied_all [] = linear_itself
  linear_applied_all (s ∷ pivots) = linear_after (linear_applied_all pivots) (linear_applied ring s)

  left_is :
      (pivots : List (Pivot (variables ring))) (F : List (FormalSum (variables ring)))
      → left_by_all ring pivots F ≡ map (applied_all pivots) (all_removed (map (λ (s : Pivot (variables ring)). s.index) pivots) F)
  left_is [] F = sym (map_same F)
  left_is (s ∷ pivots) F =
      let is = map (λ (t : Pivot (variables ring)). t.index) pivots in
      left_is pivots (left_by ring s F) ∙ ap (map (applied_all pivots)) (sym (map-all_removed (applied ring s) is (remove_at s.index F)))
      ∙ map_map (applied_all pivots) (applied ring s) (all_removed is (remove_at s.index F))

  apart_left :
      (pivots : List (Pivot (variables ring))) (u : Terms) → IsApart (map (λ (s : Pivot (variables ring)). s.row) pivots) u
      → applied_all pivots (sum_of (variables ring) u) ≡ without_all (map (λ (s : Pivot (variables ring)). s.row) pivots) (sum_of (variables ring) u)
  apart_left [] u h = refl
  apart_left (s ∷ pivots) u h =
      let n = variables ring in
      let rows = map (λ (t : Pivot (variables ring)). t.row) pivots in
      let off : Each (λ (t : CodeKey × ℕ). t.0.position ≡ s.row → ⊥) u =
      all_map _ _ u (λ (t : CodeKey × ℕ) stays e. stays (place_at rows s.row t.0.position e)) h in
      let here : applied ring s (sum_of n u) ≡ sum_of n (without_terms s.row u) =
      ap (without_row s.row) (cleared_other n ring.modulus.value s.row s.inverse s.column u off) ∙ sym (without_sum n s.row u) in
      ap (applied_all pivots) here ∙ apart_left pivots (without_terms s.row u) (apart_rest s.row rows u h) ∙ ap (without_all rows) (without_sum n s.row u)

  module _ (pos : 0 < ring.modulus.value) where
    zero_after : (pivots : List (Pivot (variables ring))) (v : FormalSum (variables ring)) → IsSame ring.modulus.value v []
        → IsSame ring.modulus.value (applied_all pivots v) []
    zero_after [] v e = e
    zero_after (s ∷ pivots) v e = zero_after pivots (applied ring s v) (applied_same ring pos s v [] e)

    pivot_zero : (s : Pivot (variables ring)) (F : List (FormalSum (variables ring))) → IsFirstStep ring F s
        → IsSame ring.modulus.value (applied ring s (get_or F s.index [])) []
    pivot_zero s F f =
        let p = ring.modulus.value in
        let w = get_or F s.index [] in
        linear_same pos (linear_without_row s.row)
        (IsSame_trans (cleared_by p pos s.row s.inverse s.column w w (IsSame_sym f.column))
        (cleared_itself pos s.row s.inverse w f.inverse f.constant.alone))

    -- what the steps make of the column of one of them
    pivot_case :
        (s : Pivot (variables ring)) (pivots : List (Pivot (variables ring))) (F : List (FormalSum (variables ring))) (i : ℕ) → IsFirstStep ring F s
        → place_after (map (λ (t : Pivot (variables ring)). t.index) (s ∷ pivots)) i ≡ None
        → (place_after (map (λ (t : Pivot (variables ring)). t.index) pivots) (close s.index i) ≡ None
        → IsSame ring.modulus.value (applied_all pivots (get_or (left_by ring s F) (close s.index i) [])) [])
        → IsSame ring.modulus.value (applied_all (s ∷ pivots) (get_or F i [])) []
    pivot_case s pivots F i f none more = go (nat_eq i s.index) refl
      where
        go : (b : Bool) → nat_eq i s.index ≡ b → IsSame ring.modulus.value (applied_all pivots (applied ring s (get_or F i []))) []
        go true e =
            zero_after pivots (applied ring s (get_or F i []))
            (subst (λ k. IsSame ring.modulus.value (applied ring s (get_or F k [])) []) (sym (eqb-true i s.index e)) (pivot_zero s F f))
        go false e =
            let at : get_or (left_by ring s F) (close s.index i) [] ≡ applied ring s (get_or F i []) =
            get_or-images (applied ring s) (remove_at s.index F) (close s.index i) []
            ∙ ap (applied ring s) (get_or-remove_at s.index F (close s.index i) [] ∙ ap (λ k. get_or F k []) (skip_close s.index i e)) in
            subst (λ v. IsSame ring.modulus.value (applied_all pivots v) []) at
            (more (sym (ap (λ b. cond b None (place_after (map (λ (t : Pivot (variables ring)). t.index) pivots) (close s.index i))) e) ∙ none))

    pivot_gone :
        (pivots : List (Pivot (variables ring))) (F : List (FormalSum (variables ring))) (i : ℕ) → AreFirstSteps ring F pivots
        → place_after (map (λ (s : Pivot (variables ring)). s.index) pivots) i ≡ None → IsSame ring.modulus.value (applied_all pivots (get_or F i [])) []
    pivot_gone [] F i f none = absurd (true≢false (ap is_there none))
    pivot_gone (s ∷ pivots) F i f none = pivot_case s pivots F i f.0 none (λ z. pivot_gone pivots (left_by ring s F) (close s.index i) f.1 z)

    module _ (pivots : List (Pivot (variables ring))) (columns gone : List Terms) (firsts : AreFirstSteps ring (sums_of (variables ring) columns) pivots)
        (are : AreGone (map (λ (s : Pivot (variables ring)). s.index) pivots) columns gone) where
      gone_at :
          (ws : List Terms) → AreGone (map (λ (s : Pivot (variables ring)). s.index) pivots) columns ws → (i : ℕ)
          → IsSame ring.modulus.value (applied_all pivots (get_or (sums_of (variables ring) ws) i [])) []
      gone_at [] h i = zero_after pivots [] (IsSame_refl ring.modulus.value [])
      gone_at (w ∷ ws) h zero =
          let n = variables ring in
          subst (λ v. IsSame ring.modulus.value (applied_all pivots v) []) (sums_at n columns h.0.0 ∙ ap (sum_of n) h.0.3)
          (pivot_gone pivots (sums_of n columns) h.0.0 firsts h.0.2)
      gone_at (w ∷ ws) h (suc i) = gone_at ws h.1 i

      combination_gone : (a : FormalSum (variables ring)) → IsSame ring.modulus.value (applied_all pivots (combination (sums_of (variables ring) gone) a)) []
      combination_gone [] = zero_after pivots [] (IsSame_refl ring.modulus.value [])
      combination_gone (t ∷ a) =
          let F = sums_of (variables ring) gone in
          let l = linear_applied_all pivots in
          let x = get_or F t.0.0 [] in
          IsSame_trans (linear_append l (scale t.1 t.0.1 x) (combination F a))
          (IsSame_append (IsSame_trans (linear_scale l t.1 t.0.1 x) (IsSame_scale pos t.1 t.0.1 (gone_at gone are t.0.0))) (combination_gone a))

      complement_is :
          (v u : Terms) → IsComplement ring gone v u → IsApart (map (λ (s : Pivot (variables ring)). s.row) pivots) u
          → IsSame ring.modulus.value (applied_all pivots (sum_of (variables ring) v))
          (without_all (map (λ (s : Pivot (variables ring)). s.row) pivots) (sum_of (variables ring) u))
      complement_is v u h apart =
          let p = ring.modulus.value in
          let n = variables ring in
          let l = linear_applied_all pivots in
          let a = combination (sums_of n gone) h.factors in
          IsSame_sym
          (IsSame_trans (IsSame_of p _ _ (sym (apart_left pivots u apart)))
          (IsSame_trans (linear_same pos l h.sum)
          (IsSame_trans (linear_append l (sum_of n v) a)
          (IsSame_trans (IsSame_append (IsSame_refl p (applied_all pivots (sum_of n v))) (combination_gone h.factors))
          (IsSame_of p _ _ (append-nil (applied_all pivots (sum_of n v))))))))

      -- all columns that stay, but for those that leave afterwards
      module _ (out : List ℕ) (kept cleared : List Terms)
          (kept_are : kept ≡ all_removed out (all_removed (map (λ (s : Pivot (variables ring)). s.index) pivots) columns))
          (complements : AreComplements ring gone kept (length kept) cleared)
          (apart : Each (IsApart (map (λ (s : Pivot (variables ring)). s.row) pivots)) cleared) where
        apart_at : (us : List Terms) → Each (IsApart (map (λ (s : Pivot (variables ring)). s.row) pivots)) us → (i : ℕ)
            → IsApart (map (λ (s : Pivot (variables ring)). s.row) pivots) (get_or us i [])
        apart_at [] h i = tt
        apart_at (u ∷ us) h zero = h.0
        apart_at (u ∷ us) h (suc i) = apart_at us h.1 i

        -- an image of a list, inside it
        image_at :
            (T : FormalSum (variables ring) → FormalSum (variables ring)) (vs : List Terms) (i : ℕ) → i < length vs
            → get_or (map T (sums_of (variables ring) vs)) i [] ≡ T (sum_of (variables ring) (get_or vs i []))
        image_at T [] i lt = absurd (omega (arith, lt))
        image_at T (v ∷ vs) zero lt = refl
        image_at T (v ∷ vs) (suc i) lt = image_at T vs i (omega (arith, lt))

        size : (T : FormalSum (variables ring) → FormalSum (variables ring)) (vs : List Terms) → length (map T (sums_of (variables ring) vs)) ≡ length vs
        size T vs = length-images T (sums_of (variables ring) vs) ∙ length-map vs (λ v. sum_of (variables ring) v)

        each_is :
            (i : ℕ) → (i < length kept) ⊎ (length kept ≤ i)
            → IsSame ring.modulus.value (get_or (map (applied_all pivots) (sums_of (variables ring) kept)) i [])
            (get_or (map (λ v. without_all (map (λ (s : Pivot (variables ring)). s.row) pivots) v) (sums_of (variables ring) cleared)) i [])
        each_is i (inl lt) =
            let p = ring.modulus.value in
            let rows = map (λ (s : Pivot (variables ring)). s.row) pivots in
            let there : i < length cleared = omega (arith, lt, complements.sized) in
            IsSame_trans (IsSame_of p _ _ (image_at (applied_all pivots) kept i lt))
            (IsSame_trans (complement_is (get_or kept i []) (get_or cleared i []) (complements.each i lt) (apart_at cleared apart i))
            (IsSame_of p _ _ (sym (image_at (λ v. without_all rows v) cleared i there))))
        each_is i (inr ge) =
            let p = ring.modulus.value in
            let rows = map (λ (s : Pivot (variables ring)). s.row) pivots in
            let a = size (applied_all pivots) kept in
            let b = size (λ v. without_all rows v) cleared in
            IsSame_trans (IsSame_of p _ _ (get_or_past (map (applied_all pivots) (sums_of (variables ring) kept)) i [] (omega (arith, ge, a))))
            (IsSame_of p _ _ (sym (get_or_past (map (λ v. without_all rows v) (sums_of (variables ring) cleared)) i [] (omega (arith, ge, b, complements.sized)))))

        pub complemented : (new : List Terms) → AreWithout ring (map (λ (s : Pivot (variables ring)). s.row) pivots) cleared new
            → AreComplemented ring pivots out columns new
        complemented new w =
            let p = ring.modulus.value in
            let n = variables ring in
            let rows = map (λ (s : Pivot (variables ring)). s.row) pivots in
            let is = map (λ (s : Pivot (variables ring)). s.index) pivots in
            let a = size (applied_all pivots) kept in
            let b = size (λ v. without_all rows v) cleared in
            let alike : AreSameColumns p (map (applied_all pivots) (sums_of n kept)) (map (λ v. without_all rows v) (sums_of n cleared)) =
            record { count = omega (arith, a, b, complements.sized); each = λ i. each_is i (cases_lt i (length kept)) } in
            let sums : sums_of n kept ≡ all_removed out (all_removed is (sums_of n columns)) =
            ap (sums_of n) kept_are ∙ map-all_removed (λ v. sum_of n v) out (all_removed is columns)
            ∙ ap (all_removed out) (map-all_removed (λ v. sum_of n v) is columns) in
            let there : all_removed out (left_by_all ring pivots (sums_of n columns)) ≡ map (applied_all pivots) (sums_of n kept) =
            ap (all_removed out) (left_is pivots (sums_of n columns)) ∙ sym (map-all_removed (applied_all pivots) out (all_removed is (sums_of n columns)))
            ∙ ap (map (applied_all pivots)) (sym sums) in
            record {
              same = subst (λ F. AreSameColumns p F (sums_of n new)) (sym there)
                  (subst (λ H. AreSameColumns p (map (applied_all pivots) (sums_of n kept)) H) (sym w.same) alike);
              vectors = w.vectors;
            }

pub complemented_in_turn :
    (ring : Ring) → 0 < ring.modulus.value → (pivots : List (Pivot (variables ring))) (out : List ℕ) (columns gone kept cleared without : List Terms)
    → AreFirstSteps ring (sums_of (variables ring) columns) pivots → AreGone (map (λ (s : Pivot (variables ring)). s.index) pivots) columns gone
    → kept ≡ all_removed out (all_removed (map (λ (s : Pivot (variables ring)). s.index) pivots) columns)
    → AreComplements ring gone kept (length kept) cleared → Each (IsApart (map (λ (s : Pivot (variables ring)). s.row) pivots)) cleared
    → (list : List Terms) → list ≡ cleared → AreWithout ring (map (λ (s : Pivot (variables ring)). s.row) pivots) list without
    → AreComplemented ring pivots out columns without
complemented_in_turn ring pos pivots out columns gone kept cleared without firsts are kept_are complements apart list e w =
    complemented ring pos pivots columns gone firsts are out kept cleared kept_are complements apart without
    (subst (λ (z : List Terms). AreWithout ring (map (λ (s : Pivot (variables ring)). s.row) pivots) z without) e w)
