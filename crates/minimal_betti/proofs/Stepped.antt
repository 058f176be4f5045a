-- Maps that constants have left, before maps that have lost rows to them
use Rattle.std.proofs.Common.{List, [], ap, ap₂, append-nil, map, refl, subst, sym, ℕ, ◌++◌, ◌<◌, ◌∙◌, ◌∷◌, ◌≡◌}
use Rattle.std.proofs.lemmas.List.{append_assoc}
use Rattle.formal_sums.specs.FormalSums.{Each}
use Rattle.minimal_laws.specs.Gradings.{AreGraded, GradedMap, GradedMaps}
use Rattle.term_lists.specs.Rings.{variables}
use Rattle.term_lists.specs.Vectors.{sum_of, sums_of}
use Rattle.term_lists.specs.declared.key.Key.{Key as CodeKey}
use Rattle.term_lists.specs.declared.ring.Ring.{Ring}
use Rattle.column_passes.specs.Constants.{HasNoConstants}
use Rattle.column_passes.specs.Passing.{AreFirstSteps, AreGradedColumns, Pivot, left_by_all}
use Rattle.column_passes.specs.Placing.{ArePlacesAfter, all_removed, placed, put_at}
use Rattle.column_passes.specs.declared.placing.Leaving.{Leaving}
use Rattle.column_passes.proofs.Lists.{all_append}
use Rattle.column_passes.proofs.Places.{left_sum, placed_is}
use Rattle.constant_passes.specs.Choosing.{columns_without_rows}
use Rattle.minimal_betti.specs.Carried.{LeadsTo}
use Rattle.minimal_betti.proofs.Reaching.{leads_itself, leads_on}
use Rattle.minimal_betti.proofs.Stepping.{any_steps, lose_all, lower_all, lower_all_next, lower_all_none, none_all_lost}

abbrev Terms : Type 0
Terms = List (CodeKey × ℕ)

-- ---- columns without rows depend on the places that are told alone
placed_alike : (rows others : List ℕ) (leaving : Leaving) (v : Terms) → ArePlacesAfter rows leaving → ArePlacesAfter others leaving
    → placed rows v ≡ placed others v
placed_alike rows others leaving [] a b = refl
placed_alike rows others leaving (t ∷ v) a b =
    ap₂ (λ place z. put_at place t z) (sym (a t.0.position) ∙ b t.0.position) (placed_alike rows others leaving v a b)

pub lowered_alike : (n : ℕ) (rows others : List ℕ) (leaving : Leaving) (F : List Terms) → ArePlacesAfter rows leaving → ArePlacesAfter others leaving
    → columns_without_rows rows (sums_of n F) ≡ columns_without_rows others (sums_of n F)
lowered_alike n rows others leaving [] a b = refl
lowered_alike n rows others leaving (v ∷ F) a b =
    ap₂ ◌∷◌
    (sym (left_sum n rows v) ∙ ap (λ z. sum_of n z) (sym (placed_is rows v) ∙ placed_alike rows others leaving v a b ∙ placed_is others v)
    ∙ left_sum n others v)
    (lowered_alike n rows others leaving F a b)

-- ---- maps
-- a map without rows
abbrev pub lowered_map : {n : ℕ} → List ℕ → GradedMap n → GradedMap n
lowered_map rows M = record { columns = columns_without_rows rows M.columns; degrees = M.degrees }

-- a map after steps
abbrev pub left_map : (ring : Ring) → GradedMap (variables ring) → List (Pivot (variables ring)) → GradedMap (variables ring)
left_map ring M pivots = record {
  columns = left_by_all ring pivots M.columns;
  degrees = all_removed (map (λ (s : Pivot (variables ring)). s.index) pivots) M.degrees;
}

-- C comes to maps without constants and those behind them, of which the next one has lost rows
pub record AreStepped (ring : Ring) (C : GradedMaps (variables ring)) (places : List ℕ) (maps : List (GradedMap (variables ring))) (rows : List ℕ)
    (tail : List (GradedMap (variables ring))) : Type 0 where
  pub leads : LeadsTo ring.modulus.value C (record { positions = places; maps = maps ++ lower_all ring.modulus.value rows tail })
  pub graded : AreGraded ring.weights ring.modulus.value places (maps ++ lower_all ring.modulus.value rows tail)
  pub none : Each (λ (D : GradedMap (variables ring)). HasNoConstants ring.modulus.value D.columns) maps

module _ (ring : Ring) where
  pub stepped_start :
      (places : List ℕ) (maps : List (GradedMap (variables ring))) → AreGraded ring.weights ring.modulus.value places maps
      → AreStepped ring (record { positions = places; maps = maps }) places [] [] maps
  stepped_start places maps graded = record {
    leads = leads_itself ring.modulus.value (record { positions = places; maps = maps });
    graded = graded;
    none = tt;
  }

  pub stepped_end :
      (C : GradedMaps (variables ring)) (places : List ℕ) (maps : List (GradedMap (variables ring))) (rows : List ℕ) → AreStepped ring C places maps rows []
      → LeadsTo ring.modulus.value C (record { positions = places; maps = maps }) × AreGraded ring.weights ring.modulus.value places maps
  stepped_end C places maps rows h =
      let whole = ap (λ z. maps ++ z) (lower_all_none {n = variables ring} ring.modulus.value rows) ∙ append-nil maps in (
        subst (λ z. LeadsTo ring.modulus.value C (record { positions = places; maps = z })) whole h.leads,
        subst (AreGraded ring.weights ring.modulus.value places) whole h.graded,
      )

  columns_at :
      (places : List ℕ) (maps : List (GradedMap (variables ring))) (M : GradedMap (variables ring)) (tail : List (GradedMap (variables ring)))
      → AreGraded ring.weights ring.modulus.value places (maps ++ M ∷ tail) → AreGradedColumns ring M.degrees M.columns
  columns_at places [] M tail g = (places, g.0)
  columns_at places (x ∷ maps) M tail g = columns_at x.degrees maps M tail g.1

  module _ (C : GradedMaps (variables ring)) (places : List ℕ) (maps : List (GradedMap (variables ring))) (M : GradedMap (variables ring))
      (tail : List (GradedMap (variables ring))) where
    -- the next map has lost these rows
    pub stepped_lowered : (rows : List ℕ) → AreStepped ring C places maps rows (M ∷ tail) → AreStepped ring C places maps [] (lowered_map rows M ∷ tail)
    stepped_lowered rows h =
        let whole = ap (λ z. maps ++ z) (lower_all_next ring.modulus.value rows M tail) in
        record {
          leads = subst (λ z. LeadsTo ring.modulus.value C (record { positions = places; maps = z })) whole h.leads;
          graded = subst (AreGraded ring.weights ring.modulus.value places) whole h.graded;
          none = h.none;
        }

    -- its columns are homogeneous
    pub stepped_graded : AreStepped ring C places maps [] (M ∷ tail) → AreGradedColumns ring M.degrees M.columns
    stepped_graded h = columns_at places maps M tail h.graded

    -- the steps on it
    pub stepped_next :
        0 < ring.modulus.value → AreStepped ring C places maps [] (M ∷ tail) → (pivots : List (Pivot (variables ring)))
        → AreFirstSteps ring M.columns pivots → HasNoConstants ring.modulus.value (left_by_all ring pivots M.columns)
        → AreStepped ring C (lose_all ring.modulus.value (map (λ (s : Pivot (variables ring)). s.row) pivots) places maps).0
        ((lose_all ring.modulus.value (map (λ (s : Pivot (variables ring)). s.row) pivots) places maps).1 ++ left_map ring M pivots ∷ [])
        (map (λ (s : Pivot (variables ring)). s.index) pivots) tail
    stepped_next pos h pivots firsts none =
        let p = ring.modulus.value in
        let n = variables ring in
        let rows = map (λ (s : Pivot n). s.row) pivots in
        let is = map (λ (s : Pivot n). s.index) pivots in
        let lost = lose_all {n = n} p rows places maps in
        let L = left_map ring M pivots in
        let b = any_steps ring pos pivots places maps M tail h.none firsts in
        let whole = sym (append_assoc lost.1 (L ∷ []) (lower_all p is tail)) in
        record {
          leads = subst (λ z. LeadsTo p C (record { positions = lost.0; maps = z })) whole
              (leads_on p C (record { positions = places; maps = maps ++ M ∷ tail }) (record { positions = lost.0; maps = lost.1 ++ L ∷ lower_all p is tail })
              h.leads b.0);
          graded = subst (AreGraded ring.weights p lost.0) whole (b.1 h.graded);
          none = all_append (λ (D : GradedMap n). HasNoConstants p D.columns) lost.1 (L ∷ []) (none_all_lost p rows places maps h.none) (none, tt);
        }
