-- Counts of a resolution at each step
use Rattle.std.specs.Prelude.{Contains}
use Rattle.std.proofs.Common.{List, [], ap, arith, get_or, length, map, refl, subst, sym, suc, zero, ℕ, ◌<◌, ◌∙◌, ◌∷◌, ◌≡◌}
use Rattle.formal_sums.specs.FormalSums.{Each}
use Rattle.betti_laws.specs.Tables.{occurrences, step_count}
use Rattle.minimal_laws.specs.Gradings.{graded_by_leads}
use Rattle.term_lists.specs.Rings.{variables}
use Rattle.term_lists.specs.declared.ring.Ring.{Ring}
use Rattle.resolution_maps.specs.Inducing.{maps_of}
use Rattle.resolution_maps.specs.Resolved.{AreJoined, degrees_of}
use Rattle.resolution_maps.specs.declared.maps.Map.{Map}
use Rattle.column_passes.proofs.Lists.{all_map}
use Rattle.minimal_betti.specs.Tables.{IsCountedEntry, IsBettiTable}
use Rattle.minimal_betti.specs.declared.tables.BettiEntry.{BettiEntry}

abbrev steps_of : Ring → List ℕ → List Map → ℕ → ℕ → ℕ
steps_of ring rows maps = step_count rows (graded_by_leads ring.weights rows (maps_of (variables ring) (map (λ m. m.columns) maps)))

-- at the step of a map's columns the counts are those of their degrees
pub step_joined :
    (ring : Ring) (rows : List ℕ) (maps : List Map) (k d : ℕ) (m : Map) → AreJoined ring rows maps → k < length maps → m ≡ get_or maps k m
    → steps_of ring rows maps (suc k) d ≡ occurrences d (degrees_of ring m.row_degrees.items m.columns)
step_joined ring rows [] k d m joined lt is = absurd (omega (arith, lt))
step_joined ring rows (x ∷ maps) zero d m joined lt is =
    ap (λ (r : List ℕ). occurrences d (degrees_of ring r x.columns)) (sym joined.0.degrees)
    ∙ ap (λ (y : Map). occurrences d (degrees_of ring y.row_degrees.items y.columns)) (sym is)
step_joined ring rows (x ∷ maps) (suc k) d m joined lt is = step_joined ring (degrees_of ring rows x.columns) maps k d m joined.1 (omega (arith, lt)) is

-- behind the last map there are none
pub step_past : (ring : Ring) (rows : List ℕ) (maps : List Map) (k d : ℕ) → length maps < k → steps_of ring rows maps k d ≡ 0
step_past ring rows maps zero d lt = absurd (omega (arith, lt))
step_past ring rows [] (suc k) d lt = refl
step_past ring rows (x ∷ maps) (suc k) d lt = step_past ring (degrees_of ring rows x.columns) maps k d (omega (arith, lt))

pub columns_at : {X Y : Type 0} (P : Y → Type 0) (f : X → Y) (xs : List X) (k : ℕ) (x : X) → Each P (map f xs) → k < length xs → x ≡ get_or xs k x → P (f x)
columns_at P f [] k x h lt is = absurd (omega (arith, lt))
columns_at P f (y ∷ xs) zero x h lt is = subst (λ z. P (f z)) (sym is) h.0
columns_at P f (y ∷ xs) (suc k) x h lt is = columns_at P f xs k x h.1 (omega (arith, lt)) is

-- a table of the same counts
pub table_same : (counts others : ℕ → ℕ → ℕ) (es : List BettiEntry) → ((k d : ℕ) → counts k d ≡ others k d) → IsBettiTable counts es → IsBettiTable others es
table_same counts others es same t = record {
  ascends = t.ascends;
  counted = all_map (IsCountedEntry counts) (IsCountedEntry others) es (λ e c. (c.0, c.1 ∙ same e.step e.degree)) t.counted;
  complete = λ k d some.
      subst (λ z. Contains es (record { step = k; degree = d; count = z })) (same k d) (t.complete k d (subst (λ z. 0 < z) (sym (same k d)) some));
}
