-- Maps that constants have left, with a table of their counts
--
-- The last map's columns are counted once the next one's constants are known, since these take away some of them: so a table has the
-- steps before the last map's columns, whose degrees are kept
use Rattle.std.specs.Prelude.{Contains, drop}
use Rattle.std.proofs.Common.{List, [], ap, arith, get_or, inl, inr, length, map, refl, subst, suc, sym, zero, ℕ, ◌++◌, ◌+◌, ◌<◌, ◌∙◌, ◌∷◌, ◌≡◌, ◌≤◌}
use Rattle.formal_sums.specs.FormalSums.{Each, FormalSum}
use Rattle.bases.specs.Settings.{IsLawful}
use Rattle.minimal_laws.proofs.Cancelling.{cancelled}
use Rattle.minimal_laws.specs.Cancellation.{done, remove_at, trimmed}
use Rattle.minimal_laws.specs.Gradings.{AreExact, AreGraded, GradedMap, GradedMaps, graded_by_leads}
use Rattle.minimal_laws.specs.Minimal.{HasConstant, IsMinimal, Presents}
use Rattle.betti_laws.proofs.Tables.{betti, trimmed_counts}
use Rattle.betti_laws.specs.Tables.{occurrences, step_count}
use Rattle.term_lists.specs.Rings.{ring_comparison, setting, variables}
use Rattle.term_lists.specs.Vectors.{sums_of}
use Rattle.term_lists.specs.declared.ring.Ring.{Ring}
use Rattle.resolution_maps.specs.Inducing.{maps_of}
use Rattle.resolution_maps.specs.Resolved.{AreJoined, degrees_of}
use Rattle.resolution_maps.specs.declared.maps.Map.{Map}
use Rattle.column_passes.specs.Constants.{HasNoConstants}
use Rattle.column_passes.specs.Passing.{AreGradedColumns, Pivot}
use Rattle.column_passes.specs.Placing.{ArePlacesAfter, all_removed}
use Rattle.column_passes.specs.declared.placing.Leaving.{Leaving}
use Rattle.column_passes.proofs.Lists.{drop_item, drop_none}
use Rattle.constant_passes.specs.Choosing.{columns_without_rows}
use Rattle.constant_passes.specs.declared.leaving.Chosen.{Chosen}
use Rattle.minimal_betti.specs.CountedMaps.{IsMapCounted}
use Rattle.minimal_betti.specs.Growing.{IsDone, IsTableTo}
use Rattle.minimal_betti.specs.Tables.{IsBettiTable, IsCountedEntry}
use Rattle.minimal_betti.specs.declared.tables.BettiEntry.{BettiEntry}
use Rattle.minimal_betti.proofs.Counts.{table_same}
use Rattle.minimal_betti.proofs.Growing.{table_done, table_start}
use Rattle.minimal_betti.proofs.Stepped.{AreStepped, left_map, lowered_alike, lowered_map}
use Rattle.minimal_betti.proofs.Stepped.{stepped_end, stepped_graded, stepped_lowered, stepped_next, stepped_start}
use Rattle.minimal_betti.proofs.Stepping.{lose, lose_all, lose_last}

-- ---- counts of maps that lose columns
module _ {n : ℕ} where
  -- the degrees of the last map's columns, or of the positions where there is no map
  abbrev pub last_degrees : List ℕ → List (GradedMap n) → List ℕ
  last_degrees places [] = places
  last_degrees places (M ∷ maps) = last_degrees M.degrees maps

  last_end : (places : List ℕ) (maps : List (GradedMap n)) (M : GradedMap n) → last_degrees places (maps ++ M ∷ []) ≡ M.degrees
  last_end places [] M = refl
  last_end places (L ∷ maps) M = last_end L.degrees maps M

  length_end : (maps : List (GradedMap n)) (M : GradedMap n) → length (maps ++ M ∷ []) ≡ length maps + 1
  length_end [] M = refl
  length_end (L ∷ maps) M = let e = length_end maps M in omega (arith, e)

  count_last : (places : List ℕ) (maps : List (GradedMap n)) (d : ℕ) → step_count places maps (length maps) d ≡ occurrences d (last_degrees places maps)
  count_last places [] d = refl
  count_last places (M ∷ maps) d = count_last M.degrees maps d

  count_past : (places : List ℕ) (maps : List (GradedMap n)) (k d : ℕ) → length maps < k → step_count places maps k d ≡ 0
  count_past places maps zero d lt = absurd (omega (arith, lt))
  count_past places [] (suc k) d lt = refl
  count_past places (M ∷ maps) (suc k) d lt = count_past M.degrees maps k d (omega (arith, lt))

  -- a map behind the others
  count_end : (places : List ℕ) (maps : List (GradedMap n)) (M : GradedMap n) (k d : ℕ) → k ≤ length maps
      → step_count places (maps ++ M ∷ []) k d ≡ step_count places maps k d
  count_end places maps M zero d le = refl
  count_end places [] M (suc k) d le = absurd (omega (arith, le))
  count_end places (L ∷ maps) M (suc k) d le = count_end L.degrees maps M k d (omega (arith, le))

  module _ (p : ℕ) where
    last_lost_behind : (r : ℕ) (places : List ℕ) (M : GradedMap n) (maps : List (GradedMap n))
        → last_degrees places (lose_last p r M maps) ≡ remove_at r (last_degrees M.degrees maps)
    last_lost_behind r places M [] = refl
    last_lost_behind r places M (L ∷ maps) = last_lost_behind r M.degrees L maps

    last_lost : (r : ℕ) (places : List ℕ) (maps : List (GradedMap n))
        → last_degrees (lose p r places maps).0 (lose p r places maps).1 ≡ remove_at r (last_degrees places maps)
    last_lost r places [] = refl
    last_lost r places (M ∷ maps) = last_lost_behind r places M maps

    last_all_lost : (rows places : List ℕ) (maps : List (GradedMap n))
        → last_degrees (lose_all p rows places maps).0 (lose_all p rows places maps).1 ≡ all_removed rows (last_degrees places maps)
    last_all_lost [] places maps = refl
    last_all_lost (r ∷ rows) places maps =
        last_all_lost rows (lose p r places maps).0 (lose p r places maps).1 ∙ ap (all_removed rows) (last_lost r places maps)

    length_lost_behind : (r : ℕ) (M : GradedMap n) (maps : List (GradedMap n)) → length (lose_last p r M maps) ≡ length maps + 1
    length_lost_behind r M [] = refl
    length_lost_behind r M (L ∷ maps) = let e = length_lost_behind r L maps in omega (arith, e)

    length_lost : (r : ℕ) (places : List ℕ) (maps : List (GradedMap n)) → length (lose p r places maps).1 ≡ length maps
    length_lost r places [] = refl
    length_lost r places (M ∷ maps) = let e = length_lost_behind r M maps in omega (arith, e)

    length_all_lost : (rows places : List ℕ) (maps : List (GradedMap n)) → length (lose_all p rows places maps).1 ≡ length maps
    length_all_lost [] places maps = refl
    length_all_lost (r ∷ rows) places maps = length_all_lost rows (lose p r places maps).0 (lose p r places maps).1 ∙ length_lost r places maps

    count_lost_behind : (r : ℕ) (places : List ℕ) (M : GradedMap n) (maps : List (GradedMap n)) (k d : ℕ) → k ≤ length maps
        → step_count places (lose_last p r M maps) k d ≡ step_count places (M ∷ maps) k d
    count_lost_behind r places M maps zero d le = refl
    count_lost_behind r places M [] (suc k) d le = absurd (omega (arith, le))
    count_lost_behind r places M (L ∷ maps) (suc k) d le = count_lost_behind r M.degrees L maps k d (omega (arith, le))

    count_lost : (r : ℕ) (places : List ℕ) (maps : List (GradedMap n)) (k d : ℕ) → k < length maps
        → step_count (lose p r places maps).0 (lose p r places maps).1 k d ≡ step_count places maps k d
    count_lost r places [] k d lt = absurd (omega (arith, lt))
    count_lost r places (M ∷ maps) k d lt = count_lost_behind r places M maps k d (omega (arith, lt))

    count_all_lost : (rows places : List ℕ) (maps : List (GradedMap n)) (k d : ℕ) → k < length maps
        → step_count (lose_all p rows places maps).0 (lose_all p rows places maps).1 k d ≡ step_count places maps k d
    count_all_lost [] places maps k d lt = refl
    count_all_lost (r ∷ rows) places maps k d lt =
        let e = length_lost r places maps in
        count_all_lost rows (lose p r places maps).0 (lose p r places maps).1 k d (omega (arith, lt, e)) ∙ count_lost r places maps k d lt

-- ---- tables
-- a table of the same counts, as far as it goes
table_alike :
    (counts others : ℕ → ℕ → ℕ) (es : List BettiEntry) (step : ℕ) → ((k d : ℕ) → k < step → counts k d ≡ others k d) → IsTableTo counts es step 0
    → IsTableTo others es step 0
table_alike counts others es step same t = record {
  ascends = t.ascends;
  before = t.before;
  counted = counted_in es t.before t.counted;
  complete = λ k d is some.
      let lt = earlier k d is in
      subst (λ z. Contains es (record { step = k; degree = d; count = z })) (same k d lt) (t.complete k d is (subst (λ z. 0 < z) (sym (same k d lt)) some));
}
  where
    earlier : (k d : ℕ) → IsDone step 0 k d → k < step
    earlier k d (inl a) = a
    earlier k d (inr a) = absurd (let q = a.1 in omega (arith, q))

    counted_in : (fs : List BettiEntry) → Each (λ e. IsDone step 0 e.step e.degree) fs → Each (IsCountedEntry counts) fs → Each (IsCountedEntry others) fs
    counted_in [] b c = tt
    counted_in (e ∷ fs) b c = ((c.0.0, c.0.1 ∙ same e.step e.degree (earlier e.step e.degree b.0)), counted_in fs b.1 c.1)

-- ---- the maps of a resolution in turn
abbrev pub joined_maps : (ring : Ring) → List ℕ → List Map → List (GradedMap (variables ring))
joined_maps ring places maps = graded_by_leads ring.weights places (maps_of (variables ring) (map (λ (m : Map). m.columns) maps))

abbrev pub graded_own : (ring : Ring) → Map → GradedMap (variables ring)
graded_own ring m = record { columns = sums_of (variables ring) m.columns; degrees = degrees_of ring m.row_degrees.items m.columns }

length_joined : (ring : Ring) (places : List ℕ) (maps : List Map) → length (joined_maps ring places maps) ≡ length maps
length_joined ring places [] = refl
length_joined ring places (m ∷ maps) = ap suc (length_joined ring (degrees_of ring places m.columns) maps)

map_at :
    (ring : Ring) (places : List ℕ) (maps : List Map) (k : ℕ) (m : Map) (d : GradedMap (variables ring)) → AreJoined ring places maps → k < length maps
    → m ≡ get_or maps k m → graded_own ring m ≡ get_or (joined_maps ring places maps) k d
map_at ring places [] k m d joined lt is = absurd (omega (arith, lt))
map_at ring places (x ∷ maps) zero m d joined lt is =
    ap (graded_own ring) is
    ∙ ap (λ (r : List ℕ). record { columns = sums_of (variables ring) x.columns; degrees = degrees_of ring r x.columns }) joined.0.degrees
map_at ring places (x ∷ maps) (suc k) m d joined lt is = map_at ring (degrees_of ring places x.columns) maps k m d joined.1 (omega (arith, lt)) is

pub next_map :
    (ring : Ring) (places : List ℕ) (maps : List Map) (k : ℕ) (m : Map) → AreJoined ring places maps → k < length maps → m ≡ get_or maps k m
    → drop k (joined_maps ring places maps) ≡ graded_own ring m ∷ drop (k + 1) (joined_maps ring places maps)
next_map ring places maps k m joined lt is =
    let e = length_joined ring places maps in
    drop_item (joined_maps ring places maps) k (graded_own ring m) (omega (arith, lt, e)) (map_at ring places maps k m (graded_own ring m) joined lt is)

pub no_map : (ring : Ring) (places : List ℕ) (maps : List Map) (k : ℕ) → length maps ≤ k → drop k (joined_maps ring places maps) ≡ []
no_map ring places maps k le = let e = length_joined ring places maps in drop_none (joined_maps ring places maps) k (omega (arith, le, e))

-- ---- maps that constants have left, the degrees of the last one's columns, and the counts of the steps before these
pub record AreCounted (ring : Ring) (C : GradedMaps (variables ring)) (tail : List (GradedMap (variables ring))) (leaving : Leaving) (step : ℕ)
    (former : List ℕ) (entries : List BettiEntry) : Type 0 where
  pub places : List ℕ
  pub maps : List (GradedMap (variables ring))
  pub rows : List ℕ
  pub told : ArePlacesAfter rows leaving
  pub stepped : AreStepped ring C places maps rows tail
  pub count : length maps ≡ step
  pub last : last_degrees places maps ≡ former
  pub table : IsTableTo (step_count places maps) entries step 0

pub counted_start :
    (ring : Ring) (places : List ℕ) (maps : List (GradedMap (variables ring))) (leaving : Leaving) (former : List ℕ) (entries : List BettiEntry)
    → AreGraded ring.weights ring.modulus.value places maps → ArePlacesAfter [] leaving → former ≡ places → entries ≡ []
    → AreCounted ring (record { positions = places; maps = maps }) maps leaving 0 former entries
counted_start ring places maps leaving former entries graded told is none = record {
  places = places;
  maps = [];
  rows = [];
  told = told;
  stepped = stepped_start ring places maps graded;
  count = refl;
  last = sym is;
  table = subst (λ es. IsTableTo (step_count {n = variables ring} places []) es 0 0) (sym none) (table_start (step_count {n = variables ring} places []));
}

module _ (ring : Ring) (C : GradedMaps (variables ring)) (m : Map) (tail : List (GradedMap (variables ring))) (leaving : Leaving) (step : ℕ)
    (former : List ℕ) (entries : List BettiEntry) (h : AreCounted ring C (graded_own ring m ∷ tail) leaving step former entries) where
  met : AreStepped ring C h.places h.maps [] (lowered_map h.rows (graded_own ring m) ∷ tail)
  met = stepped_lowered ring C h.places h.maps (graded_own ring m) tail h.rows h.stepped

  -- the next map's columns are homogeneous
  pub counted_graded :
      (rows : List ℕ) → ArePlacesAfter rows leaving
      → AreGradedColumns ring (degrees_of ring m.row_degrees.items m.columns) (columns_without_rows rows (sums_of (variables ring) m.columns))
  counted_graded rows told =
      subst (AreGradedColumns ring (degrees_of ring m.row_degrees.items m.columns)) (lowered_alike (variables ring) h.rows rows leaving m.columns h.told told)
      (stepped_graded ring C h.places h.maps (lowered_map h.rows (graded_own ring m)) tail met)

  pub counted_next :
      0 < ring.modulus.value → (chosen : Chosen) (new : List BettiEntry) (left : List ℕ) → IsMapCounted ring h.rows m step former chosen entries new left
      → AreCounted ring C tail chosen.indices (step + 1) left new
  counted_next pos chosen new left made =
      let p = ring.modulus.value in
      let n = variables ring in
      let rows = map (λ (s : Pivot n). s.row) made.choice.pivots in
      let L = left_map ring (lowered_map h.rows (graded_own ring m)) made.choice.pivots in
      let lost = lose_all {n = n} p rows h.places h.maps in
      let size : length lost.1 ≡ step = length_all_lost {n = n} p rows h.places h.maps ∙ h.count in
      let counts = step_count lost.0 (lost.1 ++ L ∷ []) in
      let here : (d : ℕ) → counts step d ≡ occurrences d (all_removed rows former) =
      λ d. count_end lost.0 lost.1 L step d (omega (arith, size)) ∙ ap (λ k. step_count lost.0 lost.1 k d) (sym size) ∙ count_last lost.0 lost.1 d
      ∙ ap (occurrences d) (last_all_lost {n = n} p rows h.places h.maps ∙ ap (all_removed rows) h.last) in
      let before : (k d : ℕ) → k < step → step_count h.places h.maps k d ≡ counts k d =
      λ k d lt.
      sym (count_end lost.0 lost.1 L k d (omega (arith, lt, size))
      ∙ count_all_lost {n = n} p rows h.places h.maps k d (let e = h.count in omega (arith, lt, e))) in
      let more = length_end lost.1 L in
      record {
        places = lost.0;
        maps = lost.1 ++ L ∷ [];
        rows = map (λ (s : Pivot n). s.index) made.choice.pivots;
        told = made.choice.indices;
        stepped = stepped_next ring C h.places h.maps (lowered_map h.rows (graded_own ring m)) tail pos met made.choice.pivots made.choice.firsts
            made.choice.none;
        count = omega (arith, more, size);
        last = last_end lost.0 lost.1 L ∙ sym made.degrees;
        table = made.counted counts here (table_alike (step_count h.places h.maps) counts entries step before h.table);
      }

-- ---- the end
none_anywhere : {n : ℕ} (p : ℕ) (maps : List (GradedMap n)) → Each (λ (D : GradedMap n). HasNoConstants p D.columns) maps → (k c r : ℕ)
    → HasConstant p maps k c r → ⊥
none_anywhere p [] none k c r h = elim h [ ]
none_anywhere p (M ∷ maps) none zero c r h = none.0 c r h.1
none_anywhere p (M ∷ maps) none (suc k) c r h = none_anywhere p maps none.1 k c r h

pub counted_end :
    (ring : Ring) → IsLawful (setting ring (variables ring) (ring_comparison ring (variables ring)) 0) → (C : GradedMaps (variables ring)) (leaving : Leaving)
    (step : ℕ) (former : List ℕ) (entries new : List BettiEntry) → AreGraded ring.weights ring.modulus.value C.positions C.maps
    → AreExact ring.modulus.value C.maps → AreCounted ring C [] leaving step former entries
    → ((counts : ℕ → ℕ → ℕ) → ((d : ℕ) → counts step d ≡ occurrences d former) → IsTableTo counts entries step 0 → IsTableTo counts new (step + 1) 0)
    → (places : List ℕ) (A : List (FormalSum (variables ring))) (D : GradedMaps (variables ring)) → Presents ring.weights ring.modulus.value C places A
    → IsMinimal ring.weights ring.modulus.value D → Presents ring.weights ring.modulus.value D places A → IsBettiTable (step_count D.positions D.maps) new
counted_end ring lawful C leaving step former entries new graded exact h pushed places A D P minimal Q =
    let p = ring.modulus.value in
    let above : 1 < p = lawful.domain.above_one in
    let pos : 0 < p = omega (arith, above) in
    let ended = stepped_end ring C h.places h.maps h.rows h.stepped in
    let E : GradedMaps (variables ring) = record { positions = h.places; maps = trimmed h.maps } in
    let all = ended.0.cancelled E (done h.places h.maps (none_anywhere p h.maps h.stepped.none)) in
    let left = cancelled p pos places A C E all graded exact P in
    let e = h.count in
    let here : (d : ℕ) → step_count h.places h.maps step d ≡ occurrences d former =
    λ d. ap (λ k. step_count h.places h.maps k d) (sym e) ∙ count_last h.places h.maps d ∙ ap (occurrences d) h.last in
    table_same (step_count h.places h.maps) (step_count D.positions D.maps) new
    (λ k d. sym (trimmed_counts p ring.weights h.places h.maps ended.1 k d) ∙ betti p lawful.domain places A E D left.0 minimal left.1 Q k d)
    (table_done (step_count h.places h.maps) new (step + 1) (pushed (step_count h.places h.maps) here h.table)
    (λ k d le. count_past h.places h.maps k d (omega (arith, le, e))))
