-- Ext modules of values
use Rattle.std.proofs.Common.{Bool, Err, List, None, Ok, Option, Result, Some, [], ap, arith, get_or, inl, inr, length, map, refl, subst, subst₂, suc, sym, zero, ℕ, ◌++◌, ◌+◌, ◌∙◌, ◌∷◌, ◌≡◌, ◌-◌, ◌<◌, ◌≤◌}
use Rattle.std.specs.Prelude.{IfErr, string_bytes}
use Rattle.formal_sums.proofs.Combining.{Each_map}
use Rattle.formal_sums.specs.FormalSums.{Each, Key as FormalKey}
use Rattle.std.specs.declared.cmp.Ordering.{Ordering}
use Rattle.term_lists.specs.Rings.{ring_comparison, setting, variables}
use Rattle.term_lists.specs.Vectors.{AreTermsOver, AreVectorsOver, HasPositions, sums_of}
use Rattle.term_lists.specs.declared.key.Key.{Key}
use Rattle.term_lists.specs.declared.ring.Ring.{Ring}
use Rattle.module_vectors.specs.declared.trail.KeptTrail.{KeptTrail}
use Rattle.module_vectors.specs.declared.trail.WorkStop.{WorkStop}
use Rattle.module_vectors.specs.declared.trail.WorkStop.TheVariants.{Degree, Memory}
use Rattle.groebner_iface.proofs.CallingRuns.{more_stops}
use Rattle.groebner_iface.specs.Calls.{CallStops, NoTrail}
use Rattle.groebner_iface.specs.Runs.{IsReducedBasisOf, StoppedRun}
use Rattle.groebner_iface.specs.Stops.{op_stop_of_work}
use Rattle.groebner_iface.specs.declared.stop.OpStop.{OpStop}
use Rattle.ext_laws.specs.Transposes.{rank_at}
use Rattle.ext_modules.specs.Ext.{AreExtRuns, AreLinked, IsExt}
use Rattle.ext_modules.specs.declared.presentation.Ext.{Ext}
use Rattle.resolution_maps.proofs.Joining.{length-degrees}
use Rattle.resolution_laws.specs.Resolutions.{IsCanonicalStart}
use Rattle.resolution_maps.specs.Inducing.{Columns, maps_of, over, tower_comparison}
use Rattle.resolution_maps.specs.Resolved.{AreJoined, AreVectorsThrough, IsResolutionTrail, ResolutionStops, columns_of, degrees_of}
use Rattle.resolution_maps.specs.declared.maps.Map.{Map}
use Rattle.resolution_maps.specs.declared.maps.Resolution.{Resolution}
use Rattle.script_parse.specs.declared.named.NameInfo.{NameInfo}
use Rattle.session_reports.specs.Extensions.{IsExtAnswer, IsRunToExtend}
use Rattle.session_reports.specs.Parts.{IsRunToKeep}
use Rattle.session_values.specs.Extending.{AreMapsTo, IsExtRun, IsExtText, ext_text}
use Rattle.session_values.specs.Names.{Value}
use Rattle.session_values.specs.Resolving.{IsResolvingTrail}

abbrev Terms : Type 0
Terms = List (Key × ℕ)

-- vectors over a ring, in any order, have terms of it
terms_over :
    (ring : Ring) (compare : (n : ℕ) → FormalKey n → FormalKey n → Ordering) (list : List Terms) → AreVectorsOver ring compare list → Each (AreTermsOver ring) list
terms_over ring compare [] h = tt
terms_over ring compare (v ∷ list) h = (Each_map _ _ v (λ t x. (x.weighed, x.reduced)) h.0.each, terms_over ring compare list h.1)

-- maps that are joined, over a ring, are linked
pub joined_linked :
    (ring : Ring) (rank : ℕ) (rows : List ℕ) (below : Columns) (maps : List Map) → length rows ≡ rank → AreJoined ring rows maps
    → AreVectorsThrough ring below (map (λ m. m.columns) maps) → AreLinked ring rank (map (λ m. m.columns) maps)
joined_linked ring rank rows below [] e j v = tt
joined_linked ring rank rows below (m ∷ maps) e j v = (
  terms_over ring (tower_comparison (over ring below)) m.columns v.0,
  subst (λ k. Each (HasPositions k) m.columns) e j.0.positions,
  joined_linked ring (length m.columns) (degrees_of ring rows m.columns) (below ++ m.columns ∷ []) maps (length-degrees ring rows m.columns) j.1 v.1,
)

-- behind step 0 the rank is the number of columns of the map before
columns_there :
    (rank : ℕ) (maps : List Map) (k : ℕ) (d : Map) → k < length maps → length (get_or maps k d).columns ≡ rank_at rank (map (λ m. m.columns) maps) (suc k)
columns_there rank [] k d lt = absurd (omega arith)
columns_there rank (m ∷ maps) zero d lt = refl
columns_there rank (m ∷ maps) (suc k) d lt = columns_there (length m.columns) maps k d (omega arith)

pub rank_there :
    (rank : ℕ) (maps : List Map) (step k n : ℕ) (d : Map) → (step ≡ 0 → ⊥) → k ≡ step - 1 → k < length maps → n ≡ length (get_or maps k d).columns
    → n ≡ rank_at rank (map (λ m. m.columns) maps) step
rank_there rank maps zero k n d ne e lt count = absurd (ne refl)
rank_there rank maps (suc j) k n d ne e lt count =
    let same : k ≡ j = omega (arith, e) in
    count ∙ columns_there rank maps k d lt ∙ ap (λ i. rank_at rank (map (λ m. m.columns) maps) (suc i)) same

-- and 0 behind the last map
pub rank_past : (rank : ℕ) (maps : List Map) (step : ℕ) → (step ≡ 0 → ⊥) → length maps ≤ step - 1 → 0 ≡ rank_at rank (map (λ m. m.columns) maps) step
rank_past rank maps zero ne past = absurd (ne refl)
rank_past rank [] (suc k) ne past = refl
rank_past rank (m ∷ maps) (suc zero) ne past = absurd (omega (arith, past))
rank_past rank (m ∷ maps) (suc (suc k)) ne past = rank_past (length m.columns) maps (suc k) (λ e. omega (arith, e)) (omega (arith, past))

module _ (ring : Ring) (rank : ℕ) (basis : List Terms) (step : ℕ) where
  -- the stop of the resolution
  pub resolving_stops :
      (Runs : Ring → ℕ → List Terms → Type 0) (count : ℕ) (kept : Option StoppedRun) (stop : WorkStop) → ResolutionStops ring rank basis stop
      → CallStops Runs (IsResolutionTrail ring rank basis) count count kept kept (op_stop_of_work stop)
  resolving_stops Runs count kept Memory h = (refl, refl)
  resolving_stops Runs count kept (Degree t) h = (refl, refl, h)

  -- the stop of a run behind it
  pub extending_stops :
      (old new : ℕ) (kept kept' : Option StoppedRun) (maps : Columns) (there : ℕ) (stop : OpStop) → there ≡ rank → AreMapsTo ring rank basis step maps
      → CallStops (AreExtRuns ring there maps step) NoTrail old new kept kept' stop
      → CallStops (IsExtRun ring rank basis step) (IsResolutionTrail ring rank basis) old new kept kept' stop
  extending_stops old new kept kept' maps there stop e resolution h =
      more_stops old new kept kept' _ _ _ _ (λ over m l r. (maps, resolution, subst (λ q. AreExtRuns ring q maps step over m l) e r)) (λ t n. absurd n) stop h

-- the stop of the whole, for a value with this reduced basis
pub value_stops :
    (old new : ℕ) (kept kept' : Option StoppedRun) (ring : Ring) (value : Value) (basis : List Terms) (step : ℕ) (stop : OpStop)
    → IsReducedBasisOf ring value.rank value.list basis
    → CallStops (IsExtRun ring value.rank basis step) (IsResolutionTrail ring value.rank basis) old new kept kept' stop
    → CallStops (IsRunToExtend ring value step) (IsResolvingTrail ring value) old new kept kept' stop
value_stops old new kept kept' ring value basis step stop reduced h =
    more_stops old new kept kept' _ _ _ _ (λ over m l r. inr (basis, reduced, r)) (λ t r. (basis, reduced, r)) stop h

-- that of the run for the basis
pub kept_stops :
    (old new : ℕ) (kept kept' : Option StoppedRun) (ring : Ring) (value : Value) (step : ℕ) (stop : OpStop)
    → CallStops (IsRunToKeep ring value) NoTrail old new kept kept' stop
    → CallStops (IsRunToExtend ring value step) (IsResolvingTrail ring value) old new kept kept' stop
kept_stops old new kept kept' ring value step stop h = more_stops old new kept kept' _ _ _ _ (λ over m l r. inl r) (λ t r. absurd r) stop h

-- the maps that were computed are those of the basis
pub maps_computed :
    (ring : Ring) (rank there step count : ℕ) (basis : List Terms) (r : Resolution) → there ≡ rank → count ≡ step
    → IsCanonicalStart (setting ring (variables ring) (ring_comparison ring (variables ring)) there) (sums_of (variables ring) basis) (count + 1)
    (maps_of (variables ring) (columns_of r))
    → AreVectorsThrough ring [] (columns_of r) → AreMapsTo ring rank basis step (columns_of r)
maps_computed ring rank there step count basis r e f start vectors =
    let next : count + 1 ≡ suc step = omega (arith, f) in
    let n = variables ring in
    record {
      start =
          subst₂ (λ m k. IsCanonicalStart (setting ring n (ring_comparison ring n) m) (sums_of n basis) k (maps_of n (columns_of r))) e next start;
      vectors = vectors;
    }

-- and so is the module
pub ext_computed :
    (ring : Ring) (rank there at step : ℕ) (basis : List Terms) (maps first second : List Map) (answer : Ext) → first ≡ maps → second ≡ maps → there ≡ rank
    → AreMapsTo ring rank basis step (map (λ m. m.columns) maps) → at ≡ rank_at rank (map (λ m. m.columns) second) step
    → IsExt ring there (map (λ m. m.columns) first) step answer → IsExtAnswer ring rank basis step at answer
ext_computed ring rank there at step basis maps first second answer f s e resolution counted ext = record {
  maps = map (λ m. m.columns) maps;
  resolution = resolution;
  rank_is = counted ∙ ap (λ l. rank_at rank (map (λ m. m.columns) l) step) s;
  ext = subst₂ (λ q l. IsExt ring q (map (λ m. m.columns) l) step answer) e f ext;
}

-- the text that was written is that of the Ext module
pub ext_told :
    (ring : Ring) (info : NameInfo) (list basis : List Terms) (kept : Bool) (step there : ℕ) (answer : Ext) (out new : List ℕ)
    → IsReducedBasisOf ring info.rank list basis → IsExtAnswer ring info.rank basis step there answer
    → new ≡ out ++ ext_text ring (string_bytes info.name) step there answer
    → (text : List ℕ) × IsExtText ring (record { name = string_bytes info.name; rank = info.rank; list = list; kept = kept }) step text × (new ≡ out ++ text)
ext_told ring info list basis kept step there answer out new reduced h e = (
  ext_text ring (string_bytes info.name) step there answer,
  record {
    basis = basis;
    reduced = reduced;
    maps = h.maps;
    resolution = h.resolution;
    answer = answer;
    ext = h.ext;
    text_is = ap (λ r. ext_text ring (string_bytes info.name) step r answer) h.rank_is;
  },
  e,
)
