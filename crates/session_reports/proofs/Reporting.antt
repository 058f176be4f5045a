-- Reports of values
use Rattle.std.proofs.Common.{Bool, Err, List, Ok, Option, Result, [], ap, ap₂, length, map, refl, replicate, subst, sym, ℕ, ◌+◌, ◌++◌, ◌∙◌, ◌∷◌, ◌≡◌}
use Rattle.std.proofs.lemmas.List.{length-map}
use Rattle.std.specs.Prelude.{IfErr, codes, string_bytes}
use Rattle.std.specs.declared.cmp.Ordering.{Ordering}
use Rattle.resolution_maps.proofs.Joining.{length-degrees, length-zeros}
use Rattle.resolution_maps.specs.Inducing.{Columns, maps_of, over, tower_comparison}
use Rattle.resolution_maps.specs.Resolved.{AreJoined, AreVectorsThrough, ResolutionStops, columns_of, degrees_of}
use Rattle.resolution_maps.specs.declared.maps.Map.{Map}
use Rattle.resolution_maps.specs.declared.maps.Resolution.{Resolution as Resolved}
use Rattle.formal_sums.proofs.Combining.{Each_map, IsMember_itself}
use Rattle.formal_sums.specs.FormalSums.{Each, Key as FormalKey}
use Rattle.monomial_orders.specs.declared.order.Order.{Order}
use Rattle.term_lists.specs.Rings.{ring_comparison, setting, variables}
use Rattle.term_lists.specs.Vectors.{AreVectorsOver, HasPositions, HasVariables, sums_of}
use Rattle.term_lists.specs.declared.key.Key.{Key}
use Rattle.term_lists.specs.declared.ring.Ring.{Ring}
use Rattle.module_vectors.specs.declared.trail.WorkStop.{WorkStop}
use Rattle.module_vectors.specs.declared.trail.WorkStop.TheVariants.{Degree, Memory}
use Rattle.groebner_iface.specs.Calls.{CallStops}
use Rattle.groebner_iface.specs.Runs.{IsReducedBasisOf, StoppedRun}
use Rattle.groebner_iface.specs.Stops.{op_stop_of_work}
use Rattle.operation_laws.proofs.RunFacts.{run_of}
use Rattle.operation_laws.proofs.Running.{run_generates, run_itself}
use Rattle.operation_laws.specs.Operations.{IsRun}
use Rattle.order_change.specs.Reordered.{with_order}
use Rattle.reduced_bases.proofs.Comparing.{IsReducedBasis_same}
use Rattle.script_parse.proofs.Working.{lawful}
use Rattle.resolution_laws.specs.Resolutions.{IsCanonical}
use Rattle.script_parse.specs.declared.named.NameInfo.{NameInfo}
use Rattle.syzygy_engine.proofs.Standing.{ranks_of_positions}
use Rattle.session_reports.proofs.Variables.{listed}
use Rattle.session_reports.specs.Cancelling.{StopsAsMinimal}
use Rattle.session_values.specs.Names.{Value}
use Rattle.session_reports.specs.Reporting.{IsReportTrail, ReportStops}
use Rattle.session_values.specs.Resolving.{IsResolutionText, map_text, maps_text}
use Rattle.session_values.specs.Texts.{heading}
use Rattle.session_values.specs.Writing.{AreOverVariables, resolution_written, written_maps}
use Rattle.session_reports.specs.declared.reports.Report.{Report}
use Rattle.session_reports.specs.declared.reports.Report.TheVariants.{Betti, InOrder, Minimal, Numbers, Regularity, Resolution}

abbrev Terms : Type 0
Terms = List (List (Key × ℕ))

module _ (ring : Ring) (rank : ℕ) (list basis : Terms) (positions : Each (HasPositions rank) list) (reduced : IsReducedBasisOf ring rank list basis) where
  run : IsRun (setting ring (variables ring) (ring_comparison ring (variables ring)) rank) (sums_of (variables ring) list) (sums_of (variables ring) basis)
  run = run_of (setting ring (variables ring) (ring_comparison ring (variables ring)) rank) (lawful ring rank) (sums_of (variables ring) list) (sums_of (variables ring) basis)
      (ranks_of_positions (variables ring) rank list positions) reduced.basis

  -- the basis is a basis of itself
  pub own_basis : IsReducedBasisOf ring rank basis basis
  own_basis = record {
    vectors = reduced.vectors;
    positions = reduced.positions;
    basis =
        run_itself (setting ring (variables ring) (ring_comparison ring (variables ring)) rank) (lawful ring rank) (sums_of (variables ring) list)
        (sums_of (variables ring) basis) run;
  }

  -- a basis of it in another order is one of the list
  pub of_list : (order : Order) (other : Terms) → IsReducedBasisOf (with_order order ring) rank basis other → IsReducedBasisOf (with_order order ring) rank list other
  of_list order other h = record {
    vectors = h.vectors;
    positions = h.positions;
    basis =
        IsReducedBasis_same (setting (with_order order ring) (variables ring) (ring_comparison (with_order order ring) (variables ring)) rank)
        (lawful (with_order order ring) rank) (sums_of (variables ring) basis) (sums_of (variables ring) list) (sums_of (variables ring) other)
        (record {
          inside = reduced.basis.reduced.basis.members;
          outside = λ i lt.
              (run_generates (setting ring (variables ring) (ring_comparison ring (variables ring)) rank) (lawful ring rank) (sums_of (variables ring) list)
              (sums_of (variables ring) basis) run _).1
              (IsMember_itself ring.modulus.value (sums_of (variables ring) list) i lt);
        })
        h.basis;
  }

-- vectors over a ring by another order are over its variables
pub over_variables :
    (ring : Ring) (order : Order) (rank : ℕ) (list answer : Terms) → IsReducedBasisOf (with_order order ring) rank list answer
    → Each (λ v. Each (HasVariables (variables ring)) v) answer
over_variables ring order rank list answer h = listed (with_order order ring) answer h.vectors

-- ---- resolutions
-- vectors over a ring, in any order, are over its variables
listed_by :
    (ring : Ring) (compare : (n : ℕ) → FormalKey n → FormalKey n → Ordering) (list : Terms) → AreVectorsOver ring compare list
    → Each (λ v. Each (HasVariables (variables ring)) v) list
listed_by ring compare [] h = tt
listed_by ring compare (v ∷ list) h = (Each_map _ _ v (λ t x. x.weighed.variables) h.0.each, listed_by ring compare list h.1)

pub through_variables : (ring : Ring) (below : Columns) (maps : List Map) → AreVectorsThrough ring below (map (λ m. m.columns) maps) → Each (AreOverVariables ring) maps
through_variables ring below [] h = tt
through_variables ring below (m ∷ maps) h =
    (listed_by ring (tower_comparison (over ring below)) m.columns h.0, through_variables ring (below ++ m.columns ∷ []) maps h.1)

-- the same of maps in the ring's own order
pub maps_variables :
    (ring : Ring) (maps : List Map) → Each (λ F. AreVectorsOver ring (ring_comparison ring) F) (map (λ m. m.columns) maps) → Each (AreOverVariables ring) maps
maps_variables ring [] h = tt
maps_variables ring (m ∷ maps) h = (listed_by ring (ring_comparison ring) m.columns h.0, maps_variables ring maps h.1)

-- maps that are joined are written by their columns alone
pub written_joined :
    (ring : Ring) (number : ℕ) (rows : List ℕ) (maps : List Map) → AreJoined ring rows maps
    → written_maps ring number maps ≡ maps_text ring number (length rows) (map (λ m. m.columns) maps)
written_joined ring number rows [] h = refl
written_joined ring number rows (m ∷ maps) h =
    ap₂ (λ r rest. map_text ring number r m.columns ++ rest) h.0.count
    (written_joined ring (number + 1) (degrees_of ring rows m.columns) maps h.1
    ∙ ap (λ k. maps_text ring (number + 1) k (map (λ m. m.columns) maps)) (length-degrees ring rows m.columns))

-- the stop of a resolution, as that of its report
pub resolving_stops :
    {T : Type 0} (ring : Ring) (rank : ℕ) (basis : Terms) (r : Result T WorkStop) → IfErr r (ResolutionStops ring rank basis)
    → IfErr r (ReportStops ring rank basis Resolution)
resolving_stops ring rank basis (Ok t) h = tt
resolving_stops ring rank basis (Err Memory) h = tt
resolving_stops ring rank basis (Err (Degree t)) h = h

-- the stop of a minimal resolution, as that of a report
pub minimal_stops :
    {T : Type 0} (ring : Ring) (rank : ℕ) (basis : Terms) (r : Result T WorkStop) → IfErr r (StopsAsMinimal ring rank basis)
    → IfErr r (ReportStops ring rank basis Minimal)
minimal_stops ring rank basis (Ok t) h = tt
minimal_stops ring rank basis (Err Memory) h = tt
minimal_stops ring rank basis (Err (Degree t)) h = h

pub betti_stops :
    {T : Type 0} (ring : Ring) (rank : ℕ) (basis : Terms) (r : Result T WorkStop) → IfErr r (StopsAsMinimal ring rank basis)
    → IfErr r (ReportStops ring rank basis Betti)
betti_stops ring rank basis (Ok t) h = tt
betti_stops ring rank basis (Err Memory) h = tt
betti_stops ring rank basis (Err (Degree t)) h = h

pub regularity_stops :
    {T : Type 0} (ring : Ring) (rank : ℕ) (basis : Terms) (r : Result T WorkStop) → IfErr r (StopsAsMinimal ring rank basis)
    → IfErr r (ReportStops ring rank basis Regularity)
regularity_stops ring rank basis (Ok t) h = tt
regularity_stops ring rank basis (Err Memory) h = tt
regularity_stops ring rank basis (Err (Degree t)) h = h

-- the stop of a report that was made for a value with this reduced basis, as one of the call
pub report_stops :
    (old new : ℕ) (kept kept' : Option StoppedRun) (Runs : Ring → ℕ → Terms → Type 0) (ring : Ring) (value : Value) (basis : Terms) (report : Report) (stop : WorkStop)
    → IsReducedBasisOf ring value.rank value.list basis → ReportStops ring value.rank basis report stop → (new ≡ old) × (kept' ≡ kept)
    → CallStops Runs (IsReportTrail ring value report) old new kept kept' (op_stop_of_work stop)
report_stops old new kept kept' Runs ring value basis report Memory reduced h same = same
report_stops old new kept kept' Runs ring value basis Numbers (Degree t) reduced h same = absurd h
report_stops old new kept kept' Runs ring value basis (InOrder order) (Degree t) reduced h same = absurd h
report_stops old new kept kept' Runs ring value basis Resolution (Degree t) reduced h same = (same.0, same.1, (basis, reduced, h))
report_stops old new kept kept' Runs ring value basis Minimal (Degree t) reduced h same = (same.0, same.1, (basis, reduced, h))
report_stops old new kept kept' Runs ring value basis Betti (Degree t) reduced h same = (same.0, same.1, (basis, reduced, h))
report_stops old new kept kept' Runs ring value basis Regularity (Degree t) reduced h same = (same.0, same.1, (basis, reduced, h))

-- a resolution that is written shows the value's
pub resolution_shown :
    (ring : Ring) (info : NameInfo) (list basis : Terms) (kept : Bool) (rank : ℕ) (r : Resolved) → rank ≡ info.rank
    → IsReducedBasisOf ring info.rank list basis
    → IsCanonical (setting ring (variables ring) (ring_comparison ring (variables ring)) rank) (sums_of (variables ring) basis)
    (maps_of (variables ring) (columns_of r))
    → AreVectorsThrough ring [] (columns_of r) → AreJoined ring r.positions.items r.maps.items → r.positions.items ≡ replicate rank 0
    → IsResolutionText ring (record { name = string_bytes info.name; rank = info.rank; list = list; kept = kept })
    (resolution_written ring (codes "res") (string_bytes info.name) r.maps.items)
resolution_shown ring info list basis kept rank r same reduced canonical vectors joined places = record {
  basis = basis;
  reduced = reduced;
  maps = columns_of r;
  canonical =
      subst
      (λ m. IsCanonical (setting ring (variables ring) (ring_comparison ring (variables ring)) m) (sums_of (variables ring) basis)
      (maps_of (variables ring) (columns_of r)))
      same canonical;
  vectors = vectors;
  text_is =
      ap₂ (λ k rest. heading (codes "res") (string_bytes info.name) k ++ rest) (sym (length-map r.maps.items (λ (m : Map). m.columns)))
      (written_joined ring 1 r.positions.items r.maps.items joined
      ∙ ap (λ k. maps_text ring 1 k (columns_of r)) (ap length places ∙ length-zeros rank ∙ same));
}
