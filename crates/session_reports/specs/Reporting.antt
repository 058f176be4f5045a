-- What the calls say that tell of a value once its reduced basis is known, or refuse it then
use Rattle.std.specs.Prelude.{Bool, IsSome, List, string_bytes, ⊤, ℕ, ◌++◌, ◌≡◌}
use Rattle.resolution_maps.specs.Resolved.{IsResolutionTrail}
use Rattle.formal_sums.specs.FormalSums.{Each}
use Rattle.term_lists.specs.Vectors.{HasPositions}
use Rattle.term_lists.specs.declared.key.Key.{Key}
use Rattle.term_lists.specs.declared.ring.Ring.{Ring}
use Rattle.module_vectors.specs.declared.trail.KeptTrail.{KeptTrail}
use Rattle.module_vectors.specs.declared.trail.WorkStop.{WorkStop}
use Rattle.module_vectors.specs.declared.trail.WorkStop.TheVariants.{Degree, Memory}
use Rattle.groebner_iface.specs.Runs.{IsReducedBasisOf}
use Rattle.script_parse.specs.declared.kind.Kind.{Kind}
use Rattle.script_parse.specs.declared.named.NameInfo.{NameInfo}
use Rattle.session_values.specs.Held.{StoredShown}
use Rattle.session_values.specs.Names.{Value}
use Rattle.session_values.specs.Numbers.{IsNumbersText, RefusesNumbers}
use Rattle.session_reports.specs.Reordering.{IsReorderedText, RefusesReordering}
use Rattle.session_reports.specs.Minimising.{IsBettiText, IsMinimalText, IsMinimalTrail, IsRegularityText, RefusesMinimal}
use Rattle.session_values.specs.Resolving.{IsResolutionText, IsResolvingTrail}
use Rattle.session_reports.specs.declared.reports.Report.{Report}
use Rattle.session_reports.specs.declared.reports.Report.TheVariants.{Betti, InOrder, Minimal, Numbers, Regularity, Resolution}
use Rattle.session_reports.specs.declared.step.Step.{Step}
use Rattle.session_reports.specs.declared.step.Step.TheVariants as steps

-- a value of this rank has such a report
abbrev pub HasReport : ℕ → Report → Type 0
HasReport rank (InOrder order) = rank ≡ 1
HasReport rank _ = ⊤

-- the text is the report
abbrev pub IsReport : Ring → Value → Report → List ℕ → Type 0
IsReport ring value Numbers text = IsNumbersText ring value text
IsReport ring value (InOrder order) text = IsReorderedText ring value order text
IsReport ring value Resolution text = IsResolutionText ring value text
IsReport ring value Minimal text = IsMinimalText ring value text
IsReport ring value Betti text = IsBettiText ring value text
IsReport ring value Regularity text = IsRegularityText ring value text

-- the report is refused for this kind
abbrev pub RefusesReport : Ring → Value → Report → Kind → Type 0
RefusesReport ring value Numbers kind = RefusesNumbers ring value kind
RefusesReport ring value (InOrder order) kind = RefusesReordering ring value kind
RefusesReport ring value Resolution kind = ⊥
RefusesReport ring value _ kind = RefusesMinimal ring value kind

-- a trail that the report meets
abbrev pub IsReportTrail : Ring → Value → Report → KeptTrail → Type 0
IsReportTrail ring value Numbers t = ⊥
IsReportTrail ring value (InOrder order) t = ⊥
IsReportTrail ring value Resolution t = IsResolvingTrail ring value t
IsReportTrail ring value _ t = (G : List (List (Key × ℕ))) × IsReducedBasisOf ring value.rank value.list G × IsMinimalTrail ring value.rank G t

-- why there is no report from this reduced basis of a value of this rank
abbrev pub ReportStops : Ring → ℕ → List (List (Key × ℕ)) → Report → WorkStop → Type 0
ReportStops ring rank basis report Memory = ⊤
ReportStops ring rank basis Numbers (Degree t) = ⊥
ReportStops ring rank basis (InOrder order) (Degree t) = ⊥
ReportStops ring rank basis Resolution (Degree t) = IsResolutionTrail ring rank basis t
ReportStops ring rank basis _ (Degree t) = IsMinimalTrail ring rank basis t

-- the report is appended, or it is refused
abbrev pub ReportsAs : Ring → Value → Report → (out out' : List ℕ) → Step → Type 0
ReportsAs ring value report out out' steps.Done = (text : List ℕ) × IsReport ring value report text × (out' ≡ out ++ text)
ReportsAs ring value report out out' (steps.Refused kind) = RefusesReport ring value report kind × (out' ≡ out)

-- the same of each value that has this information and a list of which this is the reduced basis
abbrev pub Reports : Ring → NameInfo → List (List (Key × ℕ)) → Report → (out out' : List ℕ) → Step → Type 0
Reports ring info basis report out out' step =
    (list : List (List (Key × ℕ))) → Each (HasPositions info.rank) list → IsReducedBasisOf ring info.rank list basis → (kept : Bool)
    → ReportsAs ring (record { name = string_bytes info.name; rank = info.rank; list = list; kept = kept }) report out out' step

-- the basis is known after a line that is done, and nothing changed by one that is refused
abbrev pub KeepsAs : (old new : StoredShown) → Step → Type 0
KeepsAs old new steps.Done = IsSome new.basis
KeepsAs old new (steps.Refused kind) = new ≡ old
