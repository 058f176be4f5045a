-- What a line did, and what it wrote.
use Rattle.std.proofs.Common.{ℕ, List, refl, sym, subst, inl, inr}
use Rattle.std.specs.declared.option.Option.{Option}
use Rattle.std.specs.Io.KnownBytes.{Appends}
use Rattle.module_vectors.specs.declared.trail.KeptTrail.{KeptTrail}
use Rattle.basis_core.specs.Shown.{Shown}
use Rattle.session_lang.specs.Lines.{RefusesLine}
use Rattle.script_parse.specs.declared.kind.Kind.{Kind}
use Rattle.session_values.specs.Names.{ScriptState}
use Rattle.session_top.specs.Parts.{ErrorEnds, LineStops, StopEnds}
use Rattle.session_top.specs.Stops.{StopsScript, stop_line}
use Rattle.session_top.specs.declared.early.Refusal.TheVariants.{OfLine}
use Rattle.session_top.specs.declared.early.Early.{Early}
use Rattle.session_top.specs.declared.early.Early.TheVariants as early
use Rattle.session_top.specs.Limits.{Limits}

-- a line was refused, and its error line or a front of it was written
pub refused_stops : (a b : Option (List ℕ)) (limits : Limits) (before : ScriptState) (line : List ℕ) (number : ℕ) (kind : Kind) (stop : Early) → RefusesLine before line kind
    → ErrorEnds a b number (OfLine kind) stop → LineStops a b limits before line number stop
refused_stops a b limits before line number kind (early.Refused n) refuses (same, wrote) = (same, (kind, refuses, wrote))
refused_stops a b limits before line number kind early.WriteFault refuses front = (_, inr (inl (kind, refuses, refl)), front)
refused_stops a b limits before line number kind (early.NoMemory n) refuses says = absurd says
refused_stops a b limits before line number kind early.ReadFault refuses says = absurd says
refused_stops a b limits before line number kind (early.Stopped n kept) refuses says = absurd says

-- a line stopped the script, and its stop line or a front of it was written
pub stopped_stops : (a b : Option (List ℕ)) (limits : Limits) (before : ScriptState) (line : List ℕ) (number : ℕ) (state : Option Shown) (trail : Option KeptTrail) (stop : Early)
    → StopsScript limits before line state trail → StopEnds a b number state trail stop → LineStops a b limits before line number stop
stopped_stops a b limits before line number state trail (early.Stopped n kept) cause (same, of_state, of_trail, wrote) = (
  same,
  subst (λ s. StopsScript limits before line s kept.trail) (sym of_state) (subst (λ t. StopsScript limits before line state t) (sym of_trail) cause),
  subst (λ s. Appends a b (stop_line s kept.trail)) (sym of_state) (subst (λ t. Appends a b (stop_line state t)) (sym of_trail) wrote),
)
stopped_stops a b limits before line number state trail early.WriteFault cause front = (_, inr (inr (state, trail, cause, refl)), front)
stopped_stops a b limits before line number state trail (early.Refused n) cause says = absurd says
stopped_stops a b limits before line number state trail (early.NoMemory n) cause says = absurd says
stopped_stops a b limits before line number state trail early.ReadFault cause says = absurd says
