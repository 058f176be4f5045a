-- Statements that were done, from what the calls for them say
use Rattle.std.proofs.Common.{Err, List, Ok, Option, Result, Some, [], inl, inr, refl, subst, subst₂, sym, ℕ, ◌++◌, ◌∙◌, ◌≡◌, ◌⊎◌}
use Rattle.std.proofs.lemmas.List.{append-nil}
use Rattle.std.proofs.lemmas.Option.{same_Some}
use Rattle.std.proofs.lemmas.Result.{on_ok_weaker}
use Rattle.std.specs.Global.{Global}
use Rattle.std.specs.Prelude.{IfErr, IfOk, IsSome, OnErr, OnOk, String, string_bytes}
use Rattle.groebner_iface.specs.Calls.{CallStops, NoTrail}
use Rattle.groebner_iface.specs.Runs.{StoppedRun}
use Rattle.groebner_iface.specs.declared.stop.OpStop.{OpStop}
use Rattle.groebner_iface.specs.declared.stop.OpStop.TheVariants as causes
use Rattle.term_lists.specs.Rings.{ring_comparison}
use Rattle.term_lists.specs.Vectors.{IsVectorOver}
use Rattle.term_lists.specs.declared.key.Key.{Key}
use Rattle.term_lists.specs.declared.ring.Ring.{Ring}
use Rattle.module_vectors.specs.declared.trail.KeptTrail.{KeptTrail}
use Rattle.script_parse.specs.declared.kind.Kind.{Kind}
use Rattle.script_parse.specs.declared.stated.Statement.{Statement}
use Rattle.script_parse.specs.declared.stated.Statement.TheVariants as statements
use Rattle.groebner_iface.proofs.CallingRuns.{more_stops}
use Rattle.session_lang.proofs.Finding.{run_for}
use Rattle.session_reports.proofs.Stopping.{no_trail}
use Rattle.session_values.specs.Answers.{Asked, Decides, IsAnswer, IsOneModule, basis, member, normal_form, sizes_of_basis}
use Rattle.session_reports.specs.Asking.{IsAskedOver, IsTrailOf}
use Rattle.session_values.specs.Held.{StoredShown}
use Rattle.session_lang.specs.Fitting.{IsFit, IsGiven}
use Rattle.session_lang.specs.Lines.{AnswersAsked, Does, Expresses, IsExpressingRun, IsLiftRun, IsRunForExt, IsRunForValue, IsRunForEither, Lifts, Needs, RefusesStated, StatesLine}
use Rattle.session_reports.specs.Extensions.{IsRunToExtend}
use Rattle.session_values.specs.Extending.{IsExtText}
use Rattle.session_values.specs.Names.{HasValue, ScriptState, Value, after_run}
use Rattle.session_values.specs.Resolving.{IsResolvingTrail}
use Rattle.session_reports.specs.Parts.{IsRunToKeep}
use Rattle.session_lang.specs.Performing.{Performed, Performs, asking, reporting}
use Rattle.session_reports.specs.Reporting.{HasReport, IsReport, IsReportTrail, KeepsAs, RefusesReport, ReportsAs}
use Rattle.session_reports.specs.declared.reports.Report.{Report}
use Rattle.session_reports.specs.declared.reports.Report.TheVariants.{Betti, InOrder, Minimal, Numbers, Regularity, Resolution}
use Rattle.session_lang.specs.Stops.{IsTrailFor, IsTrailOfExpressing, IsTrailOfLift, Meets, Steps}
use Rattle.session_reports.specs.declared.step.Step.{Step}
use Rattle.session_reports.specs.declared.step.Step.TheVariants as steps

abbrev Terms : Type 0
Terms = List (List (Key × ℕ))

-- the trail of a value, as one of a name that has it
trail_for :
    (before : ScriptState) (name : List ℕ) (ring : Ring) (value : Value) (asked : Asked) → HasValue before name ring value
    → (t : KeptTrail) → IsTrailOf ring value asked t → IsTrailFor before name asked t
trail_for before name ring value asked has t h = (ring, value, has, h)

on_ok_both : {T E P Q S : Type 0} (r : Result T E) → (P → Q → S) → OnOk r P → OnOk r Q → OnOk r S
on_ok_both (Ok t) f p q = f p q
on_ok_both (Err e) f p q = tt

module _ (before : ScriptState) (statement : Statement) (after : ScriptState) (out out' : List ℕ) (old new : ℕ) (kept kept' : Option StoppedRun) where
  -- the statement was done, with this text
  pub was_done :
      (text : List ℕ) → Does before statement after text → out' ≡ out ++ text → new ≡ old → kept' ≡ kept
      → Performed before statement after out out' old new kept kept' (Ok steps.Done)
  was_done text does written count run = record { done = (text, does, written); same = tt; unwritten = tt; engine = (count, run); stop = tt }

  -- it was not done, for a cause that stops the statement
  pub was_stopped :
      (stop : OpStop) → after ≡ before → out' ≡ out → CallStops (Needs before statement) (Meets before statement) old new kept kept' stop
      → Performed before statement after out out' old new kept kept' (Err stop)
  was_stopped stop same unwritten why = record { done = tt; same = same; unwritten = unwritten; engine = tt; stop = why }

  -- what a call that was made for the statement answered, as the answer to it
  pub was_called :
      {U : Type 0} {Runs : Ring → ℕ → Terms → Type 0} {Trails : KeptTrail → Type 0} (called : Result U OpStop) (answer : Result Step OpStop)
      → OnOk called (answer ≡ Ok steps.Done) → IfErr called (λ stop. answer ≡ Err stop)
      → OnOk called ((text : List ℕ) × Does before statement after text × (out' ≡ out ++ text))
      → OnErr called (after ≡ before) → OnErr called (out' ≡ out) → OnOk called ((new ≡ old) × (kept' ≡ kept))
      → ((ring : Ring) (rank : ℕ) (list : Terms) → Runs ring rank list → Needs before statement ring rank list)
      → ((t : KeptTrail) → Trails t → Meets before statement t)
      → IfErr called (CallStops Runs Trails old new kept kept')
      → Performed before statement after out out' old new kept kept' answer
  was_called (Ok u) answer ok err text same unwritten engine needs meets stop =
      subst (Performed before statement after out out' old new kept kept') (sym ok) (was_done text.0 text.1 text.2 engine.0 engine.1)
  was_called (Err e) answer ok err text same unwritten engine needs meets stop =
      subst (Performed before statement after out out' old new kept kept') (sym err)
      (was_stopped e same unwritten (more_stops old new kept kept' _ _ _ _ needs meets e stop))

-- nothing is written behind a text
pub nothing_behind : (text : List ℕ) → text ≡ text ++ []
nothing_behind text = sym (append-nil text)

module _ {before after : ScriptState} {out out' : List ℕ} {old new : ℕ} {kept kept' : Option StoppedRun} where
  -- the statement that was done, as the one that was stated
  pub performed_as :
      {s t : Statement} {answer : Result Step OpStop} → t ≡ s → Performed before s after out out' old new kept kept' answer
      → Performed before t after out out' old new kept kept' answer
  performed_as {answer = answer} e p = subst (λ t. Performed before t after out out' old new kept kept' answer) (sym e) p

  -- a typed ideal is given as a module of rank 1 is
  pub ideal_given :
      {name : String Global} {list : Terms} (answer : Result Step OpStop)
      → Performed before (statements.Module name 1 list) after out out' old new kept kept' answer
      → Performed before (statements.Ideal name list) after out out' old new kept kept' answer
  ideal_given (Ok steps.Done) p = record { done = p.done; same = tt; unwritten = tt; engine = p.engine; stop = tt }
  ideal_given (Ok (steps.Refused kind)) p = absurd p.done.0
  ideal_given (Err causes.Memory) p = record { done = tt; same = p.same; unwritten = p.unwritten; engine = tt; stop = p.stop }
  ideal_given (Err causes.Pairs) p = absurd p.stop.1.3
  ideal_given (Err causes.Degree) p = absurd p.stop.1.3
  ideal_given (Err (causes.Trail t)) p = absurd p.stop.2

-- ---- questions
module _ (before : ScriptState) (name : String Global) where
  -- the value is there
  pub asked_given : (asked : Asked) → IsFit before (asking name asked) → IsGiven before (string_bytes name)
  asked_given basis f = f
  asked_given sizes_of_basis f = f
  asked_given (normal_form v) f = (f.0, f.1, f.2)
  asked_given (member v) f = (f.0, f.1, f.2)

  -- a vector that is asked about is one over the ring
  pub asked_fit : (asked : Asked) → IsFit before (asking name asked) → (ring : Ring) → before.ring ≡ Some ring → IsAskedOver ring asked
  asked_fit basis f ring is = tt
  asked_fit sizes_of_basis f ring is = tt
  asked_fit (normal_form v) f ring is = subst (λ r. IsVectorOver r (ring_comparison r) v) (same_Some _ _ (sym f.2.stated ∙ is)) f.3
  asked_fit (member v) f ring is = subst (λ r. IsVectorOver r (ring_comparison r) v) (same_Some _ _ (sym f.2.stated ∙ is)) f.3

  asked_does :
      (asked : Asked) (after : ScriptState) (text : List ℕ)
      → after ≡ after_run (string_bytes name) before → AnswersAsked before (string_bytes name) asked text → Does before (asking name asked) after text
  asked_does basis after text d a = (d, a)
  asked_does sizes_of_basis after text d a = (d, a)
  asked_does (normal_form v) after text d a = (d, a)
  asked_does (member v) after text d a = (d, a)

  asked_needs : (asked : Asked) (ring : Ring) (rank : ℕ) (list : Terms) → IsRunForValue before (string_bytes name) ring rank list → Needs before (asking name asked) ring rank list
  asked_needs basis ring rank list h = h
  asked_needs sizes_of_basis ring rank list h = h
  asked_needs (normal_form v) ring rank list h = h
  asked_needs (member v) ring rank list h = h

  asked_meets : (asked : Asked) (t : KeptTrail) → IsTrailFor before (string_bytes name) asked t → Meets before (asking name asked) t
  asked_meets basis t h = absurd h.3.2
  asked_meets sizes_of_basis t h = absurd h.3.2
  asked_meets (normal_form v) t h = h
  asked_meets (member v) t h = h

module _ {before after : ScriptState} {out out' : List ℕ} {old new : ℕ} {kept kept' : Option StoppedRun} {U : Type 0} (called : Result U OpStop) (answer : Result Step OpStop)
    (ok : OnOk called (answer ≡ Ok steps.Done)) (err : IfErr called (λ stop. answer ≡ Err stop))
    (same : OnErr called (after ≡ before)) (unwritten : OnErr called (out' ≡ out)) (engine : OnOk called ((new ≡ old) × (kept' ≡ kept))) where
  -- what is asked of a value
  pub asked_performed :
      (name : String Global) (asked : Asked) (n : List ℕ) (over : Ring) (value : Value) → n ≡ string_bytes name → HasValue before n over value
      → OnOk called (after ≡ after_run n before)
      → OnOk called ((text : List ℕ) × IsAnswer over value asked text × (out' ≡ out ++ text))
      → IfErr called (CallStops (IsRunToKeep over value) (IsTrailOf over value asked) old new kept kept')
      → Performed before (asking name asked) after out out' old new kept kept' answer
  asked_performed name asked n over value named has done text stop =
      let has' = subst (λ m. HasValue before m over value) named has in
      was_called before (asking name asked) after out out' old new kept kept' called answer ok err
      (on_ok_both called
      (λ d t. (t.0, asked_does before name asked after t.0 (subst (λ m. after ≡ after_run m before) named d) (over, value, has', t.1), t.2)) done text)
      same unwritten engine
      (λ ring rank list h. asked_needs before name asked ring rank list (run_for before (string_bytes name) over value has' ring rank list h))
      (λ t h. asked_meets before name asked t (trail_for before (string_bytes name) over value asked has' t h))
      stop

  -- whether two values generate one module
  pub compared_performed :
      (first second : String Global) (n m : List ℕ) (over : Ring) (left right : Value) → n ≡ string_bytes first → m ≡ string_bytes second
      → HasValue before n over left → HasValue before m over right
      → OnOk called (after ≡ after_run m (after_run n before))
      → OnOk called ((text : List ℕ) × Decides (IsOneModule over left.list right.list) text × (out' ≡ out ++ text))
      → IfErr called (CallStops (IsRunForEither before n m) NoTrail old new kept kept')
      → Performed before (statements.Equal first second) after out out' old new kept kept' answer
  compared_performed first second n m over left right named named' has has' done text stop =
      was_called before (statements.Equal first second) after out out' old new kept kept' called answer ok err
      (on_ok_both called
      (λ d t. (
        t.0,
        (
          subst₂ (λ k l. after ≡ after_run l (after_run k before)) named named' d,
          (
            over,
            left,
            right,
            subst (λ k. HasValue before k over left) named has,
            subst (λ k. HasValue before k over right) named' has',
            t.1,
          ),
        ),
        t.2,
      ))
      done text)
      same unwritten engine
      (λ ring rank list h. subst₂ (λ k l. IsRunForEither before k l ring rank list) named named' h)
      (no_trail (Meets before (statements.Equal first second)))
      stop

-- a lift to the list of a value
pub lifted_performed :
    {before : ScriptState} {out out' : List ℕ} {old new : ℕ} {kept kept' : Option StoppedRun} {U : Type 0} (called : Result U OpStop) (answer : Result Step OpStop)
    (name : String Global) (v : List (Key × ℕ)) (n : List ℕ) → n ≡ string_bytes name
    → OnOk called (answer ≡ Ok steps.Done) → IfErr called (λ stop. answer ≡ Err stop)
    → OnOk called ((text : List ℕ) × Lifts before n v text × (out' ≡ out ++ text)) → OnErr called (out' ≡ out)
    → OnOk called ((new ≡ old) × (kept' ≡ kept))
    → IfErr called (CallStops (IsLiftRun before n) (IsTrailOfLift before n v) old new kept kept')
    → Performed before (statements.Lift name v) before out out' old new kept kept' answer
lifted_performed {before} {out} {out'} {old} {new} {kept} {kept'} called answer name v n named ok err text unwritten engine stop =
    was_called before (statements.Lift name v) before out out' old new kept kept' called answer ok err
    (on_ok_weaker called (λ t. (t.0, (refl, subst (λ m. Lifts before m v t.0) named t.1), t.2)) text)
    (unchanged called) unwritten engine
    (λ ring rank list h. subst (λ m. IsLiftRun before m ring rank list) named h)
    (λ t h. subst (λ m. IsTrailOfLift before m v t) named h)
    stop
  where
    unchanged : {U : Type 0} (r : Result U OpStop) → OnErr r (before ≡ before)
    unchanged (Ok u) = tt
    unchanged (Err e) = refl

-- a polynomial by others
pub expressed_performed :
    {before : ScriptState} {out out' : List ℕ} {old new : ℕ} {kept kept' : Option StoppedRun} {U : Type 0} (called : Result U OpStop) (answer : Result Step OpStop)
    (f : List (Key × ℕ)) (images : Terms)
    → OnOk called (answer ≡ Ok steps.Done) → IfErr called (λ stop. answer ≡ Err stop)
    → OnOk called ((text : List ℕ) × Expresses before f images text × (out' ≡ out ++ text)) → OnErr called (out' ≡ out)
    → OnOk called ((new ≡ old) × (kept' ≡ kept))
    → IfErr called (CallStops (IsExpressingRun before images) (IsTrailOfExpressing before f images) old new kept kept')
    → Performed before (statements.Express f images) before out out' old new kept kept' answer
expressed_performed {before} {out} {out'} {old} {new} {kept} {kept'} called answer f images ok err text unwritten engine stop =
    was_called before (statements.Express f images) before out out' old new kept kept' called answer ok err
    (on_ok_weaker called (λ t. (t.0, (refl, t.1), t.2)) text)
    (as_it_was called) unwritten engine (λ ring rank list h. h) (λ t h. h) stop
  where
    as_it_was : {U : Type 0} (r : Result U OpStop) → OnErr r (before ≡ before)
    as_it_was (Ok u) = tt
    as_it_was (Err e) = refl

-- the runs for an Ext module of a value, as those of a name that has it
run_for_ext :
    (before : ScriptState) (name : List ℕ) (over : Ring) (value : Value) (step : ℕ) → HasValue before name over value
    → (ring : Ring) (rank : ℕ) (list : Terms) → IsRunToExtend over value step ring rank list → IsRunForExt before name step ring rank list
run_for_ext before name over value step has ring rank list (inl h) = inl (run_for before name over value has ring rank list h)
run_for_ext before name over value step has ring rank list (inr h) = inr (over, value, has, h)

-- an Ext module of a value
pub extended_performed :
    {before after : ScriptState} {out out' : List ℕ} {old new : ℕ} {kept kept' : Option StoppedRun} {U : Type 0} (called : Result U OpStop) (answer : Result Step OpStop)
    (name : String Global) (step : ℕ) (n : List ℕ) (over : Ring) (value : Value) → n ≡ string_bytes name → HasValue before n over value
    → OnOk called (answer ≡ Ok steps.Done) → IfErr called (λ stop. answer ≡ Err stop)
    → OnErr called (after ≡ before) → OnErr called (out' ≡ out) → OnOk called ((new ≡ old) × (kept' ≡ kept))
    → OnOk called (after ≡ after_run n before)
    → OnOk called ((text : List ℕ) × IsExtText over value step text × (out' ≡ out ++ text))
    → IfErr called (CallStops (IsRunToExtend over value step) (IsResolvingTrail over value) old new kept kept')
    → Performed before (statements.Ext name step) after out out' old new kept kept' answer
extended_performed {before} {after} {out} {out'} {old} {new} {kept} {kept'} called answer name step n over value named has ok err same unwritten engine done text stop =
    let has' = subst (λ m. HasValue before m over value) named has in
    was_called before (statements.Ext name step) after out out' old new kept kept' called answer ok err
    (on_ok_both called (λ d t. (t.0, (subst (λ m. after ≡ after_run m before) named d, (over, value, has', t.1)), t.2)) done text)
    same unwritten engine
    (run_for_ext before (string_bytes name) over value step has')
    (λ t h. (over, value, has', h))
    stop

-- ---- reports
module _ (before : ScriptState) (name : String Global) where
  -- the value is there, and has such a report
  pub report_given : (report : Report) → IsFit before (reporting name report) → IsGiven before (string_bytes name)
  report_given Numbers f = f
  report_given (InOrder order) f = (f.0, f.1, f.2)
  report_given Resolution f = f
  report_given Minimal f = f
  report_given Betti f = f
  report_given Regularity f = f

  pub has_report :
      (report : Report) → IsFit before (reporting name report) → (ring : Ring) (value : Value) → HasValue before (string_bytes name) ring value
      → HasReport value.rank report
  has_report Numbers f ring value h = tt
  has_report Resolution f ring value h = tt
  has_report Minimal f ring value h = tt
  has_report Betti f ring value h = tt
  has_report Regularity f ring value h = tt
  has_report (InOrder order) f ring value h = subst (λ v. v.rank ≡ 1) (same_Some _ _ (sym f.2.named ∙ h.named)) f.3

  report_does :
      (report : Report) (after : ScriptState) (text : List ℕ) (over : Ring) (value : Value)
      → HasValue before (string_bytes name) over value → after ≡ after_run (string_bytes name) before → IsReport over value report text
      → Does before (reporting name report) after text
  report_does Numbers after text over value has d r = (d, (over, value, has, r))
  report_does (InOrder order) after text over value has d r = (d, (over, value, has, r))
  report_does Resolution after text over value has d r = (d, (over, value, has, r))
  report_does Minimal after text over value has d r = (d, (over, value, has, r))
  report_does Betti after text over value has d r = (d, (over, value, has, r))
  report_does Regularity after text over value has d r = (d, (over, value, has, r))

  report_refused :
      (report : Report) (over : Ring) (value : Value) (kind : Kind) → HasValue before (string_bytes name) over value → RefusesReport over value report kind
      → RefusesStated before (reporting name report) kind
  report_refused Numbers over value kind has r = (over, value, has, r)
  report_refused (InOrder order) over value kind has r = (over, value, has, r)
  report_refused Resolution over value kind has r = absurd r
  report_refused Minimal over value kind has r = (over, value, has, r)
  report_refused Betti over value kind has r = (over, value, has, r)
  report_refused Regularity over value kind has r = (over, value, has, r)

  report_needs :
      (report : Report) (ring : Ring) (rank : ℕ) (list : Terms) → IsRunForValue before (string_bytes name) ring rank list
      → Needs before (reporting name report) ring rank list
  report_needs Numbers ring rank list h = h
  report_needs (InOrder order) ring rank list h = h
  report_needs Resolution ring rank list h = h
  report_needs Minimal ring rank list h = h
  report_needs Betti ring rank list h = h
  report_needs Regularity ring rank list h = h

  report_meets :
      (report : Report) (over : Ring) (value : Value) (t : KeptTrail) → HasValue before (string_bytes name) over value → IsReportTrail over value report t
      → Meets before (reporting name report) t
  report_meets Numbers over value t has h = absurd h
  report_meets (InOrder order) over value t has h = absurd h
  report_meets Resolution over value t has h = (over, value, has, h)
  report_meets Minimal over value t has h = (over, value, has, h)
  report_meets Betti over value t has h = (over, value, has, h)
  report_meets Regularity over value t has h = (over, value, has, h)

-- the report of a value
pub reported_performed :
    {before after : ScriptState} {out out' : List ℕ} {old new : ℕ} {kept kept' : Option StoppedRun} (answer : Result Step OpStop)
    (name : String Global) (report : Report) (n : List ℕ) (over : Ring) (value : Value) (s item : StoredShown) → n ≡ string_bytes name → HasValue before n over value
    → (IsSome item.basis → after ≡ after_run n before) → (item ≡ s → after ≡ before)
    → IfOk answer (KeepsAs s item) → OnErr answer (item ≡ s)
    → IfOk answer (ReportsAs over value report out out') → OnErr answer (out' ≡ out) → OnOk answer ((new ≡ old) × (kept' ≡ kept))
    → IfErr answer (CallStops (IsRunToKeep over value) (IsReportTrail over value report) old new kept kept')
    → Performed before (reporting name report) after out out' old new kept kept' answer
reported_performed {before} {after} {out} {out'} {old} {new} {kept} {kept'} (Ok steps.Done) name report n over value s item named has done same keeps undone reports unwritten engine stop =
    was_done before (reporting name report) after out out' old new kept kept' reports.0
    (report_does before name report after reports.0 over value (subst (λ m. HasValue before m over value) named has)
    (subst (λ m. after ≡ after_run m before) named (done keeps)) reports.1)
    reports.2 engine.0 engine.1
reported_performed {before} {after} {out} {out'} {old} {new} {kept} {kept'} (Ok (steps.Refused kind)) name report n over value s item named has done same keeps undone reports unwritten engine stop =
    record {
      done = (
        report_refused before name report over value kind (subst (λ m. HasValue before m over value) named has) reports.0,
        same keeps,
        reports.1,
      );
      same = tt;
      unwritten = tt;
      engine = engine;
      stop = tt;
    }
reported_performed {before} {after} {out} {out'} {old} {new} {kept} {kept'} (Err e) name report n over value s item named has done same keeps undone reports unwritten engine stop =
    was_stopped before (reporting name report) after out out' old new kept kept' e (same undone) unwritten
    (more_stops old new kept kept' _ _ _ _
    (λ ring rank list h. report_needs before name report ring rank list
    (run_for before (string_bytes name) over value (subst (λ m. HasValue before m over value) named has) ring rank list h))
    (λ t h. report_meets before name report over value t (subst (λ m. HasValue before m over value) named has) h) e stop)

-- a statement that was performed, as its line
pub performed_line :
    (before : ScriptState) (line : List ℕ) (statement : Statement) (after : ScriptState) (out out' : List ℕ) (answer : Result Step OpStop)
    → StatesLine before line statement → IfOk answer (Performs before statement after out out') → IfOk answer (Steps before line after out out')
performed_line before line statement after out out' (Ok steps.Done) stated p = (p.0, (statement, stated, p.1), p.2)
performed_line before line statement after out out' (Ok (steps.Refused kind)) stated p = (inr (statement, stated, p.0), p.1, p.2)
performed_line before line statement after out out' (Err stop) stated p = tt
