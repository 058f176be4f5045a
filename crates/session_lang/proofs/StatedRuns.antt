-- How often a call asked the engine, said of the statement that it was made for
use Rattle.std.proofs.Common.{List, Option, Some, ap, get_or, inr, length, refl, subst, subst₂, sym, ℕ, ◌*◌, ◌+◌, ◌∙◌, ◌≡◌}
use Rattle.std.specs.Global.{Global}
use Rattle.std.specs.Prelude.{String, string_bytes}
use Rattle.term_lists.specs.declared.ring.Ring.{Ring}
use Rattle.risen_counts.specs.Counts.{RoseAtMost, count_after}
use Rattle.script_parse.specs.Places.{place_named}
use Rattle.script_parse.specs.declared.named.NameInfo.{NameInfo}
use Rattle.script_parse.specs.declared.stated.Statement.{Statement}
use Rattle.script_parse.specs.declared.stated.Statement.TheVariants as statements
use Rattle.session_lang.proofs.Finding.{as_many_after, has_value, kept_after}
use Rattle.session_lang.specs.Lines.{StatesLine}
use Rattle.session_lang.specs.Performing.{asking, reporting}
use Rattle.session_lang.specs.Runs.{MayRun, RunsLine, RunsStated, runs_for, runs_for_both, runs_to_keep}
use Rattle.session_reports.proofs.Counted.{ran_so_often}
use Rattle.session_reports.specs.Parts.{Keeps}
use Rattle.session_reports.specs.declared.reports.Report.{Report}
use Rattle.session_reports.specs.declared.reports.Report.TheVariants.{Betti, InOrder, Minimal, Numbers, Regularity, Resolution}
use Rattle.session_values.specs.Answers.{Asked, basis, member, normal_form, sizes_of_basis}
use Rattle.session_values.specs.Held.{StoredShown}
use Rattle.session_values.specs.Kept.{value_of, values_of}
use Rattle.session_values.specs.Names.{HasValue, ScriptState, after_run}
use Rattle.session_values.specs.Runs.{fresh_runs}
use Rattle.syzygy_engine.specs.Kernels.{runs_in_order}

-- the runs for the basis of a value that has the name
pub runs_are :
    (before : ScriptState) (name : List ℕ) (over : Ring) (info : NameInfo) (s : StoredShown) → HasValue before name over (value_of info s) → runs_for before name ≡ fresh_runs s
runs_are before name over info s has = ap runs_to_keep has.named

-- those for the values at two places
pub both_ran :
    (before : ScriptState) (ring : Option Ring) (infos : List NameInfo) (stored : List StoredShown) (view : record { ring = ring; values = values_of infos stored } ≡ before)
    (over : Ring) (first second : List ℕ) (i j : ℕ) (d : NameInfo) (e : StoredShown) (old new : ℕ)
    → length infos ≡ length stored → ring ≡ Some over → place_named infos first ≡ Some i → place_named infos second ≡ Some j
    → (middle : List StoredShown) × Keeps stored i middle × RoseAtMost (fresh_runs (get_or stored i e) + fresh_runs (get_or middle j e)) old new
    → RoseAtMost (runs_for_both before first second) old new
both_ran before ring infos stored view over first second i j d e old new same is found found' h =
    subst₂ (λ a b. RoseAtMost (a + b) old new)
    (sym (runs_are before first over (get_or infos i d) (get_or stored i e) (has_value before ring infos stored view over first i d e same is found)))
    (sym
    (runs_are (after_run first before) second over (get_or infos j d) (get_or h.0 j e)
    (has_value (after_run first before) ring infos h.0 (kept_after before ring infos stored view first i h.0 e same found h.1) over second j d e
    (as_many_after before ring infos stored view i h.0 same h.1) is found')))
    h.2

-- the statements that ask for a value's basis
module _ (before : ScriptState) (name : String Global) where
  asked_may : (asked : Asked) → MayRun before (asking name asked) (runs_for before (string_bytes name))
  asked_may basis = refl
  asked_may sizes_of_basis = refl
  asked_may (normal_form v) = refl
  asked_may (member v) = refl

  reported_may : (report : Report) → MayRun before (reporting name report) (runs_for before (string_bytes name))
  reported_may Numbers = refl
  reported_may (InOrder order) = refl
  reported_may Resolution = refl
  reported_may Minimal = refl
  reported_may Betti = refl
  reported_may Regularity = refl

  module _ (old new : ℕ) (n : List ℕ) (over : Ring) (info : NameInfo) (s : StoredShown) (named : n ≡ string_bytes name)
      (has : HasValue before n over (value_of info s)) where
    runs_here : fresh_runs s ≡ runs_for before (string_bytes name)
    runs_here = sym (runs_are before n over info s has) ∙ ap (λ m. runs_for before m) named

    kept_runs : new ≡ count_after (fresh_runs s) old → RoseAtMost (runs_for before (string_bytes name)) old new
    kept_runs e = subst (λ m. RoseAtMost m old new) runs_here (ran_so_often (fresh_runs s) old new e)

    pub asked_ran : (asked : Asked) → new ≡ count_after (fresh_runs s) old → RunsStated before (asking name asked) old new
    asked_ran asked e = (runs_for before (string_bytes name), asked_may asked, kept_runs e)

    pub reported_ran : (report : Report) → new ≡ count_after (fresh_runs s) old → RunsStated before (reporting name report) old new
    reported_ran report e = (runs_for before (string_bytes name), reported_may report, kept_runs e)

    pub extended_ran :
        (step : ℕ) → before.ring ≡ Some over → RoseAtMost (fresh_runs s + 2 * runs_in_order over) old new → RunsStated before (statements.Ext name step) old new
    extended_ran step is r = (
      runs_for before (string_bytes name) + 2 * runs_in_order over,
      (over, is, refl),
      subst (λ m. RoseAtMost (m + 2 * runs_in_order over) old new) runs_here r,
    )

-- the runs for a statement, as those for the one that was stated, and for the line that states it
module _ (before : ScriptState) (old new : ℕ) where
  pub ran_as : {s t : Statement} → t ≡ s → RunsStated before s old new → RunsStated before t old new
  ran_as e r = subst (λ t. RunsStated before t old new) (sym e) r

  pub ran_line : (line : List ℕ) (statement : Statement) → StatesLine before line statement → RunsStated before statement old new → RunsLine before line old new
  ran_line line statement stated r = inr (statement, stated, r)
