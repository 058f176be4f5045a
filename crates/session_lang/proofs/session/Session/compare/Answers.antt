use Rattle.std.proofs.Common.{None, Some, ap, get_or, rules, subst, subst₂, sym, ◌∙◌, ◌≡◌, refl}
use Rattle.std.proofs.lemmas.Result.{IfErr-weaker, on_err_weaker, on_ok_weaker}
use Rattle.groebner_iface.specs.Calls.{NoTrail}
use Rattle.script_parse.specs.Places.{place_named}
use Rattle.session_lang.specs.Fitting.{AreGiven, IsGiven}
use Rattle.session_values.specs.Kept.{value_of, values_of}
use Rattle.session_lang.proofs.OneAnswer.{one_value}
use Rattle.session_lang.proofs.Finding.{as_many_after, has_value, kept_after, no_stored, place_given, run_for_either, some_info}
use Rattle.session_lang.proofs.Performing.{compared_performed}
use Rattle.groebner_iface.proofs.CallingRuns.{more_stops}
use Rattle.session_reports.proofs.Stopping.{no_trail}
use Rattle.script_parse.proofs.NamePlaces.{place_bound}
use Rattle.session_values.proofs.Values.{kept_as_many}
use Rattle.session_lang.proofs.StatedRuns.{both_ran}
use Rattle.std.specs.Prelude.{string_bytes}
use Rattle.risen_counts.specs.Counts.{RoseAtMost}
use Rattle.session_lang.specs.Runs.{runs_for_both}
use Rattle.session_lang.proofs.session.Session.compare.Goals as goal

pub unreachable-requires-in_default-place_of : goal.unreachable-requires-in_default-place_of
unreachable-requires-in_default-place_of g c =
    let none : place_named c.self.inside.names c.as_bytes.result.now ≡ None = search rules in
    let h = c.requires in
    place_given c.args.self.now c.self.inside.ring c.self.inside.names c.self.inside.stored.items c.self.view_is c.as_bytes.result.now
    (subst (IsGiven c.args.self.now) (sym c.as_bytes.ensures.value) (h.0, h.1, h.3)) none

pub unreachable-requires-in_default-place_of-2 : goal.unreachable-requires-in_default-place_of-2
unreachable-requires-in_default-place_of-2 g c =
    let none : place_named c.self.inside.names c.as_bytes-2.result.now ≡ None = search rules in
    let h = c.requires in
    place_given c.args.self.now c.self.inside.ring c.self.inside.names c.self.inside.stored.items c.self.view_is c.as_bytes-2.result.now
    (subst (IsGiven c.args.self.now) (sym c.as_bytes-2.ensures.value) (h.0, h.2, h.4)) none

pub compare_values-requires-clause-within : goal.compare_values-requires-clause-within
compare_values-requires-clause-within g c κs within =
    let infos = c.self.inside.names in
    let found : place_named infos c.as_bytes.result.now ≡ Some c.in-Some-place_of.i = search rules in
    let found' : place_named infos c.as_bytes-2.result.now ≡ Some c.in-Some-place_of-2.j = search rules in
    (place_bound infos c.as_bytes.result.now c.in-Some-place_of.i found, place_bound infos c.as_bytes-2.result.now c.in-Some-place_of-2.j found')

pub compare_values-requires-clause-rank : goal.compare_values-requires-clause-rank
compare_values-requires-clause-rank g c κs within = λ d.
    let infos = c.self.inside.names in
    let stored = c.self.inside.stored.items in
    let before = c.args.self.now in
    let same = kept_as_many c.self.inside.ring infos stored c.self.invariant in
    let found : place_named infos c.as_bytes.result.now ≡ Some c.in-Some-place_of.i = search rules in
    let found' : place_named infos c.as_bytes-2.result.now ≡ Some c.in-Some-place_of-2.j = search rules in
    let h = subst₂ (λ n m. AreGiven before n m (λ r t. r ≡ t)) (sym c.as_bytes.ensures.value) (sym c.as_bytes-2.ensures.value) c.requires in
    let left = has_value before c.self.inside.ring infos stored c.self.view_is c.in-Some.ring c.as_bytes.result.now c.in-Some-place_of.i d no_stored same c.in-Some.is found in
    let right = has_value before c.self.inside.ring infos stored c.self.view_is c.in-Some.ring c.as_bytes-2.result.now c.in-Some-place_of-2.j d no_stored same c.in-Some.is found' in
    sym (ap (λ v. v.rank) (one_value before c.as_bytes.result.now h.0 c.in-Some.ring h.1 _ h.3 left)) ∙ h.5
    ∙ ap (λ v. v.rank) (one_value before c.as_bytes-2.result.now h.0 c.in-Some.ring h.2 _ h.4 right)

pub returns-clause-performed : goal.returns-clause-performed
returns-clause-performed g c =
    let infos = c.self.inside.names in
    let stored = c.self.inside.stored.items in
    let before = c.args.self.now in
    let own = c.self.inside.ring in
    let view = c.self.view_is in
    let first = c.as_bytes.result.now in
    let second = c.as_bytes-2.result.now in
    let i = c.in-Some-place_of.i in
    let j = c.in-Some-place_of-2.j in
    let same = kept_as_many own infos stored c.self.invariant in
    let found : place_named infos first ≡ Some i = search rules in
    let found' : place_named infos second ≡ Some j = search rules in
    let d = some_info infos i (place_bound infos first i found) in
    let called = c.compare_values.result in
    let e = c.compare_values.ensures in
    compared_performed called c.done.result c.done.ensures.ok c.done.ensures.err
    (on_err_weaker called (λ k. ap (λ s. record { ring = own; values = values_of infos s }) k ∙ view) e.as_before) e.unwritten e.same
    c.args.first.now c.args.second.now first second c.in-Some.ring
    (value_of (get_or infos i d) (get_or stored i no_stored)) (value_of (get_or infos j d) (get_or stored j no_stored))
    c.as_bytes.ensures.value c.as_bytes-2.ensures.value
    (has_value before own infos stored view c.in-Some.ring first i d no_stored same c.in-Some.is found)
    (has_value before own infos stored view c.in-Some.ring second j d no_stored same c.in-Some.is found')
    (on_ok_weaker called
    (λ k.
    kept_after _ own infos k.0 (kept_after before own infos stored view first i k.0 no_stored same found k.1)
    second j c.compare_values.new.stored.items no_stored (as_many_after before own infos stored view i k.0 same k.1) found' k.2)
    e.kept)
    (on_ok_weaker called (λ t. t no_stored) e.text)
    (IfErr-weaker called _ _
    (λ stop k.
    more_stops _ _ _ _ _ _ _ _
    (run_for_either before own infos stored view c.in-Some.ring first second i j d same c.in-Some.is found found')
    (no_trail NoTrail) stop (k d no_stored))
    e.stop)

pub returns-clause-runs : goal.returns-clause-runs
returns-clause-runs g c =
    let infos = c.self.inside.names in
    let stored = c.self.inside.stored.items in
    let before = c.args.self.now in
    let own = c.self.inside.ring in
    let first = c.as_bytes.result.now in
    let second = c.as_bytes-2.result.now in
    let i = c.in-Some-place_of.i in
    let same = kept_as_many own infos stored c.self.invariant in
    let found : place_named infos first ≡ Some i = search rules in
    let found' : place_named infos second ≡ Some c.in-Some-place_of-2.j = search rules in
    let d = some_info infos i (place_bound infos first i found) in
    let ran =
    both_ran before own infos stored c.self.view_is c.in-Some.ring first second i c.in-Some-place_of-2.j d no_stored _ _ same c.in-Some.is found found'
    (c.compare_values.ensures.runs no_stored) in (
      runs_for_both before (string_bytes c.args.first.now) (string_bytes c.args.second.now),
      refl,
      subst₂ (λ n m. RoseAtMost (runs_for_both before n m) (g.B.Groebner.runs c.args.engine.now) (g.B.Groebner.runs c.compare_values.new.engine))
          c.as_bytes.ensures.value c.as_bytes-2.ensures.value ran,
    )
