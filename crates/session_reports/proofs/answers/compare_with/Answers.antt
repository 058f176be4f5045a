use Rattle.std.proofs.Common.{◌<◌, ◌≡◌, ◌∙◌, Some, ap, arith, length, refl, rules, slice_set, subst, subst₂, sym}
use Rattle.std.specs.Prelude.{IsSome}
use Rattle.groebner_iface.specs.Stops.{op_stop_of_run}
use Rattle.groebner_iface.specs.Calls.{NoTrail}
use Rattle.session_values.specs.Kept.{AreSound, IsSound}
use Rattle.session_values.specs.Texts.{verdict}
use Rattle.session_reports.proofs.KeptValues.{at_place, at_written, compared, decided, undone, written_bases, written_lists}
use Rattle.groebner_iface.proofs.CallingRuns.{more_stops}
use Rattle.session_reports.proofs.Stopping.{no_trail, placed_run, run_fails}
use Rattle.session_values.proofs.Values.{as_many, kept_sound, sound_at}
use Rattle.risen_counts.specs.Counts.{count_after}
use Rattle.session_values.specs.Runs.{fresh_runs}
use Rattle.session_reports.proofs.answers.compare_with.Goals as goal

pub index-requires : goal.index-requires
index-requires g c =
    let same = as_many c.args.ring.now c.args.names.now c.args.stored.now.items c.requires.sound in
    let below : c.args.places.1 < length c.args.stored.now.items = omega (arith, c.requires.within.1, same) in
    search rules

pub index_mut-requires : goal.index_mut-requires
index_mut-requires g c =
    let same = as_many c.args.ring.now c.args.names.now c.args.stored.now.items c.requires.sound in
    let below : c.args.places.1 < length c.args.stored.now.items = omega (arith, c.requires.within.1, same) in
    search rules

pub keep_basis-requires-clause-sound : goal.keep_basis-requires-clause-sound
keep_basis-requires-clause-sound g c κs within =
    subst₂ (λ d s. IsSound c.args.ring.now d.rank s) (sym c.info_at.ensures) (sym c.index_mut.ensures.value)
    (sound_at c.args.ring.now c.args.names.now c.args.stored.now.items c.args.places.1 c.index_mut.result.now c.info_at.result.now c.requires.sound c.requires.within.1)

pub returns-in-Err-clause-stop : goal.returns-in-Err-clause-stop
returns-in-Err-clause-stop g c = λ d e.
    let same = as_many c.args.ring.now c.args.names.now c.args.stored.now.items c.requires.sound in
    let below : c.args.places.1 < length c.args.stored.now.items = omega (arith, c.requires.within.1, same) in
    rw c.from.ensures
    (more_stops _ _ _ _ _ _ _ _
    (placed_run c.args.ring.now c.args.names.now c.args.stored.now.items c.args.places.1 d e c.info_at.result.now c.index_mut.result.now
    c.requires.within.1 below c.info_at.ensures c.index_mut.ensures.value)
    (no_trail NoTrail) (op_stop_of_run c.in-Err.stop)
    (run_fails _ _ _ _ NoTrail c.args.ring.now c.info_at.result.now c.index_mut.result.now c.in-Err.stop c.in-Err.ensures.none.0 c.in-Err.ensures.stop))

pub index-requires-2 : goal.index-requires-2
index-requires-2 g c =
    let same = as_many c.args.ring.now c.args.names.now c.args.stored.now.items c.requires.sound in
    let below : c.args.places.0 < length c.args.stored.now.items = omega (arith, c.requires.within.0, same) in
    search rules

pub index-requires-3 : goal.index-requires-3
index-requires-3 g c =
    let same = as_many c.args.ring.now c.args.names.now c.args.stored.now.items c.requires.sound in
    let below : c.args.places.1 < length c.args.stored.now.items = omega (arith, c.requires.within.1, same) in
    search rules

pub basis-requires-2 : goal.basis-requires-2
basis-requires-2 g c =
    let same = as_many c.args.ring.now c.args.names.now c.args.stored.now.items c.requires.sound in
    let below : c.args.places.1 < length c.args.stored.now.items = omega (arith, c.requires.within.1, same) in
    subst (λ s. IsSome s.basis) (sym (at_written c.args.stored.now.items c.args.places.1 c.keep_basis.new.stored c.index-3.result.now below c.index-3.ensures)) c.in-Ok.ensures.kept

pub index_mut-requires-in-Err-push_verdict : goal.index_mut-requires-in-Err-push_verdict
index_mut-requires-in-Err-push_verdict g c =
    let same = as_many c.args.ring.now c.args.names.now c.args.stored.now.items c.requires.sound in
    let below : c.args.places.1 < length c.args.stored.now.items = omega (arith, c.requires.within.1, same) in
    search rules

pub returns-in-Ok-push_verdict-clause-sound : goal.returns-in-Ok-push_verdict-clause-sound
returns-in-Ok-push_verdict-clause-sound g c =
    kept_sound c.args.ring.now c.args.names.now c.args.stored.now.items c.args.places.1 c.keep_basis.new.stored c.index_mut.result.now c.info_at.result.now c.requires.sound
    (subst (λ d. IsSound c.args.ring.now d.rank c.keep_basis.new.stored) c.info_at.ensures c.in-Ok.ensures.sound)
    (c.in-Ok.ensures.list ∙ ap (λ s. s.list) c.index_mut.ensures.value)

pub returns-in-Ok-push_verdict-clause-kept : goal.returns-in-Ok-push_verdict-clause-kept
returns-in-Ok-push_verdict-clause-kept g c =
    let same = as_many c.args.ring.now c.args.names.now c.args.stored.now.items c.requires.sound in
    let below : c.args.places.1 < length c.args.stored.now.items = omega (arith, c.requires.within.1, same) in
    record {
      item = c.keep_basis.new.stored;
      written = refl;
      some = c.in-Ok.ensures.kept;
      list = λ e. c.in-Ok.ensures.list ∙ ap (λ s. s.list) (at_place c.args.stored.now.items c.args.places.1 c.index_mut.result.now e below c.index_mut.ensures.value);
    }

pub returns-in-Ok-push_verdict-clause-text : goal.returns-in-Ok-push_verdict-clause-text
returns-in-Ok-push_verdict-clause-text g c = λ e.
    let ring = c.args.ring.now in
    let infos = c.args.names.now in
    let old = c.args.stored.now.items in
    let i = c.args.places.0 in
    let j = c.args.places.1 in
    let item = c.keep_basis.new.stored in
    let same = as_many ring infos old c.requires.sound in
    let below : j < length old = omega (arith, c.requires.within.1, same) in
    let sound : AreSound ring infos (slice_set old j item) =
    kept_sound ring infos old j item c.index_mut.result.now c.info_at.result.now c.requires.sound
    (subst (λ d. IsSound ring d.rank item) c.info_at.ensures c.in-Ok.ensures.sound)
    (c.in-Ok.ensures.list ∙ ap (λ s. s.list) c.index_mut.ensures.value) in
    let same' = as_many ring infos (slice_set old j item) sound in
    let first : i < length (slice_set old j item) = omega (arith, c.requires.within.0, same') in
    let second : j < length (slice_set old j item) = omega (arith, c.requires.within.1, same') in (
      verdict c.is_one_module-one.result,
      decided c.is_one_module-one.result
          (compared ring infos old (slice_set old j item) i j c.basis.result.now c.basis-2.result.now c.info_at.result.now sound c.requires.within.0 c.requires.within.1 (c.requires.rank c.info_at.result.now)
          (λ k d. written_lists old j k item d (c.in-Ok.ensures.list ∙ ap (λ s. s.list) (at_place old j c.index_mut.result.now d below c.index_mut.ensures.value)))
          (λ d. subst (λ s. s.basis ≡ Some c.basis.result.now) (at_place (slice_set old j item) i c.index-2.result.now d first c.index-2.ensures) c.basis.ensures)
          (λ d. subst (λ s. s.basis ≡ Some c.basis-2.result.now) (at_place (slice_set old j item) j c.index-3.result.now d second c.index-3.ensures) c.basis-2.ensures)
          c.is_one_module-one.ensures e),
      c.in-Ok-push_verdict.ensures.ok,
    )

pub returns-in-Err-push_verdict-clause-as_before : goal.returns-in-Err-push_verdict-clause-as_before
returns-in-Err-push_verdict-clause-as_before g c =
    let same = as_many c.args.ring.now c.args.names.now c.args.stored.now.items c.requires.sound in
    let below : c.args.places.1 < length c.args.stored.now.items = omega (arith, c.requires.within.1, same) in
    undone c.args.stored.now.items c.args.places.1 c.index_mut.result.now c.index.result.now c.keep_basis.new.stored c.index_mut-in-Err-push_verdict.result.now c.forget.new.stored c.lacks_basis-fresh.result
    below c.index_mut.ensures.value c.index.ensures c.lacks_basis-fresh.ensures c.in-Ok.ensures.list c.in-Ok.ensures.known c.index_mut-in-Err-push_verdict.ensures.value c.forget.ensures.fresh c.forget.ensures.known

pub basis-requires : goal.basis-requires
basis-requires g c =
    let item = c.index-2.result.now in
    subst (λ s. IsSome s.basis) (sym c.index-2.ensures)
    (written_bases c.args.stored.now.items c.args.places.1 c.args.places.0 c.keep_basis.new.stored item c.in-Ok.ensures.kept (c.requires.first item))

pub returns-in-Ok-push_verdict-clause-same : goal.returns-in-Ok-push_verdict-clause-same
returns-in-Ok-push_verdict-clause-same g c = c.in-Ok.ensures.same

pub returns-in-Err-push_verdict-clause-stop : goal.returns-in-Err-push_verdict-clause-stop
returns-in-Err-push_verdict-clause-stop g c = λ d e. c.in-Ok.ensures.same

pub returns-in-Err-clause-runs : goal.returns-in-Err-clause-runs
returns-in-Err-clause-runs g c = λ e.
    let same = as_many c.args.ring.now c.args.names.now c.args.stored.now.items c.requires.sound in
    let below : c.args.places.1 < length c.args.stored.now.items = omega (arith, c.requires.within.1, same) in
    subst (λ s. g.B.Groebner.runs c.keep_basis.new.engine ≡ count_after (fresh_runs s) (g.B.Groebner.runs c.args.engine.now))
    (at_place c.args.stored.now.items c.args.places.1 c.index_mut.result.now e below c.index_mut.ensures.value) c.in-Err.ensures.runs

pub returns-in-Ok-push_verdict-clause-runs : goal.returns-in-Ok-push_verdict-clause-runs
returns-in-Ok-push_verdict-clause-runs g c = λ e.
    let same = as_many c.args.ring.now c.args.names.now c.args.stored.now.items c.requires.sound in
    let below : c.args.places.1 < length c.args.stored.now.items = omega (arith, c.requires.within.1, same) in
    subst (λ s. g.B.Groebner.runs c.keep_basis.new.engine ≡ count_after (fresh_runs s) (g.B.Groebner.runs c.args.engine.now))
    (at_place c.args.stored.now.items c.args.places.1 c.index_mut.result.now e below c.index_mut.ensures.value) c.in-Ok.ensures.runs

pub returns-in-Err-push_verdict-clause-runs : goal.returns-in-Err-push_verdict-clause-runs
returns-in-Err-push_verdict-clause-runs g c = λ e.
    let same = as_many c.args.ring.now c.args.names.now c.args.stored.now.items c.requires.sound in
    let below : c.args.places.1 < length c.args.stored.now.items = omega (arith, c.requires.within.1, same) in
    subst (λ s. g.B.Groebner.runs c.keep_basis.new.engine ≡ count_after (fresh_runs s) (g.B.Groebner.runs c.args.engine.now))
    (at_place c.args.stored.now.items c.args.places.1 c.index_mut.result.now e below c.index_mut.ensures.value) c.in-Ok.ensures.runs
