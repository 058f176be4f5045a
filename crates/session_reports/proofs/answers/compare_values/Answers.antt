use Rattle.std.proofs.Common.{List, ℕ, inl, inr, ◌++◌, ◌<◌, ◌≡◌, ◌∙◌, ap, arith, get_or, length, refl, rules, slice_set, subst, subst₂, sym}
use Rattle.groebner_iface.specs.Stops.{op_stop_of_run}
use Rattle.groebner_iface.specs.Calls.{CallStops, NoTrail}
use Rattle.session_values.specs.Kept.{IsSound}
use Rattle.session_reports.specs.Parts.{IsRunAtEither, Keeps}
use Rattle.session_values.specs.Answers.{Decides, IsOneModule}
use Rattle.session_reports.proofs.KeptValues.{at_place, length_written, undone, written_basis, written_lists}
use Rattle.groebner_iface.proofs.CallingRuns.{more_stops}
use Rattle.session_reports.proofs.Stopping.{no_trail, placed_run, run_fails}
use Rattle.session_values.proofs.Values.{as_many, kept_sound, sound_at}
use Rattle.session_values.specs.Held.{StoredShown}
use Rattle.session_reports.proofs.Counted.{both_there, first_ran}
use Rattle.session_reports.proofs.answers.compare_values.Goals as goal

pub index-requires : goal.index-requires
index-requires g c =
    let same = as_many c.args.ring.now c.args.names.now c.args.stored.now.items c.requires.sound in
    let below : c.args.places.0 < length c.args.stored.now.items = omega (arith, c.requires.within.0, same) in
    search rules

pub index_mut-requires : goal.index_mut-requires
index_mut-requires g c =
    let same = as_many c.args.ring.now c.args.names.now c.args.stored.now.items c.requires.sound in
    let below : c.args.places.0 < length c.args.stored.now.items = omega (arith, c.requires.within.0, same) in
    search rules

pub keep_basis-requires-clause-sound : goal.keep_basis-requires-clause-sound
keep_basis-requires-clause-sound g c κs within =
    subst₂ (λ d s. IsSound c.args.ring.now d.rank s) (sym c.info_at.ensures) (sym c.index_mut.ensures.value)
    (sound_at c.args.ring.now c.args.names.now c.args.stored.now.items c.args.places.0 c.index_mut.result.now c.info_at.result.now c.requires.sound c.requires.within.0)

pub returns-in-Err-clause-stop : goal.returns-in-Err-clause-stop
returns-in-Err-clause-stop g c = λ d e.
    let same = as_many c.args.ring.now c.args.names.now c.args.stored.now.items c.requires.sound in
    let below : c.args.places.0 < length c.args.stored.now.items = omega (arith, c.requires.within.0, same) in
    rw c.from.ensures
    (more_stops _ _ _ _ _ _ _ _
    (λ r m l h. inl (placed_run c.args.ring.now c.args.names.now c.args.stored.now.items c.args.places.0 d e c.info_at.result.now c.index_mut.result.now
    c.requires.within.0 below c.info_at.ensures c.index_mut.ensures.value r m l h))
    (no_trail NoTrail) (op_stop_of_run c.in-Err.stop)
    (run_fails _ _ _ _ NoTrail c.args.ring.now c.info_at.result.now c.index_mut.result.now c.in-Err.stop c.in-Err.ensures.none.0 c.in-Err.ensures.stop))

pub compare_with-requires-clause-sound : goal.compare_with-requires-clause-sound
compare_with-requires-clause-sound g c κs within =
    kept_sound c.args.ring.now c.args.names.now c.args.stored.now.items c.args.places.0 c.keep_basis.new.stored c.index_mut.result.now c.info_at.result.now c.requires.sound
    (subst (λ d. IsSound c.args.ring.now d.rank c.keep_basis.new.stored) c.info_at.ensures c.in-Ok.ensures.sound)
    (c.in-Ok.ensures.list ∙ ap (λ s. s.list) c.index_mut.ensures.value)

pub compare_with-requires-clause-first : goal.compare_with-requires-clause-first
compare_with-requires-clause-first g c κs within = λ e.
    let same = as_many c.args.ring.now c.args.names.now c.args.stored.now.items c.requires.sound in
    let below : c.args.places.0 < length c.args.stored.now.items = omega (arith, c.requires.within.0, same) in
    written_basis c.args.stored.now.items c.args.places.0 c.keep_basis.new.stored e below c.in-Ok.ensures.kept

pub index_mut-requires-in-Err-compare_with : goal.index_mut-requires-in-Err-compare_with
index_mut-requires-in-Err-compare_with g c =
    let same = as_many c.args.ring.now c.args.names.now c.args.stored.now.items c.requires.sound in
    let below : c.args.places.0 < length c.args.stored.now.items = omega (arith, c.requires.within.0, same) in
    let more : length c.compare_with.new.stored.items ≡ length c.args.stored.now.items = ap length c.in-Err-compare_with.ensures.as_before ∙ length_written c.args.stored.now.items c.args.places.0 c.keep_basis.new.stored in
    let within : c.args.places.0 < length c.compare_with.new.stored.items = omega (arith, below, more) in
    search rules

pub returns-in-Ok-compare_with-clause-kept : goal.returns-in-Ok-compare_with-clause-kept
returns-in-Ok-compare_with-clause-kept g c =
    let same = as_many c.args.ring.now c.args.names.now c.args.stored.now.items c.requires.sound in
    let below : c.args.places.0 < length c.args.stored.now.items = omega (arith, c.requires.within.0, same) in (
      slice_set c.args.stored.now.items c.args.places.0 c.keep_basis.new.stored,
      record {
        item = c.keep_basis.new.stored;
        written = refl;
        some = c.in-Ok.ensures.kept;
        list = λ e. c.in-Ok.ensures.list ∙ ap (λ s. s.list) (at_place c.args.stored.now.items c.args.places.0 c.index_mut.result.now e below c.index_mut.ensures.value);
      },
      c.in-Ok-compare_with.ensures.kept,
    )

pub returns-in-Ok-compare_with-clause-text : goal.returns-in-Ok-compare_with-clause-text
returns-in-Ok-compare_with-clause-text g c = λ e.
    let same = as_many c.args.ring.now c.args.names.now c.args.stored.now.items c.requires.sound in
    let below : c.args.places.0 < length c.args.stored.now.items = omega (arith, c.requires.within.0, same) in
    let lists : (k : ℕ) → (get_or (slice_set c.args.stored.now.items c.args.places.0 c.keep_basis.new.stored) k e).list ≡ (get_or c.args.stored.now.items k e).list =
    λ k. written_lists c.args.stored.now.items c.args.places.0 k c.keep_basis.new.stored e
    (c.in-Ok.ensures.list ∙ ap (λ s. s.list) (at_place c.args.stored.now.items c.args.places.0 c.index_mut.result.now e below c.index_mut.ensures.value)) in
    subst₂ (λ l r. (text : List ℕ) × Decides (IsOneModule c.args.ring.now l r) text × (c.compare_with.new.out ≡ c.args.out.now ++ text))
    (lists c.args.places.0) (lists c.args.places.1) (c.in-Ok-compare_with.ensures.text e)

pub returns-in-Err-compare_with-clause-as_before : goal.returns-in-Err-compare_with-clause-as_before
returns-in-Err-compare_with-clause-as_before g c =
    let same = as_many c.args.ring.now c.args.names.now c.args.stored.now.items c.requires.sound in
    let below : c.args.places.0 < length c.args.stored.now.items = omega (arith, c.requires.within.0, same) in
    let item = c.keep_basis.new.stored in
    let again = c.index_mut-in-Err-compare_with.result.now in
    subst (λ xs. slice_set xs c.args.places.0 c.forget.new.stored ≡ c.args.stored.now.items) (sym {A = List StoredShown} c.in-Err-compare_with.ensures.as_before)
    (undone c.args.stored.now.items c.args.places.0 c.index_mut.result.now c.index.result.now item again c.forget.new.stored c.lacks_basis-fresh.result
    below c.index_mut.ensures.value c.index.ensures c.lacks_basis-fresh.ensures c.in-Ok.ensures.list c.in-Ok.ensures.known
    (subst (λ xs. again ≡ get_or xs c.args.places.0 again) c.in-Err-compare_with.ensures.as_before c.index_mut-in-Err-compare_with.ensures.value)
    c.forget.ensures.fresh c.forget.ensures.known)

pub returns-in-Err-compare_with-clause-stop : goal.returns-in-Err-compare_with-clause-stop
returns-in-Err-compare_with-clause-stop g c = λ d e.
    let same = as_many c.args.ring.now c.args.names.now c.args.stored.now.items c.requires.sound in
    let below : c.args.places.0 < length c.args.stored.now.items = omega (arith, c.requires.within.0, same) in
    let keeps : Keeps c.args.stored.now.items c.args.places.0 (slice_set c.args.stored.now.items c.args.places.0 c.keep_basis.new.stored) = record {
      item = c.keep_basis.new.stored;
      written = refl;
      some = c.in-Ok.ensures.kept;
      list = λ e'. c.in-Ok.ensures.list ∙ ap (λ s. s.list) (at_place c.args.stored.now.items c.args.places.0 c.index_mut.result.now e' below c.index_mut.ensures.value);
    } in
    subst₂
    (λ a b. CallStops (IsRunAtEither c.args.ring.now c.args.names.now c.args.stored.now.items c.args.places d e) NoTrail
    a (g.B.Groebner.stops c.compare_with.new.engine) b (g.B.Groebner.stopped c.compare_with.new.engine) c.in-Err-compare_with.stop)
    c.in-Ok.ensures.same.0 c.in-Ok.ensures.same.1
    (more_stops _ _ _ _ _ _ _ _ (λ r m l h. inr (slice_set c.args.stored.now.items c.args.places.0 c.keep_basis.new.stored, keeps, h)) (no_trail NoTrail)
    c.in-Err-compare_with.stop (c.in-Err-compare_with.ensures.stop d e))

pub compare_with-requires-clause-within : goal.compare_with-requires-clause-within
compare_with-requires-clause-within g c κs within = c.requires.within

pub compare_with-requires-clause-rank : goal.compare_with-requires-clause-rank
compare_with-requires-clause-rank g c κs within = c.requires.rank

pub returns-in-Ok-compare_with-clause-sound : goal.returns-in-Ok-compare_with-clause-sound
returns-in-Ok-compare_with-clause-sound g c = c.in-Ok-compare_with.ensures.sound

pub returns-in-Ok-compare_with-clause-same : goal.returns-in-Ok-compare_with-clause-same
returns-in-Ok-compare_with-clause-same g c =
    let first = c.in-Ok.ensures.same in
    let second = c.in-Ok-compare_with.ensures.same in
    (second.0 ∙ first.0, second.1 ∙ first.1)

pub returns-in-Err-clause-runs : goal.returns-in-Err-clause-runs
returns-in-Err-clause-runs g c = λ e.
    let same = as_many c.args.ring.now c.args.names.now c.args.stored.now.items c.requires.sound in
    let below : c.args.places.0 < length c.args.stored.now.items = omega (arith, c.requires.within.0, same) in
    first_ran c.args.stored.now.items c.args.places.0 c.args.places.1 c.index_mut.result.now e (g.B.Groebner.runs c.args.engine.now)
    (g.B.Groebner.runs c.keep_basis.new.engine) below c.index_mut.ensures.value c.in-Err.ensures.runs

pub returns-in-Ok-compare_with-clause-runs : goal.returns-in-Ok-compare_with-clause-runs
returns-in-Ok-compare_with-clause-runs g c = λ e.
    let same = as_many c.args.ring.now c.args.names.now c.args.stored.now.items c.requires.sound in
    let below : c.args.places.0 < length c.args.stored.now.items = omega (arith, c.requires.within.0, same) in
    both_there c.args.stored.now.items c.args.places.0 c.args.places.1 c.index_mut.result.now e (g.B.Groebner.runs c.args.engine.now)
    (g.B.Groebner.runs c.keep_basis.new.engine) below c.index_mut.ensures.value c.in-Ok.ensures.runs c.keep_basis.new.stored
    (g.B.Groebner.runs c.compare_with.new.engine) c.in-Ok.ensures.list c.in-Ok.ensures.kept (c.in-Ok-compare_with.ensures.runs e)

pub returns-in-Err-compare_with-clause-runs : goal.returns-in-Err-compare_with-clause-runs
returns-in-Err-compare_with-clause-runs g c = λ e.
    let same = as_many c.args.ring.now c.args.names.now c.args.stored.now.items c.requires.sound in
    let below : c.args.places.0 < length c.args.stored.now.items = omega (arith, c.requires.within.0, same) in
    both_there c.args.stored.now.items c.args.places.0 c.args.places.1 c.index_mut.result.now e (g.B.Groebner.runs c.args.engine.now)
    (g.B.Groebner.runs c.keep_basis.new.engine) below c.index_mut.ensures.value c.in-Ok.ensures.runs c.keep_basis.new.stored
    (g.B.Groebner.runs c.compare_with.new.engine) c.in-Ok.ensures.list c.in-Ok.ensures.kept (c.in-Err-compare_with.ensures.runs e)
