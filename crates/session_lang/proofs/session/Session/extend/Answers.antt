use Rattle.std.proofs.Common.{None, Some, arith, length, rules, subst, sym, ◌<◌, ◌≡◌, ap, ◌∙◌}
use Rattle.std.proofs.lemmas.Result.{on_err_weaker, on_ok_weaker}
use Rattle.script_parse.specs.Places.{place_named}
use Rattle.session_lang.specs.Fitting.{IsGiven}
use Rattle.session_values.specs.Kept.{value_of}
use Rattle.session_lang.proofs.Finding.{place_given}
use Rattle.session_lang.proofs.Performing.{extended_performed}
use Rattle.session_lang.proofs.Placing.{is_placed, placed_after, placed_has, placed_keeps, placed_same, placed_sound}
use Rattle.script_parse.proofs.NamePlaces.{place_bound}
use Rattle.session_values.proofs.Values.{kept_as_many}
use Rattle.session_lang.proofs.StatedRuns.{extended_ran}
use Rattle.session_lang.proofs.session.Session.extend.Goals as goal

pub unreachable-requires-in_default-place_of : goal.unreachable-requires-in_default-place_of
unreachable-requires-in_default-place_of g c =
    let none : place_named c.self.inside.names c.as_bytes.result.now ≡ None = search rules in
    place_given c.args.self.now c.self.inside.ring c.self.inside.names c.self.inside.stored.items c.self.view_is c.as_bytes.result.now
    (subst (IsGiven c.args.self.now) (sym c.as_bytes.ensures.value) c.requires) none

pub info_at-requires : goal.info_at-requires
info_at-requires g c =
    let found : place_named c.self.inside.names c.as_bytes.result.now ≡ Some c.in-Some-place_of.i = search rules in
    let below = place_bound c.self.inside.names c.as_bytes.result.now c.in-Some-place_of.i found in
    search rules

pub index_mut-requires : goal.index_mut-requires
index_mut-requires g c =
    let infos = c.self.inside.names in
    let stored = c.self.inside.stored.items in
    let same = kept_as_many c.self.inside.ring infos stored c.self.invariant in
    let found : place_named infos c.as_bytes.result.now ≡ Some c.in-Some-place_of.i = search rules in
    let below : c.in-Some-place_of.i < length stored = omega (arith, place_bound infos c.as_bytes.result.now c.in-Some-place_of.i found, same) in
    search rules

pub extend_value-requires-clause-sound : goal.extend_value-requires-clause-sound
extend_value-requires-clause-sound g c κs within =
    let infos = c.self.inside.names in
    let found : place_named infos c.as_bytes.result.now ≡ Some c.in-Some-place_of.i = search rules in
    let placed = is_placed infos c.self.inside.stored.items c.self.view_is c.self.invariant c.in-Some.is found c.info_at.ensures c.index_mut.ensures.value in
    placed_sound placed

pub invariant_of-self : goal.invariant_of-self
invariant_of-self g c =
    let infos = c.self.inside.names in
    let found : place_named infos c.as_bytes.result.now ≡ Some c.in-Some-place_of.i = search rules in
    let placed = is_placed infos c.self.inside.stored.items c.self.view_is c.self.invariant c.in-Some.is found c.info_at.ensures c.index_mut.ensures.value in
    placed_keeps placed c.extend_value.new.stored c.extend_value.ensures.list c.extend_value.ensures.sound

pub returns-clause-performed : goal.returns-clause-performed
returns-clause-performed g c =
    let infos = c.self.inside.names in
    let found : place_named infos c.as_bytes.result.now ≡ Some c.in-Some-place_of.i = search rules in
    let placed = is_placed infos c.self.inside.stored.items c.self.view_is c.self.invariant c.in-Some.is found c.info_at.ensures c.index_mut.ensures.value in
    let called = c.extend_value.result in
    let item = c.extend_value.new.stored in
    let e = c.extend_value.ensures in
    extended_performed called c.done.result c.args.name.now c.args.step c.as_bytes.result.now c.in-Some.ring (value_of c.info_at.result.now c.index_mut.result.now)
    c.as_bytes.ensures.value (placed_has placed) c.done.ensures.ok c.done.ensures.err
    (on_err_weaker called (placed_same placed item) e.as_before) e.unwritten e.same
    (on_ok_weaker called (placed_after placed item e.list) e.kept) e.text e.stop

pub returns-clause-runs : goal.returns-clause-runs
returns-clause-runs g c =
    let infos = c.self.inside.names in
    let found : place_named infos c.as_bytes.result.now ≡ Some c.in-Some-place_of.i = search rules in
    let placed = is_placed infos c.self.inside.stored.items c.self.view_is c.self.invariant c.in-Some.is found c.info_at.ensures c.index_mut.ensures.value in
    let stated = ap (λ s. s.ring) (sym c.self.view_is) ∙ c.in-Some.is in
    extended_ran c.args.self.now c.args.name.now _ _ c.as_bytes.result.now c.in-Some.ring c.info_at.result.now c.index_mut.result.now c.as_bytes.ensures.value (placed_has placed) c.args.step stated c.extend_value.ensures.runs
