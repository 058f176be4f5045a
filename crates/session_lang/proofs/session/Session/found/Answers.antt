use Rattle.std.proofs.Common.{None, Some, arith, length, rules, subst₂, sym, ◌<◌, ◌≡◌}
use Rattle.script_parse.specs.Places.{place_named}
use Rattle.session_values.specs.Kept.{IsSound, value_of}
use Rattle.session_values.specs.Names.{HasValue}
use Rattle.session_lang.proofs.Finding.{has_value, place_given, sound_over}
use Rattle.script_parse.proofs.NamePlaces.{place_bound}
use Rattle.session_values.proofs.Values.{kept_as_many, sound_at}
use Rattle.session_lang.proofs.session.Session.found.Goals as goal

pub unreachable-requires-in_default-place_of : goal.unreachable-requires-in_default-place_of
unreachable-requires-in_default-place_of c =
    let none : place_named c.self.inside.names c.args.name.now ≡ None = search rules in
    place_given c.args.self.now c.self.inside.ring c.self.inside.names c.self.inside.stored.items c.self.view_is c.args.name.now c.requires none

pub info_at-requires : goal.info_at-requires
info_at-requires c =
    let found : place_named c.self.inside.names c.args.name.now ≡ Some c.in-Some-place_of.i = search rules in
    let below = place_bound c.self.inside.names c.args.name.now c.in-Some-place_of.i found in
    search rules

pub index-requires : goal.index-requires
index-requires c =
    let found : place_named c.self.inside.names c.args.name.now ≡ Some c.in-Some-place_of.i = search rules in
    let same = kept_as_many c.self.inside.ring c.self.inside.names c.self.inside.stored.items c.self.invariant in
    let below : c.in-Some-place_of.i < length c.self.inside.stored.items =
    omega (arith, place_bound c.self.inside.names c.args.name.now c.in-Some-place_of.i found, same) in
    search rules

pub returns-clause-sound : goal.returns-clause-sound
returns-clause-sound c =
    let found : place_named c.self.inside.names c.args.name.now ≡ Some c.in-Some-place_of.i = search rules in
    subst₂ (λ i s. IsSound c.in-Some.ring i.rank s) (sym c.info_at.ensures) (sym c.index.ensures)
    (sound_at c.in-Some.ring c.self.inside.names c.self.inside.stored.items c.in-Some-place_of.i c.index.result.now c.info_at.result.now
    (sound_over c.args.self.now c.self.inside.ring c.self.inside.names c.self.inside.stored.items c.self.view_is c.in-Some.ring c.self.invariant c.in-Some.is)
    (place_bound c.self.inside.names c.args.name.now c.in-Some-place_of.i found))

pub returns-clause-has : goal.returns-clause-has
returns-clause-has c =
    let found : place_named c.self.inside.names c.args.name.now ≡ Some c.in-Some-place_of.i = search rules in
    let same = kept_as_many c.self.inside.ring c.self.inside.names c.self.inside.stored.items c.self.invariant in
    subst₂ (λ i s. HasValue c.args.self.now c.args.name.now c.in-Some.ring (value_of i s)) (sym c.info_at.ensures) (sym c.index.ensures)
    (has_value c.args.self.now c.self.inside.ring c.self.inside.names c.self.inside.stored.items c.self.view_is c.in-Some.ring c.args.name.now c.in-Some-place_of.i c.info_at.result.now c.index.result.now same c.in-Some.is found)
