use Rattle.std.proofs.Common.{rules, ◌≡◌, ◌<◌, ◌++◌, ◌∷◌, ◌∙◌, [], ap, length, slice_set, subst, sym, Some, None}
use Rattle.std.specs.Prelude.{string_bytes}
use Rattle.script_parse.proofs.NamePlaces.{given_at, given_new, place_bound}
use Rattle.script_parse.specs.Places.{place_named}
use Rattle.session_values.proofs.Values.{new_sound, new_values, placed_sound, placed_values}
use Rattle.session_values.proofs.names.give_name.Goals as goal

pub index_mut-requires : goal.index_mut-requires
index_mut-requires c =
    let found : place_named c.args.names.now (string_bytes c.args.name) ≡ Some c.in-Some.i =
    ap (place_named c.args.names.now) (sym c.as_bytes.ensures.value) ∙ sym c.place_of.ensures ∙ c.in-Some.is in
    let below : c.in-Some.i < length c.args.names.now = place_bound c.args.names.now _ c.in-Some.i found in
    let within : c.in-Some.i < length c.args.stored.now.items = subst (λ k. c.in-Some.i < k) c.requires below in
    search rules

pub returns-in_ok-give-in-Some-clause-values : goal.returns-in_ok-give-in-Some-clause-values
returns-in_ok-give-in-Some-clause-values c =
    let found : place_named c.args.names.now (string_bytes c.args.name) ≡ Some c.in-Some.i =
    ap (place_named c.args.names.now) (sym c.as_bytes.ensures.value) ∙ sym c.place_of.ensures ∙ c.in-Some.is in
    let names : c.give.new.self ≡ slice_set c.args.names.now c.in-Some.i (record { name = c.args.name; rank = c.args.rank; length = c.len.result }) =
    c.in_ok-give-in-Some.ensures.given ∙ given_at _ c.args.names.now c.in-Some.i found in
    rw (names, c.replace.ensures.after) (placed_values _ _ c.args.names.now c.args.stored.now.items c.in-Some.i c.requires found)

pub returns-in_ok-give-in-Some-clause-sound : goal.returns-in_ok-give-in-Some-clause-sound
returns-in_ok-give-in-Some-clause-sound c = λ ring sound s.
    let found : place_named c.args.names.now (string_bytes c.args.name) ≡ Some c.in-Some.i =
    ap (place_named c.args.names.now) (sym c.as_bytes.ensures.value) ∙ sym c.place_of.ensures ∙ c.in-Some.is in
    let names : c.give.new.self ≡ slice_set c.args.names.now c.in-Some.i (record { name = c.args.name; rank = c.args.rank; length = c.len.result }) =
    c.in_ok-give-in-Some.ensures.given ∙ given_at _ c.args.names.now c.in-Some.i found in
    rw (names, c.replace.ensures.after) (placed_sound _ _ ring c.args.names.now c.args.stored.now.items c.in-Some.i sound s (c.len.ensures ∙ ap length c.list.ensures))

pub returns-in_ok-give-in-None-clause-values : goal.returns-in_ok-give-in-None-clause-values
returns-in_ok-give-in-None-clause-values c =
    let none : place_named c.args.names.now (string_bytes c.args.name) ≡ None =
    ap (place_named c.args.names.now) (sym c.as_bytes.ensures.value) ∙ sym c.place_of.ensures ∙ c.in-None.is in
    let names : c.give-in-None.new.self ≡ c.args.names.now ++ record { name = c.args.name; rank = c.args.rank; length = c.len.result } ∷ [] =
    c.in_ok-give-in-None.ensures.given ∙ given_new _ c.args.names.now none in
    let lists : c.push_reserved.new.self.items ≡ c.args.stored.now.items ++ c.args.value ∷ [] = search rules in
    rw (names, lists) (new_values _ _ c.args.names.now c.args.stored.now.items c.requires none)

pub returns-in_ok-give-in-None-clause-sound : goal.returns-in_ok-give-in-None-clause-sound
returns-in_ok-give-in-None-clause-sound c = λ ring sound s.
    let none : place_named c.args.names.now (string_bytes c.args.name) ≡ None =
    ap (place_named c.args.names.now) (sym c.as_bytes.ensures.value) ∙ sym c.place_of.ensures ∙ c.in-None.is in
    let names : c.give-in-None.new.self ≡ c.args.names.now ++ record { name = c.args.name; rank = c.args.rank; length = c.len.result } ∷ [] =
    c.in_ok-give-in-None.ensures.given ∙ given_new _ c.args.names.now none in
    let lists : c.push_reserved.new.self.items ≡ c.args.stored.now.items ++ c.args.value ∷ [] = search rules in
    rw (names, lists) (new_sound _ _ ring c.args.names.now c.args.stored.now.items sound s (c.len.ensures ∙ ap length c.list.ensures))
