use Rattle.std.proofs.Common.{◌<◌, ◌∙◌, sym, ap, map, [], length}
use Rattle.std.proofs.lemmas.List.{get_or-map, length-map}
use Rattle.std.specs.Cmp.Lexicographic.{pointwise}
use Rattle.std.specs.Prelude.{nat_eq, string_bytes}
use Rattle.poly_value.proofs.Places.{found, missed}
use Rattle.poly_value.proofs.names.place.Goals as goal

pub returns-then-is_text : goal.returns-then-is_text
returns-then-is_text c =
    let all = c.as_slice-all.result.now in
    let lt : c.loop-i.i < length (map string_bytes all) = rw length-map (c.loop-i-test.true) in
    let item = get_or-map string_bytes all c.loop-i.i c.index-all-i.result [] c.loop-i-test.true in
    let name = item ∙ ap string_bytes (sym c.index-all-i.is) ∙ sym c.as_bytes.ensures.value in
    let hit = ap (λ v. pointwise nat_eq v c.args.text.now) name ∙ sym c.is_text.ensures ∙ c.if-is_text.true in
    sym (found (map string_bytes all) c.args.text.now c.loop-i.i lt hit) ∙ c.loop-i.invariant

pub loop-i-preserved : goal.loop-i-preserved
loop-i-preserved c =
    let all = c.as_slice-all.result.now in
    let lt : c.loop-i.i < length (map string_bytes all) = rw length-map (c.loop-i-test.true) in
    let item = get_or-map string_bytes all c.loop-i.i c.index-all-i.result [] c.loop-i-test.true in
    let name = item ∙ ap string_bytes (sym c.index-all-i.is) ∙ sym c.as_bytes.ensures.value in
    let miss = ap (λ v. pointwise nat_eq v c.args.text.now) name ∙ sym c.is_text.ensures ∙ c.if-is_text.false in
    sym (missed (map string_bytes all) c.args.text.now c.loop-i.i lt miss) ∙ c.loop-i.invariant
