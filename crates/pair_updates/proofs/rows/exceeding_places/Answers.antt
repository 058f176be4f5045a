use Rattle.std.proofs.Common.{arith}
use Rattle.pair_updates.proofs.RowMasks.{mask_of_four, told_length, told_small}
use Rattle.pair_updates.proofs.rows.exceeding_places.Goals as goal

pub places_above-requires : goal.places_above-requires
places_above-requires c =
    let a = c.args.a.now in
    let b = c.args.b.now in
    let es = c.excesses-excess.result in
    let is = c.excesses-excess.ensures in
    record { long = told_length a b c.told-a c.told-b es is; bytes = told_small a b es is; number = omega arith }

pub places_above-requires-2 : goal.places_above-requires-2
places_above-requires-2 c =
    let a = c.args.a.now in
    let b = c.args.b.now in
    let es = c.excesses-excess.result in
    let is = c.excesses-excess.ensures in
    record { long = told_length a b c.told-a c.told-b es is; bytes = told_small a b es is; number = omega arith }

pub places_above-requires-3 : goal.places_above-requires-3
places_above-requires-3 c =
    let a = c.args.a.now in
    let b = c.args.b.now in
    let es = c.excesses-excess.result in
    let is = c.excesses-excess.ensures in
    record { long = told_length a b c.told-a c.told-b es is; bytes = told_small a b es is; number = omega arith }

pub places_above-requires-4 : goal.places_above-requires-4
places_above-requires-4 c =
    let a = c.args.a.now in
    let b = c.args.b.now in
    let es = c.excesses-excess.result in
    let is = c.excesses-excess.ensures in
    record { long = told_length a b c.told-a c.told-b es is; bytes = told_small a b es is; number = omega arith }

pub returns : goal.returns
returns c =
    mask_of_four c.args.a.now c.args.b.now c.told-a c.told-b c.excesses-excess.result c.excesses-excess.ensures
    c.places_above.result c.places_above-2.result c.places_above-3.result c.places_above-4.result
    c.places_above.ensures c.places_above-2.ensures c.places_above-3.ensures c.places_above-4.ensures
