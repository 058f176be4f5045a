use Rattle.std.proofs.Common.{arith, sym}
use Rattle.std.proofs.lemmas.Int.{to_z-of_z}
use Rattle.hilbert_series.proofs.Coefs.{shifted_below, shifted_from}
use Rattle.hilbert_series.proofs.coefficients.shifted_coefficient.Goals as goal

pub returns-then-d-m : goal.returns-then-d-m
returns-then-d-m c = sym (shifted_below c.args.list.now c.args.m c.args.d c.if-d-m.true)

pub returns-else-d-m : goal.returns-else-d-m
returns-else-d-m c =
    let a = c.coefficient.ensures in
    let b = shifted_from c.args.list.now c.args.m c.args.d (let f = c.if-d-m.false in omega (arith, f)) in
    grind (arith, to_z-of_z)
