use Rattle.std.proofs.Common.{arith, mod-lt, ◌%◌, ◌/◌, ◌<◌}
use Rattle.sparse_poly.proofs.DigitPowers.{div_less, div_mod, mul_room}
use Rattle.sparse_poly.proofs.digits.digits_of.Goals as goal

pub returns-clause-parts : goal.returns-clause-parts
returns-clause-parts c = div_mod c.args.n c.args.p (omega arith)

pub returns-clause-less : goal.returns-clause-less
returns-clause-less c = div_less c.args.n c.args.p c.requires.base c.requires.long

pub returns-clause-less_digit : goal.returns-clause-less_digit
returns-clause-less_digit c =
    let lt : c.args.n % c.args.p < c.args.p = mod-lt c.args.n (omega arith) in
    omega arith

pub returns-clause-small : goal.returns-clause-small
returns-clause-small c =
    let lt : c.args.n / c.args.p < c.args.n = div_less c.args.n c.args.p c.requires.base c.requires.long in
    mul_room (c.args.n / c.args.p) c.args.n c.args._d (omega arith) c.requires.small

pub returns-clause-small_digit : goal.returns-clause-small_digit
returns-clause-small_digit c =
    let lt : c.args.n % c.args.p < c.args.p = mod-lt c.args.n (omega arith) in
    mul_room (c.args.n % c.args.p) c.args.n c.args._d (omega arith) c.requires.small
