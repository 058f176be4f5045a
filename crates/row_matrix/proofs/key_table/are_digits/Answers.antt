use Rattle.std.proofs.Common.{arith, ◌/◌, ◌≤◌}
use Rattle.std.proofs.lemmas.Bool.{leb-true}
use Rattle.std.specs.Int.Count.{count_leading_zeros}
use Rattle.row_matrix.proofs.Digits.{digits_fit}
use Rattle.row_matrix.proofs.key_table.are_digits.Goals as goal

pub returns-then-degree-from : goal.returns-then-degree-from
returns-then-degree-from c = λ z.
    let few : c.args.n ≤ count_leading_zeros 64 c.args.position / c.args.bits = leb-true _ _ z in
    (digits_fit c.args.base c.args.bits c.args.n c.args.position c.requires.bits (omega arith) few, omega arith)
