use Rattle.std.proofs.Common.{arith, length, sym, ◌≤◌}
use Rattle.term_lists.specs.Rings.{variables}
use Rattle.row_matrix.proofs.KeyPlaces.{descent_neither}
use Rattle.row_matrix.proofs.numbering.descending.Goals as goal

pub returns : goal.returns
returns g c =
    let n = variables (g.F.Frame.over c.args.frame.now) in
    let keys = c.args.keys.now in
    let left : length keys ≤ c.args.i = omega (arith, c.if-i-keys.false) in
    let right : length keys ≤ c.args.j = omega (arith, c.if-j-keys-2.false) in
    sym (descent_neither n (g.F.Frame.compare c.args.frame.now n) (g.met.F.Frame.laws c.args.frame.now n 0) keys c.args.i c.args.j left right)
