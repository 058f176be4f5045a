use Rattle.std.proofs.Common.{subst, sym, ◌++◌}
use Rattle.poly_value.proofs.Sums.{joined_part}
use Rattle.poly_value.specs.Parts.{IsOperandPart}
use Rattle.poly_value.proofs.operands.joined.Goals as goal

pub returns : goal.returns
returns g c = λ v w hv hw.
    let ring = g.F.Frame.over c.args.frame.now in
    c.merged.ensures (v ++ w)
    (subst (IsOperandPart ring (v ++ w)) (sym c.in_ok-append.ensures.items) (joined_part ring v w c.args.left.terms.items c.args.right.terms.items hv hw))
