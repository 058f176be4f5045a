use Rattle.std.proofs.Common.{arith, length, subst, sym, ◌<◌}
use Rattle.ideal_ops.proofs.OneMoreVariable.{front_monomial}
use Rattle.ideal_ops.proofs.front.variable.Goals as goal

pub variable-requires : goal.variable-requires
variable-requires c = subst (λ r. 0 < length r.weights) (sym c.requires) (omega arith)

pub returns : goal.returns
returns c = front_monomial c.args._ring.now c.args.front.now c.in_ok-variable.field-0 c.requires c.in_ok-variable.ensures.ok c.in_ok-variable.ensures.weighed
