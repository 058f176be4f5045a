use Rattle.std.proofs.Common.{arith, sym, ◌∙◌}
use Rattle.induced_leads.proofs.Inducing.{by_way_at, by_way_same}
use Rattle.induced_leads.proofs.induced.compare_ways.Goals as goal

pub returns-then-left-k : goal.returns-then-left-k
returns-then-left-k c = c.cmp.ensures ∙ sym (by_way_at c.args.left.now c.args.right.now c.loop-k.k c.requires (omega arith) c.loop-k.invariant c.if-left-k.true)

pub returns : goal.returns
returns c = sym (by_way_same c.args.left.now c.args.right.now c.requires (λ j lt. c.loop-k.invariant j (omega arith)))
