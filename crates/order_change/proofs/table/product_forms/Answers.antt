use Rattle.std.proofs.Common.{arith, length}
use Rattle.monomial_orders.specs.Comparisons.{comparison}
use Rattle.term_lists.specs.Vectors.{sums_of}
use Rattle.order_change.proofs.Filling.{filling_first}
use Rattle.monomial_orders.specs.Kept.{monomials}
use Rattle.order_change.proofs.table.product_forms.Goals as goal

pub loop-turns-init : goal.loop-turns-init
loop-turns-init c =
    let ring = c.args.ring.now in
    let n = length ring.weights in
    filling_first (comparison ring.order ring.weights n) ring.modulus.value (sums_of n c.args.basis.now) (monomials n c.args.standard.now) c.in_ok-turns.turns c.in_ok-table.table
    (omega (arith, c.in_ok-turns.ensures.long)) c.in_ok-turns.ensures.zeros (omega (arith, c.in_ok-table.ensures.long)) c.in_ok-table.ensures.rows

pub fill_next-requires-clause-given : goal.fill_next-requires-clause-given
fill_next-requires-clause-given c = c.requires
