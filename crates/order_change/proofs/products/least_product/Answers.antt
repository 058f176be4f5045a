use Rattle.std.proofs.Common.{length, subst, sym, ◌+◌, ◌≤◌, arith}
use Rattle.std.specs.Prelude.{slice_index}
use Rattle.monomial_orders.specs.Comparisons.{comparison}
use Rattle.monomial_orders.specs.Laws.{comparison_order}
use Rattle.order_change.proofs.Turns.{IsLeastOf, least_passed, least_taken}
use Rattle.order_change.proofs.products.least_product.Goals.{then-at-list+in_ok-candidate, else-at-list}
use Rattle.order_change.proofs.products.least_product.Goals as goal

pub loop-v-preserved : goal.loop-v-preserved
loop-v-preserved c =
    let ws = c.args.weights.now in
    let n = length ws in
    let compare = comparison c.args.order ws n in
    let o = comparison_order c.args.order ws n in
    let list = c.args.list.now in
    let turn = slice_index c.args.turns.now in
    let i = c.loop-v.v in
    elim c.if-at-list.branch [
      | then-at-list+in_ok-candidate w ↦
          subst (IsLeastOf n ws compare o list turn (i + 1)) (sym w.least-is)
          (least_taken n ws compare o list turn i c.loop-v.least w.in_ok-candidate.candidate w.lower.result c.loop-v.invariant
          w.in_ok-candidate.ensures.candidate w.in_ok-candidate.ensures.variable w.lower.ensures.either w.lower.ensures.first w.lower.ensures.second)
      | else-at-list w ↦
          let over : length list ≤ turn i = omega arith in
          subst (IsLeastOf n ws compare o list turn (i + 1)) (sym w.least-is) (least_passed n ws compare o list turn i c.loop-v.least c.loop-v.invariant over)
    ]

pub candidate_of-requires-clause-list : goal.candidate_of-requires-clause-list
candidate_of-requires-clause-list c = c.requires.list

pub candidate_of-requires-clause-room : goal.candidate_of-requires-clause-room
candidate_of-requires-clause-room c = c.requires.room

pub candidate_of-requires-clause-turns : goal.candidate_of-requires-clause-turns
candidate_of-requires-clause-turns c = c.requires.turns
