use Rattle.std.proofs.Common.{length, take}
use Rattle.formal_sums.specs.FormalSums.{Each}
use Rattle.monomial_orders.specs.Kept.{IsWeighed}
use Rattle.term_lists.specs.Rings.{variables}
use Rattle.basis_steps.specs.States.{vectors}
use Rattle.basis_core.specs.Jobs.{pairs_of}
use Rattle.basis_core.specs.Members.{IsRunRow, members_of, reduct_rows_of, setting_of}
use Rattle.basis_core.specs.Outcomes.{indexed_products_of}
use Rattle.s_vectors.specs.Solutions.{IsSolved}
use Rattle.s_vectors.proofs.solving.solve_pairs.Given as goal

abbrev pub invariant-loop-number : goal.invariant-loop-number
invariant-loop-number l =
    let n = variables l.job.shared.ring in
    record {
      over : Each (IsRunRow l.job.shared (length l.job.members)) l.solution.rows.items;
      weighed : Each (λ t. IsWeighed n l.job.shared.ring.weights t.1) l.solution.products.items;
      solved :
          IsSolved (setting_of n l.job.shared) (vectors (members_of n l.job.members)) (pairs_of (take l.number l.job.pairs))
          (reduct_rows_of n l.solution.rows.items) (indexed_products_of n l.solution.products.items);
    }
