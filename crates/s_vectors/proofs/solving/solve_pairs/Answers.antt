use Rattle.std.proofs.Common.{List, ap, arith, get_or, length, subst, subst₂, sym, ◌∙◌, ◌≡◌, ◌<◌, ◌≤◌}
use Rattle.formal_sums.proofs.WeightedSums.{Each_append}
use Rattle.formal_sums.specs.FormalSums.{Each}
use Rattle.basis_core.specs.Members.{IsRunRow, Shared, MemberShown}
use Rattle.monomial_orders.specs.Kept.{IsWeighed}
use Rattle.term_lists.specs.Rings.{variables}
use Rattle.s_vectors.proofs.Collecting.{solved_job, solved_step}
use Rattle.s_vectors.proofs.JobTrails.{job_pair}
use Rattle.s_vectors.specs.Divided.{AreOfPair}
use Rattle.s_vectors.specs.Solutions.{IsSolvedPair, row_list}
use Rattle.s_vectors.proofs.solving.solve_pairs.Goals as goal

pub divide_pair-requires : goal.divide_pair-requires
divide_pair-requires c =
    let j = c.args.job.now in
    let x = c.pair-item.result in
    let lt : c.loop-number.number < length j.pairs = omega (arith, ap length c.pairs-pair-items.ensures) in
    let is : x ≡ get_or j.pairs c.loop-number.number x = c.pair-item.is ∙ ap (λ xs. get_or xs c.loop-number.number x) c.pairs-pair-items.ensures in
    record {
      pair = subst₂ (λ (s : Shared) (l : List MemberShown). AreOfPair (record { shared = s; list = l }) x) (sym c.members.ensures.shared) (sym c.members.ensures.list)
          (job_pair j c.loop-number.number x c.kept.ensures lt is);
    }

pub loop-number-preserved : goal.loop-number-preserved
loop-number-preserved c =
    let j = c.args.job.now in
    let x = c.pair-item.result in
    let n = variables j.shared.ring in
    let i = c.loop-number.invariant in
    let lt : c.loop-number.number < length j.pairs = omega (arith, ap length c.pairs-pair-items.ensures) in
    let is : x ≡ get_or j.pairs c.loop-number.number x = c.pair-item.is ∙ ap (λ xs. get_or xs c.loop-number.number x) c.pairs-pair-items.ensures in
    let s : IsSolvedPair (record { shared = j.shared; list = j.members }) x c.in-Ok.division =
    subst₂ (λ (s : Shared) (l : List MemberShown). IsSolvedPair (record { shared = s; list = l }) x c.in-Ok.division) c.members.ensures.shared c.members.ensures.list c.in-Ok.ensures.solved in
    record {
      over = subst (Each (IsRunRow j.shared (length j.members))) (sym c.in_ok-add_division-in-Ok.ensures.rows) (Each_append _ c.loop-number.solution.rows.items (row_list c.in-Ok.division.row) i.over s.over);
      weighed = subst (Each (λ t. IsWeighed n j.shared.ring.weights t.1)) (sym c.in_ok-add_division-in-Ok.ensures.products) (Each_append _ c.loop-number.solution.products.items c.in-Ok.division.products.items i.weighed s.weighed);
      solved = solved_step j c.loop-number.number x c.loop-number.solution.rows.items (row_list c.in-Ok.division.row) c.add_division.new.solution.rows.items c.loop-number.solution.products.items c.in-Ok.division.products.items c.add_division.new.solution.products.items
          c.kept.ensures lt is c.in_ok-add_division-in-Ok.ensures.rows c.in_ok-add_division-in-Ok.ensures.products i.solved s.solved;
    }

pub returns-clause-outcome : goal.returns-clause-outcome
returns-clause-outcome c =
    let j = c.args.job.now in
    let i = c.loop-number.invariant in
    let le : length j.pairs ≤ c.loop-number.number = omega (arith, ap length c.pairs-pair-items.ensures) in
    solved_job j c.loop-number.number c.loop-number.solution.rows.items c.loop-number.solution.products.items c.kept.ensures le i.over i.weighed i.solved
