use Rattle.std.proofs.Common.{length, take, ◌*◌, ◌+◌, ◌≤◌}
use Rattle.formal_sums.specs.FormalSums.{Each}
use Rattle.term_lists.specs.Rings.{variables}
use Rattle.symbolic_prep.specs.Hashed.{AreHashed}
use Rattle.symbolic_prep.specs.Plans.{HasPairProducts, IsLaterPlan}
use Rattle.pair_criteria.specs.Traces.{AreTraced}
use Rattle.symbolic_prep.proofs.pairs.add_pairs.Given as goal

abbrev pub invariant-loop-i : goal.invariant-loop-i
invariant-loop-i g l =
    let n = variables l.ring in
    let list = g.L.Vectors.listed l.members in
    record {
      later : IsLaterPlan n l.ring.weights list l.fn.plan.keys l.fn.plan.products.items l.fn.plan.led.items
          l.plan.keys l.plan.rows.items l.plan.products.items l.plan.led.items;
      pairs : Each (HasPairProducts n list l.plan.products.items) (take l.i l.pairs);
      traced : AreTraced n list l.pairs l.plan.products.items;
      hashed : AreHashed list l.plan.hashes.items;
      count : length l.plan.rows.items ≤ length l.fn.plan.rows.items + 2 * l.i;
    }
