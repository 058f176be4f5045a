use Rattle.std.proofs.Common.{List, ℕ}
use Rattle.symbolic_prep.specs.Counts.{IsSparse}
use Rattle.term_lists.specs.Rings.{variables}
use Rattle.symbolic_prep.specs.Hashed.{AreHashed}
use Rattle.symbolic_prep.specs.Plans.{AreClosed, IsLaterPlan}
use Rattle.pair_criteria.specs.Traces.{AreTraced}
use Rattle.symbolic_prep.proofs.reducers.close_plan.Given as goal

abbrev pub invariant-loop-cursor : goal.invariant-loop-cursor
invariant-loop-cursor g l =
    let n = variables l.ring in
    let list = g.L.Vectors.listed l.members in
    record {
      later : IsLaterPlan n l.ring.weights list l.fn.plan.keys l.fn.plan.products.items l.fn.plan.led.items
          l.plan.keys l.plan.rows.items l.plan.products.items l.plan.led.items;
      closed : AreClosed n list l.plan.keys l.plan.led.items l.cursor;
      traced : AreTraced n list l.pairs l.plan.products.items;
      hashed : AreHashed list l.plan.hashes.items;
      sparse : (chosen : List ℕ) (others : ℕ) → IsSparse l.fn.plan.rows.items chosen others → (more : List ℕ) × IsSparse l.plan.rows.items more others;
    }
