use Rattle.std.proofs.Common.{arith, subst, sym, ◌+◌, ◌≡◌}
use Rattle.minimal_betti.specs.Growing.{IsTableTo}
use Rattle.minimal_betti.proofs.Growing.{below_none, new_entry, table_step}
use Rattle.minimal_betti.proofs.tables.push_step.Goals as goal

pub returns-then-least-eq-NONE : goal.returns-then-least-eq-NONE
returns-then-least-eq-NONE c = λ counts is h.
    table_step counts c.loop-step.entries.items c.args.step c.loop-step.from
    (c.loop-step.invariant.table counts is h) c.least_from-least.result c.args.degrees.now is c.least_from-least.ensures (omega arith)

pub loop-step-preserved : goal.loop-step-preserved
loop-step-preserved c =
    let least = c.least_from-least.result in
    let some : least ≡ 4294967296 → ⊥ = λ e. omega (arith, e) in
    record {
      bound = below_none c.loop-step.from least c.args.degrees.now c.least_from-least.ensures some;
      table = λ counts is h. subst (λ z. IsTableTo counts z c.args.step (least + 1)) (sym c.in_ok-push.ensures.items)
          (new_entry counts c.loop-step.entries.items c.args.step c.loop-step.from
          (c.loop-step.invariant.table counts is h) least c.args.degrees.now is c.least_from-least.ensures some _ _ (omega arith) c.count_of-count.ensures);
    }
