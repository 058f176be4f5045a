use Rattle.std.proofs.Common.{arith, subst, sym, take}
use Rattle.std.proofs.lemmas.List.{take_more}
use Rattle.constant_passes.specs.Choosing.{IsLeastEntry}
use Rattle.constant_passes.proofs.choosing.least_entry.Goals as goal

pub loop-entry-preserved : goal.loop-entry-preserved
loop-entry-preserved c =
    let entries = c.args.entries.now in
    let i = c.loop-entry.entry-index in
    subst (λ xs. IsLeastEntry xs c.lower-least.result) (sym (take_more entries i (0, 0) (omega arith)))
    (c.lower-least.ensures (take i entries) c.loop-entry.invariant)
