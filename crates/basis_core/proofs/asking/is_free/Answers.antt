use Rattle.std.proofs.Common.{IsTrue, arith, false}
use Rattle.basis_core.proofs.Asked.{not_free}
use Rattle.basis_core.proofs.asking.is_free.Goals as goal

pub returns-then-pair-worker : goal.returns-then-pair-worker
returns-then-pair-worker c = (λ h. never h, λ h. absurd (not_free c.args.worker c.args.out.now c.loop-pair.pair-index _ (omega arith) c.if-pair-worker.true h))
  where
    never : {A : Type 0} → IsTrue false → A
    never h = absurd cc
