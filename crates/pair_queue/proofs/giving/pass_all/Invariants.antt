use Rattle.std.proofs.Common.{length, take, ◌<◌, ◌≡◌}
use Rattle.basis_steps.specs.Pairs.{Pair, count}
use Rattle.basis_steps.specs.States.{job_of}
use Rattle.pair_queue.specs.Giving.{HasCleared}
use Rattle.pair_queue.specs.Outs.{outs_of}
use Rattle.pair_queue.specs.Skipping.{IsKnown}
use Rattle.pair_queue.specs.Tables.{flag, member_count}
use Rattle.pair_queue.proofs.giving.pass_all.Given as goal

-- the pairs so far wait no more
abbrev pub invariant-loop-o : goal.invariant-loop-o
invariant-loop-o l = record {
  waits_size : member_count l.waits ≡ length l.leads.keys;
  due_size : member_count l.due ≡ length l.leads.keys;
  flags : HasCleared (job_of l.worker (outs_of (take l.o-index l.out))) (flag l.fn.waits) (flag l.waits);
  known : (x : Pair) → x.0 < x.1 → count x (job_of l.worker (outs_of (take l.o-index l.out))) ≡ 0
      → IsKnown l.leads (flag l.fn.waits) (flag l.fn.due) x → IsKnown l.leads (flag l.waits) (flag l.due) x;
}
