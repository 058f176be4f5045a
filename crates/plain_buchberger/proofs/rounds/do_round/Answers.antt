use Rattle.plain_buchberger.proofs.Taking.{budget_after_take, may_end_after_take, out_after_take}
use Rattle.plain_buchberger.proofs.rounds.do_round.Goals as goal

pub do_job-requires : goal.do_job-requires
do_job-requires c =
    (out_after_take c.args.state.now c.take.new.self c.requires c.take.ensures.run c.in-Ok-Job.job (rw c.in-Ok-Job.field-0-is at c.in-Ok-Job.ensures.step) (rw c.in-Ok-Job.field-0-is at c.in-Ok-Job.ensures.answer)).0

pub end-requires : goal.end-requires
end-requires c =
    may_end_after_take c.args.state.now c.take.new.self c.requires c.take.ensures.run (rw c.in-Ok-Empty.field-0-is at c.in-Ok-Empty.ensures.step) (rw c.in-Ok-Empty.field-0-is at c.in-Ok-Empty.ensures.answer)

pub returns-in-Ok-Stopped-clause-stop : goal.returns-in-Ok-Stopped-clause-stop
returns-in-Ok-Stopped-clause-stop c =
    budget_after_take c.args.state.now c.take.new.self c.requires c.take.ensures.run (rw c.in-Ok-Stopped.field-0-is at c.in-Ok-Stopped.ensures.step) (rw c.in-Ok-Stopped.field-0-is at c.in-Ok-Stopped.ensures.answer)
