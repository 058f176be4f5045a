use Rattle.std.proofs.Common.{ap, arith, refl, ◌∙◌}
use Rattle.basis_lock.specs.Acts.{has_ended_by_acts, has_stop}
use Rattle.basis_core.specs.Logs.{Base, Noted, base}
use Rattle.basis_core.specs.declared.taken.Taken.TheVariants.{Empty, Stopped}
use Rattle.ruled_lock.specs.declared.law.View.{View}
use Rattle.f4_engine.proofs.Rounds.{known_same, no_event, same_twice, takes_a_job, takes_none}
use Rattle.f4_engine.proofs.work.do_round.Goals as goal

pub take_job-requires-clause-may : goal.take_job-requires-clause-may
take_job-requires-clause-may g c = record { known = c.requires.works.known; works = c.requires.works.works; free = c.requires.works.free; some = omega arith }

pub do_taken_job-requires-clause-job : goal.do_taken_job-requires-clause-job
do_taken_job-requires-clause-job g c κs within =
    (takes_a_job (base c.args.lock.now.table.shared.key.value) c.args.seat.now.place.me.0 c.take_job.new.seat.place.me.0 512 c.in-Ok-Job.job c.requires.works (rw c.in-Ok-Job.field-0-is at c.in-Ok-Job.ensures.took)).1

pub ask_to_end-requires-clause-none : goal.ask_to_end-requires-clause-none
ask_to_end-requires-clause-none g c =
    (takes_none (base c.args.lock.now.table.shared.key.value) c.args.seat.now.place.me.0 c.take_job.new.seat.place.me.0 512 Empty c.requires.works (rw c.in-Ok-Empty.field-0-is at c.in-Ok-Empty.ensures.took) refl).1

pub ask_to_end-requires-in-Ok-Stopped-clause-none : goal.ask_to_end-requires-in-Ok-Stopped-clause-none
ask_to_end-requires-in-Ok-Stopped-clause-none g c =
    (takes_none (base c.args.lock.now.table.shared.key.value) c.args.seat.now.place.me.0 c.take_job.new.seat.place.me.0 512 Stopped c.requires.works (rw c.in-Ok-Stopped.field-0-is at c.in-Ok-Stopped.ensures.took) refl).1

pub give_up-requires-clause-may : goal.give_up-requires-clause-may
give_up-requires-clause-may g c =
    let v : View Noted Base = c.args.seat.now.place.me.0 in
    let w : View Noted Base = c.take_job.new.seat.place.me.0 in
    let same = no_event v w c.in-Err.ensures.err in
    record {
      known = known_same (base c.args.lock.now.table.shared.key.value) v w same.0 c.requires.works.known;
      works = ap has_ended_by_acts same.1 ∙ c.requires.works.works;
      unstopped = ap has_stop same.1 ∙ c.requires.works.unstopped;
      why = tt;
    }

pub returns-in-Ok-Job-clause-ends : goal.returns-in-Ok-Job-clause-ends
returns-in-Ok-Job-clause-ends g c =
    let v : View Noted Base = c.args.seat.now.place.me.0 in
    let w : View Noted Base = c.take_job.new.seat.place.me.0 in
    let took = takes_a_job (base c.args.lock.now.table.shared.key.value) v w 512 c.in-Ok-Job.job c.requires.works (rw c.in-Ok-Job.field-0-is at c.in-Ok-Job.ensures.took) in
    (same_twice v w c.do_taken_job.new.seat.place.me.0 took.0 c.do_taken_job.ensures.ends.0, c.do_taken_job.ensures.ends.1)

pub returns-in-Ok-Empty-clause-ends : goal.returns-in-Ok-Empty-clause-ends
returns-in-Ok-Empty-clause-ends g c =
    let v : View Noted Base = c.args.seat.now.place.me.0 in
    let w : View Noted Base = c.take_job.new.seat.place.me.0 in
    let took = takes_none (base c.args.lock.now.table.shared.key.value) v w 512 Empty c.requires.works (rw c.in-Ok-Empty.field-0-is at c.in-Ok-Empty.ensures.took) refl in
    (same_twice v w c.ask_to_end.new.seat.place.me.0 took.0 c.ask_to_end.ensures.ends.0, c.ask_to_end.ensures.ends.1)

pub returns-in-Ok-Stopped-clause-ends : goal.returns-in-Ok-Stopped-clause-ends
returns-in-Ok-Stopped-clause-ends g c =
    let v : View Noted Base = c.args.seat.now.place.me.0 in
    let w : View Noted Base = c.take_job.new.seat.place.me.0 in
    let took = takes_none (base c.args.lock.now.table.shared.key.value) v w 512 Stopped c.requires.works (rw c.in-Ok-Stopped.field-0-is at c.in-Ok-Stopped.ensures.took) refl in
    (same_twice v w c.ask_to_end-in-Ok-Stopped.new.seat.place.me.0 took.0 c.ask_to_end-in-Ok-Stopped.ensures.ends.0, c.ask_to_end-in-Ok-Stopped.ensures.ends.1)

pub returns-in-Err-clause-ends : goal.returns-in-Err-clause-ends
returns-in-Err-clause-ends g c =
    let v : View Noted Base = c.args.seat.now.place.me.0 in
    let w : View Noted Base = c.take_job.new.seat.place.me.0 in
    (same_twice v w c.give_up.new.seat.place.me.0 (no_event v w c.in-Err.ensures.err).0 c.give_up.ensures.same, c.give_up.ensures.done)
