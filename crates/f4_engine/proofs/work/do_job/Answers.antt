use Rattle.std.proofs.Common.{ap, ◌∙◌}
use Rattle.basis_lock.specs.Acts.{has_ended_by_acts, has_stop}
use Rattle.basis_core.specs.Logs.{Base, Noted, base}
use Rattle.ruled_lock.specs.declared.law.View.{View}
use Rattle.f4_engine.proofs.Rounds.{hands_it_in, job_trail_seen, known_same, may_hand_in, no_event, same_twice}
use Rattle.f4_engine.proofs.work.do_job.Goals as goal

pub hand_in-requires-clause-may : goal.hand_in-requires-clause-may
hand_in-requires-clause-may g c =
    may_hand_in (base c.args.lock.now.table.shared.key.value) c.args.seat.now.place.me.0 c.args.job c.in-Ok.outcome c.requires.job c.in-Ok.ensures.job

pub returns-in-Ok-hand_in-clause-ends : goal.returns-in-Ok-hand_in-clause-ends
returns-in-Ok-hand_in-clause-ends g c =
    hands_it_in (base c.args.lock.now.table.shared.key.value) c.args.seat.now.place.me.0 c.hand_in.new.seat.place.me.0 c.args.job c.in-Ok.outcome c.requires.job c.in-Ok-hand_in.ensures.put

pub give_up-requires-clause-may : goal.give_up-requires-clause-may
give_up-requires-clause-may g c =
    let v : View Noted Base = c.args.seat.now.place.me.0 in
    let w : View Noted Base = c.hand_in.new.seat.place.me.0 in
    let same = no_event v w c.in-Err-hand_in.ensures.err in
    record {
      known = known_same (base c.args.lock.now.table.shared.key.value) v w same.0 c.requires.job.known;
      works = ap has_ended_by_acts same.1 ∙ c.requires.job.works;
      unstopped = ap has_stop same.1 ∙ c.requires.job.unstopped;
      why = c.in-Err-hand_in.ensures.stop;
    }

pub give_up-requires-in-Err-clause-may : goal.give_up-requires-in-Err-clause-may
give_up-requires-in-Err-clause-may g c =
    let b : Base = base c.args.lock.now.table.shared.key.value in
    let v : View Noted Base = c.args.seat.now.place.me.0 in
    record {
      known = c.requires.job.known;
      works = c.requires.job.works;
      unstopped = c.requires.job.unstopped;
      why = job_trail_seen b v c.args.job c.in-Err.stop c.requires.job c.in-Err.ensures.stop;
    }

pub returns-in-Err-hand_in-clause-ends : goal.returns-in-Err-hand_in-clause-ends
returns-in-Err-hand_in-clause-ends g c =
    let v : View Noted Base = c.args.seat.now.place.me.0 in
    let w : View Noted Base = c.hand_in.new.seat.place.me.0 in
    (same_twice v w c.give_up.new.seat.place.me.0 (no_event v w c.in-Err-hand_in.ensures.err).0 c.give_up.ensures.same, c.give_up.ensures.done)
