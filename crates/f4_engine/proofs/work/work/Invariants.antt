use Rattle.ruled_lock.specs.Plays.{IsIdle}
use Rattle.basis_core.specs.Logs.{base}
use Rattle.f4_engine.specs.Workers.{IsSameWorker, IsWorking}
use Rattle.f4_engine.proofs.work.work.Given as goal

abbrev pub invariant-loop : goal.invariant-loop
invariant-loop g l = record {
  next : (goal.iterator-loop g).can_next l.iterator';
  finite : (goal.iterator-loop g).is_finite l.iterator';
  idle : IsIdle l.lock.table.shared.table_id (base l.lock.table.shared.key.value) l.seat.place;
  works : IsWorking (base l.lock.table.shared.key.value) l.seat.place.me.0;
  same : IsSameWorker l.initial.seat.place.me.0 l.seat.place.me.0;
}
