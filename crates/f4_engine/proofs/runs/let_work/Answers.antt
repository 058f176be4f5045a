use Rattle.std.proofs.Common.{ap, subst, sym, ℕ, ◌∙◌, ◌≡◌}
use Rattle.basis_core.specs.Shown.{Shown}
use Rattle.ruled_lock.specs.declared.law.View.{View}
use Rattle.ruled_lock.specs.Plays.{AllBack}
use Rattle.basis_core.specs.Logs.{Base, Noted, base, log}
use Rattle.f4_engine.specs.Workers.{AllWorkersDone, EachDone, IsFirstView}
use Rattle.f4_engine.proofs.Begun.{all_ended, all_took}
use Rattle.f4_engine.proofs.Seats.{all_back, each_done, opener_ready}
use Rattle.f4_engine.proofs.runs.let_work.Goals as goal

pub work_all-seat-requires-clause-ready : goal.work_all-seat-requires-clause-ready
work_all-seat-requires-clause-ready g c κs within =
    subst (λ (z : ℕ × View Noted Base). IsFirstView z.0 z.1) (λ i. (sym c.workers-workers.ensures i, sym c.in-Ok.ensures.seat.1 i)) (opener_ready (base c.args.state))

pub close-state-requires-clause-all : goal.close-state-requires-clause-all
close-state-requires-clause-all g c =
    let v : View Noted Base = c.work_all-seat.result.place.me.0 in
    let many : c.workers-workers.result ≡ c.in-Ok.lock.table.shared.key.value.workers = c.workers-workers.ensures ∙ ap (λ (s : Shown). s.workers) (sym c.in-Ok.ensures.lock) in
    subst (λ (k : ℕ). AllBack k v) many (all_back c.workers-workers.result v c.work_all-seat.ensures.done)

pub returns-in-Ok : goal.returns-in-Ok
returns-in-Ok g c =
    let t : Shown = c.close-state.result in
    let k : Shown = c.in-Ok.lock.table.shared.key.value in
    let v : View Noted Base = c.work_all-seat.result.place.me.0 in
    let many : c.workers-workers.result ≡ k.workers = c.workers-workers.ensures ∙ ap (λ (s : Shown). s.workers) (sym c.in-Ok.ensures.lock) in
    let same : base t ≡ base c.args.state = c.close-state.ensures.base ∙ ap base c.in-Ok.ensures.lock in
    let done : EachDone k.workers (log t) = each_done k.workers v (log t) (subst (λ (n : ℕ). AllWorkersDone n v) many c.work_all-seat.ensures.done) c.close-state.ensures.history in
    let all : EachDone t.workers (log t) = subst (λ (n : ℕ). EachDone n (log t)) (sym (ap (λ (b : Base). b.workers) c.close-state.ensures.base)) done in
    record {
      shared = ap (λ (b : Base). b.shared) same;
      by_these = record { budget = ap (λ (b : Base). b.budget) same; workers_are = ap (λ (b : Base). b.workers) same; update_is = ap (λ (b : Base). b.update) same };
      by_all = all;
      ended = all_ended t c.kept.ensures.replays all;
      took = all_took t c.kept.ensures.replays all;
    }
