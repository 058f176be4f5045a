-- Trails of jobs are trails of the run
use Rattle.std.proofs.Common.{List, arith, length, subst, sym, take, ◌∙◌, ◌≡◌, ◌≤◌}
use Rattle.std.proofs.lemmas.List.{take_all}
use Rattle.module_vectors.specs.declared.trail.KeptTrail.{KeptTrail}
use Rattle.module_vectors.specs.declared.trail.WorkStop.{WorkStop}
use Rattle.module_vectors.specs.declared.trail.WorkStop.TheVariants as works
use Rattle.basis_core.proofs.JobTrails.{trail_of_job}
use Rattle.basis_core.specs.Answers.{IsRunTrail, PutStops}
use Rattle.basis_core.specs.Jobs.{JobShown, pairs_of}
use Rattle.basis_core.specs.Members.{Shared, MemberShown}
use Rattle.basis_core.specs.Outcomes.{OutcomeShown}
use Rattle.basis_core.specs.Shown.{Shown}
use Rattle.basis_core.specs.Stops.{IsTrailBy}
use Rattle.basis_core.specs.Views.{variables_of}
use Rattle.s_vectors.specs.Trails.{JobStops}
use Rattle.plain_buchberger.specs.Rounds.{IsOut, StateStops}

-- the trail of a job that is out is one of the run
pub run_trail_of_job : (s : Shown) (job : JobShown) (t : KeptTrail) → IsOut s job → IsTrailBy job.shared job.members (pairs_of job.pairs) t → IsRunTrail (variables_of s) s t
run_trail_of_job s job t out h =
    let by : IsTrailBy s.shared s.members (pairs_of job.pairs) t = subst (λ (z : Shared × List MemberShown). IsTrailBy z.0 z.1 (pairs_of job.pairs) t) (λ i. (out.shared i, out.members i)) h in
    record {
      pair = by.pair;
      way = record {
        job = pairs_of job.pairs;
        given = out.given;
        way = trail_of_job s.shared s.budget s.workers s.update s.members s.members (pairs_of job.pairs) t (sym (take_all (length s.members) s.members (omega arith))) (omega arith) by;
      };
    }

pub work_stops_of_job : (s : Shown) (job : JobShown) (stop : WorkStop) → IsOut s job → JobStops job stop → StateStops s stop
work_stops_of_job s job works.Memory out h = tt
work_stops_of_job s job (works.Degree t) out h = run_trail_of_job s job t out h

-- and so is the trail of a Put, which leaves the state as it was
pub work_stops_of_put : (s t : Shown) (o : OutcomeShown) (stop : WorkStop) → t ≡ s → PutStops (variables_of s) s o stop → StateStops t stop
work_stops_of_put s t o works.Memory e h = tt
work_stops_of_put s t o (works.Degree trail) e h = subst (λ u. IsRunTrail (variables_of u) u trail) (sym e) h.trail
