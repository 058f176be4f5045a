-- How a job comes to a product of too great a degree
use Rattle.std.specs.Prelude.{⊤}
use Rattle.module_vectors.specs.declared.trail.WorkStop.{WorkStop}
use Rattle.module_vectors.specs.declared.trail.WorkStop.TheVariants.{Memory, Degree}
use Rattle.basis_core.specs.Jobs.{JobShown, pairs_of}
use Rattle.basis_core.specs.Stops.{IsTrailBy}

-- Degree comes alone with a trail by the job's members that starts with a pair of the job
abbrev pub JobStops : JobShown → WorkStop → Type 0
JobStops job Memory = ⊤
JobStops job (Degree t) = IsTrailBy job.shared job.members (pairs_of job.pairs) t
