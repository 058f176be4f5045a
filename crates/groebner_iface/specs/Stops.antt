-- What a stop of a run or of a piece of work is to the operation that stands on it
use Rattle.module_vectors.specs.declared.trail.WorkStop.{WorkStop}
use Rattle.module_vectors.specs.declared.trail.WorkStop.TheVariants as works
use Rattle.groebner_iface.specs.declared.stop.Stop.{Stop}
use Rattle.groebner_iface.specs.declared.stop.Stop.TheVariants as runs
use Rattle.groebner_iface.specs.declared.stop.OpStop.{OpStop}
use Rattle.groebner_iface.specs.declared.stop.OpStop.TheVariants.{Memory, Pairs, Degree, Trail}

-- the same cause
abbrev pub op_stop_of_run : Stop → OpStop
op_stop_of_run runs.Memory = Memory
op_stop_of_run runs.Pairs = Pairs
op_stop_of_run runs.Degree = Degree

-- the same cause, with the trail
abbrev pub op_stop_of_work : WorkStop → OpStop
op_stop_of_work works.Memory = Memory
op_stop_of_work (works.Degree trail) = Trail trail
