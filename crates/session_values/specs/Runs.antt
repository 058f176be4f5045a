-- How often the engine is asked for a value
use Rattle.std.specs.Prelude.{if◌then◌else◌, is_some, ℕ}
use Rattle.term_lists.specs.declared.ring.Ring.{Ring}
use Rattle.syzygy_engine.specs.Kernels.{runs_in_order}
use Rattle.session_values.specs.Held.{StoredShown}
use Rattle.session_values.specs.Operations.{TaskShown, colon, eliminate, intersect, multiply, preimage, quotient, saturate, sum, syzygies}

-- the runs until the reduced basis of a value is kept: none where it is kept already, and else one
abbrev pub fresh_runs : StoredShown → ℕ
fresh_runs s = if is_some s.basis then 0 else 1

-- how many runs an operation makes at most
abbrev pub most_runs : Ring → TaskShown → ℕ
most_runs ring (sum rank left right) = 1
most_runs ring (multiply rank left right) = 1
most_runs ring (intersect rank left right) = 2
most_runs ring (colon rank left right) = runs_in_order ring
most_runs ring (quotient rank list f) = runs_in_order ring
most_runs ring (saturate rank list f) = 2
most_runs ring (eliminate rank list k) = 2
most_runs ring (syzygies rank list) = runs_in_order ring
most_runs ring (preimage images list) = 2
