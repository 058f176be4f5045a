use Rattle.std.proofs.Common.{codes, ◌++◌}
use Rattle.std.specs.Fmt.{decimal}
use Rattle.session_top.specs.Stops.{trail_degree}
use Rattle.byte_ports.proofs.Endings.{all_two, front_two, front_before, on_err}
use Rattle.session_top.proofs.stops.write_degree_line.Goals as goal

pub returns-in_err-write_count-clause-front : goal.returns-in_err-write_count-clause-front
returns-in_err-write_count-clause-front g c =
    let first = rw c.trail_degree.ensures at c.in_err-write_count.ensures.front in
    on_err _ _ (front_before _ _ (codes "stop degree " ++ decimal (trail_degree c.args.trail.now)) (codes "\n") first)

pub returns-clause-all : goal.returns-clause-all
returns-clause-all g c =
    let first = rw c.trail_degree.ensures at c.in_ok-write_count.ensures.all in
    all_two _ _ _ (codes "stop degree " ++ decimal (trail_degree c.args.trail.now)) (codes "\n") _ first c.write_all_to.ensures.all

pub returns-clause-front : goal.returns-clause-front
returns-clause-front g c =
    let first = rw c.trail_degree.ensures at c.in_ok-write_count.ensures.all in
    front_two _ _ _ (codes "stop degree " ++ decimal (trail_degree c.args.trail.now)) (codes "\n") _ first c.write_all_to.ensures.front
