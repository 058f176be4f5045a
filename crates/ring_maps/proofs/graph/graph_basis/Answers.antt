use Rattle.std.proofs.Common.{refl}
use Rattle.groebner_iface.specs.Calls.{NoTrail}
use Rattle.groebner_iface.proofs.CallingRuns.{run_stops}
use Rattle.syzygy_engine.proofs.Marks.{loose_list}
use Rattle.ring_maps.specs.Graphs.{IsGraphRun}
use Rattle.ring_maps.proofs.GraphRings.{doubled_graph}
use Rattle.ring_maps.proofs.Listing.{graph_positions}
use Rattle.ring_maps.proofs.graph.graph_basis.Goals as goal

pub graph_list-requires-clause-graph : goal.graph_list-requires-clause-graph
graph_list-requires-clause-graph g c = doubled_graph c.args.ring.now c.in_ok-graph.graph c.in_ok-graph.ensures

pub graph_list-requires-clause-images : goal.graph_list-requires-clause-images
graph_list-requires-clause-images g c = loose_list c.args.ring.now c.args.images.now c.requires.images

pub graph_list-requires-clause-list : goal.graph_list-requires-clause-list
graph_list-requires-clause-list g c = loose_list c.args.ring.now c.args.list.now c.requires.vectors

pub reduced-requires-clause-vectors : goal.reduced-requires-clause-vectors
reduced-requires-clause-vectors g c = c.in_ok-listed.ensures.vectors

pub reduced-requires-clause-positions : goal.reduced-requires-clause-positions
reduced-requires-clause-positions g c =
    graph_positions c.args.ring.now c.in_ok-graph.graph c.args.images.now c.args.list.now c.in_ok-listed.listed (c.lawful_setting.ensures 0) c.requires.images_polynomials c.requires.polynomials c.in_ok-listed.ensures

pub returns-in-Ok-clause-basis : goal.returns-in-Ok-clause-basis
returns-in-Ok-clause-basis g c = record {
  listed = c.in_ok-listed.listed;
  run = record { doubled = c.in_ok-graph.ensures; rank_one = refl; vectors = c.in_ok-listed.ensures };
  reduced = c.in-Ok.ensures.basis;
}

pub returns-in-Err-clause-stop : goal.returns-in-Err-clause-stop
returns-in-Err-clause-stop g c =
    rw c.from.ensures
    (run_stops _ _ _ _ (IsGraphRun c.args.ring.now c.args.images.now c.args.list.now) NoTrail c.in_ok-graph.graph 1 c.in_ok-listed.listed c.in-Err.stop
    (record { doubled = c.in_ok-graph.ensures; rank_one = refl; vectors = c.in_ok-listed.ensures }) c.in-Err.ensures.stop)
