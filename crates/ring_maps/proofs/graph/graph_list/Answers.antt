use Rattle.std.proofs.Common.{subst, sym}
use Rattle.operation_laws.specs.Operations.{listed}
use Rattle.map_laws.specs.Graphs.{graph_list, graph_member}
use Rattle.term_lists.specs.Rings.{variables}
use Rattle.term_lists.specs.Vectors.{sums_of}
use Rattle.syzygy_engine.specs.Runs.{AreVectorsFor}
use Rattle.ring_maps.proofs.graph.graph_list.Goals as goal

pub returns : goal.returns
returns c =
    let ring = c.args.ring.now in
    let graph = c.args.graph.now in
    let n = variables ring in
    let m = variables graph in
    let F = sums_of n c.args.images.now in
    subst (AreVectorsFor graph (graph_list ring.modulus.value m F (sums_of n c.args.list.now))) (sym c.from_vec.ensures)
    (c.in_ok-push_members.ensures (listed 0 n (graph_member ring.modulus.value m F)) c.in_ok-vectors.ensures)
