use Rattle.ring_maps.proofs.Listing.{graph_positions}
use Rattle.ring_maps.proofs.by_weights.graph_by_weights.Goals as goal

pub attempted-requires-clause-positions : goal.attempted-requires-clause-positions
attempted-requires-clause-positions g c =
    graph_positions c.args.ring.now c.in_ok-graph.graph c.args.images.now c.args.list.now c.in_ok-listed.listed (c.lawful_setting.ensures 0) c.requires.images_polynomials c.requires.polynomials c.in_ok-listed.ensures

pub returns-clause-basis : goal.returns-clause-basis
returns-clause-basis g c = record {
  listed = c.in_ok-listed.listed;
  ring_of = c.in_ok-graph.ensures.ring;
  vectors = c.in_ok-listed.ensures;
  reduced = rw c.in-Some.is at c.in_ok-basis.ensures;
}
