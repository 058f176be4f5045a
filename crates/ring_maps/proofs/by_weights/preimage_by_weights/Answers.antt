use Rattle.std.proofs.Common.{length, ◌++◌, ◌≡◌}
use Rattle.syzygy_engine.proofs.Marks.{loose_list}
use Rattle.term_lists.specs.Rings.{variables}
use Rattle.ring_maps.specs.GraphSteps.{IsBasisOfGraph}
use Rattle.ring_maps.proofs.GraphBases.{basis_of_preimage, by_multiples, member_positions, members_itself}
use Rattle.ring_maps.proofs.by_weights.preimage_by_weights.Goals as goal

pub second_members-requires-clause-graph : goal.second_members-requires-clause-graph
second_members-requires-clause-graph g c =
    let found : IsBasisOfGraph c.args.ring.now c.args.images.now c.args.list.now c.in-Some-2.graph c.in-Some-2.basis = rw c.in-Some-2.is at c.in_ok-graph.ensures.basis in
    found.ring_of

pub second_members-requires-clause-basis : goal.second_members-requires-clause-basis
second_members-requires-clause-basis g c =
    let found : IsBasisOfGraph c.args.ring.now c.args.images.now c.args.list.now c.in-Some-2.graph c.in-Some-2.basis = rw c.in-Some-2.is at c.in_ok-graph.ensures.basis in
    loose_list c.in-Some-2.graph c.in-Some-2.basis found.reduced.vectors

pub returns-then-are_multiples : goal.returns-then-are_multiples
returns-then-are_multiples g c = record {
  basis =
      let ring = c.args.ring.now in
      let graph = c.in-Some-2.graph in
      let images = c.args.images.now in
      let list = c.args.list.now in
      let basis = c.in-Some-2.basis in
      let found : IsBasisOfGraph ring images list graph basis = rw c.in-Some-2.is at c.in_ok-graph.ensures.basis in
      let weights : graph.weights ≡ ring.weights ++ c.in-Some.weights = rw c.in-Some-2.is at c.in_ok-graph.ensures.weights in
      let count : length c.in-Some.weights ≡ variables ring = rw c.in-Some.is at c.in_ok-weights.ensures in
      let lawful = c.lawful_setting.ensures in
      let members = c.in_ok-members.members in
      let stand = c.in_ok-members.ensures in
      let doubled = by_multiples ring graph images list basis found lawful c.requires.images_polynomials c.requires.polynomials c.in-Some.weights weights count
      (c.are_multiples.ensures c.if-are_multiples.true) in
      basis_of_preimage ring graph images list basis found lawful c.requires.images_polynomials c.requires.polynomials members members stand
      (members_itself ring graph images list basis found lawful c.requires.images_polynomials c.requires.polynomials doubled (c.is_grevlex.ensures.0 c.if-is_grevlex.true) members stand);
}

pub attempted-requires-clause-positions : goal.attempted-requires-clause-positions
attempted-requires-clause-positions g c =
    member_positions c.args.ring.now c.in-Some-2.graph c.args.images.now c.args.list.now c.in-Some-2.basis (rw c.in-Some-2.is at c.in_ok-graph.ensures.basis) c.lawful_setting.ensures
    c.requires.images_polynomials c.requires.polynomials c.in_ok-members.members c.in_ok-members.ensures

pub returns : goal.returns
returns g c = record {
  basis =
      basis_of_preimage c.args.ring.now c.in-Some-2.graph c.args.images.now c.args.list.now c.in-Some-2.basis (rw c.in-Some-2.is at c.in_ok-graph.ensures.basis) c.lawful_setting.ensures
      c.requires.images_polynomials c.requires.polynomials c.in_ok-members.members c.in-Some-3.answer c.in_ok-members.ensures (rw c.in-Some-3.is at c.in_ok-answer.ensures);
}
