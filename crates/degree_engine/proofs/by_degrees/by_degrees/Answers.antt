use Rattle.term_lists.specs.Vectors.{sums_of}
use Rattle.term_lists.specs.Rings.{variables}
use Rattle.degree_engine.proofs.AtOne.{basis_of_lowered}
use Rattle.degree_engine.proofs.by_degrees.by_degrees.Goals as goal

pub returns : goal.returns
returns g c =
    let ring = c.args.ring.now in
    let more = c.in_ok-more.more in
    let rank = c.args.rank in
    record {
      vectors = c.in_ok-reduced.ensures.vectors;
      positions = c.in_ok-reduced.ensures.positions rank (c.have_positions-2.ensures c.if-not-have_positions-2.false);
      basis = c.in_ok-reduced.ensures.reduced rank (sums_of (variables ring) c.args.list.now)
          (basis_of_lowered ring more rank c.in_ok-more.ensures c.args.list.now c.in_ok-raised.raised c.in_ok-basis.basis c.in_ok-members.members
          (c.lawful_setting.ensures rank) (c.lawful_setting-2.ensures rank) c.in_ok-raised.ensures.vectors
          c.in_ok-basis.ensures.basis.vectors c.in_ok-members.ensures.vectors
          (c.have_one_degree.ensures c.if-not-have_one_degree.false) (c.have_one_degree-2.ensures c.if-not-have_one_degree-2.false)
          c.in_ok-raised.ensures.at_one c.in_ok-members.ensures.at_one c.in_ok-basis.ensures.basis.basis.reduced.basis);
    }
