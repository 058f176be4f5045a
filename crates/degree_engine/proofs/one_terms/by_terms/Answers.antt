use Rattle.term_lists.specs.Rings.{ring_comparison, setting, variables}
use Rattle.term_lists.specs.Vectors.{sums_of}
use Rattle.degree_engine.proofs.OneTerms.{basis_as_it_stands}
use Rattle.degree_engine.proofs.one_terms.by_terms.Goals as goal

pub returns : goal.returns
returns g c =
    let ring = c.args.ring.now in
    let rank = c.args.rank in
    record {
      vectors = c.in_ok-reduced.ensures.vectors;
      positions = c.in_ok-reduced.ensures.positions rank c.requires.positions;
      basis = c.in_ok-reduced.ensures.reduced rank (sums_of (variables ring) c.args.list.now)
          (basis_as_it_stands ring rank (c.lawful_setting.ensures rank) c.args.list.now c.requires.vectors c.requires.terms);
    }
