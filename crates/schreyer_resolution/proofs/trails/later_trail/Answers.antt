use Rattle.std.proofs.Common.{[], map, ◌++◌, ◌∷◌}
use Rattle.term_lists.specs.Rings.{variables}
use Rattle.vector_division.specs.Reductions.{unscaled}
use Rattle.schreyer_resolution.proofs.Trailing.{key_inside, later_chain}
use Rattle.schreyer_resolution.proofs.trails.later_trail.Goals as goal

pub keep_trail-requires-clause-chain : goal.keep_trail-requires-clause-chain
keep_trail-requires-clause-chain g c =
    let ring = g.F.Frame.over c.args.frame.now in
    let rank = c.requires.base.rank in
    let cols = c.args.columns.now in
    let key = c.args.key.now in (
      map unscaled c.args.quotients.now ++ c.args.failing ∷ [],
      c.in_ok-products.ensures,
      later_chain ring (g.F.Frame.compare c.args.frame.now) rank (c.lawful_setting.ensures rank) cols c.requires.vectors key (key_inside (variables ring) cols key c.requires.pair) c.requires.monomial c.args.quotients.now c.args.failing c.args.last c.requires.failing,
    )

pub keep_trail-requires-clause-vectors : goal.keep_trail-requires-clause-vectors
keep_trail-requires-clause-vectors g c = c.requires.vectors

pub keep_trail-requires-clause-base : goal.keep_trail-requires-clause-base
keep_trail-requires-clause-base g c = c.requires.base

pub keep_trail-requires-clause-monomial : goal.keep_trail-requires-clause-monomial
keep_trail-requires-clause-monomial g c = c.requires.monomial

pub keep_trail-requires-clause-pair : goal.keep_trail-requires-clause-pair
keep_trail-requires-clause-pair g c = c.requires.pair
