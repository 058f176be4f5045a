use Rattle.std.proofs.Common.{arith}
use Rattle.term_lists.specs.Rings.{variables}
use Rattle.term_lists.specs.Vectors.{key_of}
use Rattle.schreyer_resolution.proofs.Dividing.{underway_zero}
use Rattle.schreyer_resolution.proofs.column.advance.Goals as goal

pub returns-then-term-eq0-clause-underway : goal.returns-then-term-eq0-clause-underway
returns-then-term-eq0-clause-underway g c =
    let ring = g.F.Frame.over c.args.frame.now in
    let n = variables ring in
    let base = c.requires.base in
    underway_zero ring (g.F.Frame.compare c.args.frame.now) base.rank (c.lawful_setting.ensures base.rank) (g.met.F.Frame.laws c.args.frame.now n 0) c.args.columns.now c.requires.vectors base.monic base.basis
    c.args.key.now c.requires.pair c.args.quotients.now.items c.args.buckets.now (key_of n c.args.term.0) c.args.term.1 (omega arith) c.requires.underway

pub take_last-requires-clause-vectors : goal.take_last-requires-clause-vectors
take_last-requires-clause-vectors g c = c.requires.vectors

pub take_last-requires-clause-base : goal.take_last-requires-clause-base
take_last-requires-clause-base g c = c.requires.base

pub take_last-requires-clause-index : goal.take_last-requires-clause-index
take_last-requires-clause-index g c = c.requires.index

pub take_last-requires-clause-monomial : goal.take_last-requires-clause-monomial
take_last-requires-clause-monomial g c = c.requires.monomial

pub take_last-requires-clause-pair : goal.take_last-requires-clause-pair
take_last-requires-clause-pair g c = c.requires.pair

pub take_last-requires-clause-variables : goal.take_last-requires-clause-variables
take_last-requires-clause-variables g c = c.requires.variables

pub take_last-requires-clause-reduced : goal.take_last-requires-clause-reduced
take_last-requires-clause-reduced g c = c.requires.reduced
