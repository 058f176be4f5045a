use Rattle.term_lists.specs.FrontVariables.{front_ring}
use Rattle.term_lists.specs.Rings.{variables}
use Rattle.term_lists.specs.Vectors.{sum_of}
use Rattle.syzygy_engine.proofs.Marks.{loose}
use Rattle.ideal_ops.proofs.saturating.saturating_list.Goals as goal

pub with_inverses-requires-clause-w : goal.with_inverses-requires-clause-w
with_inverses-requires-clause-w c = loose (front_ring c.args.ring.now) c.in-Ok.w c.in-Ok.ensures.vector.vector.each

pub returns-clause-list : goal.returns-clause-list
returns-clause-list c = c.in_ok-with_inverses.ensures (sum_of (variables c.args.ring.now) c.args.f.now) c.in-Ok.ensures.vector.stand

pub variable-requires : goal.variable-requires
variable-requires c = c.requires.front

pub negative_multiple-requires-clause-front : goal.negative_multiple-requires-clause-front
negative_multiple-requires-clause-front c = c.requires.front

pub negative_multiple-requires-clause-f : goal.negative_multiple-requires-clause-f
negative_multiple-requires-clause-f c = c.requires.f

pub negative_multiple-requires-clause-f_positions : goal.negative_multiple-requires-clause-f_positions
negative_multiple-requires-clause-f_positions c = c.requires.f_positions

pub with_inverses-requires-clause-front : goal.with_inverses-requires-clause-front
with_inverses-requires-clause-front c = c.requires.front

pub with_inverses-requires-clause-list : goal.with_inverses-requires-clause-list
with_inverses-requires-clause-list c = c.requires.list
