use Rattle.std.proofs.Common.{arith}
use Rattle.minimal_betti.proofs.SplitColumns.{split_all, split_more, split_start}
use Rattle.minimal_betti.proofs.splitting.split_columns.Goals as goal

pub loop-i-init : goal.loop-i-init
loop-i-init c = split_start c.args.ring.now c.args.inverse c.args.at c.args.columns.now c.in_ok-others.others.items c.in_ok-others.ensures.items

pub loop-i-preserved : goal.loop-i-preserved
loop-i-preserved c =
    split_more c.args.ring.now c.args.inverse c.args.at c.args.columns.now c.loop-i.i c.loop-i.others.items c.push_other.new.others.items
    (omega arith) c.loop-i.invariant c.in-Ok.ensures.put

pub returns-clause-split : goal.returns-clause-split
returns-clause-split c =
    split_all c.args.ring.now c.args.inverse c.args.at c.args.columns.now c.loop-i.i c.loop-i.others.items c.from_vec.result
    (omega arith) c.from_vec.ensures c.loop-i.invariant

pub push_other-requires-clause-inverse : goal.push_other-requires-clause-inverse
push_other-requires-clause-inverse c = c.requires.inverse

pub push_other-requires-clause-inside : goal.push_other-requires-clause-inside
push_other-requires-clause-inside c = c.requires.inside

pub push_other-requires-clause-columns : goal.push_other-requires-clause-columns
push_other-requires-clause-columns c = c.requires.columns
