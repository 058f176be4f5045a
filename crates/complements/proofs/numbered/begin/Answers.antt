use Rattle.std.proofs.Common.{arith}
use Rattle.complements.proofs.Gathering.{taken_nothing}
use Rattle.complements.proofs.numbered.begin.Goals as goal

pub returns-then-len-columns : goal.returns-then-len-columns
returns-then-len-columns c =
    let a = c.args.accumulator.now in
    let cleared = c.requires in
    record {
      keys = cleared.keys;
      hashes = cleared.hashes (omega arith);
      taken = taken_nothing c.args.ring.now c.args.columns.now a.numbers a.sums.items a.touched.items cleared.count cleared.zero cleared.untouched;
    }

pub returns : goal.returns
returns c =
    let a = c.args.accumulator.now in
    let cleared = c.requires in
    record {
      keys = cleared.keys;
      hashes = c.in_ok-accumulator.ensures;
      taken = taken_nothing c.args.ring.now c.args.columns.now a.numbers a.sums.items a.touched.items cleared.count cleared.zero cleared.untouched;
    }
