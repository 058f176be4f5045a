use Rattle.std.proofs.Common.{List, arith, false, length, ◌≤◌, ◌∙◌}
use Rattle.term_lists.specs.Rings.{variables}
use Rattle.term_lists.specs.declared.key.Key.{Key}
use Rattle.remainders.proofs.Flagging.{flags_over, length_longer}
use Rattle.remainders.proofs.Padded.{padded_get, padded_length}
use Rattle.remainders.proofs.Resting.{taken_over}
use Rattle.remainders.specs.Leaving.{IsLonger}
use Rattle.remainders.specs.UnderWay.{IsUnderWay}
use Rattle.remainders.proofs.work.widen.Goals as goal

pub returns : goal.returns
returns c =
    let ring = c.args.ring.now in
    let n = variables ring in
    let list = c.args.list.now in
    let v = c.args.v.now in
    let new = c.args.numbers.now in
    let work = c.args.work.now in
    let keys : List Key = c.requires.0 in
    let longer : IsLonger keys new = c.requires.1 in
    let way : IsUnderWay ring list keys v work = c.requires.2 in
    let k = c.len-count.result in
    let more : length keys ≤ k = omega (arith, length_longer keys new longer, c.len-count.ensures) in
    let sums : length work.sums.items ≤ k = omega (arith, way.taken.count, more) in
    let flags : length work.free.items ≤ k = omega (arith, way.flags.within, more) in
    let free = c.resize-2.new.self.items in
    record {
      taken = taken_over ring list keys v new k work.sums.len work.sums.items c.resize.new.self.items work.touched.items longer c.len-count.ensures
          work.sums.ok.0 sums c.in_ok-resize.ensures.items way.taken;
      flags = flags_over n list keys new work.free.items free longer way.flags
          (padded_length false k work.free.len work.free.items free work.free.ok.0 flags c.in_ok-resize-2.ensures.items ∙ c.len-count.ensures)
          (padded_get false k work.free.len work.free.items free work.free.ok.0 flags c.in_ok-resize-2.ensures.items);
      factors = way.factors;
    }
