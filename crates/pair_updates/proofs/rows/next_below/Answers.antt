use Rattle.std.proofs.Math.Facts.{Fits-lt-pow}
use Rattle.std.proofs.Common.{arith}
use Rattle.std.specs.Prelude.{slice_index}
use Rattle.pair_updates.proofs.WordsBelow.{below_passed, lacks_within, same_passed}
use Rattle.pair_updates.proofs.rows.next_below.Goals as goal

pub returns-then-i-words-clause-before : goal.returns-then-i-words-clause-before
returns-then-i-words-clause-before c =
    below_passed c.args.words.now c.args.word c.args.from c.loop-i.i c.next_within-i.result (omega arith) c.loop-i.invariant.before
    c.next_within-i.ensures.before

pub returns-then-words-i-clause-before : goal.returns-then-words-i-clause-before
returns-then-words-i-clause-before c =
    below_passed c.args.words.now c.args.word c.args.from c.loop-i.i c.next_within-i.result (omega arith) c.loop-i.invariant.before
    c.next_within-i.ensures.before

pub returns-then-words-i-clause-found : goal.returns-then-words-i-clause-found
returns-then-words-i-clause-found c = λ lt. (
  lacks_within (slice_index c.args.words.now c.next_within-i.result) c.args.word (Fits-lt-pow (c.type_inv.words c.next_within-i.result)) (omega arith)
      (c.next_within-i.ensures.found lt),
  c.if-words-i.true,
)

pub loop-i-preserved : goal.loop-i-preserved
loop-i-preserved c = record {
  late = omega arith;
  within = omega arith;
  before = same_passed c.args.words.now c.args.word c.args.from c.next_within-i.result
      (below_passed c.args.words.now c.args.word c.args.from c.loop-i.i c.next_within-i.result (omega arith) c.loop-i.invariant.before
      c.next_within-i.ensures.before)
      c.if-words-i.false;
}
