use Rattle.std.proofs.Common.{◌≡◌}
use Rattle.remainders.specs.UnderWay.{IsUnderWay}
use Rattle.remainders.proofs.substituting.look_at_touched.Given as goal

abbrev pub invariant-loop-k : goal.invariant-loop-k
invariant-loop-k l = record {
  way : IsUnderWay l.ring l.list l.numbers l.v l.work;
  touched : l.work.touched ≡ l.fn.work.touched;
}
