use Rattle.term_lists.specs.Rings.{variables}
use Rattle.row_matrix.specs.Rows.{AreKeys}
use Rattle.remainders.specs.Hashed.{HaveHashes}
use Rattle.remainders.specs.UnderWay.{IsUnderWay}
use Rattle.remainders.proofs.substituting.take_all.Given as goal

abbrev pub invariant-loop : goal.invariant-loop
invariant-loop l = record {
  hashed : HaveHashes l.list l.hashes.items;
  keys : AreKeys (variables l.ring) l.ring.weights l.numbers;
  way : IsUnderWay l.ring l.list l.numbers l.v l.work;
}
