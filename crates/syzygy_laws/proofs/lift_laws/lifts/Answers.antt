use Rattle.syzygy_laws.proofs.Lifting.{IsSyzygy_difference, lift_equal, lift_same}
use Rattle.syzygy_laws.proofs.lift_laws.lifts.Goals as goal

pub returns : goal.returns
returns c = record {
  differ = λ n p F a b ra rb pos e. IsSyzygy_difference p F a b ra rb pos e;
  same = λ n T F H Z a b lawful basis generate ra rb e fa fb. lift_same T lawful F H Z basis generate a b ra rb e fa fb;
  equal = λ n T F H Z a b lawful basis generate ra rb e na nb fa fb. lift_equal T lawful F H Z basis generate a b ra rb e na nb fa fb;
}
