use Rattle.operation_laws.proofs.Lifting.{lift_exists, lift_found, lift_member, lift_one, lift_vanishes}
use Rattle.operation_laws.proofs.marked_bases.lifts.Goals as goal

pub returns : goal.returns
returns c = record {
  one = λ n S F K v a b lawful. lift_one S lawful F K v a b;
  member = λ n q S monomials F G v w lawful o r vr b m free. (lift_vanishes S monomials q F G v w lawful o r vr b m free, lift_member S monomials q F G v w lawful o r vr b m free);
  found = λ n q S monomials F G v w lawful o r vr b m free. lift_found S monomials q F G v w lawful o r vr b m free;
  exists = λ n q S monomials F G v. lift_exists S monomials q F G v;
}
