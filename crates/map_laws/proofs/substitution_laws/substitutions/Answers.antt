use Rattle.map_laws.proofs.Substituting.{IsLinear_substituted, substituted-append, substituted-product, substituted_constant, substituted_members, substituted_multiples, substituted_variable}
use Rattle.operation_laws.proofs.Linear.{IsSame_linear}
use Rattle.map_laws.specs.Substitution.{substituted}
use Rattle.map_laws.proofs.substitution_laws.substitutions.Goals as goal

pub returns : goal.returns
returns c = record {
  sums = λ n m F v w. substituted-append F v w;
  same = λ n m p F v w pos. IsSame_linear pos (substituted F) (IsLinear_substituted F) v w;
  multiples = λ n m p c F v pos. substituted_multiples pos F c v;
  products = λ n m p F u v pos. substituted-product pos F u v;
  variables = λ n m p i F pos h r. substituted_variable p n i F h r;
  constants = λ n m p j F pos. substituted_constant p n j F;
  members = λ n m p F L v pos. substituted_members pos F L v;
}
