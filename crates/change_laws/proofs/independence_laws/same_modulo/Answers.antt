use Rattle.change_laws.proofs.Modulo.{modulo_append, modulo_member, modulo_same, modulo_scale, modulo_sym, modulo_trans}
use Rattle.change_laws.proofs.independence_laws.same_modulo.Goals as goal

pub returns-clause-same : goal.returns-clause-same
returns-clause-same c = λ n p F v w h. modulo_same F v w h

pub returns-clause-symmetric : goal.returns-clause-symmetric
returns-clause-symmetric c = λ n p F v w h. modulo_sym F h

pub returns-clause-transitive : goal.returns-clause-transitive
returns-clause-transitive c = λ n p F u v w h g. modulo_trans F h g

pub returns-clause-sums : goal.returns-clause-sums
returns-clause-sums c = λ n p F u v w x h g. modulo_append F h g

pub returns-clause-multiples : goal.returns-clause-multiples
returns-clause-multiples c = λ n p k F m v w pos h. modulo_scale F pos k m h

pub returns-clause-members : goal.returns-clause-members
returns-clause-members c = λ n p F v w pos h a. modulo_member F pos h a
