use Rattle.change_laws.proofs.Independent.{uncovered_independent}
use Rattle.change_laws.proofs.independence_laws.uncovered_monomials.Goals as goal

pub returns : goal.returns
returns c = λ n S F G B lawful basis apart free. uncovered_independent S lawful F G basis B apart free
