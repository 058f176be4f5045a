use Rattle.change_laws.proofs.Independent.{echelon_few, echelon_independent}
use Rattle.change_laws.proofs.independence_laws.echelon_rows.Goals as goal

pub returns-clause-independent : goal.returns-clause-independent
returns-clause-independent k = λ n p F B N r c q domain rows base. echelon_independent domain F B N r c q rows base

pub returns-clause-few : goal.returns-clause-few
returns-clause-few k = λ n p F B N r c q domain rows. echelon_few domain F B N r c q rows
