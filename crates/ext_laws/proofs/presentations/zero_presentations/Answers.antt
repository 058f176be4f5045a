use Rattle.ext_laws.proofs.Units.{zero_from, zero_to}
use Rattle.ext_laws.proofs.presentations.zero_presentations.Goals as goal

pub returns : goal.returns
returns c = λ n S Z I Q lawful descending rank basis relations.
    (zero_to S lawful descending Z I Q rank basis relations, zero_from S lawful descending Z I Q rank basis relations)
