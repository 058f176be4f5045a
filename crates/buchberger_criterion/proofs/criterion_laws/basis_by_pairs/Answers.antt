use Rattle.buchberger_criterion.proofs.Criterion.{IsGroebnerBasis_criterion}
use Rattle.buchberger_criterion.proofs.OrderedPairs.{HasLcmRepresentations_ordered}
use Rattle.buchberger_criterion.proofs.SameModule.{IsGroebnerBasis_generators}
use Rattle.buchberger_criterion.proofs.criterion_laws.basis_by_pairs.Goals as goal

pub returns : goal.returns
returns c = λ n S F G lawful list same pairs.
    IsGroebnerBasis_generators S lawful F G same.inside same.outside (IsGroebnerBasis_criterion S lawful G list (HasLcmRepresentations_ordered S lawful G pairs))
