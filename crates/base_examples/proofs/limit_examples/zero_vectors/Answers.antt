use Rattle.base_examples.proofs.Limits.{no_basis}
use Rattle.base_examples.proofs.limit_examples.zero_vectors.Goals as goal

pub returns : goal.returns
returns c = λ n S F G v lawful zero member nonzero basis. no_basis S F G v lawful zero member nonzero basis
