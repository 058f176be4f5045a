use Rattle.resolution_laws.proofs.Existence.{basis_of_pairs}
use Rattle.resolution_laws.proofs.exact_laws.basis_by_pairs.Goals as goal

pub returns : goal.returns
returns c = λ n S F H lawful list monic syzygies pairs. basis_of_pairs S lawful F list H monic syzygies pairs
