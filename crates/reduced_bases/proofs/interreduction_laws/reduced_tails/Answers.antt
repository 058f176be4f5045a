use Rattle.reduced_bases.proofs.Tails.{IsReducedSet_tails}
use Rattle.reduced_bases.proofs.interreduction_laws.reduced_tails.Goals as goal

pub returns : goal.returns
returns c = λ n S F G H lawful basis minimal reduced. IsReducedSet_tails S lawful F G H basis minimal reduced
