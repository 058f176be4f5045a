use Rattle.reduced_bases.proofs.Dropping.{IsGroebnerBasis_dropped}
use Rattle.reduced_bases.proofs.Sorting.{IsReducedBasis_sorted, IsReducedSet_permuted}
use Rattle.reduced_bases.proofs.Tails.{IsReducedSet_tails}
use Rattle.reduced_bases.proofs.interreduction_laws.interreduction.Goals as goal

pub returns : goal.returns
returns c = λ n S F G K H R lawful basis inside covers minimal reduced moved order.
    IsReducedBasis_sorted S lawful F R (IsReducedSet_permuted S F H R (IsReducedSet_tails S lawful F K H (IsGroebnerBasis_dropped S F G K basis inside covers) minimal reduced) moved) order
