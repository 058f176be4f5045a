use Rattle.reduced_bases.proofs.Sorting.{IsReducedBasis_sorted, IsReducedSet_permuted}
use Rattle.reduced_bases.proofs.interreduction_laws.sorted_set.Goals as goal

pub returns : goal.returns
returns c = record {
  permuted = λ n S F G H r p. IsReducedSet_permuted S F G H r p;
  sorted = λ n S F G lawful r order. IsReducedBasis_sorted S lawful F G r order;
}
