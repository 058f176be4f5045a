use Rattle.monomial_counts.proofs.Counting.{sum_of_degree-add, sum_of_degree_one, sum_of_degree_other}
use Rattle.monomial_counts.proofs.count_laws.sums_of_degree.Goals as goal

pub returns : goal.returns
returns c = record {
  sum = λ n d ws f g. sum_of_degree-add ws n d f g;
  once = λ n d ws v f. sum_of_degree_one ws n d v f;
  other = λ n d ws v f. sum_of_degree_other ws n d v f;
}
