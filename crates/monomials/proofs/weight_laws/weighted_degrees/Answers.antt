use Rattle.monomials.proofs.Weighing.{weighted_degree-cons, weighted_degree-none, weighted_degree-times, weighted_degree-unit, weighted_degree_within, weighted_degree_zero}
use Rattle.monomials.proofs.weight_laws.weighted_degrees.Goals as goal

pub returns : goal.returns
returns c = record {
  sum = λ n. weighted_degree-times;
  unit = weighted_degree-unit;
  zero = λ n. weighted_degree_zero;
  within = λ n. weighted_degree_within;
  first = λ n. weighted_degree-cons;
  none = λ n. weighted_degree-none;
}
