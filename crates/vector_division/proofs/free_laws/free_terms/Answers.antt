use Rattle.vector_division.proofs.Freeing.{HasFreeTerms_of_uncovered, free_normal, not_covered, uncovered_normal}
use Rattle.vector_division.proofs.free_laws.free_terms.Goals as goal

pub returns : goal.returns
returns c = record {
  key = λ n S G k u. not_covered S G k u;
  terms = λ n S G v h. HasFreeTerms_of_uncovered S G v h;
  uncovered = λ n S G k lawful normal. uncovered_normal S lawful G normal k;
  free = λ n S G v lawful normal nv. free_normal S lawful G normal v nv;
}
