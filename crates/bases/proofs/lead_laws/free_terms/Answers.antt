use Rattle.bases.proofs.FreeTerms.{HasFreeTerms_of_terms, terms_of_HasFreeTerms}
use Rattle.bases.proofs.lead_laws.free_terms.Goals as goal

pub returns : goal.returns
returns c = record {
  by_terms = λ n S G v. HasFreeTerms_of_terms S G v;
  terms = λ n S G v lawful. terms_of_HasFreeTerms S lawful G v;
}
