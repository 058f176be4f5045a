use Rattle.division_laws.proofs.SumLeads.{lead_bounded, lead_greater}
use Rattle.division_laws.proofs.sum_leads.leads_of_sums.Goals as goal

pub returns : goal.returns
returns c = record {
  bounded = λ n S v w k l m. lead_bounded S v w k l m;
  greater = λ n S v w k l. lead_greater S v w k l;
}
