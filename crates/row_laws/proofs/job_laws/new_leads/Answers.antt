use Rattle.row_laws.proofs.NewRows.{new_lead_apart}
use Rattle.row_laws.proofs.job_laws.new_leads.Goals as goal

pub returns : goal.returns
returns c = λ n S G M E N i lawful reducers form new h covered. new_lead_apart S lawful G M E N form new reducers i h covered
