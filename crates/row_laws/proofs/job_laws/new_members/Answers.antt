use Rattle.row_laws.proofs.NewRows.{IsMember_new, IsMonicList_new}
use Rattle.row_laws.proofs.job_laws.new_members.Goals as goal

pub returns : goal.returns
returns c = record {
  members = λ n S G M E N i lawful products form new h. IsMember_new S lawful G M E N form new products i h;
  monic = λ n S G M E N lawful ranks products form new. IsMonicList_new S lawful G M E N form new ranks products;
}
