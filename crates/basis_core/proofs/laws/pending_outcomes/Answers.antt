use Rattle.basis_core.proofs.Owing.{owed_by_take, owed_over_end, owed_over_put, owed_over_stop, owed_over_take}
use Rattle.basis_core.proofs.laws.pending_outcomes.Goals as goal

pub returns : goal.returns
returns c = record {
  taken = λ s t w most answer o may took same answers given. owed_by_take s t w most answer o may took same answers given;
  take = λ s t w most answer o took same grown other may. owed_over_take s t w most answer o took same grown other may;
  put = λ s t given o made put same other may. owed_over_put s t given o made put same other may;
  end = λ s t w ending o ends same grown other may. owed_over_end s t w ending o ends same grown other may;
  stop = λ s t w reason o stops same grown may. owed_over_stop s t w reason o stops same grown may;
}
