use Rattle.session_values.proofs.Appending.{on_err}
use Rattle.session_values.proofs.texts.append_word.Goals as goal

pub returns-in_err-push-clause-err : goal.returns-in_err-push-clause-err
returns-in_err-push-clause-err c = on_err c.from_residual-in_err-push.result (rw c.in_err-push.ensures.items (_, c.in_ok-extend_from_slice.ensures.items))
