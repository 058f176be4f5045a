use Rattle.session_lang.proofs.OneResult.{no_run}
use Rattle.session_lang.proofs.line_laws.no_run_of_refused.Goals as goal

pub returns : goal.returns
returns c = no_run
