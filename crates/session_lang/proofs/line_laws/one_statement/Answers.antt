use Rattle.session_lang.proofs.OneResult.{stated_not_refused, states_once}
use Rattle.session_lang.proofs.line_laws.one_statement.Goals as goal

pub returns : goal.returns
returns c = record { same = states_once; apart = stated_not_refused }
