use Rattle.session_lang.proofs.OneResult.{line_not_refused, line_once, refused_once}
use Rattle.session_lang.proofs.line_laws.one_result.Goals as goal

pub returns : goal.returns
returns c = record { done = line_once; kind = refused_once; apart = line_not_refused }
