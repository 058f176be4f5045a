use Rattle.script_parse.proofs.OneAnswer as laws
use Rattle.script_parse.proofs.line_laws.one_answer.Goals as goal

pub returns : goal.returns
returns c = record { statement = laws.one_statement; kind = laws.one_kind; apart = laws.apart }
