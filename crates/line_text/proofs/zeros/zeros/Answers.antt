use Rattle.line_text.proofs.Runs.{front_bytes}
use Rattle.line_text.proofs.zeros.zeros.Goals as goal

pub returns : goal.returns
returns c = front_bytes c.args.count 128 c.requires
