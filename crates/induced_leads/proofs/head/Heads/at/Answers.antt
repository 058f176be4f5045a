use Rattle.std.proofs.Common.{arith}
use Rattle.induced_leads.proofs.head.Heads.at.Goals as goal

pub returns-else-position-len : goal.returns-else-position-len
returns-else-position-len c = λ n ws maps h. h.others c.args.position (omega (arith, c.if-position-len.false, c.len.ensures))
