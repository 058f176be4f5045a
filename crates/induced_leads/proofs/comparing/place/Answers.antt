use Rattle.std.proofs.Common.{arith}
use Rattle.induced_leads.proofs.Summing.{summed_at}
use Rattle.induced_leads.proofs.comparing.place.Goals as goal

pub returns-clause-sum : goal.returns-clause-sum
returns-clause-sum c = omega (arith, c.from.ensures, summed_at c.args.a.now c.args.e.now c.args.k c.requires.place)
