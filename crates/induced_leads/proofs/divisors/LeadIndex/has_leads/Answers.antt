use Rattle.std.proofs.Common.{arith}
use Rattle.induced_leads.proofs.Reaching.{no_leads_between, no_leads_past}
use Rattle.induced_leads.proofs.divisors.LeadIndex.has_leads.Goals as goal

pub returns-then-position-len-clause-none : goal.returns-then-position-len-clause-none
returns-then-position-len-clause-none c = λ f columns index. no_leads_past columns c.args.self.now index c.args.position (omega arith)

pub returns-then-span-clause-none : goal.returns-then-span-clause-none
returns-then-span-clause-none c = λ f columns index.
    no_leads_between columns c.args.self.now index c.args.position c.index-span.result.now c.index-span.ensures (omega arith)
