use Rattle.std.proofs.Common.{arith}
use Rattle.induced_leads.proofs.Reaching.{no_leads_past, none_reached}
use Rattle.term_lists.specs.Vectors.{key_of}
use Rattle.induced_leads.proofs.divisors.LeadIndex.may_divide.Goals as goal

pub returns-then-position-len : goal.returns-then-position-len
returns-then-position-len c = λ f n ws columns k index weighed len at occur. no_leads_past columns c.args.self.now index c.args.position (omega arith) n (key_of n k) at

pub returns : goal.returns
returns c = λ f n ws columns k index weighed len at occur.
    none_reached columns c.args.self.now index n ws k c.args.position c.args.variables c.loop-i.i c.index-span.result.now weighed len at occur c.index-span.ensures
    (omega arith) c.loop-i.invariant
