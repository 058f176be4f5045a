use Rattle.std.proofs.Common.{refl}
use Rattle.term_lists.specs.Rings.{variables}
use Rattle.induced_leads.proofs.Heading.{first_is}
use Rattle.induced_leads.proofs.head.first_head.Goals as goal

pub returns : goal.returns
returns c = λ F i lead.
    first_is (variables c.args.ring.now) c.args.ring.now.weights F i c.args.position c.args.exponents.now _ lead
    c.in_ok-exponents.ensures.sums refl c.new.ensures.items c.in_ok-exponents.ensures.degree c.in_ok-exponents.ensures.low
