use Rattle.std.proofs.Common.{}
use Rattle.complements.proofs.Plus.{term_end}
use Rattle.complements.proofs.factors.push_factor.Goals as goal

pub returns : goal.returns
returns c =
    term_end c.args.ring.now c.args.factors.now.items c.push.new.self.items _ c.args.monomial.now c.args.entry.1 c.in_ok-push.ensures.items
    c.in_ok-try_copy.ensures.ok c.requires.monomial c.requires.residue c.requires.factors
