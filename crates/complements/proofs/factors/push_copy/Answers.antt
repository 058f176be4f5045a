use Rattle.std.proofs.Common.{ap}
use Rattle.complements.proofs.Plus.{term_end}
use Rattle.term_lists.specs.declared.key.Key.{Key as CodeKey}
use Rattle.complements.proofs.factors.push_copy.Goals as goal

pub returns : goal.returns
returns c =
    term_end c.args.ring.now c.args.terms.now.items c.push.new.self.items c.in_ok-key.key c.args.term.now.0.monomial c.args.term.now.1 c.in_ok-push.ensures.items
    (ap (λ (k : CodeKey). k.monomial) c.in_ok-key.ensures.ok) c.requires.monomial c.requires.residue c.requires.terms
