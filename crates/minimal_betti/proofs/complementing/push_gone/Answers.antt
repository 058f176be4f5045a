use Rattle.std.proofs.Common.{}
use Rattle.minimal_betti.proofs.Gone.{gone_end}
use Rattle.minimal_betti.proofs.complementing.push_gone.Goals as goal

pub returns : goal.returns
returns c = λ indices told h.
    gone_end indices c.args.leaving.now c.args.columns.now c.args.gone.now.items c.push.new.self.items c.args.number c.index-columns-number.result
    c.in_ok-try_copy.field-0 told c.requires (c.leaves.ensures.yes c.if-not-leaves.false) c.in_ok-try_copy.ensures c.index-columns-number.is
    c.in_ok-push.ensures.items h
