use Rattle.poly_text.proofs.Entries.{entry_begun, entry_empty}
use Rattle.poly_text.proofs.vector.append_entry.Goals as goal

pub returns-then-begun-clause-ok : goal.returns-then-begun-clause-ok
returns-then-begun-clause-ok c =
    entry_begun _ c.args.position c.loop-term.term-index c.args.terms.now c.loop-term.begun c.loop-term.out c.args.out.now
    c.loop-term-test.false c.if-begun.true c.loop-term.invariant.1

pub returns-clause-ok : goal.returns-clause-ok
returns-clause-ok c =
    entry_empty _ c.args.position c.loop-term.term-index c.args.terms.now c.loop-term.begun c.loop-term.out c.args.out.now c.push.new.self
    c.loop-term-test.false c.if-begun.false c.in_ok-push.ensures.items c.loop-term.invariant.1
