use Rattle.std.proofs.Common.{inr, refl}
use Rattle.minimal_betti.proofs.leaving.leave_next.Goals as goal

pub returns-in_ok-push : goal.returns-in_ok-push
returns-in_ok-push c = λ rows h.
    inr (c.pop.new.self.items, c.in-Some.next, _, c.in-Some.ensures.items, c.in_ok-push.ensures.items, c.in_ok-columns_without.ensures rows h, refl)

pub columns_without-requires-clause-leaving : goal.columns_without-requires-clause-leaving
columns_without-requires-clause-leaving c = c.requires.leaving
