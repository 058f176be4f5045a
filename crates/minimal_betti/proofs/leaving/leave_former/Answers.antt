use Rattle.std.proofs.Common.{inr, refl}
use Rattle.minimal_betti.proofs.leaving.leave_former.Goals as goal

pub returns-in_ok-push-in-Some : goal.returns-in_ok-push-in-Some
returns-in_ok-push-in-Some c = λ rows h.
    inr (
      c.pop.new.self.items,
      c.in-Some.last,
      _,
      c.in-Some.ensures.items,
      c.in_ok-push-in-Some.ensures.items,
      c.in_ok-fewer_columns-in-Some.ensures rows h,
      refl,
    )
