use Rattle.std.proofs.Common.{subst}
use Rattle.std.specs.Prelude.{IfSome}
use Rattle.remainders.proofs.Resting.{remainder_left}
use Rattle.remainders.specs.Leaving.{AreLeft}
use Rattle.remainders.proofs.remaining.left_of.Goals as goal

pub returns-clause-remainder : goal.returns-clause-remainder
returns-clause-remainder c =
    let ring = c.args.ring.now in
    let list = c.args.list.now in
    let keys = c.args.numbers.now in
    let sums = c.args.work.sums.items in
    let touched = c.args.work.touched.items in
    let left : AreLeft ring list keys sums c.in-Some.terms.items = subst (λ o. IfSome o (λ x. AreLeft ring list keys sums x.items)) c.in-Some.is c.in_ok-left.ensures in
    let lawful = c.lawful_setting.ensures 0 in
    remainder_left ring list keys c.args.v.now sums touched c.in-Some.terms.items c.in_ok-from_terms-in-Some.field-0
    c.requires.way.taken left lawful.domain lawful.order c.in_ok-from_terms-in-Some.ensures.vector c.in_ok-from_terms-in-Some.ensures.same
