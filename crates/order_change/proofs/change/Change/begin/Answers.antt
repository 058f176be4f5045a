use Rattle.std.proofs.Common.{length, subst, sym}
use Rattle.monomial_orders.specs.Kept.{IsWeighed, monomials}
use Rattle.term_lists.specs.Vectors.{sums_of}
use Rattle.order_change.proofs.Items.{unit_by}
use Rattle.order_change.proofs.Stepping.{first_next, first_turns, nothing_known}
use Rattle.order_change.specs.Changing.{IsFormModulo}
use Rattle.order_change.proofs.change.Change.begin.Goals as goal

pub add-requires-clause-known : goal.add-requires-clause-known
add-requires-clause-known c =
    let ring = c.args.ring.now in
    let n = length ring.weights in
    let e = c.in_ok-change.ensures in
    nothing_known n ring (sums_of n c.args.basis.now) (monomials n c.args.standard.now) c.in_ok-change.change e.monomials e.forms e.rows e.leads e.members

pub add-requires-clause-next : goal.add-requires-clause-next
add-requires-clause-next c =
    let ring = c.args.ring.now in
    let n = length ring.weights in
    let e = c.in_ok-change.ensures in
    first_next n ring c.in_ok-change.change c.in_ok-one.one e.monomials e.leads (subst (λ k. IsWeighed k ring.weights c.in_ok-one.one) c.len.ensures (c.in_ok-one.ensures.weighed ring.weights)) c.in_ok-one.ensures.degree

pub add-requires-clause-form : goal.add-requires-clause-form
add-requires-clause-form c =
    let ring = c.args.ring.now in
    let n = length ring.weights in
    let is = unit_by c.len.result n c.in_ok-one.one.exponents c.len.ensures c.in_ok-one.ensures.ok in
    subst (λ z. IsFormModulo n ring (sums_of n c.args.basis.now) (monomials n c.args.standard.now) z c.args.form) (sym is) c.requires.form

pub returns : goal.returns
returns c =
    let ring = c.args.ring.now in
    let n = length ring.weights in
    let e = c.in_ok-change.ensures in
    let is = unit_by c.len.result n c.in_ok-one.one.exponents c.len.ensures c.in_ok-one.ensures.ok in
    record {
      known = c.in_ok-add.ensures.known;
      turns = first_turns n ring c.in_ok-change.change c.add.new.self c.in_ok-one.one e.turns e.zeros e.monomials e.leads is c.in_ok-add.ensures.added;
    }
