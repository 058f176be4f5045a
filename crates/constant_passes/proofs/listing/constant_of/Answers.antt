use Rattle.std.proofs.Common.{arith, sym, ◌∙◌}
use Rattle.constant_passes.proofs.Listings.{constant_gone, constant_here, constant_not}
use Rattle.constant_passes.proofs.listing.constant_of.Goals as goal

pub returns-then-degree-gt0-clause-constant : goal.returns-then-degree-gt0-clause-constant
returns-then-degree-gt0-clause-constant c rows h =
    let test = c.if-degree-gt0.true in
    let is = c.degree.ensures.value in
    constant_not c.args.ring.now rows c.args.term.now c.requires (omega (arith, test, is))

pub returns-in-None-clause-constant : goal.returns-in-None-clause-constant
returns-in-None-clause-constant c rows h =
    constant_gone c.args.ring.now rows c.args.term.now c.requires (sym (h c.args.term.now.0.position) ∙ sym c.place_of.ensures ∙ c.in-None.is)

pub returns-clause-constant : goal.returns-clause-constant
returns-clause-constant c rows h =
    let test = c.if-degree-gt0.false in
    let is = c.degree.ensures.value in
    constant_here c.args.ring.now rows c.args.term.now c.requires c.in-Some.place (omega (arith, test, is))
    (sym (h c.args.term.now.0.position) ∙ sym c.place_of.ensures ∙ c.in-Some.is)
