use Rattle.std.proofs.Common.{ap, arith}
use Rattle.term_lists.specs.Rings.{variables}
use Rattle.induced_leads.proofs.PairSteps.{before_end, monomials_end, monomials_next}
use Rattle.induced_leads.proofs.pair_syzygies.pair_monomials.Goals as goal

pub loop-j-preserved : goal.loop-j-preserved
loop-j-preserved c =
    let n = variables c.args.ring.now in
    monomials_next n c.args.ring.now.weights c.args.columns.now c.args.index c.loop-j.j c.lead_key-left.result.now c.lead_key-right.result.now c.loop-j.found.items c.push_pair.new.found.items
    c.loop-j.invariant c.in_ok-push_pair.ensures (omega arith) (c.lead_key-left.ensures.lead n) (c.lead_key-right.ensures.lead n)

pub returns : goal.returns
returns c =
    let n = variables c.args.ring.now in
    let cols = c.args.columns.now in
    let i = c.args.index in
    let end = c.end-end.result in
    let position = c.lead_key-left.result.now.position in
    let at = ap (λ z. z.0) (c.lead_key-left.ensures.lead n) in
    let room = before_end n cols i end position c.requires.index c.requires.leads at c.end-end.ensures.past in
    let inside = c.end-end.ensures.inside in
    monomials_end n c.args.ring.now.weights cols i c.loop-j.j end position c.loop-j.found.items
    c.loop-j.invariant (omega (arith, room, inside)) (omega (arith, room)) c.requires.leads at c.end-end.ensures.past
