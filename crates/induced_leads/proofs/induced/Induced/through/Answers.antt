use Rattle.std.proofs.Common.{arith, length, subst, sym, take, ◌<◌}
use Rattle.std.proofs.lemmas.List.{take_all}
use Rattle.term_lists.proofs.Scaling.{take_item}
use Rattle.term_lists.specs.Rings.{variables}
use Rattle.induced_leads.specs.Heads.{AreHeads}
use Rattle.induced_leads.proofs.induced.Induced.through.Goals as goal

pub loop-k-init : goal.loop-k-init
loop-k-init c =
    let ring = c.args.ring.now in
    let maps = c.args.maps.now in
    subst (λ z. AreHeads (variables ring) ring.weights z c.in_ok-heads.heads) (sym (take_item maps 0 c.index-maps-0.result c.requires c.index-maps-0.is))
    c.in_ok-heads.ensures

pub next_heads-requires : goal.next_heads-requires
next_heads-requires c = (take c.loop-k.k c.args.maps.now, c.loop-k.invariant)

pub loop-k-preserved : goal.loop-k-preserved
loop-k-preserved c =
    let ring = c.args.ring.now in
    let maps = c.args.maps.now in
    let k = c.loop-k.k in
    let lt : k < length maps = omega arith in
    subst (λ z. AreHeads (variables ring) ring.weights z c.in_ok-heads-2.heads) (sym (take_item maps k c.index-maps-k.result lt c.index-maps-k.is))
    (c.in_ok-heads-2.ensures (take k maps) c.loop-k.invariant)

pub invariant_of-result : goal.invariant_of-result
invariant_of-result c =
    let ring = c.args.ring.now in
    let maps = c.args.maps.now in
    subst (λ z. AreHeads (variables ring) ring.weights z c.loop-k.heads) (take_all c.loop-k.k maps (omega arith)) c.loop-k.invariant
