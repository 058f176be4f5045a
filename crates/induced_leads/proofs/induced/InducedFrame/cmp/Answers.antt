use Rattle.std.proofs.Common.{ap, ap₂, length, subst, sym, ◌∙◌}
use Rattle.term_lists.specs.Rings.{variables}
use Rattle.term_lists.specs.Vectors.{IsMonomialOver}
use Rattle.resolution_maps.specs.Inducing.{Tower, over}
use Rattle.induced_leads.specs.Ways.{by_way}
use Rattle.induced_leads.proofs.Inducing.{by_bottoms, by_monomials, by_positions, by_ways, same_ways}
use Rattle.induced_leads.proofs.induced.InducedFrame.cmp.Goals as goal

pub returns-then-a-b : goal.returns-then-a-b
returns-then-a-b c = by_monomials _ _ c.self.view_is c.args.a.now c.args.b.now c.cmp.result c.if-a-b.true c.requires.left c.cmp.ensures

pub compare_ways-requires : goal.compare_ways-requires
compare_ways-requires c =
    let ring = c.self.inside.ring.now in
    let maps = c.self.inside.maps.now in
    ap length c.deref.ensures.value
    ∙ same_ways (over ring maps) c.args.a.now.position c.args.b.now.position c.at-left.result.now c.at-right.result.now
    (c.at-left.ensures (variables ring) ring.weights maps c.self.invariant) (c.at-right.ensures (variables ring) ring.weights maps c.self.invariant)
    ∙ sym (ap length c.deref-in-Equal.ensures.value)

pub returns-in-Equal-compare_ways : goal.returns-in-Equal-compare_ways
returns-in-Equal-compare_ways c =
    let ring = c.self.inside.ring.now in
    let maps = c.self.inside.maps.now in
    by_positions _ _ c.self.view_is c.args.a.now c.args.b.now c.at-left.result.now c.at-right.result.now
    (subst (λ (x : Tower). IsMonomialOver x.ring c.args.a.now.monomial) (sym c.self.view_is) c.requires.left)
    (subst (λ (x : Tower). IsMonomialOver x.ring c.args.b.now.monomial) (sym c.self.view_is) c.requires.right)
    (c.at-left.ensures (variables ring) ring.weights maps c.self.invariant) (c.at-right.ensures (variables ring) ring.weights maps c.self.invariant) c.cmp-in-Equal-compare_ways.result
    c.in-Equal.ensures (c.in-Equal-compare_ways.ensures ∙ ap₂ by_way c.deref.ensures.value c.deref-in-Equal.ensures.value) c.cmp-in-Equal-compare_ways.ensures

pub returns-in_default-compare_ways : goal.returns-in_default-compare_ways
returns-in_default-compare_ways c =
    let ring = c.self.inside.ring.now in
    let maps = c.self.inside.maps.now in
    by_ways _ _ c.self.view_is c.args.a.now c.args.b.now c.at-left.result.now c.at-right.result.now
    (subst (λ (x : Tower). IsMonomialOver x.ring c.args.a.now.monomial) (sym c.self.view_is) c.requires.left)
    (subst (λ (x : Tower). IsMonomialOver x.ring c.args.b.now.monomial) (sym c.self.view_is) c.requires.right)
    (c.at-left.ensures (variables ring) ring.weights maps c.self.invariant) (c.at-right.ensures (variables ring) ring.weights maps c.self.invariant) c.compare_ways.result
    c.in-Equal.ensures (c.compare_ways.ensures ∙ ap₂ by_way c.deref.ensures.value c.deref-in-Equal.ensures.value) c.in_default-compare_ways.not-Equal

pub returns-in_default : goal.returns-in_default
returns-in_default c =
    let ring = c.self.inside.ring.now in
    let maps = c.self.inside.maps.now in
    by_bottoms _ _ c.self.view_is c.args.a.now c.args.b.now c.at-left.result.now c.at-right.result.now
    (subst (λ (x : Tower). IsMonomialOver x.ring c.args.a.now.monomial) (sym c.self.view_is) c.requires.left)
    (subst (λ (x : Tower). IsMonomialOver x.ring c.args.b.now.monomial) (sym c.self.view_is) c.requires.right)
    (c.at-left.ensures (variables ring) ring.weights maps c.self.invariant) (c.at-right.ensures (variables ring) ring.weights maps c.self.invariant) c.compare_bottoms.result
    c.compare_bottoms.ensures c.in_default.not-Equal
