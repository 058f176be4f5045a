use Rattle.std.proofs.Common.{refl, subst, subst₂, sym, ◌∙◌}
use Rattle.term_lists.specs.Rings.{setting, variables}
use Rattle.term_lists.specs.Vectors.{IsMonomialOver, key_of, sums_of}
use Rattle.vector_division.proofs.Looping.{are_weighed}
use Rattle.vector_division.specs.Progress.{AreWeighed}
use Rattle.induced_leads.specs.Pairs.{AreNonzero}
use Rattle.induced_leads.specs.PairLeads.{IsPairKey}
use Rattle.induced_leads.proofs.PairSteps.{base_leads}
use Rattle.schreyer_resolution.specs.Columns.{IsPartner}
use Rattle.schreyer_resolution.proofs.Dividing.{some}
use Rattle.schreyer_resolution.proofs.Trailing.{column_trail}
use Rattle.schreyer_resolution.proofs.trails.keep_trail.Goals as goal

pub partner-requires-clause-leads : goal.partner-requires-clause-leads
partner-requires-clause-leads g c =
    let ring = g.F.Frame.over c.args.frame.now in
    let n = variables ring in
    let base = c.requires.base in
    subst AreNonzero (sym c.as_slice.ensures) (base_leads n (setting ring n (g.F.Frame.compare c.args.frame.now n) base.rank) (c.lawful_setting.ensures base.rank) c.args.columns.now base.monic)

pub partner-requires-clause-weighed : goal.partner-requires-clause-weighed
partner-requires-clause-weighed g c =
    let ring = g.F.Frame.over c.args.frame.now in
    let n = variables ring in
    subst₂ (λ r z. AreWeighed (variables r) r.weights z) (sym c.ring-ring.ensures) (sym c.as_slice.ensures) (are_weighed n ring.weights ring.modulus.value (g.F.Frame.compare c.args.frame.now n) c.args.columns.now c.requires.vectors)

pub partner-requires-clause-monomial : goal.partner-requires-clause-monomial
partner-requires-clause-monomial g c = subst (λ r. IsMonomialOver r c.args.key.now.monomial) (sym c.ring-ring.ensures) c.requires.monomial

pub partner-requires-clause-pair : goal.partner-requires-clause-pair
partner-requires-clause-pair g c =
    subst₂ (λ r z. IsPairKey (sums_of (variables r) z) (key_of (variables r) c.args.key.now)) (sym c.ring-ring.ensures) (sym c.as_slice.ensures) c.requires.pair

pub returns : goal.returns
returns g c =
    let ring = g.F.Frame.over c.args.frame.now in
    let compare = g.F.Frame.compare c.args.frame.now in
    let cols = c.args.columns.now in
    let key = c.args.key.now in
    let rank = c.requires.base.rank in
    column_trail ring c.args.below.now cols key c.in_ok-j.j c.args.products.items c.requires.chain.0 c.args.last _
    (some ring compare rank (c.lawful_setting.ensures rank) (g.met.F.Frame.laws c.args.frame.now (variables ring) 0) cols c.requires.vectors c.requires.base.monic)
    (subst₂ (λ r z. IsPartner (variables r) z key c.in_ok-j.j) c.ring-ring.ensures c.as_slice.ensures c.in_ok-j.ensures)
    c.requires.chain.1 c.requires.chain.2 (c.in_ok-copied_ring.ensures.0 ∙ c.ring-ring.ensures) refl c.new.ensures c.in_ok-copied_ring.ensures.1 refl c.zero.ensures c.in_ok-copied_ring.ensures.2 refl refl
