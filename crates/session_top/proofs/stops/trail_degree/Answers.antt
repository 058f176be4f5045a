use Rattle.std.proofs.Common.{ap₂, ◌+◌, ◌∙◌, sym}
use Rattle.session_top.proofs.Degrees.{degree_at}
use Rattle.session_top.proofs.stops.trail_degree.Goals as goal

pub returns-in-Some : goal.returns-in-Some
returns-in-Some c =
    let trail = c.args.trail.now in
    ap₂ ◌+◌ c.degree_of.ensures.value c.degree_of-in-Some.ensures.value
    ∙ degree_at trail.ring.weights trail.products.items _ _ trail.last (sym c.deref.ensures.value ∙ c.in-Some.ensures.cases.0)
