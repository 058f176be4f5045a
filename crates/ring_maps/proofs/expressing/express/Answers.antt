use Rattle.std.proofs.Common.{[], subst, sym}
use Rattle.formal_sums.specs.FormalSums.{Each}
use Rattle.groebner_iface.specs.Calls.{NoTrail}
use Rattle.groebner_iface.proofs.CallingRuns.{more_stops}
use Rattle.term_lists.specs.Rings.{ring_comparison}
use Rattle.term_lists.specs.Vectors.{AreVectorsOver, HasPositions}
use Rattle.ring_maps.specs.Graphs.{IsExpressionTrail, IsGraphRun}
use Rattle.ring_maps.specs.GraphSteps.{IsGraphBasis}
use Rattle.ring_maps.proofs.Listing.{later_work}
use Rattle.ring_maps.proofs.expressing.express.Goals as goal

pub graph_basis-requires-clause-vectors : goal.graph_basis-requires-clause-vectors
graph_basis-requires-clause-vectors g c κs within =
    let ring = c.args.ring.now in
    subst (λ l. AreVectorsOver ring (ring_comparison ring) l) (sym c.new-none.ensures) tt

pub graph_basis-requires-clause-polynomials : goal.graph_basis-requires-clause-polynomials
graph_basis-requires-clause-polynomials g c κs within = subst (λ l. Each (HasPositions 1) l) (sym c.new-none.ensures) tt

pub returns-in-Err-clause-stop : goal.returns-in-Err-clause-stop
returns-in-Err-clause-stop g c =
    let ring = c.args.ring.now in
    let images = c.args.images.now in
    more_stops _ _ _ _ (IsGraphRun ring images c.new-none.result) (IsGraphRun ring images []) NoTrail (IsExpressionTrail ring images c.args.g.now)
    (λ r m l h. subst (λ z. IsGraphRun ring images z r m l) c.new-none.ensures h) (λ t h. absurd h) c.in-Err.stop c.in-Err.ensures.stop

pub expressed-requires-clause-basis : goal.expressed-requires-clause-basis
expressed-requires-clause-basis g c =
    subst (λ l. IsGraphBasis c.args.ring.now c.args.images.now l c.in-Ok.found.0 c.in-Ok.found.1) c.new-none.ensures c.in-Ok.ensures.basis

pub returns-clause-stop : goal.returns-clause-stop
returns-clause-stop g c =
    rw c.from.ensures
    (later_work _ _ _ _ (IsGraphRun c.args.ring.now c.args.images.now []) (IsExpressionTrail c.args.ring.now c.args.images.now c.args.g.now) c.in-Err-expressed.stop
    c.in-Ok.ensures.same c.in-Err-expressed.ensures.stop)
