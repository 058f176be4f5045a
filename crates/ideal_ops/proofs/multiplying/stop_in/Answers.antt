use Rattle.std.proofs.Common.{[], get_or, length, subst, sym, ◌<◌, ◌∷◌}
use Rattle.term_lists.specs.Rings.{ring_comparison}
use Rattle.term_lists.specs.Vectors.{AreVectorsOver}
use Rattle.module_vectors.specs.ProductStops.{CombinationStops}
use Rattle.ideal_ops.specs.Products.{IsProductTrail, WorkStops}
use Rattle.ideal_ops.proofs.multiplying.stop_in.Goals as goal

pub stop_of-requires-clause-b : goal.stop_of-requires-clause-b
stop_of-requires-clause-b c = c.requires.b

pub stop_of-requires-clause-b_positions : goal.stop_of-requires-clause-b_positions
stop_of-requires-clause-b_positions c = c.requires.b_positions

pub stop_of-requires-clause-members : goal.stop_of-requires-clause-members
stop_of-requires-clause-members c =
    subst (AreVectorsOver c.args.ring.now (ring_comparison c.args.ring.now)) (sym c.in-Ok.ensures) c.requires.list

pub stop_of-requires-clause-index : goal.stop_of-requires-clause-index
stop_of-requires-clause-index c = subst (λ l. c.args.index < length l) (sym c.in-Ok.ensures) c.requires.index

pub stop_of-requires-clause-stop : goal.stop_of-requires-clause-stop
stop_of-requires-clause-stop c =
    subst (λ l. CombinationStops c.args.b.now (get_or l c.args.index [] ∷ []) c.args.stop) (sym c.in-Ok.ensures) c.requires.stop

pub returns-in-Ok : goal.returns-in-Ok
returns-in-Ok c = subst (λ l. WorkStops (IsProductTrail c.args.ring.now c.args.b.now l c.args.index) c.stop_of.result) c.in-Ok.ensures c.stop_of.ensures
