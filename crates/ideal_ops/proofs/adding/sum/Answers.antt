use Rattle.std.proofs.Common.{refl, subst, sym, ◌++◌}
use Rattle.formal_sums.proofs.WeightedSums.{Each_append}
use Rattle.formal_sums.specs.FormalSums.{Each}
use Rattle.term_lists.specs.Rings.{ring_comparison}
use Rattle.term_lists.specs.Vectors.{AreVectorsOver, HasPositions}
use Rattle.groebner_iface.specs.Calls.{NoTrail}
use Rattle.groebner_iface.specs.Runs.{IsReducedBasisOf}
use Rattle.groebner_iface.proofs.CallingRuns.{run_stops}
use Rattle.ideal_ops.specs.Runs.{IsRunOn}
use Rattle.ideal_ops.proofs.Shared.{basis_of_sum, both_positions}
use Rattle.ideal_ops.proofs.adding.sum.Goals as goal

pub reduced-requires-clause-vectors : goal.reduced-requires-clause-vectors
reduced-requires-clause-vectors g c =
    let ring = c.args.ring.now in
    subst (AreVectorsOver ring (ring_comparison ring)) (sym c.in_ok-list.ensures) (Each_append _ c.args.left.now c.args.right.now c.requires.left c.requires.right)

pub reduced-requires-clause-positions : goal.reduced-requires-clause-positions
reduced-requires-clause-positions g c =
    subst (Each (HasPositions c.args.rank)) (sym c.in_ok-list.ensures)
    (both_positions c.args.rank c.args.left.now c.args.right.now c.requires.left_positions c.requires.right_positions)

pub returns-clause-stop : goal.returns-clause-stop
returns-clause-stop g c =
    rw c.from.ensures
    (run_stops _ _ _ _ (IsRunOn c.args.ring.now c.args.rank (c.args.left.now ++ c.args.right.now)) NoTrail
    c.args.ring.now c.args.rank c.in_ok-list.list c.in-Err.stop (refl, refl, c.in_ok-list.ensures) c.in-Err.ensures.stop)

pub returns-in-Ok-clause-basis : goal.returns-in-Ok-clause-basis
returns-in-Ok-clause-basis g c =
    let ring = c.args.ring.now in
    let rank = c.args.rank in
    basis_of_sum ring rank (c.lawful_setting.ensures rank) c.args.left.now c.args.right.now c.in-Ok.basis c.requires.left_positions c.requires.right_positions
    (subst (λ l. IsReducedBasisOf ring rank l c.in-Ok.basis) c.in_ok-list.ensures c.in-Ok.ensures.basis)
