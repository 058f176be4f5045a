use Rattle.schreyer_resolution.specs.Sharing.{AreTakenAway}
use Rattle.schreyer_resolution.proofs.substituting.take_all.Given as goal

abbrev pub invariant-loop-group : goal.invariant-loop-group
invariant-loop-group l = AreTakenAway l.ring l.columns l.key l.products l.taken.items l.work
