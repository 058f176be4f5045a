use Rattle.schreyer_resolution.specs.Sharing.{AreTakenAway}
use Rattle.schreyer_resolution.proofs.substituting.take_word.Given as goal

abbrev pub invariant-bits : goal.invariant-bits
invariant-bits l = AreTakenAway l.ring l.columns l.key l.products l.taken.items l.work
