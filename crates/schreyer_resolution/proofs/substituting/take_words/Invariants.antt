use Rattle.schreyer_resolution.specs.Sharing.{AreTakenAway}
use Rattle.schreyer_resolution.proofs.substituting.take_words.Given as goal

abbrev pub invariant-words : goal.invariant-words
invariant-words l = AreTakenAway l.ring l.columns l.key l.products l.taken.items l.work
