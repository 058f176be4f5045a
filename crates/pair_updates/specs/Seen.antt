-- Words that were looked for among the words of a list
use Rattle.std.specs.Prelude.{List, length, ℕ, ◌≤◌}
use Rattle.formal_sums.specs.FormalSums.{Each}
use Rattle.pair_updates.specs.Rows.{EachNotBelow}
use Rattle.pair_updates.specs.declared.seen.SeenWord.{SeenWord}

-- before the index that is kept with it, no word of the list is below this one
pub record IsSeen (words : List ℕ) (s : SeenWord) : Type 0 where
  pub within : s.from ≤ length words
  pub before : EachNotBelow words s.word 0 s.from

-- and so at each of these
abbrev pub AreSeen : List ℕ → List SeenWord → Type 0
AreSeen words seen = Each (IsSeen words) seen
