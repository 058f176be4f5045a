use Rattle.std.proofs.Common.{◌≡◌, map, take}
use Rattle.pivot_table.specs.Law.{option_word}
use Rattle.pivot_table.proofs.words.words_of.Given as goal

abbrev pub invariant-loop-old : goal.invariant-loop-old
invariant-loop-old l = l.words.items ≡ map option_word (take l.old-index l.held)
