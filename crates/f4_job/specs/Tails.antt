-- Pairs that need rows
use Rattle.std.specs.Prelude.{Bool, List, [], get_or, length, nat_lt, ℕ, ◌<◌, ◌||◌}
use Rattle.term_lists.specs.declared.key.Key.{Key as CodeKey}
use Rattle.pair_criteria.specs.declared.pair.Pair.{Pair as CodePair}

-- the pair is of two of so many members
abbrev pub IsPairWithin : ℕ → CodePair → Type 0
IsPairWithin count x = (x.i < count) × (x.j < count)

-- has a member of the pair a term behind its lead? (a test)
abbrev pub needs_rows : List (List (CodeKey × ℕ)) → CodePair → Bool
needs_rows list x = nat_lt 1 (length (get_or list x.i [])) || nat_lt 1 (length (get_or list x.j []))
