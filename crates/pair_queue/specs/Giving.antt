-- Pairs of a job that wait no more
use Rattle.std.specs.Prelude.{Bool, List, cond, false, ltb, ◌≡◌}
use Rattle.basis_steps.specs.Pairs.{Pair, count}

-- the flags of these pairs are gone, and all others are as they were
abbrev pub HasCleared : List Pair → (Pair → Bool) → (Pair → Bool) → Type 0
HasCleared job old new = (x : Pair) → new x ≡ cond (ltb 0 (count x job)) false (old x)
