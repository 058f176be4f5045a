-- Histories of events, each of one worker
use Rattle.std.specs.Prelude.{◌≡◌, ℕ, ◌==◌, cond, List, [], ◌∷◌, ◌++◌}

module _ {N : Type 0} where
  -- the events of one worker
  abbrev pub calls_by : (N → ℕ) → ℕ → List N → List N
  calls_by by worker [] = []
  calls_by by worker (e ∷ es) = cond (worker == by e) (e ∷ calls_by by worker es) (calls_by by worker es)

  -- the history begins with what was seen
  abbrev pub StartsWith : List N → List N → Type 0
  StartsWith log seen = (rest : List N) × (log ≡ seen ++ rest)
