-- Runs of quotients and colons (UAG chapter 5, section 3)
use Rattle.std.specs.Prelude.{List, [], length, ℕ, map, ◌*◌, ◌+◌, ◌∷◌}
use Rattle.operation_laws.specs.Operations.{basis_vector, blocks, multiples_of, stacked}
use Rattle.term_lists.specs.Rings.{variables}
use Rattle.term_lists.specs.Vectors.{sum_of, sums_of}
use Rattle.term_lists.specs.declared.key.Key.{Key as CodeKey}
use Rattle.term_lists.specs.declared.ring.Ring.{Ring}
use Rattle.syzygy_engine.specs.Modulo.{AreModuloRuns}
use Rattle.syzygy_engine.specs.Runs.{IsRunFor, OfRuns}

-- the terms, each moved to this position
abbrev pub positioned_at : ℕ → List (CodeKey × ℕ) → List (CodeKey × ℕ)
positioned_at j terms = map (λ t. (record { position = j; monomial = t.0.monomial }, t.1)) terms

-- the runs of a quotient: f e_1 to f e_m with marks, and the members
abbrev pub AreQuotientRuns : Ring → ℕ → List (List (CodeKey × ℕ)) → List (CodeKey × ℕ) → OfRuns
AreQuotientRuns ring rank list f =
    AreModuloRuns ring rank (multiples_of rank (sum_of (variables ring) f)) (sums_of (variables ring) list)

-- ---- the colon
-- the terms, each moved by i positions
abbrev pub raised_terms : ℕ → List (CodeKey × ℕ) → List (CodeKey × ℕ)
raised_terms i terms = map (λ t. (record { position = i + t.0.position; monomial = t.0.monomial }, t.1)) terms

-- the runs of a colon: by no vectors, the one on the polynomial 1; else the vectors one below the other, with one
-- mark, and each member in each block
abbrev pub AreColonRuns : Ring → ℕ → (list by : List (List (CodeKey × ℕ))) → OfRuns
AreColonRuns ring rank list [] = IsRunFor ring 1 (basis_vector 0 ∷ [])
AreColonRuns ring rank list (c ∷ by) =
    let n = variables ring in
    let s = length (c ∷ by) in
    AreModuloRuns ring (rank * s) (stacked rank 0 (sums_of n (c ∷ by)) ∷ []) (blocks rank 0 s (sums_of n list))
