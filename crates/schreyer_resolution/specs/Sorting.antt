-- Vectors by the places of their leads
use Rattle.std.specs.Cmp.Lexicographic.{slice_cmp}
use Rattle.std.specs.Ordering.{nat_cmp, ordering_then}
use Rattle.std.specs.Prelude.{List, [], ℕ, ◌∷◌}
use Rattle.std.specs.declared.cmp.Ordering.{Ordering}
use Rattle.term_lists.specs.declared.key.Key.{Key as CodeKey}

-- the position and the exponents of the first key; 0 and none where there is none
abbrev pub lead_place : List (CodeKey × ℕ) → ℕ × List ℕ
lead_place [] = (0, [])
lead_place (t ∷ v) = (t.0.position, t.0.monomial.exponents)

-- the lower position first, and at one position the lex-greater monomial
abbrev pub by_place : List (CodeKey × ℕ) → List (CodeKey × ℕ) → Ordering
by_place v w = ordering_then (nat_cmp (lead_place v).0 (lead_place w).0) (slice_cmp nat_cmp (lead_place w).1 (lead_place v).1)
