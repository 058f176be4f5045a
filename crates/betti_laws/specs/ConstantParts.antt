-- The constants of vectors and of maps alone
use Rattle.std.specs.Prelude.{filter, map, ℕ}
use Rattle.monomials.specs.Exponents.{same_exponents, unit}
use Rattle.formal_sums.specs.FormalSums.{FormalSum}
use Rattle.minimal_laws.specs.Gradings.{GradedMap, GradedMaps}

-- the terms of v whose monomial is 1
abbrev pub constant_part : {n : ℕ} → FormalSum n → FormalSum n
constant_part {n} v = filter (λ t. same_exponents (unit n) t.0.1) v

-- the map with the constants of its columns alone
abbrev pub constant_map : {n : ℕ} → GradedMap n → GradedMap n
constant_map M = record { columns = map constant_part M.columns; degrees = M.degrees }

-- the positions, and the maps with the constants of their columns alone
abbrev pub constant_maps : {n : ℕ} → GradedMaps n → GradedMaps n
constant_maps C = record { positions = C.positions; maps = map constant_map C.maps }
